-- Entries that stand in a file: their sizes, and each put with the new number of the template that it names. Assumes nothing.
use Prim.Native.Nat.{ℕ, suc, ◌+◌, ◌*◌, ◌-◌, ◌^◌, ◌≤◌, ◌<◌}
use Rattle.std.proofs.Common.{arith, ◌∙◌, lt-ltb, le-ltb, take, drop, length-drop}
use Rattle.std.proofs.lemmas.List.{length-take-le, get_or-take, get_or-drop}
use Rattle.std.specs.Prelude.{◌≡◌, Bool, true, false, cond, ltb}
use Rattle.std.proofs.Math.Path.{refl, sym, ap, subst}
use mathlib.Core.List.{List, [], ◌∷◌, ◌++◌, map, append-nil, append_assoc}
use Rattle.std.proofs.Math.ListN.{length, get_or, length-append}
use Rattle.fields.specs.Field.{field_at}
use Rattle.files.specs.Entries.{Entry, constant, global, template, tag_width}
use Rattle.files.specs.Linear.{bits_of, entry_bits, entries_bits}
use Rattle.files.specs.laws.AllGot.{field_got_lem}
use Rattle.files.specs.laws.EntriesLaws.{EntryOk, EntriesOk, width_none, width_narrow, width_wide}
use Rattle.readback.specs.Bits.{Stands}
use Rattle.readback.specs.laws.Bits.{AreBits, length_bits, stands_left, stands_right, field_stands}
use Rattle.readback.specs.Lists.{bits_from}
use Rattle.readback.specs.laws.Lists.{bits_are, append_are, stands_from}
use Rattle.bit_writer.specs.Put.{put_bits}
use Rattle.bit_writer.specs.laws.Wrote.{Wrote}
use Rattle.bit_writer.proofs.theorems.Laws.{wrote_on}
use Rattle.tree_file.proofs.theorems.Written.{constant_length}
use Rattle.trim.specs.Kept.{sift}
use Rattle.trim.specs.Trim.{renumber}
use Rattle.trim.specs.Standing.{EntryIn, EntriesIn, is_marked, PutMore, kept_entries}

-- ---- what is read of an entry
abbrev kind_of : Entry → ℕ
kind_of (constant t x) = 1
kind_of (global g) = 2
kind_of (template t) = 3

numbered_length : (k n : ℕ) → length (bits_of 2 k ++ bits_of 8 n) ≡ 10
numbered_length k n = length-append (bits_of 2 k) (bits_of 8 n) ∙ rw (length_bits 2 k, length_bits 8 n) refl

global_length : (n : ℕ) → length (entry_bits (global n)) ≡ 10
unfolding entry_bits
global_length n = numbered_length 2 n

template_length : (n : ℕ) → length (entry_bits (template n)) ≡ 10
unfolding entry_bits
template_length n = numbered_length 3 n

pub entry_five : (e : Entry) → 5 ≤ length (entry_bits e)
entry_five (constant t x) = omega (arith, constant_length t x)
entry_five (global g) = omega (arith, global_length g)
entry_five (template t) = omega (arith, template_length t)

module _ (s : List ℕ) (p : ℕ) where
  field_is : (q w v : ℕ) → v < 2 ^ w → Stands s q (bits_of w v) → field_at s q w ≡ v
  field_is q w v lt h = sym (field_got_lem s q w (field_stands s q w v lt h)).0

  kind_is : (e : Entry) → Stands s p (entry_bits e) → field_at s p 2 ≡ kind_of e
  unfolding entry_bits
  kind_is (constant t x) h = field_is p 2 1 (omega arith) (stands_left (bits_of 2 1) _ h)
  kind_is (global g) h = field_is p 2 2 (omega arith) (stands_left (bits_of 2 2) _ h)
  kind_is (template t) h = field_is p 2 3 (omega arith) (stands_left (bits_of 2 3) _ h)

  tag_is : (t x : ℕ) → t < 6 → Stands s p (entry_bits (constant t x)) → field_at s (p + 2) 3 ≡ t
  unfolding entry_bits
  tag_is t x lt h =
      let k : Stands s (p + 2) (bits_of 3 t ++ bits_of (tag_width t) x) =
      rw (length_bits 2 1) at (stands_right (bits_of 2 1) (bits_of 3 t ++ bits_of (tag_width t) x) h) in
      field_is (p + 2) 3 t (omega arith) (stands_left (bits_of 3 t) (bits_of (tag_width t) x) k)

  number_is : (t : ℕ) → t < 256 → Stands s p (entry_bits (template t)) → field_at s (p + 2) 8 ≡ t
  unfolding entry_bits
  number_is t lt h = field_is (p + 2) 8 t lt (rw (length_bits 2 3) at (stands_right (bits_of 2 3) (bits_of 8 t) h))

-- ---- sizes
module _ {s : List ℕ} {p size : ℕ} (w : EntryIn s p size) (k : ℕ) (read : k ≡ field_at s p 2) where
  pub entry_inside : (5 ≤ size) × (p + size ≤ 8 * length s)
  entry_inside =
      let h : p + length (entry_bits w.entry) ≤ 8 * length s = w.stands.fits in
      (omega (arith, entry_five w.entry, w.size_is), omega (arith, w.size_is))

  pub size_other : (k ≡ 1 → ⊥) → 10 ≡ size
  size_other n = sym (w.size_is ∙ go w.entry (read ∙ kind_is s p w.entry w.stands))
    where
      go : (e : Entry) → k ≡ kind_of e → length (entry_bits e) ≡ 10
      go (constant t x) h = absurd (n h)
      go (global g) h = global_length g
      go (template t) h = template_length t

  module _ (one : k ≡ 1) (tag q : ℕ) (at : q ≡ p + 2) (second : tag ≡ field_at s q 3) where
    size_tag : (n : ℕ) → (tag < 6 → tag_width tag ≡ n) → 5 + n ≡ size
    size_tag n h = sym (w.size_is ∙ go w.entry w.ok w.stands (sym one ∙ read ∙ kind_is s p w.entry w.stands))
      where
        go : (e : Entry) → EntryOk w.own w.total e → Stands s p (entry_bits e) → 1 ≡ kind_of e → length (entry_bits e) ≡ 5 + n
        go (constant t x) ok st z =
            let e : tag ≡ t = second ∙ ap (λ (y : ℕ). field_at s y 3) at ∙ tag_is s p t x ok.0 st in
            constant_length t x ∙ ap (λ (y : ℕ). 5 + y) (ap tag_width (sym e) ∙ h (rw e ok.0))
        go (global g) ok st z = absurd (omega arith)
        go (template t) ok st z = absurd (omega arith)

    pub size_narrow : tag ≡ 4 → 37 ≡ size
    size_narrow e = size_tag 32 (λ l. width_narrow tag e)

    pub size_wide : tag ≡ 5 → 53 ≡ size
    size_wide e = size_tag 48 (λ l. width_wide tag e)

    pub size_plain : (tag ≡ 4 → ⊥) → (tag ≡ 5 → ⊥) → 5 ≡ size
    size_plain a b = size_tag 0 (λ l. width_none tag a b)

  -- ---- a template's number, or none
  pub record Named : Type 0 where
    pub number : ℕ
    pub is : w.entry ≡ template number
    pub ten : size ≡ 10
    pub few : number < 64
    pub read_is : number ≡ field_at s (p + 2) 8

  pub entry_template : k ≡ 3 → Named
  entry_template three = go w.entry refl w.ok w.stands (sym three ∙ read ∙ kind_is s p w.entry w.stands)
    where
      go : (e : Entry) → w.entry ≡ e → EntryOk w.own w.total e → Stands s p (entry_bits e) → 3 ≡ kind_of e → Named
      go (constant t x) q ok st z = absurd (omega arith)
      go (global g) q ok st z = absurd (omega arith)
      go (template t) q ok st z =
          record {
            number = t;
            is = q;
            ten = w.size_is ∙ ap (λ (e : Entry). length (entry_bits e)) q ∙ template_length t;
            few = omega arith;
            read_is = sym (number_is s p t (omega arith) st);
          }

  pub entry_other : (f : ℕ → ℕ) → (k ≡ 3 → ⊥) → bits_from s p size ≡ entry_bits (renumber f w.entry)
  unfolding renumber
  entry_other f n = ap (bits_from s p) w.size_is ∙ stands_from (entry_bits w.entry) w.stands ∙ go w.entry (read ∙ kind_is s p w.entry w.stands)
    where
      go : (e : Entry) → k ≡ kind_of e → entry_bits e ≡ entry_bits (renumber f e)
      go (constant t x) h = refl
      go (global g) h = refl
      go (template t) h = absurd (n h)

  -- the entry with the new number, as it is put
  pub template_put : (f : ℕ → ℕ) (three : k ≡ 3) (o o' : List ℕ) (at n u : ℕ) → u ≡ field_at s (p + 2) 8 → n ≡ f u → o' ≡ put_bits o at (bits_of 2 3 ++ bits_of 8 n)
      → o' ≡ put_bits o at (entry_bits (renumber f w.entry))
  unfolding renumber entry_bits
  template_put f three o o' at n u e g h =
      let t = entry_template three in
      let z : n ≡ f t.number = g ∙ ap f (e ∙ sym t.read_is) in
      h ∙ ap (λ (y : ℕ). put_bits o at (bits_of 2 3 ++ bits_of 8 y)) z ∙ ap (λ (x : Entry). put_bits o at (entry_bits (renumber f x))) (sym t.is)

pub renumber_length : (f : ℕ → ℕ) (e : Entry) → length (entry_bits (renumber f e)) ≡ length (entry_bits e)
unfolding renumber
renumber_length f (constant t x) = refl
renumber_length f (global g) = refl
renumber_length f (template t) = template_length (f t) ∙ sym (template_length t)

entry_are : (e : Entry) → AreBits (entry_bits e)
unfolding entry_bits
entry_are (constant t x) = append_are (bits_are 2 1) (append_are (bits_are 3 t) (bits_are (tag_width t) x))
entry_are (global g) = append_are (bits_are 2 2) (bits_are 8 g)
entry_are (template t) = append_are (bits_are 2 3) (bits_are 8 t)

-- ---- put one after the other
pub more_then : {o₁ o₂ o₃ : List ℕ} {p₁ p₂ p₃ : ℕ} (a b : List ℕ) → PutMore o₁ p₁ o₂ p₂ a → PutMore o₂ p₂ o₃ p₃ b → PutMore o₁ p₁ o₃ p₃ (a ++ b)
more_then {o₃ = o₃} {p₃ = p₃} a b f g o₀ x l w = subst (λ (y : List ℕ). Wrote o₀ o₃ y p₃) (append_assoc x a b) (g o₀ (x ++ a) l (f o₀ x l w))

pub more_none : {o : List ℕ} {p : ℕ} → PutMore o p o p []
more_none {o} {p} o₀ x l w = subst (λ (y : List ℕ). Wrote o₀ o y p) (sym (append-nil x)) w

pub more_put : {o o' : List ℕ} {p q : ℕ} (b : List ℕ) → AreBits b → p ≤ 524288 → o' ≡ put_bits o p b → q ≡ p + length b → PutMore o p o' q b
more_put {o} {o'} {p} {q} b are fits e f o₀ x l w = wrote_on w o' b q are (omega arith) e f

-- ---- an entry, if it is marked
module _ (f : ℕ → ℕ) (o : List ℕ) (p mark : ℕ) (e : Entry) where
  pub marked_gone : mark < 1 → PutMore o p o p (cond (ltb 0 mark) (entry_bits (renumber f e)) [])
  marked_gone h = rw (le-ltb 0 mark (omega arith)) more_none

  pub marked_put : (o' : List ℕ) (size q : ℕ) → 1 ≤ mark → p + size ≤ 524288 → size ≡ length (entry_bits e)
      → o' ≡ put_bits o p (entry_bits (renumber f e)) → q ≡ p + size
      → PutMore o p o' q (cond (ltb 0 mark) (entry_bits (renumber f e)) [])
  marked_put o' size q h room s g r =
      rw (lt-ltb 0 mark (omega arith)) (more_put (entry_bits (renumber f e)) (entry_are (renumber f e)) (omega arith) g (rw (renumber_length f e, ← s) r))

-- the marks of so many entries, from the first on, lent alone
module _ (row : List ℕ) (count i : ℕ) (long : length row ≡ 256) (few : count ≤ 255) where
  marks_length : length (take (count + 1 - 1) (drop 1 row)) ≡ count
  marks_length =
      let e : count + 1 - 1 ≡ count = omega arith in
      rw e (length-take-le count (drop 1 row) (omega (arith, length-drop 1 row)))

  module _ (h : i < length (take (count + 1 - 1) (drop 1 row))) where
    pub marks_more : i + 1 ≤ count
    marks_more = omega (arith, marks_length)

    pub marks_mark : get_or (take (count + 1 - 1) (drop 1 row)) i 0 ≡ get_or row (i + 1) 0
    marks_mark =
        let e : 1 + i ≡ i + 1 = omega arith in
        get_or-take (count + 1 - 1) (drop 1 row) i 0 (omega (arith, marks_length)) ∙ get_or-drop 1 row i 0 ∙ ap (λ (n : ℕ). get_or row n 0) e

  pub marks_end : length (take (count + 1 - 1) (drop 1 row)) ≤ i → count < i + 1
  marks_end h = omega (arith, marks_length)

-- ---- the entries that a row keeps, up to entry n
pub record Entering (s numbers row : List ℕ) (es : List Entry) (o₀ : List ℕ) (at n here : ℕ) (o : List ℕ) (there : ℕ) : Type 0 where
  pub own : ℕ
  pub total : ℕ
  pub rest : List Entry
  pub index : ℕ
  pub n_is : n ≡ suc index
  pub count : index + length rest ≡ length es
  pub ok : EntriesOk own total rest
  pub stands : Stands s here (entries_bits rest)
  pub room : there + length (entries_bits rest) ≤ at + length (entries_bits es)
  pub bits : List ℕ
  pub put : PutMore o₀ at o there bits
  pub same : bits ++ entries_bits (map (renumber (λ u. get_or numbers u 0 - 1)) (sift (λ j. is_marked row (suc j)) index rest))
      ≡ entries_bits (kept_entries numbers row es)

pub entering_none : (s numbers row o : List ℕ) {here count at : ℕ} (w : EntriesIn s here count at) → Entering s numbers row w.entries o at 1 here o at
unfolding kept_entries
entering_none s numbers row o w =
    record {
      own = w.own;
      total = w.total;
      rest = w.entries;
      index = 0;
      n_is = refl;
      count = omega arith;
      ok = w.ok;
      stands = w.stands;
      room = omega arith;
      bits = [];
      put = more_none;
      same = refl;
    }

module _ {s numbers row : List ℕ} {es : List Entry} {o₀ : List ℕ} {at n here : ℕ} {o : List ℕ} {there : ℕ}
    (r : Entering s numbers row es o₀ at n here o there) where
  module _ (more : n ≤ length es) where
    pub record Head : Type 0 where
      pub head : Entry
      pub tail : List Entry
      pub is : r.rest ≡ head ∷ tail

    first : (rest : List Entry) → r.index + length rest ≡ length es → r.rest ≡ rest → Head
    first [] c e = absurd (omega (arith, r.n_is))
    first (x ∷ xs) c e = record { head = x; tail = xs; is = e }

    pub the : Head
    the = first r.rest r.count refl

    oks : EntryOk r.own r.total the.head × EntriesOk r.own r.total the.tail
    oks = subst (λ (l : List Entry). EntriesOk r.own r.total l) the.is r.ok

    both : Stands s here (entry_bits the.head ++ entries_bits the.tail)
    unfolding entries_bits
    both = rw the.is at r.stands

    lengths : length (entries_bits r.rest) ≡ length (entry_bits the.head) + length (entries_bits the.tail)
    unfolding entries_bits
    lengths = ap (λ (l : List Entry). length (entries_bits l)) the.is ∙ length-append (entry_bits the.head) (entries_bits the.tail)

    pub entering_first : EntryIn s here (length (entry_bits the.head))
    entering_first =
        record {
          own = r.own;
          total = r.total;
          entry = the.head;
          ok = oks.0;
          stands = stands_left (entry_bits the.head) (entries_bits the.tail) both;
          size_is = refl;
        }

    pub entering_size : (size : ℕ) → size ≡ length (entry_bits the.head) → EntryIn s here size
    entering_size size e =
        record {
          own = r.own;
          total = r.total;
          entry = the.head;
          ok = oks.0;
          stands = stands_left (entry_bits the.head) (entries_bits the.tail) both;
          size_is = e;
        }

    pub entering_room : (size : ℕ) → size ≡ length (entry_bits the.head) → there + size ≤ at + length (entries_bits es)
    entering_room size e = omega (arith, lengths, r.room)

    pub entering_on : (size : ℕ) (e : size ≡ length (entry_bits the.head)) (o' : List ℕ) (there' : ℕ) → there' ≤ there + size
        → PutMore o there o' there'
        (cond (ltb 0 (get_or row n 0)) (entry_bits (renumber (λ u. get_or numbers u 0 - 1) (entering_size size e).entry)) [])
        → Entering s numbers row es o₀ at (n + 1) (here + size) o' there'
    unfolding entries_bits sift is_marked entering_size
    entering_on size e o' there' le put =
        record {
          own = r.own;
          total = r.total;
          rest = the.tail;
          index = suc r.index;
          n_is = omega (arith, r.n_is);
          count = let z : length r.rest ≡ suc (length the.tail) = ap length the.is in omega (arith, r.count);
          ok = oks.1;
          stands = rw (← e) at (stands_right (entry_bits the.head) (entries_bits the.tail) both);
          room = omega (arith, lengths, r.room);
          bits = r.bits ++ now;
          put = more_then r.bits now r.put put;
          same = append_assoc r.bits now (rest_bits (suc r.index) the.tail) ∙ ap (λ (l : List ℕ). r.bits ++ l) step ∙ r.same;
        }
      where
        f : ℕ → ℕ
        f u = get_or numbers u 0 - 1

        k : ℕ → Bool
        k j = ltb 0 (get_or row (suc j) 0)

        now : List ℕ
        now = cond (ltb 0 (get_or row n 0)) (entry_bits (renumber (λ u. get_or numbers u 0 - 1) the.head)) []

        rest_bits : ℕ → List Entry → List ℕ
        rest_bits i l = entries_bits (map (renumber (λ u. get_or numbers u 0 - 1)) (sift (λ j. ltb 0 (get_or row (suc j) 0)) i l))

        pick : (b : Bool) → cond b (entry_bits (renumber (λ u. get_or numbers u 0 - 1) the.head)) [] ++ rest_bits (suc r.index) the.tail
            ≡ entries_bits (map (renumber (λ u. get_or numbers u 0 - 1))
            (cond b (the.head ∷ sift (λ j. ltb 0 (get_or row (suc j) 0)) (suc r.index) the.tail)
            (sift (λ j. ltb 0 (get_or row (suc j) 0)) (suc r.index) the.tail)))
        pick true = refl
        pick false = refl

        step : now ++ rest_bits (suc r.index) the.tail ≡ rest_bits r.index r.rest
        step =
            ap (λ (m : ℕ). cond (ltb 0 (get_or row m 0)) (entry_bits (renumber (λ u. get_or numbers u 0 - 1) the.head)) [] ++ rest_bits (suc r.index)
            the.tail) r.n_is
            ∙ pick (ltb 0 (get_or row (suc r.index) 0))
            ∙ ap (rest_bits r.index) (sym the.is)

  pub entering_all : length es < n → (there ≤ at + length (entries_bits es)) × PutMore o₀ at o there (entries_bits (kept_entries numbers row es))
  unfolding sift entries_bits
  entering_all h = (
    omega (arith, r.room),
    subst (λ (b : List ℕ). PutMore o₀ at o there b) (sym (append-nil r.bits) ∙ none r.rest r.count ∙ r.same) r.put,
  )
    where
      none : (rest : List Entry) → r.index + length rest ≡ length es
          → r.bits ++ [] ≡ r.bits ++ entries_bits (map (renumber (λ u. get_or numbers u 0 - 1)) (sift (λ j. is_marked row (suc j)) r.index rest))
      none [] c = refl
      none (x ∷ xs) c = absurd (omega (arith, r.n_is))
