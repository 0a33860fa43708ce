-- Templates put one after the other: what was read of each, its row of the table, and what the answers mean. Assumes nothing.
use Prim.Native.Nat.{ℕ, zero, suc, ◌+◌, ◌*◌, ◌-◌, ◌/◌, ◌≤◌, ◌<◌}
use native.Mathlib.Omega.{arith}
use Rattle.std.proofs.Math.Path.{◌≡◌, refl, sym, ap}
use Rattle.std.proofs.Common.{◌∙◌, subst, length-take-le}
use Rattle.std.specs.Prelude.{Bool, ◌&&◌, get_or, replicate, leb, eqb}
use Rattle.std.proofs.Math.Bool.{true, and-eq-true_iff}
use mathlib.Core.List.{List, [], ◌∷◌, ◌++◌, map, append_assoc, append-nil}
use Rattle.std.proofs.Math.Option.{Option, none, some}
use Rattle.std.proofs.lemmas.Option.{some_pair_parts}
use Rattle.std.specs.Prelude.{Option as OrNone, None, Some, Result, Ok, Err}
use Rattle.std.specs.Result.{result_ok}
use Rattle.std.specs.Option.{ok_or}
use borrow.Author.Tests.{le-leb, lt-leb, leb-true, eqb-true}
use Rattle.std.proofs.Math.ListN.{length, take, drop, length-append}
use Rattle.std.proofs.lemmas.List.{length-map}
use Rattle.std.proofs.lemmas.List.Edits.{sets, sets-eq}
use Rattle.std.proofs.Math.Seq.{get_or-append-add, get_or-drop, take-nil, take-append_seam}
use Rattle.cells.specs.declared.BitPlace.{BitPlace}
use Rattle.cells.specs.laws.Laws.{clash}
use Rattle.fields.specs.Field.{field_at, field_read}
use Rattle.fields.specs.laws.Laws.{field_small}
use Rattle.files.specs.Code.{Code}
use Rattle.files.specs.Reading.{Got, got, refused}
use Rattle.files.specs.Entries.{Entry, then, field, field_got, entries_at, to_byte, zero_bits, nothing_more}
use Rattle.files.specs.laws.EntriesLaws.{EntriesOk, entries_read}
use Rattle.files.specs.EntriesRead.{past_told, slots_at}
use Rattle.files.specs.laws.EntriesRead.{slots_all}
use Rattle.files.specs.Table.{slot_of, row_of}
use Rattle.files.specs.laws.TableLaws.{row_entry}
use Rattle.files.specs.Grammar.{each_neutral, indices_fit}
use Rattle.files.specs.Tree.{Template}
use Rattle.files.specs.Linear.{Linear, bits_of, entries_bits, code_at, linear_template_at, linear_templates_at, linear_read}
use Rattle.files.specs.Valid.{Bytes}
use Rattle.files.specs.laws.BytesLaws.{bytes_take, bytes_drop}
use Rattle.files.specs.laws.AllGot.{then_led, field_got_lem, got_value, linears_read}
use Rattle.readback.specs.laws.Bits.{AreBits, length_bits}
use Rattle.readback.specs.laws.Led.{cond_led, valid_led, zeros_led}
use Rattle.readback.specs.Lists.{bits_from}
use Rattle.readback.specs.laws.Lists.{bits_are, from_append, from_are, from_length, field_bits}
use Rattle.readback.specs.laws.Standing.{entries_stand, entries_copied_lem}
use Rattle.bit_writer.specs.Put.{put_bits}
use Rattle.bit_writer.proofs.theorems.Laws.{put_next, put_length}
use Rattle.tree_file.specs.File.{list_bits, template_bits, templates_bits, file_bits, tree_file}
use Rattle.tree_file.proofs.theorems.Written.{file_length, put_tree}
use Rattle.tree_file.specs.laws.Lengths.{template_length, template_are}
use Rattle.linear.specs.Filled.{checked_told}
use Rattle.lists.specs.Facts.{slot_named, slots_fit}
use Rattle.lists.specs.laws.SlotLaws.{Row, slots_named}
use Rattle.back.specs.Unflat.{on, test}
use Rattle.back.specs.laws.ListBack.{back, list_back}
use Rattle.back.proofs.theorems.Lists.{flat_back}
use Rattle.unflatten.specs.Found.{part, kept, found}
use Rattle.unflatten.specs.ToPut.{Puts}
use Rattle.unflatten.specs.laws.PutLaws.{puts_none, puts_some}
use Rattle.unflatten.specs.Back.{or_stuck, template_of, templates_back, given, backed}
use Rattle.files.specs.Outcome.{answered, written}
use Rattle.unflatten.specs.ToGrow.{CodeIn, Grows, no_list, list_grown, TemplateIn, TemplateGrows, no_template_lem, template_grown}
use Rattle.unflatten.specs.ToGrow.{TemplatesIn, TemplatesGrow, stuck_at, templates_grown, Growing, FileIn}
use Rattle.files.specs.declared.Refusal.{Refusal}
use Rattle.files.specs.Refusal.{refusal}

-- ---- what readers tell of what is read
module _ (s : List ℕ) (p w : ℕ) {n z : ℕ} (read : field s p w ≡ got n z) {f : OrNone (ℕ × BitPlace)} (told : f ≡ field_read s p w) where
  pub told_cut : f ≡ None → ⊥
  unfolding field field_got
  told_cut e = let i : field_got p None ≡ got n z = ap (field_got p) (sym e ∙ told) ∙ read in clash (cc)

  pub told_read : {v : ℕ} {q : BitPlace} → f ≡ Some (v, q) → v ≡ n
  unfolding field field_got
  told_read {v} {q} e = let i : field_got p (Some (v, q)) ≡ got n z = ap (field_got p) (sym e ∙ told) ∙ read in (got_value i).0

module _ {g : Got (List Entry)} {es : List Entry} {z : ℕ} (read : g ≡ got es z) {f : Result BitPlace (Refusal BitPlace)} (told : f ≡ past_told g) where
  pub entries_refused : result_ok f ≡ None → ⊥
  unfolding past_told
  entries_refused e =
      let i : result_ok (past_told (got es z)) ≡ None =
      ap (λ (x : Got (List Entry)). result_ok (past_told x)) (sym read) ∙ ap result_ok (sym told) ∙ e in
      clash (cc)

  pub entries_told_lem : {q : BitPlace} → result_ok f ≡ Some q → q.0 ≡ z
  unfolding past_told
  entries_told_lem {q} e =
      let i : result_ok (past_told (got es z)) ≡ Some q =
      ap (λ (x : Got (List Entry)). result_ok (past_told x)) (sym read) ∙ ap result_ok (sym told) ∙ e in
      let k : ◌≡◌ {A = BitPlace} (record { 0 = z }) q = cc in
      sym (ap (λ (x : BitPlace). x.0) k)

-- ---- what is refused because nothing is there
pub refused_where : {A E : Type 0} (r : OrNone A) {m : Result A E} {e f : E} → m ≡ ok_or r e → m ≡ Err f → (r ≡ None) × (f ≡ e)
refused_where None {m} {e} {f} h i = let z : Err f ≡ ok_or None e = sym i ∙ h in (refl, cc)
refused_where (Some x) {m} {e} {f} h i = let z : Err f ≡ ok_or (Some x) e = sym i ∙ h in clash (cc)

-- ---- the code
module _ (ok : ℕ → ℕ → Bool) (s : List ℕ) (size n m : ℕ) (o : List ℕ) (a : ℕ) (same : m ≡ n) where
  abbrev Putting : OrNone BitPlace → List ℕ → Type 0
  Putting r o' = Puts (size + 3 + m - (size + 3)) o a (found ok 15 true (part (size + 3) (size + 3 + m) s)) r o'

  pub grows_none : {r : OrNone BitPlace} {o' : List ℕ} → Putting r o' → r ≡ None → Grows ok s size n o a None o'
  grows_none p e = no_list (rw (← same) (puts_none p e))

  pub grows_on : {r : OrNone BitPlace} {o' : List ℕ} {q : BitPlace} → Putting r o' → r ≡ Some q → Grows ok s size n o a (Some (size + 3 + m, q)) o'
  grows_on {o' = o'} {q = q} p e =
      let w = puts_some p e in
      rw same (list_grown w.code {a' = q.0} (rw (← same) w.is) (omega (arith, w.small)) w.past w.out)

-- ---- what was read of template own of T at byte k
pub record Parts (s : List ℕ) (own T k : ℕ) (l : Linear) (q : ℕ) : Type 0 where
  -- where the entries end, and the code's length
  pub end : ℕ
  pub long : ℕ
  pub entries_at_lem : entries_at s own T (field_at s (8 * k) 8) (8 * k + 8) ≡ got l.entries end
  pub size_at : field s (8 * ((end + 7) / 8)) 24 ≡ got long (8 * ((end + 7) / 8) + 24)
  pub code_is : l.code ≡ part ((end + 7) / 8 + 3) ((end + 7) / 8 + 3 + long) s
  pub inside : (end + 7) / 8 + 3 + long ≤ length s
  pub past_is : q ≡ 8 * ((end + 7) / 8 + 3 + long)
  pub copied : bits_from s (8 * k) (end - 8 * k) ≡ bits_of 8 (length l.entries) ++ entries_bits l.entries
  pub end_is : end ≡ 8 * k + 8 + length (entries_bits l.entries)
  pub entries_ok : EntriesOk own T l.entries
  pub few : length l.entries < 256

take_part : (s : List ℕ) (j m : ℕ) → take m (drop j s) ≡ part j (j + m) s
unfolding part
take_part s j m = go m j s
  where
    go : (n p : ℕ) (m : List ℕ) → take n (drop p m) ≡ drop p (take (p + n) m)
    go n zero m = let e : 0 + n ≡ n = omega arith in rw e refl
    go n (suc p) [] = rw (take-nil, take-nil) refl
    go n (suc p) (x ∷ m) = let e : suc p + n ≡ suc (p + n) = omega arith in rw e (go n p m)

pub template_parts : (s : List ℕ) (own T k : ℕ) (l : Linear) (q : ℕ) → T ≤ 64 → linear_template_at s own T (8 * k) ≡ got l q → Parts s own T k l q
unfolding linear_template_at code_at
template_parts s own T k l q few e =
    then_led (field s (8 * k) 8) _ e
    (λ n q₁ first on₁.
    let f₁ = field_got_lem s (8 * k) 8 first in
    then_led (entries_at s own T n q₁) _ on₁
    (λ es q₂ second on₂.
    then_led (zero_bits s (to_byte q₂) q₂ es) _ on₂
    (λ fs q₃ third on₃.
    let z = zeros_led s (to_byte q₂) q₂ es third in
    then_led (field s q₃ 24) _ on₃
    (λ m q₄ fourth on₄.
    let f₄ = field_got_lem s q₃ 24 fourth in
    let c = cond_led (leb (q₄ + 8 * m) (8 * length s)) _ 2 (8 * length s) on₄ in
    let v = got_value c.1 in
    let ents : fs ≡ l.entries = ap (λ (x : Linear). x.entries) v.0 in
    let code : take m (drop (q₄ / 8) s) ≡ l.code = ap (λ (x : Linear). x.code) v.0 in
    let here : es ≡ l.entries = z.same ∙ ents in
    let at₂ : entries_at s own T n (8 * k + 8) ≡ got l.entries q₂ = rw (← f₁.1, ← here) second in
    let t = entries_stand s own T n (8 * k + 8) (omega arith) at₂ in
    let good = entries_read s own T few n (8 * k + 8) at₂ in
    let u : q₃ ≡ 8 * ((q₂ + 7) / 8) = omega (arith, z.past) in
    let w : q₄ / 8 ≡ (q₂ + 7) / 8 + 3 = omega (arith, f₄.1) in
    let d : q₂ - 8 * k ≡ 8 + (q₂ - (8 * k + 8)) = omega (arith, t.past) in
    let small : n < 256 = rw f₁.0 (field_small s (8 * k) 8) in
    let fit : q₄ + 8 * m ≤ 8 * length s = leb-true (q₄ + 8 * m) (8 * length s) c.0 in
    record {
      end = q₂;
      long = m;
      entries_at_lem = rw (← f₁.0) at₂;
      size_at = rw (← u) (fourth ∙ ap (got m) f₄.1);
      code_is = sym code ∙ rw w (take_part s ((q₂ + 7) / 8 + 3) m);
      inside = omega (arith, f₄.1);
      past_is = omega (arith, v.1, f₄.1);
      copied = ap (bits_from s (8 * k)) d ∙ from_append s (8 * k) 8 (q₂ - (8 * k + 8))
          ∙ rw (entries_copied_lem s own T n (8 * k + 8) (omega arith) at₂, ← field_bits s 8 (8 * k), ← f₁.0, t.count) refl;
      end_is = t.past;
      entries_ok = good.ok;
      few = omega (arith, t.count);
    }))))

-- ---- the row of a template, where it and what follows it were zero
same_slots : (vs ds zs : List ℕ) → ((j : ℕ) → get_or ds j 0 ≡ 0) → ((j : ℕ) → get_or zs j 0 ≡ 0) → (j : ℕ) → get_or (vs ++ ds) j 0 ≡ get_or (vs ++ zs) j 0
same_slots [] ds zs h i j = h j ∙ sym (i j)
same_slots (v ∷ vs) ds zs h i zero = refl
same_slots (v ∷ vs) ds zs h i (suc j) = same_slots vs ds zs h i j

pub zeros_at : (n j : ℕ) → ◌≡◌ {A = ℕ} (get_or (replicate n 0) j 0) 0
zeros_at zero j = refl
zeros_at (suc n) zero = refl
zeros_at (suc n) (suc j) = zeros_at n j

module _ (table : List ℕ) (own : ℕ) (es : List Entry) (long : length table ≡ 16384) (low : own < 64) (few : length es < 256)
    (zeros : (i : ℕ) → 256 * own ≤ i → get_or table i 0 ≡ 0) where
  abbrev vs : List ℕ
  vs = map slot_of es

  fits : 256 * own + 1 + length vs ≤ length table
  fits = omega (arith, length-map es slot_of)

  pub row_put : Row (sets table (256 * own + 1) vs) own es
  unfolding row_of
  row_put zero h i = absurd (omega arith)
  row_put (suc n) h i =
      let e : 256 * own + suc n ≡ length (take (256 * own + 1) table) + n = rw (length-take-le (256 * own + 1) table (omega arith)) (omega arith) in
      rw (sets-eq vs table (256 * own + 1) fits, append_assoc (take (256 * own + 1) table) vs (drop (256 * own + 1 + length vs) table), e) (
      get_or-append-add (take (256 * own + 1) table) (vs ++ drop (256 * own + 1 + length vs) table) n 0
      ∙ same_slots vs (drop (256 * own + 1 + length vs) table) (replicate (256 - length (0 ∷ vs)) 0)
      (λ j. get_or-drop (256 * own + 1 + length vs) table j 0 ∙ zeros (256 * own + 1 + length vs + j) (omega arith)) (zeros_at (256 - length (0 ∷ vs))) n
      ∙ row_entry 0 es (suc n) (λ z. absurd (omega arith))
      )

  -- what follows stays zero
  pub zeros_after : (i : ℕ) → 256 * (own + 1) ≤ i → get_or (sets table (256 * own + 1) vs) i 0 ≡ 0
  zeros_after i h =
      let d : ℕ = i - (256 * own + 1) in
      let m : ℕ = d - length vs in
      let e : i ≡ length (take (256 * own + 1) table) + (length vs + m) = rw (length-take-le (256 * own + 1) table (omega arith))
      (omega (arith, length-map es slot_of)) in
      rw (sets-eq vs table (256 * own + 1) fits, append_assoc (take (256 * own + 1) table) vs (drop (256 * own + 1 + length vs) table), e) (
      get_or-append-add (take (256 * own + 1) table) (vs ++ drop (256 * own + 1 + length vs) table) (length vs + m) 0
      ∙ get_or-append-add vs (drop (256 * own + 1 + length vs) table) m 0
      ∙ get_or-drop (256 * own + 1 + length vs) table m 0 ∙ zeros (256 * own + 1 + length vs + m) (omega arith)
      )

-- what is found by the table is what is found by the entries
pub found_by_entries : (table : List ℕ) (own T : ℕ) (es : List Entry) (w : List ℕ) → Bytes w → Row table own es → EntriesOk own T es
    → found (slot_named table own) 15 true w ≡ list_back es w
unfolding found list_back kept each_neutral slots_fit
found_by_entries table own T es w b row fit = go (back 15 true w) refl
  where
    go : (o : Option Code) → back 15 true w ≡ o
        → on o (λ c. test (slots_fit table own c) (some c)) ≡ on o (λ c. test (indices_fit es c) (some c))
    go none e = unfold on in refl
    go (some c) e = unfold on in ap (λ (x : Bool). test x (some c)) (slots_named table own T es row fit c (flat_back 15 true w c b e).1.valid)

-- ---- a template
pub part_bytes : (s : List ℕ) (p e : ℕ) → Bytes s → Bytes (part p e s)
unfolding part
part_bytes s p e b = bytes_drop p (take e s) (bytes_take e s b)

module _ (s table o : List ℕ) (own T k a : ℕ) (long : length table ≡ 16384) (low : own < 64) (few : T ≤ 64) (w : TemplateIn s table o own T k a) where
  abbrev pub parts : Parts s own T k w.linear w.past
  parts = template_parts s own T k w.linear w.past few w.read

  pub slots_are : slots_at s own T (field_at s (8 * k) 8) (8 * k + 8) ≡ map slot_of w.linear.entries
  slots_are = slots_all s own T (field_at s (8 * k) 8) (8 * k + 8) parts.entries_at_lem

  module _ (table' : List ℕ) (filled : table' ≡ sets table (256 * own + 1) (slots_at s own T (field_at s (8 * k) 8) (8 * k + 8))) where
    filled_is : table' ≡ sets table (256 * own + 1) (map slot_of w.linear.entries)
    filled_is = filled ∙ ap (sets table (256 * own + 1)) slots_are

    pub next_zeros : (i : ℕ) → 256 * (own + 1) ≤ i → get_or table' i 0 ≡ 0
    next_zeros i h = rw filled_is (zeros_after table own w.linear.entries long low parts.few w.zeros i h)

    the_list : found (slot_named table' own) 15 true (part ((parts.end + 7) / 8 + 3) ((parts.end + 7) / 8 + 3 + parts.long) s)
        ≡ list_back w.linear.entries w.linear.code
    the_list =
        let row : Row table' own w.linear.entries =
        subst (λ (t : List ℕ). Row t own w.linear.entries) (sym filled_is) (row_put table own w.linear.entries long low parts.few w.zeros) in
        found_by_entries table' own T w.linear.entries _ (part_bytes s _ _ w.bytes) row parts.entries_ok
        ∙ ap (list_back w.linear.entries) (sym parts.code_is)

    template_grows : {o₁ o₂ : List ℕ} {q₁ : BitPlace} {r : OrNone (ℕ × BitPlace)} → o₁ ≡ put_bits o a (bits_from s (8 * k) (parts.end - 8 * k))
        → q₁.0 ≡ a + (parts.end - 8 * k)
        → Grows (slot_named table' own) s ((parts.end + 7) / 8) parts.long o₁ q₁.0 r o₂ → TemplateGrows w.linear k w.past o a r o₂
    unfolding template_bits
    template_grows e f (no_list h) = no_template_lem (sym the_list ∙ h)
    template_grows {o₁} {o₂} {q₁} e f (list_grown c {a' = a'} h small at out) =
        let n : ℕ = parts.end - 8 * k in
        let es : List Entry = w.linear.entries in
        let l : length (bits_from s (8 * k) n) ≡ n = from_length s (8 * k) n in
        let t = template_length (template_of w.linear c) in
        template_grown c {b = (parts.end + 7) / 8 + 3 + parts.long} {a' = a'} (sym the_list ∙ h) parts.past_is
        (omega (arith, t, parts.end_is, parts.past_is)) (omega (arith, t, parts.end_is))
        (put_next o o₁ o₂ a q₁.0 (bits_from s (8 * k) n) (list_bits c) (from_are s (8 * k) n) (omega (arith, w.room, parts.past_is, parts.end_is)) e
        (f ∙ omega arith) out
        ∙ ap (put_bits o a) (ap (λ (u : List ℕ). u ++ list_bits c) parts.copied ∙ append_assoc (bits_of 8 (length es)) (entries_bits es) (list_bits c)))

  -- by what the readers told: n is E and q where the entries begin, f what was told of them
  module _ {n q : ℕ} {f : Result BitPlace (Refusal BitPlace)} (count : n ≡ field_at s (8 * k) 8) (at : q ≡ 8 * k + 8)
      (told : f ≡ past_told (entries_at s own T n q)) where
    told_here : f ≡ past_told (entries_at s own T (field_at s (8 * k) 8) (8 * k + 8))
    told_here = told ∙ rw (count, at) refl

    pub not_refused : result_ok f ≡ None → ⊥
    not_refused e = entries_refused parts.entries_at_lem told_here e

    module _ {z : BitPlace} (read : result_ok f ≡ Some z) where
      pub ends_at : z.0 ≡ parts.end
      ends_at = entries_told_lem parts.entries_at_lem told_here read

      pub code_in : {o₁ : List ℕ} (size a₁ : ℕ) → size ≡ (z.0 + 7) / 8 → length o₁ ≡ length o → a₁ ≡ a + (z.0 - 8 * k) → CodeIn s o₁ size a₁
      code_in size a₁ e l i =
          let x : size ≡ (parts.end + 7) / 8 = e ∙ rw ends_at refl in
          record {
            long = parts.long;
            past = 8 * ((parts.end + 7) / 8) + 24;
            read = rw x parts.size_at;
            inside = omega (arith, parts.inside);
            room = omega (arith, ends_at, parts.past_is, w.room, parts.end_is);
          }

      pub template_put : {table' o₁ o₂ : List ℕ} {q₁ : BitPlace} {m size : ℕ} {r : OrNone (ℕ × BitPlace)}
          → table' ≡ sets table (256 * own + 1) (slots_at s own T n q) → m ≡ z.0 - 8 * k
          → o₁ ≡ put_bits o a (bits_from s (8 * k) m) → q₁.0 ≡ a + m → size ≡ (z.0 + 7) / 8
          → ((n q : ℕ) → field s (8 * size) 24 ≡ got n q → Grows (slot_named table' own) s size n o₁ q₁.0 r o₂)
          → TemplateGrows w.linear k w.past o a r o₂
      template_put {table'} {o₁} {o₂} {q₁} {m} {size} {r} filled l e g i h =
          let x : size ≡ (parts.end + 7) / 8 = i ∙ rw ends_at refl in
          let y : m ≡ parts.end - 8 * k = l ∙ rw ends_at refl in
          template_grows table' (filled ∙ rw (count, at) refl) {o₁ = o₁} {o₂ = o₂} {q₁ = q₁} {r = r} (rw (← y) e) (rw (← y) g)
          (rw (← x) (h parts.long (8 * ((parts.end + 7) / 8) + 24) (rw x parts.size_at)))

-- zero bits follow what is put
pub settled_after : (o o₁ : List ℕ) (a a₁ : ℕ) (u : List ℕ) → AreBits u → a + length u ≤ 8 * length o → o₁ ≡ put_bits o a u → a₁ ≡ a + length u
    → o₁ ≡ put_bits o₁ a₁ []
settled_after o o₁ a a₁ u are fits e f = sym (put_next o o₁ (put_bits o₁ a₁ []) a a₁ u [] are fits e f refl ∙ ap (put_bits o a) (append-nil u) ∙ sym e)

-- ---- the templates
-- what is read lies after where it begins
linears_past : (s : List ℕ) (T n own b : ℕ) {ls : List Linear} {q : ℕ} → T ≤ 64 → linear_templates_at s T own n (8 * b) ≡ got ls q → 8 * b ≤ q
unfolding linear_templates_at
linears_past s T zero own b few e = omega (arith, (got_value e).1)
linears_past s T (suc n) own b few e =
    then_led (linear_template_at s own T (8 * b)) _ e
    (λ l q₁ first on.
    let p = template_parts s own T b l q₁ few first in
    let d : ℕ = (p.end + 7) / 8 + 3 + p.long in
    then_led (linear_templates_at s T (own + 1) n q₁) _ on
    (λ ms q₂ rest end.
    let i = linears_past s T n (own + 1) d {ls = ms} {q = q₂} few (rw (← p.past_is) rest) in
    omega (arith, i, (got_value end).1, p.end_is, p.past_is)))

pub record This (s table o : List ℕ) (own T byte a : ℕ) (w : TemplatesIn s table o own T byte a) : Type 0 where
  pub one : TemplateIn s table o own T byte a
  pub others : List Linear
  pub are : w.linears ≡ one.linear ∷ others
  pub read : linear_templates_at s T (own + 1) (T - (own + 1)) one.past ≡ got others w.past

pub this : (s table o : List ℕ) (own T byte a : ℕ) (w : TemplatesIn s table o own T byte a) → own < T → T ≤ 64 → This s table o own T byte a w
unfolding linear_templates_at
this s table o own T byte a w lt few =
    let n : ℕ = T - (own + 1) in
    let e : T - own ≡ suc n = omega arith in
    then_led (linear_template_at s own T (8 * byte)) _ (rw e at w.read)
    (λ l q₁ first on.
    let p = template_parts s own T byte l q₁ few first in
    let d : ℕ = (p.end + 7) / 8 + 3 + p.long in
    then_led (linear_templates_at s T (own + 1) n q₁) _ on
    (λ ms q₂ rest end.
    let i = linears_past s T n (own + 1) d {ls = ms} {q = q₂} few (rw (← p.past_is) rest) in
    let v = got_value end in
    record {
      one = record { linear = l; past = q₁; read = first; bytes = w.bytes; zeros = w.zeros; room = omega (arith, w.room, v.1, i, p.past_is) };
      others = ms;
      are = sym v.0;
      read = rest ∙ ap (got ms) v.1;
    }))

module _ (s table₀ o₀ : List ℕ) (own₀ T byte₀ a₀ : ℕ) where
  pub growing_begun : own₀ ≤ T → TemplatesIn s table₀ o₀ own₀ T byte₀ a₀ → Growing s table₀ o₀ own₀ T byte₀ a₀ table₀ o₀ own₀ byte₀ a₀
  growing_begun h v =
      record {
        low = h;
        rows = refl;
        long = refl;
        now = v;
        rest = λ w r o' x. subst (λ (ls : List Linear). TemplatesGrow own₀ ls o₀ a₀ r o') (got_value (sym v.read ∙ w.read)).0 x;
      }

  module _ (table o : List ℕ) (own byte a : ℕ) (g : Growing s table₀ o₀ own₀ T byte₀ a₀ table o own byte a) where
    pub growing_end : {q : BitPlace} → T ≤ own → q.0 ≡ a → (w : TemplatesIn s table₀ o₀ own₀ T byte₀ a₀) → TemplatesGrow own₀ w.linears o₀ a₀ (Ok q) o
    unfolding linear_templates_at templates_back templates_bits
    growing_end {q} h at w =
        let e : T - own ≡ 0 = omega arith in
        let v = got_value (rw e at g.now.read) in
        let z : [] ≡ g.now.linears = v.0 in
        let last : 8 * byte ≡ g.now.past = v.1 in
        g.rest w (Ok q) o (rw (← z) (templates_grown [] {m = own} {a' = q.0} refl (omega arith) (omega (arith, g.now.room, last)) g.now.settled))

    module _ (lt : own < T) (few : T ≤ 64) where
      abbrev here : This s table o own T byte a g.now
      here = this s table o own T byte a g.now lt few

      abbrev pub this_one : TemplateIn s table o own T byte a
      this_one = here.one

      back_one : templates_back own g.now.linears
          ≡ or_stuck own (list_back this_one.linear.entries this_one.linear.code)
          (λ c. then (templates_back (own + 1) here.others) (λ ts m. got (template_of this_one.linear c ∷ ts) m))
      unfolding templates_back
      back_one = ap (templates_back own) here.are

      pub growing_stuck : {r : OrNone (ℕ × BitPlace)} {o' : List ℕ} → TemplateGrows this_one.linear byte this_one.past o a r o' → r ≡ None
          → (w : TemplatesIn s table₀ o₀ own₀ T byte₀ a₀) → TemplatesGrow own₀ w.linears o₀ a₀ (Err (refusal 32 own)) o'
      unfolding or_stuck
      growing_stuck {o' = o'} (no_template_lem h) e w = g.rest w (Err (refusal 32 own)) o' (stuck_at own (back_one ∙ rw h refl))
      growing_stuck (template_grown c h p s f i) e w = clash (cc)

      -- one template before those that follow it
      grown_on : (c : Code) (o₁ : List ℕ) (a₁ : ℕ) → list_back this_one.linear.entries this_one.linear.code ≡ some c
          → a₁ ≡ a + length (template_bits (template_of this_one.linear c)) → o₁ ≡ put_bits o a (template_bits (template_of this_one.linear c))
          → a + length (template_bits (template_of this_one.linear c)) ≤ 8 * length o → (r : Result BitPlace (Refusal ℕ)) (o₂ : List ℕ)
          → TemplatesGrow (own + 1) here.others o₁ a₁ r o₂
          → TemplatesGrow own g.now.linears o a r o₂
      unfolding or_stuck then templates_bits
      grown_on c o₁ a₁ h i j k r o₂ (stuck_at t e) = stuck_at t (back_one ∙ rw (h, e) refl)
      grown_on c o₁ a₁ h i j k r o₂ (templates_grown ts {m = m} {a' = a₂} e at fits out) =
          let u : List ℕ = template_bits (template_of this_one.linear c) in
          templates_grown (template_of this_one.linear c ∷ ts) {m = m} {a' = a₂} (back_one ∙ rw (h, e) refl)
          (omega (arith, length-append u (templates_bits ts))) (omega (arith, ap length j ∙ put_length o a u))
          (put_next o o₁ o₂ a a₁ u (templates_bits ts) (template_are (template_of this_one.linear c)) k j i out)

      pub growing_on : {r : OrNone (ℕ × BitPlace)} {table' o' : List ℕ} {b : ℕ} {q : BitPlace}
          → TemplateGrows this_one.linear byte this_one.past o a r o' → r ≡ Some (b, q)
          → ((i : ℕ) → 256 * (own + 1) ≤ i → get_or table' i 0 ≡ 0) → length table' ≡ length table → length o' ≡ length o
          → Growing s table₀ o₀ own₀ T byte₀ a₀ table' o' (own + 1) b q.0
      growing_on (no_template_lem h) e z x y = clash (cc)
      growing_on {table' = table'} {o' = o'} {b = b} {q = q} (template_grown c {b = b₁} {a' = a₁} h p m f i) e z x y =
          let same = some_pair_parts b₁ b (record { 0 = a₁ }) q e in
          let at : a₁ ≡ q.0 = ap (λ (x : BitPlace). x.0) same.1 in
          let past : this_one.past ≡ 8 * b = p ∙ rw same.0 refl in
          record {
            low = omega arith;
            rows = x ∙ g.rows;
            long = y ∙ g.long;
            now =
                record {
                  linears = here.others;
                  past = g.now.past;
                  read = rw (← past) here.read;
                  bytes = g.now.bytes;
                  zeros = z;
                  room = omega (arith, g.now.room, past);
                  settled = settled_after o o' a q.0 (template_bits (template_of this_one.linear c)) (template_are (template_of this_one.linear c))
                      (omega (arith, this_one.room)) i (sym at ∙ f);
                };
            rest = λ w r o'' k. g.rest w r o'' (grown_on c o' q.0 h (sym at ∙ f) i (omega (arith, this_one.room)) r o'' k);
          }

-- ---- the tree's bytes into the output
module _ (tree o : List ℕ) (n : ℕ) (here : n ≤ length tree) where
  long_take : length (take n tree) ≡ n
  long_take = length-take-le n tree here

  pub give_long : 65536 < n → (Err (refusal 32 0) ≡ answered (given (take n tree) (length o))) × (o ≡ written o (given (take n tree) (length o)))
  unfolding given answered written
  give_long h = rw (long_take, lt-leb n 65536 h) (refl, refl)

  module _ (low : n ≤ 65536) where
    pub give_short : length o < n → (Err (refusal 9 n) ≡ answered (given (take n tree) (length o))) × (o ≡ written o (given (take n tree) (length o)))
    unfolding given answered written
    give_short h = rw (long_take, le-leb n 65536 low, lt-leb n (length o) h) (refl, refl)

    pub give_all : {o' : List ℕ} → n ≤ length o → o' ≡ take n tree ++ drop n o
        → (Ok n ≡ answered (given (take n tree) (length o))) × (o' ≡ written o (given (take n tree) (length o)))
    unfolding given answered written
    give_all h e = rw (long_take, le-leb n 65536 low, le-leb n (length o) h) (ap Ok (sym long_take), e ∙ rw long_take refl)

-- ---- the file
pub bytes_all : (s : List ℕ) → ((i : ℕ) → get_or s i 0 < 256) → Bytes s
unfolding Bytes
bytes_all [] h = tt
bytes_all (x ∷ s) h = (h 0, bytes_all s (λ i. h (suc i)))

pub record FileParts (s : List ℕ) (ls : List Linear) (q : ℕ) : Type 0 where
  pub short : length s ≤ 262144
  pub some : 8 ≤ 8 * length s
  pub few : field_at s 0 8 ≤ 64
  pub read : linear_templates_at s (field_at s 0 8) 0 (field_at s 0 8 - 0) (8 * 1) ≡ got ls q
  pub past : q ≡ 8 * length s
  pub count : length ls ≡ field_at s 0 8

pub file_parts : (s : List ℕ) (ls : List Linear) (q : ℕ) → linear_read s ≡ got ls q → FileParts s ls q
unfolding linear_read nothing_more
file_parts s ls q e =
    let c = cond_led (leb (length s) 262144) _ 1 0 e in
    then_led (field s 0 8) _ c.1
    (λ T p first on₁.
    let f = field_got_lem s 0 8 first in
    let v = valid_led 0 (leb 1 T && leb T 64) _ on₁ in
    let h = (and-eq-true_iff (leb 1 T) (leb T 64)).0 v.0 in
    let few : T ≤ 64 = leb-true T 64 h.1 in
    then_led (linear_templates_at s T 0 T p) _ v.1
    (λ ms r read on₂.
    let d = cond_led (eqb r (8 * length s)) (got ms r) 5 r on₂ in
    let i = got_value d.1 in
    let x : T - 0 ≡ T = omega arith in
    let y : p ≡ 8 * 1 = f.1 in
    let z : linear_templates_at s T 0 (T - 0) (8 * 1) ≡ got ls q = rw (x, ← y) (read ∙ d.1) in
    record {
      short = leb-true (length s) 262144 c.0;
      some = omega (arith, f.1, f.2);
      few = rw (← f.0) few;
      read = rw (← f.0) z;
      past = sym i.1 ∙ eqb-true r (8 * length s) d.0;
      count = rw (← i.0, ← f.0) (linears_read s T few T 0 p read).0;
    }))

pub slots_same : (s : List ℕ) (own T k n q : ℕ) (table table' : List ℕ) → n ≡ field_at s (8 * k) 8 → q ≡ 8 * k + 8
    → table' ≡ sets table (256 * own + 1) (slots_at s own T n q) → table' ≡ sets table (256 * own + 1) (slots_at s own T (field_at s (8 * k) 8) (8 * k + 8))
slots_same s own T k n q table table' e f g = g ∙ rw (e, f) refl

pub back_length : (n : ℕ) (ls : List Linear) {ts : List Template} {m : ℕ} → templates_back n ls ≡ got ts m → length ts ≡ length ls
unfolding templates_back or_stuck
back_length n [] e = sym (ap length (got_value e).0)
back_length n (l ∷ ls) {ts} {m} e = go (list_back l.entries l.code) e (λ ts m h. back_length (n + 1) ls h)
  where
    go : (o : Option Code) → or_stuck n o (λ c. then (templates_back (n + 1) ls) (λ ts m. got (template_of l c ∷ ts) m)) ≡ got ts m
        → ((us : List Template) (k : ℕ) → templates_back (n + 1) ls ≡ got us k → length us ≡ length ls) → length ts ≡ suc (length ls)
    go none h i = clash (cc)
    go (some c) h i = then_led (templates_back (n + 1) ls) _ h (λ us k f g. sym (ap length (got_value g).0) ∙ ap suc (i us k f))

-- ---- all of it
module _ (s : List ℕ) (w : FileIn s) where
  abbrev pub file : FileParts s w.linears w.past
  file = file_parts s w.linears w.past w.read

  abbrev pub templates_in : (T a : ℕ) (table tree₀ tree : List ℕ) → T ≡ field_at s 0 8 → Bytes s → table ≡ replicate 16384 0 → length tree₀ ≡ 262144
      → tree ≡ put_bits tree₀ 0 (bits_of 8 T) → a ≡ 0 + 8 → TemplatesIn s table tree 0 T 1 a
  templates_in T a table tree₀ tree e b z l p i =
      let long : length tree ≡ 262144 = ap length p ∙ put_length tree₀ 0 (bits_of 8 T) ∙ l in
      record {
        linears = w.linears;
        past = w.past;
        read = rw e file.read;
        bytes = b;
        zeros = λ j h. rw z (zeros_at 16384 j);
        room = omega (arith, file.past, file.short);
        settled = settled_after tree₀ tree 0 a (bits_of 8 T) (bits_are 8 T) (omega (arith, length_bits 8 T)) p (omega (arith, length_bits 8 T));
      }

  module _ {o tree : List ℕ} {a : ℕ} {r : Result BitPlace (Refusal ℕ)} (grown : TemplatesGrow 0 w.linears o a r tree) (m : ℕ) (out : List ℕ) where
    pub back_stuck : {t : Refusal ℕ} → r ≡ Err t → (Err t ≡ answered (backed s m)) × (out ≡ written out (backed s m))
    unfolding backed then answered written
    back_stuck {t} e = go grown e
      where
        go : {r : Result BitPlace (Refusal ℕ)} → TemplatesGrow 0 w.linears o a r tree → r ≡ Err t
            → (Err t ≡ answered (backed s m)) × (out ≡ written out (backed s m))
        go (stuck_at u f) e = let z : refusal 32 u ≡ t = cc in rw (w.read, f) (ap Err (sym z), refl)
        go (templates_grown ts f i j k) e = clash (cc)

    pub record Given (q : BitPlace) : Type 0 where
      pub room : q.0 ≤ 8 * length o
      pub is : (n : ℕ) → n ≡ (q.0 + 7) / 8 → (T : ℕ) (tree₀ : List ℕ) → T ≡ field_at s 0 8 → o ≡ put_bits tree₀ 0 (bits_of 8 T) → a ≡ 0 + 8
          → backed s m ≡ given (take n tree) m

    pub back_given : {q : BitPlace} → r ≡ Ok q → Given q
    unfolding backed then file_bits
    back_given {q} e = go grown e
      where
        go : {r : Result BitPlace (Refusal ℕ)} → TemplatesGrow 0 w.linears o a r tree → r ≡ Ok q → Given q
        go (stuck_at u f) e = clash (cc)
        go (templates_grown ts {m = j} {a' = a₁} f at near put) e =
            let z : ◌≡◌ {A = BitPlace} (record { 0 = a₁ }) q = cc in
            let here : a₁ ≡ q.0 = ap (λ (x : BitPlace). x.0) z in
            record {
              room = omega arith;
              is = λ n size T tree₀ count p i.
                  let long : length o ≡ length tree₀ = ap length p ∙ put_length tree₀ 0 (bits_of 8 T) in
                  let same : length ts ≡ T = back_length 0 w.linears f ∙ file.count ∙ sym count in
                  let b : List ℕ = bits_of 8 T ++ templates_bits ts in
                  let whole : tree ≡ put_bits tree₀ 0 b =
                  put_next tree₀ o tree 0 a (bits_of 8 T) (templates_bits ts) (bits_are 8 T) (omega (arith, length_bits 8 T, at, here)) p
                  (omega (arith, length_bits 8 T)) put in
                  let same_bits : b ≡ file_bits ts = rw same refl in
                  let size_is : length (tree_file ts) ≡ n = file_length ts
                  ∙ sym (size ∙ omega (arith, at, here, ap length same_bits, length-append (bits_of 8 T) (templates_bits ts), length_bits 8 T)) in
                  let all : tree ≡ tree_file ts ++ drop (length (tree_file ts)) tree₀ = whole ∙ ap (put_bits tree₀ 0) same_bits
                  ∙ put_tree tree₀ ts (omega (arith, size_is, long)) in
                  let front : take n tree ≡ tree_file ts = rw (← size_is)
                  (ap (take (length (tree_file ts))) all ∙ take-append_seam (tree_file ts) (drop (length (tree_file ts)) tree₀)) in
                  rw (w.read, f, front) refl;
            }

-- what is checked
pub accepted_file : (s : List ℕ) {x : Result Unit (Refusal ℕ)} {u : Unit} → x ≡ checked_told (linear_read s) → x ≡ Ok u → FileIn s
unfolding checked_told
accepted_file s {x} {u} e f = go (linear_read s) refl
  where
    go : (g : Got (List Linear)) → linear_read s ≡ g → FileIn s
    go (got ls q) h = record { linears = ls; past = q; read = h }
    go (refused n p) h = let z : Ok u ≡ checked_told (refused n p) = sym f ∙ e ∙ ap checked_told h in clash (cc)

pub refused_file : (s : List ℕ) {x : Result Unit (Refusal ℕ)} {n : Refusal ℕ} → x ≡ checked_told (linear_read s) → x ≡ Err n → (m : ℕ) (o : List ℕ)
    → (Err n ≡ answered (backed s m)) × (o ≡ written o (backed s m))
unfolding checked_told backed then answered written
refused_file s {x} {n} e f m o = go (linear_read s) refl
  where
    go : (g : Got (List Linear)) → linear_read s ≡ g → (Err n ≡ answered (backed s m)) × (o ≡ written o (backed s m))
    go (got ls q) h = let z : Err n ≡ checked_told (got ls q) = sym f ∙ e ∙ ap checked_told h in clash (cc)
    go (refused a b) h =
        let z : Err n ≡ checked_told (refused a b) = sym f ∙ e ∙ ap checked_told h in
        let i : n ≡ refusal a b = cc in
        rw h (ap Err i, refl)
