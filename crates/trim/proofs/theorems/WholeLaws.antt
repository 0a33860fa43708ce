-- All templates, and the function as the file was judged. Assumes nothing.
use Rattle.std.specs.Prelude.{ℕ, suc, ◌+◌, ◌*◌, ◌-◌, ◌/◌, ◌%◌, ◌≤◌, ◌<◌, ◌≡◌, Bool, leb, Result, Ok, Err}
use Rattle.std.proofs.Common.{zero-add, arith, ◌∙◌, take_at, length-take-le}
use Rattle.std.proofs.Math.Numerals.{add-one}
use Rattle.std.proofs.Math.Path.{refl, sym, ap, subst}
use Rattle.std.proofs.Math.Bool.{true, false, cond}
use mathlib.Core.List.{List, [], ◌∷◌, ◌++◌, map, append-nil, append_assoc}
use borrow.Author.Tests.{le-leb, lt-leb}
use Rattle.std.proofs.Math.Dec.{ltb}
use Rattle.std.proofs.Math.ListN.{length, take, drop}
use Rattle.std.proofs.lemmas.List.{length-map}
use Rattle.std.proofs.Math.Seq.{sets-eq}
use Rattle.cells.specs.Numbers.{short_output}
use Rattle.files.specs.Reading.{Got, got, refused}
use Rattle.files.specs.Entries.{then}
use Rattle.files.specs.Accepted.{tree_checked}
use Rattle.files.specs.Linear.{bits_of}
use Rattle.files.specs.Tree.{Template}
use Rattle.files.specs.laws.AllGot.{Each}
use Rattle.files.specs.laws.AcceptedLaws.{checked_read}
use Rattle.readback.specs.laws.Bits.{length_bits}
use Rattle.readback.specs.laws.Lists.{bits_are}
use Rattle.bit_writer.specs.Put.{put_bits}
use Rattle.bit_writer.specs.laws.Wrote.{Wrote}
use Rattle.tree.specs.declared.Summary.{Summary}
use Rattle.tree.specs.Summary.{summary_of, judged_told}
use Rattle.files.specs.Room.{ZerosFor}
use Rattle.tree.specs.Filled.{tree_filled}
use Rattle.tree.specs.laws.FilledLaws.{tree_tabled}
use Rattle.tree.specs.laws.Judged.{judged_told_lem}
use Rattle.tree_file.specs.File.{template_bits, templates_bits, file_bits, tree_file}
use Rattle.tree_file.proofs.theorems.Written.{file_length, wrote_tree}
use Rattle.text.specs.Put.{Put}
use Rattle.text.specs.laws.Laws.{put_then, put_taken}
use Rattle.trim.specs.Kept.{sift, rank}
use Rattle.trim.specs.Trim.{trim_template, trim, stays, trimmed}
use Rattle.trim.specs.Lines.{template_lines, lines_from, trim_list}
use Rattle.trim.specs.Function.{Outputs, into_both, both_into, trimmed_into, answered, file_left, list_left}
use Rattle.trim.specs.Reached.{reached}
use Rattle.trim.specs.Standing.{FileIn, TemplateIn, Leads, is_marked, Marks, Numbers, Numbered, PutMore, kept_bits}
use Rattle.trim.specs.laws.KeptLaws.{rank_same, rank_most, sift_length}
use Rattle.trim.specs.laws.ReachedLaws.{up_each}
use Rattle.trim.proofs.theorems.EntryLaws.{more_then, more_none}
use Rattle.trim.proofs.theorems.RoundsLaws.{stays_reached, stays_leads}
use Rattle.trim.specs.laws.StandLaws.{Walk, walk_first, walk_next, walk_all}
use Rattle.files.specs.declared.Refusal.{Refusal}
use Rattle.files.specs.Refusal.{refusal}

-- ---- the templates from own on are left
pub record Passing (s table : List ℕ) (T own here : ℕ) : Type 0 where
  pub rest : List Template
  pub walk : Walk s table T own here rest

pub passing_all : {s table : List ℕ} {count : ℕ} (w : FileIn s table count) → Passing s table count 0 8
passing_all {s} {table} w = record { rest = w.templates; walk = subst (λ (T : ℕ). Walk s table T 0 8 w.templates) (sym w.count_is) (walk_all w) }

module _ {s table : List ℕ} {T own here : ℕ} (p : Passing s table T own here) where
  pub passing_inside : here ≤ 8 * length s
  passing_inside = let h : here + length (templates_bits p.rest) ≤ 8 * length s = p.walk.stands.fits in omega arith

  module _ (more : own < T) where
    pub record Head : Type 0 where
      pub head : Template
      pub tail : List Template
      pub walk : Walk s table T own here (head ∷ tail)

    first : (rest : List Template) → Walk s table T own here rest → Head
    first [] w = absurd (let c : own + 0 ≡ T = w.count in omega arith)
    first (x ∷ xs) w = record { head = x; tail = xs; walk = w }

    pub the : Head
    the = first p.rest p.walk

    pub passing_first : TemplateIn s table own here
    passing_first = walk_first the.head the.tail the.walk

    pub passing_on : (here' : ℕ) → here' ≡ here + length (template_bits passing_first.template) → Passing s table T (own + 1) here'
    unfolding passing_first
    passing_on here' e =
        record { rest = the.tail; walk = subst (λ (h : ℕ). Walk s table T (own + 1) h the.tail) (sym e) (walk_next the.head the.tail the.walk) }

-- ---- what is written of the templates below own
module _ (keep : ℕ → Bool) (s table : List ℕ) (T : ℕ) (ts : List Template) (file₀ : List ℕ) (at₀ : ℕ) (lines₀ : List ℕ) where
  pub record Trimming (own here : ℕ) (file : List ℕ) (at : ℕ) (lines : List ℕ) (to : ℕ) : Type 0 where
    pub rest : List Template
    pub walk : Walk s table T own here rest
    pub leads : Each (Leads keep) own rest
    pub bits : List ℕ
    pub put : PutMore file₀ at₀ file at bits
    pub same : bits ++ templates_bits (map (trim_template (rank keep 0)) (sift keep own rest)) ≡ templates_bits (trim keep ts)
    pub lined : (o : List ℕ) (r : ℕ) → Put lines to o r (lines_from keep own rest) → Put lines₀ 0 o r (lines_from keep 0 ts)

  pub trimming_none : Walk s table T 0 8 ts → Each (Leads keep) 0 ts → Trimming 0 8 file₀ at₀ lines₀ 0
  unfolding trim
  trimming_none w l = record { rest = ts; walk = w; leads = l; bits = []; put = more_none; same = refl; lined = λ o r p. p }

  module _ {own here : ℕ} {file : List ℕ} {at : ℕ} {lines : List ℕ} {to : ℕ} (t : Trimming own here file at lines to) where
    module _ (more : own < T) where
      pub record Next : Type 0 where
        pub head : Template
        pub tail : List Template
        pub is : t.rest ≡ head ∷ tail

      next : (rest : List Template) → own + length rest ≡ T → t.rest ≡ rest → Next
      next [] c e = absurd (omega arith)
      next (x ∷ xs) c e = record { head = x; tail = xs; is = e }

      pub this : Next
      this = next t.rest t.walk.count refl

      walked : Walk s table T own here (this.head ∷ this.tail)
      walked = subst (λ (l : List Template). Walk s table T own here l) this.is t.walk

      led : Each (Leads keep) own (this.head ∷ this.tail)
      led = subst (λ (l : List Template). Each (Leads keep) own l) this.is t.leads

      pub trimming_first : TemplateIn s table own here
      trimming_first = walk_first this.head this.tail walked

      pub first_numbers : {numbers : List ℕ} → Numbers keep T numbers → Numbers keep trimming_first.total numbers
      unfolding trimming_first
      first_numbers n = n

      pub first_leads : Leads keep own trimming_first.template
      unfolding trimming_first
      first_leads = led.0

      bits_on : kept_bits keep own this.head ++ templates_bits (map (trim_template (rank keep 0)) (sift keep (own + 1) this.tail))
          ≡ templates_bits (map (trim_template (rank keep 0)) (sift keep own t.rest))
      unfolding kept_bits templates_bits sift
      bits_on = rw add-one (go (keep own)) ∙ ap (λ (l : List Template). templates_bits (map (trim_template (rank keep 0)) (sift keep own l))) (sym this.is)
        where
          go : (b : Bool) → cond b (template_bits (trim_template (rank keep 0) this.head)) [] ++ templates_bits
              (map (trim_template (rank keep 0)) (sift keep (suc own) this.tail))
              ≡ templates_bits (map (trim_template (rank keep 0)) (cond b (this.head ∷ sift keep (suc own) this.tail) (sift keep (suc own) this.tail)))
          go true = refl
          go false = refl

      pub trimming_on : (here' : ℕ) (file' : List ℕ) (at' : ℕ) (lines' : List ℕ) (to' : ℕ) → here' ≡ here + length (template_bits trimming_first.template)
          → Put lines to lines' to' (template_lines keep own trimming_first.template)
          × PutMore file at file' at' (kept_bits keep own trimming_first.template)
          → Trimming (own + 1) here' file' at' lines' to'
      unfolding trimming_first lines_from
      trimming_on here' file' at' lines' to' e p =
          record {
            rest = this.tail;
            walk = subst (λ (h : ℕ). Walk s table T (own + 1) h this.tail) (sym e) (walk_next this.head this.tail walked);
            leads = led.1;
            bits = t.bits ++ kept_bits keep own this.head;
            put = more_then t.bits (kept_bits keep own this.head) t.put p.1;
            same = append_assoc t.bits (kept_bits keep own this.head) _ ∙ ap (λ (l : List ℕ). t.bits ++ l) bits_on ∙ t.same;
            lined = λ o r q.
                t.lined o r
                (subst (λ (l : List Template). Put lines to o r (lines_from keep own l)) (sym this.is)
                (put_then p.0 (subst (λ (m : ℕ). Put lines' to' o r (lines_from keep m this.tail)) (add-one own) q)));
          }

    pub trimming_all : T ≤ own → Put lines₀ 0 lines to (lines_from keep 0 ts) × PutMore file₀ at₀ file at (templates_bits (trim keep ts))
    unfolding lines_from sift templates_bits
    trimming_all h = (
      t.lined lines to (none_lined t.rest t.walk.count),
      subst (λ (b : List ℕ). PutMore file₀ at₀ file at b) (sym (append-nil t.bits) ∙ none t.rest t.walk.count ∙ t.same) t.put,
    )
      where
        none_lined : (rest : List Template) → own + length rest ≡ T → Put lines to lines to (lines_from keep own rest)
        none_lined [] c = record { next = omega arith; holds = refl }
        none_lined (x ∷ xs) c = absurd (omega arith)

        none : (rest : List Template) → own + length rest ≡ T → t.bits ++ [] ≡ t.bits ++ templates_bits (map (trim_template (rank keep 0)) (sift keep own rest))
        none [] c = refl
        none (x ∷ xs) c = absurd (omega arith)

-- T and then the templates are the file
pub trimming_file : (keep : ℕ → Bool) (T left : ℕ) (ts : List Template) (o o₁ o₂ : List ℕ) (p q : ℕ) → T ≡ length ts → left ≡ rank keep 0 T
    → length o ≡ 65536 → o₁ ≡ put_bits o 0 (bits_of 8 left) → p ≡ 0 + 8 → PutMore o₁ p o₂ q (templates_bits (trim keep ts))
    → Wrote o o₂ (file_bits (trim keep ts)) q
unfolding file_bits trim
trimming_file keep T left ts o o₁ o₂ p q n e room f g m =
    let k : left ≡ length (map (trim_template (rank keep 0)) (sift keep 0 ts)) =
    e ∙ rw (n, length-map (sift keep 0 ts) (trim_template (rank keep 0)), sift_length keep 0 ts) refl in
    m o (bits_of 8 (length (map (trim_template (rank keep 0)) (sift keep 0 ts)))) room
    (record { is = f ∙ ap (λ (y : ℕ). put_bits o 0 (bits_of 8 y)) k; at_is = g ∙ sym (length_bits 8 _); are = bits_are 8 _ })

pub file_walk : {s table : List ℕ} {count : ℕ} (w : FileIn s table count) → Walk s table count 0 8 w.templates
file_walk {s} {table} w = subst (λ (T : ℕ). Walk s table T 0 8 w.templates) (sym w.count_is) (walk_all w)

-- ---- the numbers of the templates that stay
module _ {s table : List ℕ} {count : ℕ} (w : FileIn s table count) (marks numbers : List ℕ) (left : ℕ) (are : Marks (reached w.templates) count marks) where
  abbrev ts : List Template
  ts = w.templates

  stays_marked : (t : ℕ) → t < count → is_marked marks t ≡ stays ts t
  unfolding is_marked
  stays_marked t h =
      ap (λ (x : ℕ). ltb 0 x) (are.each t h) ∙ go (reached ts t)
      ∙ sym (stays_reached ts (up_each (length ts) 0 ts (walk_all w).each) t (omega (arith, w.count_is)))
    where
      go : (b : Bool) → ltb 0 (cond b 1 0) ≡ b
      go true = refl
      go false = refl

  rank_stays : (t : ℕ) → t ≤ count → rank (is_marked marks) 0 t ≡ rank (stays ts) 0 t
  rank_stays t h = rank_same (is_marked marks) (stays ts) 0 t (λ i l. stays_marked (0 + i) (omega arith))

  pub stays_numbers : Numbered count marks numbers → Numbers (stays ts) count numbers
  stays_numbers n = record { each = λ t h. n.each t h ∙ rw (stays_marked t h, rank_stays t (omega arith)) refl }

  pub stays_count : left ≡ rank (is_marked marks) 0 count → left ≡ rank (stays ts) 0 count
  stays_count e = e ∙ rank_stays count (omega arith)

  pub file_leads : Each (Leads (stays ts)) 0 ts
  file_leads = stays_leads ts (walk_all w).each

pub few_marks : (marks : List ℕ) (n : ℕ) → n ≤ 64 → rank (is_marked marks) 0 n ≤ 255
few_marks marks n h = let r = rank_most (is_marked marks) 0 n in omega arith

-- ---- both into the outputs
any : {A : Type 0} (m n : ℕ) (f : Got Outputs → A) → ((o : Outputs) (p q : ℕ) → f (got o p) ≡ f (got o q)) → (o : Outputs) (q : ℕ)
    → f (into_both m n o 0) ≡ f (into_both m n o q)
unfolding into_both
any m n f k o q = go (leb (length o.file) m) (leb (length o.list) n)
  where
    go : (a b : Bool) → f (cond a (cond b (got o 0) (refused short_output (length o.list))) (refused short_output (length o.file)))
        ≡ f (cond a (cond b (got o q) (refused short_output (length o.list))) (refused short_output (length o.file)))
    go true true = k o 0 q
    go true false = refl
    go false b = refl

module _ (f l out list : List ℕ) (size bytes : ℕ) (inside : size ≤ length f) (within : bytes ≤ length l) where
  abbrev g : Got Outputs
  g = both_into (length out) (length list) f size l bytes

  abbrev Done : Result (ℕ × ℕ) (Refusal ℕ) → List ℕ → List ℕ → Type 0
  Done r o k = (r ≡ answered g) × ((o ≡ file_left out g) × (k ≡ list_left list g))

  file_size : length (take size f) ≡ size
  file_size = length-take-le size f inside

  list_size : length (take bytes l) ≡ bytes
  list_size = length-take-le bytes l within

  pub short_file : length out < size → Done (Err (refusal 9 size)) out list
  unfolding into_both answered file_left list_left
  short_file h = rw (file_size, lt-leb size (length out) h) (refl, (refl, refl))

  pub short_list_lem : size ≤ length out → length list < bytes → Done (Err (refusal 9 bytes)) out list
  unfolding into_both answered file_left list_left
  short_list_lem k h = rw (file_size, le-leb size (length out) k, list_size, lt-leb bytes (length list) h) (refl, (refl, refl))

  pub both_put : size ≤ length out → bytes ≤ length list → (o k : List ℕ) (r q : ℕ) → Put out 0 o r (take size f) → Put list 0 k q (take bytes l)
      → Done (Ok (size, bytes)) o k
  unfolding into_both answered file_left list_left
  both_put h i o k r q p p' =
      rw (le-leb (length (take size f)) (length out) (omega (arith, file_size)), le-leb (length (take bytes l)) (length list) (omega (arith, list_size))) (
        rw (file_size, list_size) refl,
        (
          p.holds ∙ sets-eq (take size f) out 0 (omega (arith, file_size)) ∙ ap (λ (n : ℕ). take size f ++ drop n out) (zero-add (length (take size f))),
          p'.holds ∙ sets-eq (take bytes l) list 0 (omega (arith, list_size)) ∙ ap (λ (n : ℕ). take bytes l ++ drop n list) (zero-add (length (take bytes l))),
        ),
      )

pub byte_size : (end gap past size : ℕ) → gap ≡ (8 - end % 8) % 8 → past ≡ end + gap → size ≡ past / 8 → size ≡ (end + (8 - end % 8) % 8) / 8
byte_size end gap past size e f g = omega arith

-- ---- a file that was judged
pub judged_file : (s : List ℕ) {m : Summary} {table table' : List ℕ} → judged_told (tree_checked s) ≡ Ok m → ZerosFor s table → table' ≡ tree_filled s table
    → FileIn s table' m.count
unfolding summary_of
judged_file s told z e =
    let f = judged_told_lem (tree_checked s) told in
    record {
      templates = f.templates;
      past = f.past;
      checked = f.is;
      size = z.size;
      filled = tree_tabled s (checked_read s f.templates f.past f.is) z e;
      count_is = sym (ap (λ (x : Summary). x.count) f.summary);
    }

module _ (s out list : List ℕ) where
  abbrev h : Got Outputs
  h = trimmed_into s (length out) (length list)

  abbrev All : Result (ℕ × ℕ) (Refusal ℕ) → List ℕ → List ℕ → Type 0
  All r o k = (r ≡ answered h) × ((o ≡ file_left out h) × (k ≡ list_left list h))

  pub all_refused : {n p : ℕ} → tree_checked s ≡ refused n p → All (Err (refusal n p)) out list
  unfolding trimmed_into then answered file_left list_left
  all_refused e = rw e (refl, (refl, refl))

  module _ {table : List ℕ} {count : ℕ} (w : FileIn s table count) (file₀ file lines₀ lines : List ℕ) (end bytes size : ℕ)
      (lined : Put lines₀ 0 lines bytes (lines_from (stays w.templates) 0 w.templates))
      (wrote : Wrote file₀ file (file_bits (trim (stays w.templates) w.templates)) end)
      (room : length file₀ ≡ 65536) (rooms : length lines₀ ≡ 262144) (few : bytes ≤ 196608) (low : end ≤ 524288)
      (size_is : size ≡ (end + (8 - end % 8) % 8) / 8) where
    file_is : file ≡ tree_file (trimmed w.templates) ++ drop (length (tree_file (trimmed w.templates))) file₀
    unfolding trimmed
    file_is =
        let m : length (tree_file (trim (stays w.templates) w.templates)) ≡ (length (file_bits (trim (stays w.templates) w.templates)) + 7) / 8 =
        file_length (trim (stays w.templates) w.templates) in
        wrote_tree file₀ file (trim (stays w.templates) w.templates) end wrote (omega (arith, wrote.at_is))

    size_of : size ≡ length (tree_file (trimmed w.templates))
    unfolding trimmed
    size_of =
        let m : length (tree_file (trim (stays w.templates) w.templates)) ≡ (length (file_bits (trim (stays w.templates) w.templates)) + 7) / 8 =
        file_length (trim (stays w.templates) w.templates) in
        omega (arith, wrote.at_is)

    file_taken : take size file ≡ tree_file (trimmed w.templates)
    file_taken = ap (take size) file_is ∙ take_at (tree_file (trimmed w.templates)) _ size (sym size_of)

    list_taken : take bytes lines ≡ trim_list w.templates
    unfolding trim_list
    list_taken = put_taken (lines_from (stays w.templates) 0 w.templates) lined (omega arith)

    -- as the lists that were made have it
    pub all_into : {r : Result (ℕ × ℕ) (Refusal ℕ)} {o k : List ℕ} → r ≡ answered (both_into (length out) (length list) file size lines bytes)
        → o ≡ file_left out (both_into (length out) (length list) file size lines bytes)
        → k ≡ list_left list (both_into (length out) (length list) file size lines bytes)
        → All r o k
    unfolding trimmed_into then answered file_left list_left
    all_into {r} {o} {k} a b c =
        let made : Outputs = record { file = tree_file (trimmed w.templates); list = trim_list w.templates } in
        let e : both_into (length out) (length list) file size lines bytes ≡ into_both (length out) (length list) made 0 = rw (file_taken, list_taken) refl in
        rw w.checked (
          a ∙ ap answered e ∙ same answered (λ x y z. refl) made,
          (b ∙ ap (file_left out) e ∙ same (file_left out) (λ x y z. refl) made, c ∙ ap (list_left list) e ∙ same (list_left list) (λ x y z. refl) made),
        )
      where
        same : {A : Type 0} (f : Got Outputs → A) → ((o : Outputs) (p q : ℕ) → f (got o p) ≡ f (got o q)) → (o : Outputs)
            → f (into_both (length out) (length list) o 0) ≡ f (into_both (length out) (length list) o w.past)
        same f k o = any (length out) (length list) f k o w.past
