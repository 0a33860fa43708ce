-- What the readers of a linear file do at each step, by what was read there. Assumes nothing.
use Rattle.std.specs.Prelude.{ℕ, suc, ◌+◌, ◌*◌, ◌-◌, ◌/◌, ◌≤◌, ◌<◌, List, ◌∷◌, set, take, drop, Result, Ok, Err}
use native.Mathlib.Omega.{arith}
use Rattle.std.proofs.Math.Path.{◌≡◌, refl, ap}
use Rattle.std.proofs.Common.{sym, ◌∙◌, length-take, length-drop}
use borrow.Author.Tests.{le-leb, lt-leb}
use Rattle.std.proofs.Math.ListN.{length}
use Rattle.std.proofs.lemmas.List.Edits.{sets}
use Rattle.cells.specs.laws.Laws.{clash}
use Rattle.cells.specs.declared.BitPlace.{BitPlace}
use Rattle.files.specs.Reading.{Got, got, refused}
use Rattle.files.specs.Entries.{Entry, then, field, entries_at, to_byte, zero_bits, nothing_more}
use Rattle.files.specs.EntriesRead.{past_told, slots_at}
use Rattle.files.specs.laws.PaddingSteps.{zero_told, nothing_told}
use Rattle.files.specs.laws.AllGot.{linears_read}
use Rattle.files.specs.Linear.{Linear, code_at, linear_template_at, linear_templates_at, linear_read}
use Rattle.files.specs.Filled.{filled_then, templates_by, count_by}
use Rattle.linear.specs.Filled.{linear_told, checked_told, padded_code, code_filled, entries_filled, template_filled, templates_filled}
use Rattle.linear.specs.Filled.{linear_filled}
use Rattle.files.specs.declared.Refusal.{Refusal}
use Rattle.files.specs.Refusal.{refusal}
use Rattle.files.specs.laws.RefusalLaws.{err_number, err_place}

-- ---- what was told was read
module _ {A : Type 0} where
  pub record ReadPart (g : Got A) (q : BitPlace) : Type 0 where
    pub part : A
    pub is : g ≡ got part q.0

  pub part_told_lem : (g : Got A) {q : BitPlace} → past_told g ≡ Ok q → ReadPart g q
  unfolding past_told
  part_told_lem (got a z) {q} h = let k : ◌≡◌ {A = BitPlace} (record { 0 = z }) q = cc in record { part = a; is = ap (λ (b : BitPlace). got a b.0) k }
  part_told_lem (refused n z) h = clash (cc)

  pub part_refused : (g : Got A) {n : ℕ} {p : BitPlace} → past_told g ≡ Err (refusal n p) → g ≡ refused n p.0
  unfolding past_told
  part_refused (got a z) h = clash (cc)
  part_refused (refused m z) {n} {p} h = rw (err_number h, ← (err_place h))

-- ---- what follows the entries es, which end at p, by the answer z that reading the padding gave
abbrev pub linear_of : List ℕ → List Entry → ℕ → ℕ → Linear
linear_of s es n v = record { entries = es; start = v / 8; code = take n (drop (v / 8) s) }

module _ (s : List ℕ) (p : ℕ) {z : Result BitPlace (Refusal BitPlace)} (asked : z ≡ past_told (zero_bits s (to_byte p) p (tt {0}))) where
  pub padding_set : {n : ℕ} {x : BitPlace} → z ≡ Err (refusal n x) → (es : List Entry) → padded_code s es p ≡ refused n x.0
  unfolding padded_code then
  padding_set e es = rw ((zero_told es s (to_byte p) p).set_read (sym asked ∙ e))

  module _ {u : BitPlace} (is : z ≡ Ok u) where
    after_padding : (es : List Entry) → padded_code s es p ≡ then (field s u.0 24) (λ k v. code_at s es k v)
    unfolding padded_code then
    after_padding es = rw ((zero_told es s (to_byte p) p).zero_read (sym asked ∙ is))

    pub length_cut : {n m : ℕ} → field s u.0 24 ≡ refused n m → (es : List Entry) → padded_code s es p ≡ refused n m
    unfolding then
    length_cut e es = rw (after_padding es, e)

    module _ {n v : ℕ} (size : field s u.0 24 ≡ got n v) where
      pub code_cut : 8 * length s < v + 8 * n → (es : List Entry) → padded_code s es p ≡ refused 2 (8 * length s)
      unfolding then code_at
      code_cut h es = rw (after_padding es, size, lt-leb (v + 8 * n) (8 * length s) h)

      pub code_read : v + 8 * n ≤ 8 * length s → (es : List Entry) → padded_code s es p ≡ got (linear_of s es n v) (v + 8 * n)
      unfolding then code_at
      code_read h es = rw (after_padding es, size, le-leb (v + 8 * n) (8 * length s) h)

-- how the reader of that ends
module _ (own : ℕ) (table : List ℕ) (f : List Entry → Got Linear) where
  pub code_stops : {n : ℕ} {x : BitPlace} → ((es : List Entry) → f es ≡ refused n x.0)
      → ((es : List Entry) → Err (refusal n x) ≡ past_told (f es)) × ((es : List Entry) → table ≡ code_filled own (f es) table)
  unfolding past_told code_filled
  code_stops h = ((λ es. rw (h es)), λ es. rw (h es))

  pub code_ends : (s : List ℕ) (n v : ℕ) → v + 8 * n ≤ 8 * length s → ((es : List Entry) → f es ≡ got (linear_of s es n v) (v + 8 * n))
      → ((es : List Entry) → Ok (record { 0 = v + 8 * n }) ≡ past_told (f es)) ×
      ((es : List Entry) → set table (256 * own) (v / 8 + 0x100000000 * n) ≡ code_filled own (f es) table)
  unfolding past_told code_filled
  code_ends s n v l h = let k : length (take n (drop (v / 8) s)) ≡ n = rw (length-take, length-drop) (omega arith) in ((λ es. rw (h es)), λ es. rw (h es, k))

-- ---- template own of T at p
module _ (s : List ℕ) (own T p : ℕ) (table : List ℕ) where
  -- the answer r and the table t that its reader leaves
  abbrev pub TemplateDone : Result BitPlace (Refusal BitPlace) → List ℕ → Type 0
  TemplateDone r t = (r ≡ past_told (linear_template_at s own T p)) × (t ≡ template_filled s own T p table)

  pub entries_cut : {n m : ℕ} → field s p 8 ≡ refused n m → TemplateDone (Err (refusal n (record { 0 = m }))) table
  unfolding linear_template_at then past_told template_filled code_filled entries_filled
  entries_cut e = rw e (refl, refl)

  module _ {n q : ℕ} {t : List ℕ} (number : field s p 8 ≡ got n q) (stored : t ≡ sets table (256 * own + 1) (slots_at s own T n q)) where
    pub entries_stop : {m : ℕ} {x : BitPlace} → entries_at s own T n q ≡ refused m x.0 → TemplateDone (Err (refusal m x)) t
    unfolding linear_template_at then past_told template_filled code_filled entries_filled
    entries_stop e = rw (number, e) (refl, stored)

    pub template_done : {es : List Entry} {r : ℕ} {z : Result BitPlace (Refusal BitPlace)} {u : List ℕ} → entries_at s own T n q ≡ got es r
        → z ≡ past_told (padded_code s es r) → u ≡ code_filled own (padded_code s es r) t → TemplateDone z u
    unfolding linear_template_at then template_filled entries_filled padded_code
    template_done e a b = rw (number, e) (a, rw (← stored) b)

-- ---- templates own to T from p on
module _ (s : List ℕ) (T own p : ℕ) (table : List ℕ) where
  abbrev pub LinearsDone : Result BitPlace (Refusal BitPlace) → List ℕ → Type 0
  LinearsDone r t = (r ≡ past_told (linear_templates_at s T own (T - own) p)) × (t ≡ templates_filled s T own (T - own) p table)

  pub linears_none : T ≤ own → LinearsDone (Ok (record { 0 = p })) table
  unfolding linear_templates_at templates_by past_told
  linears_none h = let k : T - own ≡ 0 = omega arith in rw k (refl, refl)

  module _ {r : Result BitPlace (Refusal BitPlace)} {t : List ℕ} (less : own < T) (done : TemplateDone s own T p table r t) where
    one_left : T - own ≡ suc (T - (own + 1))
    one_left = omega arith

    pub linears_stop : {n : ℕ} {x : BitPlace} → r ≡ Err (refusal n x) → LinearsDone (Err (refusal n x)) t
    unfolding linear_templates_at templates_by then filled_then past_told
    linears_stop e = rw (one_left, part_refused (linear_template_at s own T p) (sym done.0 ∙ e)) (refl, done.1)

    told_more : (a : Linear) (g : Got (List Linear)) → past_told (then g (λ ts q. got (a ∷ ts) q)) ≡ past_told g
    unfolding then past_told
    told_more a (got ts q) = refl
    told_more a (refused n x) = refl

    pub linears_on : {q : BitPlace} → r ≡ Ok q
        → (past_told (linear_templates_at s T own (T - own) p) ≡ past_told (linear_templates_at s T (own + 1) (T - (own + 1)) q.0))
        × (templates_filled s T own (T - own) p table ≡ templates_filled s T (own + 1) (T - (own + 1)) q.0 t)
    unfolding linear_templates_at templates_by then filled_then
    linears_on {q} e =
        let g = part_told_lem (linear_template_at s own T p) (sym done.0 ∙ e) in
        rw (one_left, g.is) (
          told_more g.part (linear_templates_at s T (own + 1) (T - (own + 1)) q.0),
          ap (templates_filled s T (own + 1) (T - (own + 1)) q.0)
              (sym done.1),
        )

-- ---- the file
module _ (s : List ℕ) (table : List ℕ) where
  abbrev pub FileDone : Result ℕ (Refusal BitPlace) → List ℕ → Type 0
  FileDone r t = (r ≡ linear_told (linear_read s)) × (t ≡ linear_filled s table)

  pub too_long_lem : 262144 < length s → FileDone (Err (refusal 1 (record { 0 = 0 }))) table
  unfolding linear_read linear_told linear_filled
  too_long_lem h = rw (lt-leb (length s) 262144 h) (refl, refl)

  module _ (short : length s ≤ 262144) where
    pub count_cut : {n m : ℕ} → field s 0 8 ≡ refused n m → FileDone (Err (refusal n (record { 0 = m }))) table
    unfolding linear_read linear_told linear_filled count_by then
    count_cut e = rw (le-leb (length s) 262144 short, e) (refl, refl)

    module _ {T p : ℕ} (count : field s 0 8 ≡ got T p) where
      pub count_low : T < 1 → FileDone (Err (refusal 3 (record { 0 = 0 }))) table
      unfolding linear_read linear_told linear_filled count_by then
      count_low h = rw (le-leb (length s) 262144 short, count, lt-leb 1 T h) (refl, refl)

      module _ (some : 1 ≤ T) where
        pub count_high : 64 < T → FileDone (Err (refusal 3 (record { 0 = 0 }))) table
        unfolding linear_read linear_told linear_filled count_by then
        count_high h = rw (le-leb (length s) 262144 short, count, le-leb 1 T some, lt-leb T 64 h) (refl, refl)

        module _ {r : Result BitPlace (Refusal BitPlace)} {t : List ℕ} (few : T ≤ 64)
            (done : (r ≡ past_told (linear_templates_at s T 0 T p)) × (t ≡ templates_filled s T 0 T p table)) where
          filled : t ≡ linear_filled s table
          unfolding linear_filled count_by
          filled = rw (le-leb (length s) 262144 short, count, le-leb 1 T some, le-leb T 64 few) done.1

          read : linear_read s ≡ then (linear_templates_at s T 0 T p) (λ ts q. nothing_more s q ts)
          unfolding linear_read then
          read = rw (le-leb (length s) 262144 short, count, le-leb 1 T some, le-leb T 64 few)

          pub templates_stop : {n : ℕ} {x : BitPlace} → r ≡ Err (refusal n x) → FileDone (Err (refusal n x)) t
          unfolding linear_told then
          templates_stop e = (rw (read, part_refused (linear_templates_at s T 0 T p) (sym done.0 ∙ e)), filled)

          module _ {q : BitPlace} {z : Result BitPlace (Refusal BitPlace)} (is : r ≡ Ok q) (ending : z ≡ past_told (nothing_more s q.0 (tt {0}))) where
            read_ending : (g : ReadPart (linear_templates_at s T 0 T p) q) → linear_read s ≡ nothing_more s q.0 g.part
            unfolding then
            read_ending g = rw (read, g.is)

            pub more_stop : {n : ℕ} {x : BitPlace} → z ≡ Err (refusal n x) → FileDone (Err (refusal n x)) t
            unfolding linear_told
            more_stop e =
                let g = part_told_lem (linear_templates_at s T 0 T p) (sym done.0 ∙ is) in
                (rw (read_ending g, (nothing_told g.part s q.0).set_read (sym ending ∙ e)), filled)

            pub file_done : {x : BitPlace} → z ≡ Ok x → FileDone (Ok T) t
            unfolding linear_told
            file_done e =
                let g = part_told_lem (linear_templates_at s T 0 T p) (sym done.0 ∙ is) in
                (rw (read_ending g, (nothing_told g.part s q.0).zero_read (sym ending ∙ e), (linears_read s T few T 0 p g.is).0), filled)

-- ---- whether the file is accepted, by what its reader told
pub checked_read : (g : Got (List Linear)) {n : ℕ} → linear_told g ≡ Ok n → Ok tt ≡ checked_told g
unfolding linear_told checked_told
checked_read (got ts q) h = refl
checked_read (refused n p) h = clash (cc)

pub checked_refused : (g : Got (List Linear)) {n number place : ℕ} {p : BitPlace} → linear_told g ≡ Err (refusal n p) → number ≡ n → place ≡ p.0
    → Err (refusal number place) ≡ checked_told g
unfolding linear_told checked_told
checked_refused (got ts q) h e f = clash (cc)
checked_refused (refused m z) h e f = rw (e, f, err_number h, ← (err_place h))
