-- What a tree file is refused for, or accepted as, by what its reader answers: 1 to 7, and with 24. Assumes nothing.
use Prim.Native.Nat.{ℕ, zero, suc, ◌+◌, ◌-◌, ◌/◌, ◌%◌, ◌≤◌, ◌<◌}
use native.Mathlib.Omega.{arith}
use Rattle.std.specs.Prelude.{◌≡◌, Bool, true, false, cond, ◌||◌, List, [], ◌∷◌, eqb, length, Ok, Err}
use Rattle.std.proofs.Math.Path.{refl, sym, ap}
use Rattle.std.proofs.Common.{ap₂, ◌∙◌}
use Rattle.std.proofs.Math.Option.{Option, none, some}
use borrow.Author.Tests.{eq-eqb, ne_eqb}
use Rattle.cells.specs.laws.Laws.{clash}
use Rattle.cells.specs.declared.BitPlace.{BitPlace}
use Rattle.files.specs.Reading.{Got, got, refused}
use Rattle.files.specs.Entries.{then}
use Rattle.files.specs.Tree.{Template, tree_read}
use Rattle.files.specs.Grammar.{lowest, closed_template, indexed_template}
use Rattle.files.specs.Orphans.{closure_names, lowest_number, lowest_orphan}
use Rattle.files.specs.Accepted.{or_lowest, tree_checked, tree_accepted}
use Rattle.files.specs.laws.AcceptedLaws.{checked_read}
use Rattle.files.specs.laws.AllGot.{tree_read_lem}
use Rattle.lists.specs.Sets.{has}
use Rattle.lists.specs.laws.SetsLaws.{has_none, has_unite}
use Rattle.lists.specs.laws.SlotLaws.{closes_has}
use Rattle.tree.specs.declared.Summary.{Summary}
use Rattle.tree.specs.Summary.{number_or64, closes_of, summary_of, tree_told, lowest_missing, judged_told}
use Rattle.files.specs.Refusal.{refusal}
use Rattle.files.specs.laws.RefusalLaws.{err_number, err_place}

-- ---- what was told was read
pub record ReadAs (g : Got (List Template)) (m : Summary) : Type 0 where
  pub templates : List Template
  pub past : ℕ
  pub is : g ≡ got templates past
  pub summary : summary_of templates ≡ m

pub tree_told_lem : (g : Got (List Template)) {m : Summary} → tree_told g ≡ Ok m → ReadAs g m
unfolding tree_told
tree_told_lem (got ts q) h = record { templates = ts; past = q; is = refl; summary = cc }
tree_told_lem (refused n z) h = clash (cc)

pub judged_told_lem : (g : Got (List Template)) {m : Summary} → judged_told g ≡ Ok m → ReadAs g m
unfolding judged_told
judged_told_lem (got ts q) h = record { templates = ts; past = q; is = refl; summary = cc }
judged_told_lem (refused n z) h = clash (cc)

pub judged_refused : (g : Got (List Template)) {n p : ℕ} → judged_told g ≡ Err (refusal n p) → g ≡ refused n p
unfolding judged_told
judged_refused (got ts z) h = clash (cc)
judged_refused (refused m z) {n} {p} h = rw (err_number h, err_place h)

-- ---- refused 1 to 5
tree_refused : (g : Got (List Template)) {n : ℕ} {p : BitPlace} → tree_told g ≡ Err (refusal n p) → g ≡ refused n p.0
unfolding tree_told
tree_refused (got ts z) h = clash (cc)
tree_refused (refused m z) {n} {p} h = rw (err_number h, ← (err_place h))

pub checked_refused : (s : List ℕ) {n : ℕ} {p : BitPlace} → tree_told (tree_read s) ≡ Err (refusal n p) → tree_checked s ≡ refused n p.0
unfolding tree_checked then
checked_refused s e = rw (tree_refused (tree_read s) e)

-- ---- the lowest template that a test refuses
pub number_some : (o : Option ℕ) → number_or64 o < 64 → o ≡ some (number_or64 o)
unfolding number_or64
number_some (some t) h = refl
number_some none h = absurd (omega arith)

pub number_none : (ok : Template → Bool) (n : ℕ) (ts : List Template) → n + length ts ≤ 64 → 64 ≤ number_or64 (lowest ok n ts) → lowest ok n ts ≡ none
unfolding number_or64 lowest
number_none ok n [] l h = refl
number_none ok n (t ∷ ts) l h = go (ok t) (number_none ok (n + 1) ts (omega arith)) h
  where
    go : (b : Bool) → (64 ≤ number_or64 (lowest ok (n + 1) ts) → lowest ok (n + 1) ts ≡ none) → 64 ≤ number_or64 (cond b (lowest ok (n + 1) ts) (some n))
        → cond b (lowest ok (n + 1) ts) (some n) ≡ none
    go true f h = f h
    go false f h = absurd (omega arith)

all_numbers : (ok : ℕ → Bool) (u n : ℕ) → u + n ≤ 64 → 64 ≤ number_or64 (lowest_number ok u n) → lowest_number ok u n ≡ none
unfolding number_or64 lowest_number
all_numbers ok u zero l h = refl
all_numbers ok u (suc n) l h = go (ok u) (all_numbers ok (u + 1) n (omega arith)) h
  where
    go : (b : Bool) → (64 ≤ number_or64 (lowest_number ok (u + 1) n) → lowest_number ok (u + 1) n ≡ none)
        → 64 ≤ number_or64 (cond b (lowest_number ok (u + 1) n) (some u)) → cond b (lowest_number ok (u + 1) n) (some u) ≡ none
    go true f h = f h
    go false f h = absurd (omega arith)

-- ---- a file that was read, by its summary m: 6 and 7
module _ (s : List ℕ) {m : Summary} (told : tree_told (tree_read s) ≡ Ok m) where
  file : ReadAs (tree_read s) m
  file = tree_told_lem (tree_read s) told

  few : 0 + length file.templates ≤ 64
  few = omega (arith, tree_read_lem s file.is)

  unclosed_is : number_or64 (lowest closed_template 0 file.templates) ≡ m.unclosed
  unfolding summary_of
  unclosed_is = ap (λ (x : Summary). x.unclosed) file.summary

  misnamed_is : number_or64 (lowest indexed_template 0 file.templates) ≡ m.misnamed
  unfolding summary_of
  misnamed_is = ap (λ (x : Summary). x.misnamed) file.summary

  pub judged_unclosed : m.unclosed < 64 → tree_checked s ≡ refused 6 m.unclosed
  unfolding tree_checked then or_lowest
  judged_unclosed h = rw (file.is, number_some (lowest closed_template 0 file.templates) (rw unclosed_is h), unclosed_is) refl

  module _ (closed : 64 ≤ m.unclosed) where
    pub judged_misnamed : m.misnamed < 64 → tree_checked s ≡ refused 7 m.misnamed
    unfolding tree_checked then or_lowest
    judged_misnamed h =
        rw (
          file.is,
          number_none closed_template 0 file.templates few (rw unclosed_is closed),
          number_some (lowest indexed_template 0 file.templates) (rw misnamed_is h),
          misnamed_is,
        ) refl

    pub judged_good : 64 ≤ m.misnamed → judged_told (tree_checked s) ≡ Ok m
    unfolding tree_checked then or_lowest judged_told
    judged_good named =
        rw (
          file.is,
          number_none closed_template 0 file.templates few (rw unclosed_is closed),
          number_none indexed_template 0 file.templates few (rw misnamed_is named),
        ) (ap Ok file.summary)

-- ---- 24
-- what is in the set of all templates is what their closures name
named_has : (ts : List Template) (u : ℕ) → has (closes_of ts) u ≡ closure_names ts u
unfolding closes_of closure_names
named_has [] u = has_none u
named_has (t ∷ ts) u = has_unite _ (closes_of ts) u ∙ ap₂ ◌||◌ (closes_has t.entries u t.code) (named_has ts u)

-- one number after the other, below T
module _ (set u T : ℕ) where
  pub missing_here : u < T → (set % 2 ≡ 1 → ⊥) → lowest_missing set u (T - u) ≡ u
  unfolding lowest_missing
  missing_here h n = let k : T - u ≡ suc (T - (u + 1)) = omega arith in rw (k, ne_eqb (set % 2) 1 n) refl

  pub missing_on : u < T → set % 2 ≡ 1 → lowest_missing set u (T - u) ≡ lowest_missing (set / 2) (u + 1) (T - (u + 1))
  unfolding lowest_missing
  missing_on h e = let k : T - u ≡ suc (T - (u + 1)) = omega arith in rw (k, eq-eqb (set % 2) 1 e) refl

  pub missing_none : T ≤ u → lowest_missing set u (T - u) ≡ 64
  unfolding lowest_missing
  missing_none h = let k : T - u ≡ 0 = omega arith in rw k refl

missing_is : (ok : ℕ → Bool) (set u n : ℕ) → ((t : ℕ) → has set t ≡ ok (u + t)) → lowest_missing set u n ≡ number_or64 (lowest_number ok u n)
unfolding lowest_missing lowest_number number_or64 has
missing_is ok set u zero h = refl
missing_is ok set u (suc n) h =
    let e : u + 0 ≡ u = omega arith in
    let here : eqb (set % 2) 1 ≡ ok u = rw e at (h 0) in
    let on = missing_is ok (set / 2) (u + 1) n (λ t. let k : u + suc t ≡ u + 1 + t = omega arith in rw k at (h (suc t))) in
    rw (here, on) (by (ok u))
  where
    by : (b : Bool) → cond b (number_or64 (lowest_number ok (u + 1) n)) u ≡ number_or64 (cond b (lowest_number ok (u + 1) n) (some u))
    by true = refl
    by false = refl

module _ (s : List ℕ) {m : Summary} (told : judged_told (tree_checked s) ≡ Ok m) where
  checked_file : ReadAs (tree_checked s) m
  checked_file = judged_told_lem (tree_checked s) told

  abbrev templates : List Template
  templates = checked_file.templates

  orphan_is : lowest_missing (m.closes / 2) 1 (m.count - 1) ≡ number_or64 (lowest_orphan templates)
  unfolding summary_of lowest_orphan has
  orphan_is =
      ap (λ (x : Summary). lowest_missing (x.closes / 2) 1 (x.count - 1)) (sym checked_file.summary)
      ∙ missing_is (closure_names templates) (closes_of templates / 2) 1 (length templates - 1)
      (λ t. let k : 1 + t ≡ suc t = omega arith in rw k (named_has templates (suc t)))

  module _ (low : ℕ) (is : low ≡ lowest_missing (m.closes / 2) 1 (m.count - 1)) where
    pub judged_orphan : low < 64 → tree_accepted s ≡ refused 24 low
    unfolding tree_accepted then or_lowest
    judged_orphan h =
        let k : number_or64 (lowest_orphan templates) ≡ low = sym (is ∙ orphan_is) in
        rw (checked_file.is, number_some (lowest_orphan templates) (rw k h), k) refl

    pub judged_accepted : 64 ≤ low → judged_told (tree_accepted s) ≡ Ok m
    unfolding tree_accepted then or_lowest judged_told lowest_orphan
    judged_accepted h =
        let few = tree_read_lem s (checked_read s templates checked_file.past checked_file.is) in
        let k : number_or64 (lowest_orphan templates) ≡ low = sym (is ∙ orphan_is) in
        rw (checked_file.is, all_numbers (closure_names templates) 1 (length templates - 1) (omega (arith, few)) (rw k h)) (ap Ok checked_file.summary)

-- what is refused without 24 is refused with it
pub accepted_refused : (s : List ℕ) {n p : ℕ} → tree_checked s ≡ refused n p → tree_accepted s ≡ refused n p
unfolding tree_accepted then
accepted_refused s e = rw e
