-- Laws for the search through the globals, and for a list that is zeroed whole. Assumes nothing.
use Prim.Native.Nat.{ℕ, ◌+◌, ◌<◌, ◌≤◌}
use mathlib.Core.Path.{◌≡◌, refl, sym, ap, ◌∙◌}
use mathlib.Core.Bool.{Bool, true, false, not, cond}
use mathlib.Core.List.{List, [], ◌∷◌}
use mathlib.Core.Option.{Option, none, some}
use native.Mathlib.Numerals.{add-one}
use lib.ListN.{length, get_or, drop, drop_of_length-le}
use lib.Seq.{drop-cons}
use Rattle.std.specs.Prelude.{Option as OrNone, None, Some, Ok, Err}
use Rattle.std.specs.List.{position, position_from}
use Rattle.std.proofs.lemmas.Iterator.Adapters.{position_from-zero}
use Rattle.cells.specs.laws.Laws.{clash}
use Rattle.cells.specs.Cells.{starting_global}
use Rattle.machines.specs.Runs.{lowest_unfit}
use Rattle.machines.specs.Start.{globals_refusal}
use Rattle.files.specs.Refusal.{refusal as why}

-- one turn of the search, at global i: what is left to look at answers what it answered before
module _ {goal : OrNone ℕ} (g : List ℕ) (i : ℕ) (h : position_from (λ c. not (starting_global c)) i (drop i g) ≡ goal) where
  pub unfit_here : (b : Bool) → i < length g → b ≡ starting_global (get_or g i 0) → b ≡ false → Some i ≡ goal
  unfit_here b l e k = rw (sym e ∙ k) at (rw (drop-cons g i 0 l) at h)

  pub unfit_later : (b : Bool) → i < length g → b ≡ starting_global (get_or g i 0) → b ≡ true
      → position_from (λ c. not (starting_global c)) (i + 1) (drop (i + 1) g) ≡ goal
  unfit_later b l e k =
      ap (λ (n : ℕ). position_from (λ c. not (starting_global c)) (i + 1) (drop n g)) (add-one i) ∙ rw (sym e ∙ k) at (rw (drop-cons g i 0 l) at h)

  pub all_fit : length g ≤ i → None ≡ goal
  all_fit l = rw (drop_of_length-le g l) at h

-- the lowest global by its place, as a search for it answers
told : Option ℕ → OrNone ℕ
told none = None
told (some i) = Some i

unfit_from : (g : List ℕ) (n : ℕ) → position_from (λ c. not (starting_global c)) n g ≡ told (lowest_unfit n g)
unfolding lowest_unfit told
unfit_from [] n = refl
unfit_from (c ∷ g) n = by (starting_global c) (lowest_unfit (n + 1) g) (unfit_from g (n + 1))
  where
    by : (b : Bool) {x : OrNone ℕ} (o : Option ℕ) → x ≡ told o → cond (not b) (Some n) x ≡ told (cond b o (some n))
    by true o h = h
    by false o h = refl

module _ (g : List ℕ) (x : OrNone ℕ) (e : x ≡ position (λ c. not (starting_global c)) g) where
  answer : x ≡ told (lowest_unfit 0 g)
  answer = e ∙ position_from-zero (λ c. not (starting_global c)) g ∙ unfit_from g 0

  pub unfit_found : (i : ℕ) → x ≡ Some i → Err (why 22 i) ≡ globals_refusal (lowest_unfit 0 g)
  unfolding globals_refusal told
  unfit_found i h = by (lowest_unfit 0 g) (sym h ∙ answer)
    where
      by : (o : Option ℕ) → Some i ≡ told o → Err (why 22 i) ≡ globals_refusal o
      by none k = clash (cc)
      by (some j) k = let z : i ≡ j = cc in rw z

  pub unfit_nowhere : x ≡ None → Ok tt ≡ globals_refusal (lowest_unfit 0 g)
  unfolding globals_refusal told
  unfit_nowhere h = by (lowest_unfit 0 g) (sym h ∙ answer)
    where
      by : (o : Option ℕ) → None ≡ told o → Ok tt ≡ globals_refusal o
      by none k = refl
      by (some j) k = clash (cc)
