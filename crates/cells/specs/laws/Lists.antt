-- A law of lists that the library has not. Assumes nothing.
use Rattle.std.specs.Prelude.{ℕ, suc, ◌+◌, ◌≡◌, refl, List, [], ◌∷◌, ◌++◌, length, set}
use Rattle.std.proofs.Common.{add-zero, add-suc, suc-add, ◌∙◌}
use Rattle.std.proofs.lemmas.List.Edits.{sets}

-- a run of stores in two parts
pub sets_append : (xs ys o : List ℕ) (i : ℕ) → sets o i (xs ++ ys) ≡ sets (sets o i xs) (i + length xs) ys
sets_append [] ys o i = rw add-zero refl
sets_append (x ∷ xs) ys o i = sets_append xs ys (set o i x) (suc i) ∙ rw (suc-add, add-suc) refl
