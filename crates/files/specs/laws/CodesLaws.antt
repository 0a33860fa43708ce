-- The two columns of operand bytes agree where the rest of the list follows. Assumes nothing.
use Rattle.std.specs.Prelude.{ℕ, zero, suc, ◌-◌, ◌≤◌, ◌≡◌, Bool, true, cond, ◌&&◌, List, [], ◌∷◌, map, get_or, leb, eqb}
use Rattle.std.proofs.Math.Path.{refl}
use Rattle.std.proofs.Math.Bool.{and-eq-true_iff}
use borrow.Author.Tests.{leb-true, eqb-true}
use Rattle.cells.specs.laws.Laws.{clash}
use Rattle.files.specs.Codes.{CodeRow, codes, shape, shape_of, is_neutral, operands, operand_bytes}

-- ---- the columns
alike : List CodeRow → Bool
alike [] = true
alike (r ∷ rs) = cond (leb (shape r) 3) (eqb r.linear (shape r - 1)) true && alike rs

alike_at : (rs : List CodeRow) → alike rs ≡ true → (op : ℕ) → leb (get_or (map shape rs) op 6) 3 ≡ true
    → get_or (map (λ (r : CodeRow). r.linear) rs) op 0 ≡ get_or (map shape rs) op 6 - 1
unfolding alike
alike_at [] a op h = clash (cc)
alike_at (r ∷ rs) a zero h =
    eqb-true r.linear (shape r - 1) (rw h at ((and-eq-true_iff (cond (leb (shape r) 3) (eqb r.linear (shape r - 1)) true) (alike rs)).0 a).0)
alike_at (r ∷ rs) a (suc op) h = alike_at rs ((and-eq-true_iff (cond (leb (shape r) 3) (eqb r.linear (shape r - 1)) true) (alike rs)).0 a).1 op h

module _ (op : ℕ) (h : is_neutral op ≡ true) where
  pub neutral_alike : operand_bytes op ≡ operands op
  unfolding is_neutral operand_bytes operands shape_of alike
  neutral_alike = alike_at codes refl op ((and-eq-true_iff (leb 6 op) _).0 h).1

  pub neutral_six : 6 ≤ op
  unfolding is_neutral
  neutral_six = leb-true 6 op ((and-eq-true_iff (leb 6 op) _).0 h).0
