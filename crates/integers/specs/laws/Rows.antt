-- Rows of document 02, Ask 1: division toward minus infinity; and totals, in which a partial one may be out of range. Assumes nothing.
use Rattle.std.specs.Prelude.{◌≡◌, refl, true, false, [], ◌∷◌, suc, ◌-◌, ℤ, pos, negsuc, Some, None, Ok, Err}
use Rattle.std.proofs.Common.{ap}
use Rattle.std.proofs.Math.Nat.{zero-div}
use Rattle.std.specs.Int.Signed.{lt_z}
use Rattle.cells.specs.Cells.{half, full, int_cell, true_cell}
use Rattle.integers.specs.Integers.{signed, within, int_bits, all_integers, total_of, floor_quotient}
use Rattle.integers.specs.Answers.{ranged_of, sum_of, not_integers}

-- -7 is negsuc 6
quotients : (floor_quotient (negsuc 6) (pos 2) ≡ negsuc 3) × (floor_quotient (pos 7) (negsuc 1) ≡ negsuc 3)
    × (floor_quotient (negsuc 6) (negsuc 1) ≡ pos 3) × (floor_quotient (pos 7) (pos 2) ≡ pos 3)
    × (floor_quotient (negsuc 5) (pos 3) ≡ negsuc 1) × (floor_quotient (pos 6) (negsuc 2) ≡ negsuc 1)
unfolding floor_quotient
quotients = (refl, refl, refl, refl, refl, refl)

zero_by : (b : ℤ) → floor_quotient (pos 0) b ≡ pos 0
unfolding floor_quotient
zero_by (pos b) = ap pos (zero-div b)
zero_by (negsuc b) = ap pos (zero-div (suc b))

-- the least integer has the bits `half`: by 1 it is itself, by -1 over
least : (ranged_of (floor_quotient (signed half) (signed 1)) ≡ Some half) × (ranged_of (floor_quotient (signed half) (signed (full - 1))) ≡ None)
unfolding floor_quotient signed within int_bits ranged_of
least = (refl, refl)

-- -1 is less than 0, and 0 not less than -1
order : (lt_z (signed (full - 1)) (signed 0) ≡ true) × (lt_z (signed 0) (signed (full - 1)) ≡ false)
unfolding signed
order = (refl, refl)

-- the largest and 1 are over; with -1 the total is in range
totals : (sum_of (int_cell (half - 1) ∷ int_cell 1 ∷ []) ≡ Ok None)
    × (sum_of (int_cell (half - 1) ∷ int_cell 1 ∷ int_cell (full - 1) ∷ []) ≡ Ok (Some (half - 1)))
    × (sum_of [] ≡ Ok (Some 0)) × (sum_of (int_cell 1 ∷ true_cell ∷ []) ≡ Err not_integers)
unfolding signed within int_bits ranged_of all_integers total_of sum_of
totals = (refl, refl, refl, refl)
