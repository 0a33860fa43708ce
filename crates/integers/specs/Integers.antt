-- Integers (document 01, 'Cells' and 'Rules'): two's complement of one width, `half` and `full` of cells.
use Rattle.std.specs.Prelude.{◌≡◌, Bool, true, false, cond, ◌&&◌, List, [], ◌∷◌, ℕ, suc, ◌-◌, ◌*◌, ◌/◌, ℤ, pos, negsuc, neg_ℤ, ◌+ℤ◌, ◌-ℤ◌, ◌*ℤ◌, eqb}
use Rattle.std.specs.Int.Signed.{le_z, lt_z, shr_z}
use Rattle.cells.specs.Cells.{half, full, tag_of, int_of}

-- the value of the bits x, below 2 * h: x, or x - 2 * h where the highest bit, worth h, is set
abbrev pub signed_by : ℕ → ℕ → ℤ
signed_by h x = pos x -ℤ pos (2 * h * (x / h))

-- the value of an integer's bits, below `full`
unfoldable pub signed : ℕ → ℤ
signed x = signed_by half x

-- in the signed range
unfoldable pub within : ℤ → Bool
within z = le_z (neg_ℤ (pos half)) z && lt_z z (pos half)

-- the bits of such a number
unfoldable pub int_bits : ℤ → ℕ
int_bits (pos n) = n
int_bits (negsuc n) = full - suc n

unfoldable pub is_zero : ℤ → Bool
is_zero (pos n) = eqb n 0
is_zero (negsuc n) = false

-- ---- of a list of cells
unfoldable pub all_integers : List ℕ → Bool
all_integers [] = true
all_integers (c ∷ cs) = cond (eqb (tag_of c) 6) (all_integers cs) false

-- the exact total
unfoldable pub total_of : List ℕ → ℤ
total_of [] = pos 0
total_of (c ∷ cs) = signed (int_of c) +ℤ total_of cs

-- ---- division toward minus infinity
-- what is left lies between 0 and the divisor, and may be 0
unfoldable pub left_by : ℤ → ℤ → Bool
left_by (pos b) r = le_z (pos 0) r && lt_z r (pos b)
left_by (negsuc b) r = lt_z (negsuc b) r && le_z r (pos 0)

-- q is the quotient of a by b toward minus infinity. There is one where b is not 0, and only one (Floor.antt)
pub record Floor (a b q : ℤ) : Type 0 where
  pub left : ℤ
  pub is : a ≡ q *ℤ b +ℤ left
  pub fits : left_by b left ≡ true

-- that one: `shr_z` rounds down
unfoldable pub floor_quotient : ℤ → ℤ → ℤ
floor_quotient a (pos b) = shr_z a b
floor_quotient a (negsuc b) = shr_z (neg_ℤ a) (suc b)
