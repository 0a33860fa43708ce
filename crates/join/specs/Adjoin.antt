-- Open-adjoin (document 000, 3.1), and where in the first list the second goes.
use Rattle.std.specs.Prelude.{ℕ, suc, ◌+◌, ◌*◌, List, [], ◌++◌, length}
use Rattle.files.specs.Code.{Code, done, neutral, return, call, unless_false, make_cont, bits}
use Rattle.files.specs.Linear.{bits_of}
use Rattle.tree_file.specs.File.{operands_bits, list_bits}

-- y and then w: behind the last neutral, or in the saved list of the make-cont whose saved list is open or empty, and so on inwards; arms are never
-- entered. The report defines it for open y, and for the empty list as far as that is a saved list. No other list is asked for: of one that is neither
-- open nor empty the clauses for return and call say only where its end is.
unfoldable pub open_adjoin : Code → Code → Code
open_adjoin done w = w
open_adjoin (neutral op ns y) w = neutral op ns (open_adjoin y w)
open_adjoin (return y) w = return (open_adjoin y w)
open_adjoin (call n y) w = call n (open_adjoin y w)
open_adjoin (unless_false y₁ y₂ y) w = unless_false y₁ y₂ (open_adjoin y w)
open_adjoin (make_cont n y b) w = make_cont n (open_adjoin y w) b

-- ---- the joint: where w goes
-- how many bits of y stand before it
unfoldable pub joint_bits : Code → ℕ
joint_bits done = 0
joint_bits (neutral op ns y) = 5 + 8 * length ns + joint_bits y
joint_bits (return y) = 5 + joint_bits y
joint_bits (call n y) = 13 + joint_bits y
joint_bits (unless_false y₁ y₂ y) = 5 + bits y₁ + bits y₂ + joint_bits y
joint_bits (make_cont n y b) = 13 + joint_bits y

-- in how many saved lists it lies
unfoldable pub joint_depth : Code → ℕ
joint_depth done = 0
joint_depth (neutral op ns y) = joint_depth y
joint_depth (return y) = joint_depth y
joint_depth (call n y) = joint_depth y
joint_depth (unless_false y₁ y₂ y) = joint_depth y
joint_depth (make_cont n y b) = suc (joint_depth y)

-- the bits before it, and those behind it
unfoldable pub front_bits : Code → List ℕ
front_bits done = []
front_bits (neutral op ns y) = (bits_of 5 op ++ operands_bits ns) ++ front_bits y
front_bits (return y) = bits_of 5 1 ++ front_bits y
front_bits (call n y) = (bits_of 5 2 ++ bits_of 8 n) ++ front_bits y
front_bits (unless_false y₁ y₂ y) = (bits_of 5 3 ++ (list_bits y₁ ++ list_bits y₂)) ++ front_bits y
front_bits (make_cont n y b) = (bits_of 5 4 ++ bits_of 8 n) ++ front_bits y

unfoldable pub back_bits : Code → List ℕ
back_bits done = bits_of 5 0
back_bits (neutral op ns y) = back_bits y
back_bits (return y) = back_bits y
back_bits (call n y) = back_bits y
back_bits (unless_false y₁ y₂ y) = back_bits y
back_bits (make_cont n y b) = back_bits y ++ list_bits b
