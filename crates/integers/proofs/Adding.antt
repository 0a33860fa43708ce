-- A total grows by one cell: the answer, where `total` is summed up and cs are left. Assumes nothing.
use Rattle.std.specs.Prelude.{Option, Result, Ok, Err}
use mathlib.Core.Path.{◌≡◌, ◌∙◌}
use mathlib.Core.Bool.{cond}
use mathlib.Core.List.{List}
use Prim.Native.Nat.{ℕ, ◌+◌, ◌*◌, ◌≤◌, ◌<◌}
use native.Mathlib.Numerals.{add-one}
use native.Mathlib.Omega.{arith}
use borrow.Author.Tests.{eq-eqb, ne_eqb}
use lib.IntN.{ℤ, pos, ◌+ℤ◌, +ℤ_assoc, +ℤ_idl, +ℤ_idr}
use lib.Signed.{mag}
use mir.Syntax.{w64}
use mir.Val.{SFits, to_z, of_z}
use mir.Facts.{to_z-of_z}
use lib.ListN.{length, get_or}
use lib.Seq.{slice, slice-cons, slice_empty}
use Rattle.cells.specs.Cells.{half, tag_of, int_of}
use Rattle.integers.specs.Integers.{signed, all_integers, total_of}
use Rattle.integers.specs.Answers.{ranged_of, sum_of, not_integers}
use Rattle.integers.proofs.Exact.{Value, value_again, mag_add}
use Rattle.integers.specs.declared.NotIntegers.{NotIntegers}

unfoldable pub sum_from : ℤ → List ℕ → Result (Option ℕ) NotIntegers
sum_from total cs = cond (all_integers cs) (Ok (ranged_of (total +ℤ total_of cs))) (Err not_integers)

pub sum_start : (cs : List ℕ) → sum_from (pos 0) cs ≡ sum_of cs
unfolding sum_from sum_of
sum_start cs = rw (+ℤ_idl (total_of cs))

module _ (total : ℤ) (s : List ℕ) (i n : ℕ) where
  pub sum_on : i < n → n ≤ length s → tag_of (get_or s i 0) ≡ 6
      → sum_from total (slice i n s) ≡ sum_from (total +ℤ signed (int_of (get_or s i 0))) (slice (i + 1) n s)
  unfolding sum_from all_integers total_of
  sum_on h l e =
      rw (slice-cons i n s 0 h l, eq-eqb (tag_of (get_or s i 0)) 6 e, add-one i, +ℤ_assoc total (signed (int_of (get_or s i 0))))

  pub sum_other : i < n → n ≤ length s → (tag_of (get_or s i 0) ≡ 6 → ⊥) → sum_from total (slice i n s) ≡ Err not_integers
  unfolding sum_from all_integers
  sum_other h l e = rw (slice-cons i n s 0 h l, ne_eqb (tag_of (get_or s i 0)) 6 e)

  pub sum_done : i ≤ n → n ≤ i → sum_from total (slice i n s) ≡ Ok (ranged_of total)
  unfolding sum_from all_integers total_of
  sum_done h l = let e : i ≡ n = omega arith in rw (e, slice_empty n s, +ℤ_idr total)

-- ---- no i64 overflows
-- t is what i integers can sum up to
pub record Near (t : ℤ) (i : ℕ) : Type 0 where
  pub bound : mag t ≤ i * half

-- one more fits, for there are at most 256: also where each has 48 bits
module _ {t : ℤ} {i : ℕ} (near : Near t i) (few : i < 256) (a : ℕ) (x : ℤ) (v : Value a x) where
  more : t +ℤ to_z w64 (of_z w64 x) ≡ t +ℤ signed a
  more = rw (value_again a x v)

  near_value : mag (signed a) < half
  near_value = rw v.0 at v.1

  pub sum_fits : SFits w64 (t +ℤ to_z w64 (of_z w64 x))
  sum_fits = rw more (record { sfits = omega (arith, mag_add t (signed a), near_value) })

  pub sum_is : to_z w64 (of_z w64 (t +ℤ to_z w64 (of_z w64 x))) ≡ t +ℤ signed a
  sum_is = to_z-of_z sum_fits ∙ more

  pub sum_near : Near (to_z w64 (of_z w64 (t +ℤ to_z w64 (of_z w64 x)))) (i + 1)
  sum_near = record { bound = rw sum_is (omega (arith, mag_add t (signed a), near_value)) }
