-- A clip's word, an i32, as an integer's bits. Assumes nothing.
use mathlib.Core.Path.{◌≡◌, refl, ◌∙◌}
use mathlib.Core.Bool.{true, false, true≢false}
use mathlib.Core.List.{List}
use Prim.Native.Nat.{ℕ, suc, ◌^◌, ◌<◌}
use native.Mathlib.Omega.{arith}
use borrow.Author.Tests.{le-ltb, ltb-true}
use lib.IntN.{ℤ, pos, negsuc, nat_abs, ◌+ℤ◌}
use lib.Signed.{mag, lt_z, non_neg}
use lib.Dec.{T}
use lib.ListN.{get_or}
use mir.Syntax.{w32, w64}
use mir.Val.{Fits, SFits, to_z, of_z}
use mir.Facts.{to_z-of_z}
use Rattle.cells.specs.Cells.{half, full}
use Rattle.integers.specs.Integers.{signed, int_bits}
use Rattle.integers.specs.laws.Laws.{mag_within, bits_fit, signed_back}

-- what is promised of a word's bits
abbrev pub Bits : ℕ → ℤ → Type 0
Bits r z = (r ≡ int_bits z) × ((r < full) × (signed r ≡ z))

not_below_zero : (n : ℕ) → n < 0 → ⊥
not_below_zero n h = omega arith

sum_negative : (z : ℤ) → mag z < half → lt_z z (pos 0) ≡ true → z +ℤ pos full ≡ pos (int_bits z)
unfolding int_bits
sum_negative (pos n) h e = absurd (not_below_zero n (ltb-true n 0 e))
sum_negative (negsuc n) h e = rw (le-ltb full (suc n) (omega arith))

bits_positive : (z : ℤ) → lt_z z (pos 0) ≡ false → z ≡ pos (int_bits z)
unfolding int_bits
bits_positive (pos n) e = refl
bits_positive (negsuc n) e = absurd (true≢false e)

pub word_fits : (clip : List ℤ) (n : ℕ) → mag (get_or clip n (pos 0)) < 2 ^ 31 → SFits w32 (get_or clip n (pos 0))
word_fits clip n h = record { sfits = h }

module _ {z : ℤ} (f : SFits w32 z) where
  near : mag z < half
  near = omega (arith, f.sfits)

  low : int_bits z < full
  low = bits_fit z (mag_within z near)

  is_bits : Bits (int_bits z) z
  is_bits = (refl, (low, signed_back z (mag_within z near)))

  pub word_wide : SFits w64 (to_z w32 (of_z w32 z))
  word_wide = rw (to_z-of_z f) (record { sfits = omega (arith, f.sfits) })

  -- ---- a negative word
  module _ (e : lt_z (to_z w32 (of_z w32 z)) (pos 0) ≡ true) where
    total : to_z w64 (of_z w64 (to_z w32 (of_z w32 z))) +ℤ pos full ≡ pos (int_bits z)
    total = rw (to_z-of_z word_wide, to_z-of_z f) (sum_negative z near (rw (to_z-of_z f) at e))

    pub sum_fits : SFits w64 (to_z w64 (of_z w64 (to_z w32 (of_z w32 z))) +ℤ pos full)
    sum_fits = rw total (record { sfits = omega (arith, low) })

    sum_is : to_z w64 (of_z w64 (to_z w64 (of_z w64 (to_z w32 (of_z w32 z))) +ℤ pos full)) ≡ pos (int_bits z)
    sum_is = to_z-of_z sum_fits ∙ total

    pub sum_cast : T (non_neg (to_z w64 (of_z w64 (to_z w64 (of_z w64 (to_z w32 (of_z w32 z))) +ℤ pos full))))
        × Fits w64 (nat_abs (to_z w64 (of_z w64 (to_z w64 (of_z w64 (to_z w32 (of_z w32 z))) +ℤ pos full))))
    sum_cast = rw sum_is (tt, record { fits = omega (arith, low) })

    pub negative_bits : Bits (nat_abs (to_z w64 (of_z w64 (to_z w64 (of_z w64 (to_z w32 (of_z w32 z))) +ℤ pos full)))) z
    negative_bits = rw sum_is is_bits

  -- ---- another
  module _ (e : lt_z (to_z w32 (of_z w32 z)) (pos 0) ≡ false) where
    same : to_z w32 (of_z w32 z) ≡ pos (int_bits z)
    same = to_z-of_z f ∙ bits_positive z (rw (to_z-of_z f) at e)

    pub positive_cast : T (non_neg (to_z w32 (of_z w32 z))) × Fits w64 (nat_abs (to_z w32 (of_z w32 z)))
    positive_cast = rw same (tt, record { fits = omega (arith, low) })

    pub positive_bits : Bits (nat_abs (to_z w32 (of_z w32 z))) z
    positive_bits = rw same is_bits
