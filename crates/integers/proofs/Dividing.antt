-- The quotient of two i64 as `floor_quotient` makes it. Assumes nothing.
use mathlib.Core.Path.{◌≡◌, refl, sym, ◌∙◌}
use mathlib.Core.Bool.{Bool, true, false, not}
use Prim.Native.Nat.{ℕ, zero, suc, ◌+◌, ◌-◌, ◌/◌, ◌^◌, ◌≤◌, ◌<◌}
use native.Mathlib.Nat.{div-le_self}
use native.Mathlib.Omega.{arith}
use borrow.Author.Tests.{ne_eqb}
use lib.IntN.{ℤ, pos, negsuc, neg_ℤ, nat_abs, ◌+ℤ◌, ◌-ℤ◌}
use lib.Signed.{mag, quot_z, rem_z, mag_rem, mag_shr}
use lib.Dec.{eqb}
use mir.Syntax.{w64}
use mir.Val.{SFits, to_z, of_z}
use mir.Facts.{to_z-of_z}
use Rattle.cells.specs.Cells.{half, full}
use Rattle.integers.specs.Integers.{signed, floor_quotient}
use Rattle.integers.specs.laws.Laws.{signed_zero}
use Rattle.integers.specs.laws.Floor.{differ, left_over, corrected, corrected_is}
use Rattle.integers.proofs.Exact.{mag_add, mag_neg, Value, value_again}

mag_quot : (x y : ℤ) → mag (quot_z x y) ≤ mag x + 2
mag_quot (pos a) (pos b) = omega (arith, div-le_self a b)
mag_quot (pos a) (negsuc b) = omega (arith, mag_neg (pos (a / suc b)), div-le_self a (suc b))
mag_quot (negsuc a) (pos b) = omega (arith, mag_neg (pos (suc a / b)), div-le_self (suc a) b)
mag_quot (negsuc a) (negsuc b) = omega (arith, div-le_self (suc a) (suc b))

-- bits are 0 where the number is
zero_bits_lem : (z : ℤ) → SFits w64 z → eqb (of_z w64 z) 0 ≡ eqb (nat_abs z) 0
zero_bits_lem (pos n) f = refl
zero_bits_lem (negsuc n) f = ne_eqb (2 ^ 64 - suc n) 0 (λ e. omega (arith, f.sfits)) ∙ sym (ne_eqb (suc n) 0 (λ e. omega arith))

above_zero : (y : ℤ) → SFits w64 y → (y ≡ pos 0 → ⊥) → 0 < of_z w64 y
above_zero (pos zero) f h = absurd (h refl)
above_zero (pos (suc n)) f h = omega arith
above_zero (negsuc n) f h = omega (arith, f.sfits)

-- x by y, y not 0, each as it is read
module _ {x y : ℤ} (f : SFits w64 x) (g : SFits w64 y) (h : mag x < half) (nonzero : y ≡ pos 0 → ⊥) where
  quotient : quot_z (to_z w64 (of_z w64 x)) (to_z w64 (of_z w64 y)) ≡ quot_z x y
  quotient = rw (to_z-of_z f, to_z-of_z g)

  pub divides : (0 < of_z w64 y) × SFits w64 (quot_z (to_z w64 (of_z w64 x)) (to_z w64 (of_z w64 y)))
  divides = (above_zero y g nonzero, rw quotient (record { sfits = omega (arith, mag_quot x y) }))

  again : to_z w64 (of_z w64 (quot_z (to_z w64 (of_z w64 x)) (to_z w64 (of_z w64 y)))) ≡ quot_z x y
  again = to_z-of_z divides.1 ∙ quotient

  pub next_fits : (k : ℤ) → mag k ≤ 1 → SFits w64 (to_z w64 (of_z w64 (quot_z (to_z w64 (of_z w64 x)) (to_z w64 (of_z w64 y)))) +ℤ k)
  next_fits k l = rw again (record { sfits = omega (arith, mag_quot x y, mag_add (quot_z x y) k) })

  signs : {t : Bool} → differ (to_z w64 (of_z w64 x)) (to_z w64 (of_z w64 y)) ≡ t → differ x y ≡ t
  signs e = rw (to_z-of_z f, to_z-of_z g) at e

  remainder : {t : Bool} → not (eqb (of_z w64 (rem_z (to_z w64 (of_z w64 x)) (to_z w64 (of_z w64 y)))) 0) ≡ t → left_over x y ≡ t
  remainder e =
      let k : SFits w64 (rem_z x y) = record { sfits = omega (arith, mag_rem x y) } in
      rw (to_z-of_z f, to_z-of_z g, zero_bits_lem (rem_z x y) k) at e

  pub one_less : differ (to_z w64 (of_z w64 x)) (to_z w64 (of_z w64 y)) ≡ true
      → not (eqb (of_z w64 (rem_z (to_z w64 (of_z w64 x)) (to_z w64 (of_z w64 y)))) 0) ≡ true
      → to_z w64 (of_z w64 (to_z w64 (of_z w64 (quot_z (to_z w64 (of_z w64 x)) (to_z w64 (of_z w64 y)))) -ℤ pos 1)) ≡ floor_quotient x y
  unfolding corrected
  one_less d e = to_z-of_z (next_fits (negsuc 0) (omega arith)) ∙ rw again (rw (signs d, remainder e) at (corrected_is x y nonzero))

  pub alike : differ (to_z w64 (of_z w64 x)) (to_z w64 (of_z w64 y)) ≡ false
      → to_z w64 (of_z w64 (quot_z (to_z w64 (of_z w64 x)) (to_z w64 (of_z w64 y)))) ≡ floor_quotient x y
  unfolding corrected
  alike d = again ∙ rw (signs d) at (corrected_is x y nonzero)

  pub evenly : differ (to_z w64 (of_z w64 x)) (to_z w64 (of_z w64 y)) ≡ true
      → not (eqb (of_z w64 (rem_z (to_z w64 (of_z w64 x)) (to_z w64 (of_z w64 y)))) 0) ≡ false
      → to_z w64 (of_z w64 (quot_z (to_z w64 (of_z w64 x)) (to_z w64 (of_z w64 y)))) ≡ floor_quotient x y
  unfolding corrected
  evenly d e = again ∙ rw (signs d, remainder e) at (corrected_is x y nonzero)

-- ---- of two integers, as `floor_div` hands them over
mag_floor : (x y : ℤ) → mag (floor_quotient x y) ≤ mag x + 1
unfolding floor_quotient
mag_floor x (pos b) = omega (arith, mag_shr x b)
mag_floor x (negsuc b) = omega (arith, mag_shr (neg_ℤ x) (suc b), mag_neg x)

module _ (a b : ℕ) (x y : ℤ) (v : Value a x) (w : Value b y) where
  pub asked : b < full → (b ≡ 0 → ⊥) → (mag (to_z w64 (of_z w64 x)) < half) × (to_z w64 (of_z w64 y) ≡ pos 0 → ⊥)
  asked l nonzero = rw (value_again a x v, value_again b y w) (rw v.0 at v.1, λ e. nonzero (signed_zero b l e))

  pub floor_value : (q : ℤ) → q ≡ floor_quotient (to_z w64 (of_z w64 x)) (to_z w64 (of_z w64 y)) → to_z w64 (of_z w64 q) ≡ floor_quotient (signed a) (signed b)
  floor_value q e =
      let h : mag (signed a) < half = rw v.0 at v.1 in
      let is : q ≡ floor_quotient (signed a) (signed b) = e ∙ rw (value_again a x v, value_again b y w) in
      rw is (to_z-of_z {w = w64} (record { sfits = omega (arith, mag_floor (signed a) (signed b)) }))
