-- On the way a number is an i64: it fits, and what is judged in range is so. Assumes nothing.
use Rattle.std.specs.Prelude.{Some, None}
use mathlib.Core.Path.{◌≡◌, refl, sym, ◌∙◌}
use mathlib.Core.Bool.{Bool, true, false, true≢false, false≢true}
use Prim.Native.Nat.{ℕ, zero, suc, ◌+◌, ◌-◌, ◌≤◌, ◌<◌}
use native.Mathlib.Omega.{arith}
use borrow.Author.Tests.{lt-ltb, le-ltb, lt-leb, ltb-true, ltb-false}
use lib.IntN.{ℤ, pos, negsuc, neg_ℤ, nat_abs, sub_ℕ, ◌+ℤ◌, ◌-ℤ◌}
use lib.Signed.{mag, lt_z, non_neg}
use lib.Dec.{T, ltb}
use mir.Syntax.{w64}
use mir.Val.{Fits, SFits, to_z, of_z}
use mir.ValLaws.{to_z_pos}
use mir.Facts.{to_z-of_z}
use Rattle.cells.specs.Cells.{half, full}
use Rattle.integers.specs.Integers.{signed, within, int_bits}
use Rattle.integers.specs.Answers.{ranged_of}
use Rattle.integers.specs.laws.Laws.{signed_low, signed_high, signed_mag, mag_within, bits_fit}

not_below_zero : (n : ℕ) → n < 0 → ⊥
not_below_zero n h = omega arith

-- ---- how far a sum goes
mag_sub : (a b : ℕ) → mag (sub_ℕ a b) ≤ a + b
mag_sub a b = go (ltb a b) refl where
  go : (t : Bool) → ltb a b ≡ t → mag (sub_ℕ a b) ≤ a + b
  go true e = rw e (omega arith)
  go false e = rw e (omega arith)

pub mag_add : (x y : ℤ) → mag (x +ℤ y) ≤ mag x + mag y + 1
mag_add (pos a) (pos b) = omega arith
mag_add (pos a) (negsuc b) = omega (arith, mag_sub a (suc b))
mag_add (negsuc a) (pos b) = omega (arith, mag_sub b (suc a))
mag_add (negsuc a) (negsuc b) = omega arith

pub mag_neg : (y : ℤ) → mag (neg_ℤ y) ≤ mag y + 1
mag_neg (pos zero) = omega arith
mag_neg (pos (suc n)) = omega arith
mag_neg (negsuc n) = omega arith

-- ---- the value of bits, as `signed_value` promises it, by the highest bit
abbrev pub Value : ℕ → ℤ → Type 0
Value a z = (z ≡ signed a) × (mag z < half)

read_as_lem : (a : ℕ) → a < full → to_z w64 a ≡ pos a
read_as_lem a h = to_z_pos w64 a (omega arith)

value_of : (a : ℕ) (z : ℤ) → a < full → z ≡ signed a → Value a z
value_of a z h e = (e, rw e (signed_mag a h))

pub low_value : (a : ℕ) → a < half → Value a (to_z w64 a)
low_value a h = value_of a _ (omega arith) (read_as_lem a (omega arith) ∙ sym (signed_low a h))

module _ (a : ℕ) (h : half ≤ a) (k : a < full) where
  high_is : to_z w64 a -ℤ pos full ≡ negsuc (full - suc a)
  high_is = rw (read_as_lem a k, lt-ltb a full k)

  pub high_fits : SFits w64 (to_z w64 a -ℤ pos full)
  high_fits = rw high_is (record { sfits = omega arith })

  pub high_value : Value a (to_z w64 (of_z w64 (to_z w64 a -ℤ pos full)))
  high_value = value_of a _ k (to_z-of_z high_fits ∙ high_is ∙ sym (signed_high a h k))

-- ---- in range or over, by the tests of `in_range`
over_below : (z : ℤ) → lt_z z (neg_ℤ (pos half)) ≡ true → None ≡ ranged_of z
unfolding ranged_of within
over_below (pos n) e = absurd (false≢true e)
over_below (negsuc n) e = rw (lt-leb n (half - 1) (ltb-true (half - 1) n e))

over_above : (z : ℤ) → lt_z z (pos half) ≡ false → None ≡ ranged_of z
unfolding ranged_of within
over_above (pos n) e = rw e
over_above (negsuc n) e = absurd (true≢false e)

-- z is in range, and y is the number that its bits are
pub record Bits (z y : ℤ) : Type 0 where
  pub is : y ≡ pos (int_bits z)
  pub low : int_bits z < full
  pub answer : Some (int_bits z) ≡ ranged_of z

in_range : (z y : ℤ) → mag z < half → y ≡ pos (int_bits z) → Bits z y
unfolding ranged_of
in_range z y h e = let w = mag_within z h in record { is = e; low = bits_fit z w; answer = rw w }

bits_negative : (z : ℤ) → lt_z z (pos 0) ≡ true → lt_z z (neg_ℤ (pos half)) ≡ false → Bits z (z +ℤ pos full)
unfolding int_bits
bits_negative (pos n) e k = absurd (not_below_zero n (ltb-true n 0 e))
bits_negative (negsuc n) e k =
    let h : n ≤ half - 1 = ltb-false (half - 1) n k in
    in_range (negsuc n) _ (omega arith) (rw (le-ltb full (suc n) (omega arith)))

bits_positive : (z : ℤ) → lt_z z (pos 0) ≡ false → lt_z z (pos half) ≡ true → Bits z z
unfolding int_bits
bits_positive (pos n) e k = in_range (pos n) _ (ltb-true n half k) refl
bits_positive (negsuc n) e k = absurd (true≢false e)

module _ {z y : ℤ} (b : Bits z y) where
  pub bits_sfit : SFits w64 y
  bits_sfit = rw b.is (record { sfits = omega (arith, b.low) })

  pub bits_cast : T (non_neg (to_z w64 (of_z w64 y))) × Fits w64 (nat_abs (to_z w64 (of_z w64 y)))
  bits_cast = rw (to_z-of_z bits_sfit, b.is) (tt, record { fits = omega (arith, b.low) })

  pub bits_answer : Some (nat_abs (to_z w64 (of_z w64 y))) ≡ ranged_of z
  bits_answer = rw (to_z-of_z bits_sfit, b.is) b.answer

cast_positive : (z : ℤ) → SFits w64 z → lt_z z (pos 0) ≡ false → T (non_neg z) × Fits w64 (nat_abs z)
cast_positive (pos n) f e = (tt, record { fits = omega (arith, f.sfits) })
cast_positive (negsuc n) f e = absurd (true≢false e)

-- of an i64, as it is read
module _ {z : ℤ} (f : SFits w64 z) where
  pub positive_cast : lt_z (to_z w64 (of_z w64 z)) (pos 0) ≡ false → T (non_neg (to_z w64 (of_z w64 z))) × Fits w64 (nat_abs (to_z w64 (of_z w64 z)))
  positive_cast e = rw (to_z-of_z f) (cast_positive z f (rw (to_z-of_z f) at e))

  pub below : lt_z (to_z w64 (of_z w64 z)) (neg_ℤ (pos half)) ≡ true → None ≡ ranged_of z
  below e = over_below z (rw (to_z-of_z f) at e)

  pub above : lt_z (to_z w64 (of_z w64 z)) (pos half) ≡ false → None ≡ ranged_of z
  above e = over_above z (rw (to_z-of_z f) at e)

  pub negative : lt_z (to_z w64 (of_z w64 z)) (pos 0) ≡ true → lt_z (to_z w64 (of_z w64 z)) (neg_ℤ (pos half)) ≡ false → Bits z (to_z w64 (of_z w64 z) +ℤ pos full)
  negative e k = rw (to_z-of_z f) (bits_negative z (rw (to_z-of_z f) at e) (rw (to_z-of_z f) at k))

  pub positive : lt_z (to_z w64 (of_z w64 z)) (pos 0) ≡ false → lt_z (to_z w64 (of_z w64 z)) (pos half) ≡ true → Bits z z
  positive e k = bits_positive z (rw (to_z-of_z f) at e) (rw (to_z-of_z f) at k)

-- ---- values that are handed over as i64
pub value_again : (a : ℕ) (z : ℤ) → Value a z → to_z w64 (of_z w64 z) ≡ signed a
value_again a z v = to_z-of_z {w = w64} (record { sfits = omega (arith, v.1) }) ∙ v.0

module _ (a b : ℕ) (x y : ℤ) (v : Value a x) (w : Value b y) where
  exact : to_z w64 (of_z w64 x) -ℤ to_z w64 (of_z w64 y) ≡ signed a -ℤ signed b
  exact = rw (value_again a x v, value_again b y w)

  pub difference_fits : SFits w64 (to_z w64 (of_z w64 x) -ℤ to_z w64 (of_z w64 y))
  difference_fits =
      let h : mag (signed a) < half = rw v.0 at v.1 in
      let k : mag (signed b) < half = rw w.0 at w.1 in
      rw exact (record { sfits = omega (arith, mag_add (signed a) (neg_ℤ (signed b)), mag_neg (signed b)) })

  pub difference_is : to_z w64 (of_z w64 (to_z w64 (of_z w64 x) -ℤ to_z w64 (of_z w64 y))) ≡ signed a -ℤ signed b
  difference_is = to_z-of_z difference_fits ∙ exact
