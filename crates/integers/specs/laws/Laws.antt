-- Bits and values correspond: `signed` and `int_bits` are inverse to each other between the bits below `full` and the numbers in range. Assumes nothing.
use Rattle.std.specs.Prelude.{◌≡◌, refl, Bool, true, false, ◌&&◌, List, ℕ, suc, ◌+◌, ◌-◌, ◌/◌, ◌≤◌, ◌<◌, ◌^◌, ℤ, pos, negsuc, ltb, Option, Some, None, Ok, Err}
use Rattle.std.proofs.Common.{sym, ◌∙◌, arith, lt-ltb, le-leb, ltb-true, ltb-false, leb-true}
use Rattle.std.specs.Int.Signed.{mag}
use Rattle.cells.specs.Cells.{half, full, widened, int_of}
use Rattle.cells.specs.laws.Laws.{widened_low, widened_high}
use Rattle.integers.specs.Integers.{signed_by, signed, within, int_bits, all_integers, total_of}
use Rattle.integers.specs.Answers.{ranged_of, sum_of, not_integers}

clash : ◌≡◌ {A = ℕ} 0 1 → ⊥
clash e = omega arith

-- ---- the value, by the highest bit
pub signed_low : (a : ℕ) → a < half → signed a ≡ pos a
unfolding signed
signed_low a h = let e : a / half ≡ 0 = omega arith in let k : a + 0 ≡ a = omega arith in rw (e, k)

pub signed_high : (a : ℕ) → half ≤ a → a < full → signed a ≡ negsuc (full - suc a)
unfolding signed
signed_high a h k = let e : a / half ≡ 1 = omega arith in rw (e, lt-ltb a full k)

-- ---- 32 bits that are widened mean the same number
pub widened_number : (x : ℕ) → x < 2 ^ 32 → signed (widened x) ≡ signed_by (2 ^ 31) x
widened_number x h = go (ltb x (2 ^ 31)) refl where
  go : (t : Bool) → ltb x (2 ^ 31) ≡ t → signed (widened x) ≡ signed_by (2 ^ 31) x
  go true e =
      let l : x < 2 ^ 31 = ltb-true x (2 ^ 31) e in
      let k : x / 2 ^ 31 ≡ 0 = omega arith in
      let z : x + 0 ≡ x = omega arith in
      rw (widened_low x l, signed_low x (omega arith), k, z)
  go false e =
      let l : 2 ^ 31 ≤ x = ltb-false x (2 ^ 31) e in
      let k : x / 2 ^ 31 ≡ 1 = omega arith in
      let n : full - suc (x + (full - 2 ^ 32)) ≡ 2 ^ 32 - suc x = omega arith in
      rw (widened_high x l h, signed_high (x + (full - 2 ^ 32)) (omega arith) (omega arith), k, lt-ltb x (2 ^ 32) h, n)

-- an integer's cell holds bits of this width
pub int_fits : (c : ℕ) → int_of c < full
int_fits c = omega arith

-- ---- in range is one bound
pub mag_within : (z : ℤ) → mag z < half → within z ≡ true
unfolding within
mag_within (pos n) h = rw (lt-ltb n half h)
mag_within (negsuc n) h = rw (le-leb n (half - 1) (omega arith))

pub within_mag : (z : ℤ) → within z ≡ true → mag z < half
unfolding within
within_mag (pos n) h = ltb-true n half h
within_mag (negsuc n) h = let k : n ≤ half - 1 = leb-true n (half - 1) (and_true _ h) in omega arith where
  and_true : (b : Bool) → (b && true) ≡ true → b ≡ true
  and_true true e = refl
  and_true false e = e

pub signed_mag : (a : ℕ) → a < full → mag (signed a) < half
signed_mag a h = go (ltb a half) refl where
  go : (t : Bool) → ltb a half ≡ t → mag (signed a) < half
  go true e = let l : a < half = ltb-true a half e in rw (signed_low a l) l
  go false e = let l : half ≤ a = ltb-false a half e in rw (signed_high a l h) (omega arith)

pub signed_within : (a : ℕ) → a < full → within (signed a) ≡ true
signed_within a h = mag_within (signed a) (signed_mag a h)

-- ---- there and back
pub bits_back : (a : ℕ) → a < full → int_bits (signed a) ≡ a
unfolding int_bits
bits_back a h = go (ltb a half) refl where
  go : (t : Bool) → ltb a half ≡ t → int_bits (signed a) ≡ a
  go true e = rw (signed_low a (ltb-true a half e))
  go false e = rw (signed_high a (ltb-false a half e) h) (omega arith)

pub bits_fit : (z : ℤ) → within z ≡ true → int_bits z < full
unfolding int_bits
bits_fit (pos n) w = let h = within_mag (pos n) w in omega arith
bits_fit (negsuc n) w = omega arith

pub signed_back : (z : ℤ) → within z ≡ true → signed (int_bits z) ≡ z
unfolding int_bits
signed_back (pos n) w = signed_low n (within_mag (pos n) w)
signed_back (negsuc n) w =
    let h : n < half = within_mag (negsuc n) w in
    let e : full - suc (full - suc n) ≡ n = omega arith in
    signed_high (full - suc n) (omega arith) (omega arith) ∙ rw e

-- only the bits 0 mean 0
pub signed_zero : (a : ℕ) → a < full → signed a ≡ pos 0 → a ≡ 0
unfolding int_bits
signed_zero a h e = sym (bits_back a h) ∙ rw e

-- ---- what an answer tells
pub told_within : (z : ℤ) (x : ℕ) → ranged_of z ≡ Some x → (within z ≡ true) × (int_bits z ≡ x)
unfolding ranged_of
told_within z x h = go (within z) refl where
  go : (t : Bool) → within z ≡ t → (within z ≡ true) × (int_bits z ≡ x)
  go true e = let k : Some (int_bits z) ≡ Some x = rw e at h in (e, cc)
  go false e = let k : None ≡ Some x = rw e at h in let n : ◌≡◌ {A = ℕ} 0 1 = cc in absurd (clash n)

pub told_over : (z : ℤ) → ranged_of z ≡ None → within z ≡ false
unfolding ranged_of
told_over z h = go (within z) refl where
  go : (t : Bool) → within z ≡ t → within z ≡ false
  go true e = let k : Some (int_bits z) ≡ None = rw e at h in let n : ◌≡◌ {A = ℕ} 0 1 = cc in absurd (clash n)
  go false e = e

pub told_exactly : (cs : List ℕ) (r : Option ℕ) → sum_of cs ≡ Ok r → (all_integers cs ≡ true) × (ranged_of (total_of cs) ≡ r)
unfolding sum_of
told_exactly cs r h = go (all_integers cs) refl where
  go : (t : Bool) → all_integers cs ≡ t → (all_integers cs ≡ true) × (ranged_of (total_of cs) ≡ r)
  go true e = let k : Ok (ranged_of (total_of cs)) ≡ Ok r = rw e at h in (e, cc)
  go false e = let k : Err not_integers ≡ Ok r = rw e at h in let n : ◌≡◌ {A = ℕ} 0 1 = cc in absurd (clash n)

pub told_not_integers : (cs : List ℕ) → sum_of cs ≡ Err not_integers → all_integers cs ≡ false
unfolding sum_of
told_not_integers cs h = go (all_integers cs) refl where
  go : (t : Bool) → all_integers cs ≡ t → all_integers cs ≡ false
  go true e = let k : Ok (ranged_of (total_of cs)) ≡ Err not_integers = rw e at h in let n : ◌≡◌ {A = ℕ} 0 1 = cc in absurd (clash n)
  go false e = e

-- the bits that a function answers are below `full`
pub answer_fits : (z : ℤ) (x : ℕ) → ranged_of z ≡ Some x → x < full
answer_fits z x h = let k = told_within z x h in rw k.1 at (bits_fit z k.0)
