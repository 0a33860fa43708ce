-- Decimals: io's digits are those of a number, and how many there are. Assumes nothing.
use Prim.Native.Nat.{ℕ, zero, suc, ◌+◌, ◌-◌, ◌/◌, ◌%◌, ◌^◌, ◌≤◌, ◌<◌}
use native.Mathlib.Omega.{arith}
use native.Mathlib.Nat.{pow-suc, pow-le-pow_right}
use mathlib.Core.Path.{◌≡◌, refl}
use mathlib.Core.List.{[]}
use mathlib.Core.Bool.{Bool, true, false}
use borrow.Author.Tests.{lt-ltb, ltb-true, ltb-false}
use lib.Dec.{ltb}
use Rattle.io.specs.Digits.{last_digits, hex_digit_ascii, IsDigitCount}
use Rattle.text.specs.Text.{digits_within, decimal}

-- n has exactly k digits; 0 has none
abbrev Exactly : ℕ → ℕ → Type 0
Exactly zero n = n ≡ 0
Exactly (suc k) n = (10 ^ k ≤ n) × (n < 10 ^ suc k)

exactly_next : (k n : ℕ) → Exactly (suc k) n → Exactly k (n / 10)
exactly_next zero n e = omega arith
exactly_next (suc k) n e = let p = pow-suc 10 k in let q = pow-suc 10 (suc k) in omega arith

glyph_small : (n : ℕ) → hex_digit_ascii (n % 10) ≡ 48 + n % 10
glyph_small n = rw (lt-ltb (n % 10) 10 (omega arith))

none_of_zero : (j : ℕ) → digits_within j 0 ≡ []
unfolding digits_within
none_of_zero zero = refl
none_of_zero (suc j) = refl

spelled : (k j n : ℕ) → n ≤ j → Exactly k n → last_digits 10 k n ≡ digits_within j n
unfolding digits_within
spelled zero j n h e = rw (e, none_of_zero)
spelled (suc k) j zero h e = absurd (omega (arith, pow-le-pow_right {n = 10} (omega arith) {i = 0} {j = k} (omega arith)))
spelled (suc k) zero (suc n) h e = absurd (omega arith)
spelled (suc k) (suc j) (suc n) h e = rw (spelled k j (suc n / 10) (omega arith) (exactly_next k (suc n) e), glyph_small (suc n))

-- the fewest digits that hold n are its decimal
pub decimal_spelled : (k n : ℕ) → IsDigitCount 10 1 n k → last_digits 10 k n ≡ decimal n
unfolding decimal
decimal_spelled zero n f = absurd (omega arith)
decimal_spelled (suc k) n f = rw (spelled k (n / 10) (n / 10) (omega arith) (first k f.1 f.2), glyph_small n)
  where
    first : (i : ℕ) → n < 10 ^ suc i → (1 < suc i → 10 ^ (suc i - 1) ≤ n) → Exactly i (n / 10)
    first zero a b = omega arith
    first (suc i) a b = let e : suc (suc i) - 1 ≡ suc i = omega arith in exactly_next (suc i) n (rw e at (b (omega arith)), a)

pub decimal_short : (k n : ℕ) → n < 2 ^ 64 → IsDigitCount 10 1 n k → k ≤ 20
decimal_short k n h f = by_test (ltb 20 k) refl
  where
    by_test : (b : Bool) → ltb 20 k ≡ b → k ≤ 20
    by_test true e = let l = ltb-true 20 k e in absurd (omega (arith, f.2 (omega arith), pow-le-pow_right {n = 10} (omega arith) {i = 20} {j = k - 1} (omega arith)))
    by_test false e = ltb-false 20 k e
