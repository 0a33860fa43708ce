-- How long numbers are. Assumes nothing.
use Rattle.std.specs.Prelude.{ℕ, zero, suc, ◌-◌, ◌*◌, ◌/◌, ◌^◌, ◌≤◌, ◌<◌, ◌≡◌, refl, ◌∷◌, Bool, true, false, cond, ltb, length}
use Rattle.std.proofs.Common.{arith, pow-suc, ltb-true, ltb-false, length-append}
use Rattle.text.specs.Text.{digits_within, decimal, integer}

digits_length : (j k n : ℕ) → n < 10 ^ k → length (digits_within j n) ≤ k
unfolding digits_within
digits_length zero k n h = omega arith
digits_length (suc j) k zero h = omega arith
digits_length (suc j) zero (suc n) h = absurd (omega arith)
digits_length (suc j) (suc k) (suc n) h =
    let p = pow-suc 10 k in
    let d = digits_length j k (suc n / 10) (omega arith) in
    simp length-append (omega arith)

-- a number below the power k + 1 of ten has at most k + 1 digits
pub decimal_length : (k n : ℕ) → n < 10 ^ suc k → length (decimal n) ≤ suc k
unfolding decimal
decimal_length k n h =
    let p = pow-suc 10 k in
    let d = digits_length (n / 10) k (n / 10) (omega arith) in
    simp length-append (omega arith)

-- the sign may be one byte more
pub integer_length : (k full x : ℕ) → full / 2 < 10 ^ suc k → full ≤ 2 * (full / 2) → length (integer full x) ≤ suc (suc k)
unfolding integer
integer_length k full x h e = by (ltb x (full / 2)) refl
  where
    by : (b : Bool) → ltb x (full / 2) ≡ b → length (cond b (decimal x) (45 ∷ decimal (full - x))) ≤ suc (suc k)
    by true l = let m = ltb-true x (full / 2) l in let d = decimal_length k x (omega arith) in omega arith
    by false l = let m = ltb-false x (full / 2) l in let d = decimal_length k (full - x) (omega arith) in omega arith
