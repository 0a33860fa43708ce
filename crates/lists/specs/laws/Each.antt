-- What holds of each of some numbers in a row holds of every number among them. Assumes nothing.
use Rattle.std.specs.Prelude.{ℕ, zero, suc, ◌+◌, ◌≤◌, ◌<◌, ◌≡◌, refl, Bool, true, false, ◌&&◌, eqb}
use Rattle.std.proofs.Common.{arith, eqb-true}
use Rattle.std.proofs.Math.Bool.{and-eq-true_iff}
use Rattle.std.proofs.lemmas.Bool.{eqb-false}

-- P of n numbers from lo on
abbrev pub All : (ℕ → Type 0) → ℕ → ℕ → Type 0
All P lo zero = Unit
All P lo (suc n) = P lo × All P (lo + 1) n

pub each : (P : ℕ → Type 0) (lo n : ℕ) → All P lo n → (k : ℕ) → lo ≤ k → k < lo + n → P k
each P lo zero a k h i = absurd (omega arith)
each P lo (suc n) a k h i = go (each P (lo + 1) n a.1 k) (eqb k lo) refl
  where
    go : (lo + 1 ≤ k → k < lo + 1 + n → P k) → (b : Bool) → eqb k lo ≡ b → P k
    go later true e = rw (eqb-true k lo e) a.0
    go later false e = let z = eqb-false k lo e in later (omega arith) (omega arith)

-- a test of all numbers below n, and so of each
unfoldable pub below : (ℕ → Bool) → ℕ → Bool
below f zero = true
below f (suc n) = f n && below f n

pub below_at : (f : ℕ → Bool) (n : ℕ) → below f n ≡ true → (k : ℕ) → k < n → f k ≡ true
unfolding below
below_at f zero h k i = absurd (omega arith)
below_at f (suc n) h k i =
    let both = (and-eq-true_iff (f n) (below f n)).0 h in
    go both.0 (below_at f n both.1 k) (eqb k n) refl
  where
    go : f n ≡ true → (k < n → f k ≡ true) → (b : Bool) → eqb k n ≡ b → f k ≡ true
    go last later true e = rw (eqb-true k n e) last
    go last later false e = let z = eqb-false k n e in later (omega arith)
