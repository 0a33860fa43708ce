-- Laws of tests, numbers and lists that more than one file cites. Assumes nothing.
use Rattle.std.specs.Prelude.{◌≡◌, refl, Bool, true, false, cond, List, [], ◌∷◌, ℕ, zero, suc, ◌+◌, ◌<◌, ◌≤◌, length, get_or, set, replicate, ltb}
use Rattle.std.proofs.Common.{◌∙◌, arith, get_or-set_other, ltb-true, ltb-false}
use Rattle.std.proofs.lemmas.List.Edits.{sets}
use Rattle.runs.specs.Runs.{zeroed}

-- ---- of a test, and of two numbers
pub either : {A : Type 0} (P : A → Type 0) (b : Bool) (x y : A) → P x → P y → P (cond b x y)
either P true x y h k = h
either P false x y h k = k

pub by_lt : {P : Type 0} (a b : ℕ) → (a < b → P) → (b ≤ a → P) → P
by_lt {P} a b f g = pick (ltb a b) refl
  where
    pick : (t : Bool) → ltb a b ≡ t → P
    pick true e = f (ltb-true a b e)
    pick false e = g (ltb-false a b e)

-- ---- a list after a run of cells was stored
pub sets_below : (l vs : List ℕ) (u i : ℕ) → i < u → get_or (sets l u vs) i 0 ≡ get_or l i 0
sets_below l [] u i h = refl
sets_below l (a ∷ vs) u i h = sets_below (set l u a) vs (suc u) i (omega arith) ∙ get_or-set_other l u i a 0 (λ e. omega arith)

pub sets_above : (l vs : List ℕ) (u i : ℕ) → u + length vs ≤ i → get_or (sets l u vs) i 0 ≡ get_or l i 0
sets_above l [] u i h = refl
sets_above l (a ∷ vs) u i h = sets_above (set l u a) vs (suc u) i (omega arith) ∙ get_or-set_other l u i a 0 (λ e. omega arith)

set_zero : (l : List ℕ) (u : ℕ) → get_or (set l u 0) u 0 ≡ 0
set_zero [] u = refl
set_zero (x ∷ l) zero = refl
set_zero (x ∷ l) (suc u) = set_zero l u

pub zeros_at : (l : List ℕ) (u n i : ℕ) → u ≤ i → i < u + n → get_or (zeroed l u n) i 0 ≡ 0
zeros_at l u zero i h k = absurd (omega arith)
zeros_at l u (suc n) i h k =
    by_lt u i
    (λ p. zeros_at (set l u 0) (suc u) n i p (omega arith))
    (λ p. let e : i ≡ u = omega arith in sets_below (set l u 0) (replicate n 0) (suc u) i (omega arith) ∙ rw e (set_zero l u))
