-- Those of a list that are kept, and their new numbers: the rest in its old order.
use Rattle.std.specs.Prelude.{ℕ, zero, suc, Bool, cond, List, [], ◌∷◌}

-- those of a list whose numbers, counted from n on, are kept
unfoldable pub sift : {A : Type 0} → (ℕ → Bool) → ℕ → List A → List A
sift k n [] = []
sift k n (x ∷ xs) = cond (k n) (x ∷ sift k (suc n) xs) (sift k (suc n) xs)

-- how many of the m numbers from n on are kept
unfoldable pub rank : (ℕ → Bool) → ℕ → ℕ → ℕ
rank k n zero = 0
rank k n (suc m) = cond (k n) (suc (rank k (suc n) m)) (rank k (suc n) m)
