-- The laws of what is kept and its new numbers. Assumes nothing.
use Prim.Native.Nat.{ℕ, zero, suc, ◌+◌, ◌≤◌, ◌<◌}
use Rattle.std.proofs.Common.{zero-add, sym}
use native.Mathlib.Omega.{arith}
use Rattle.std.specs.Prelude.{◌≡◌, Bool}
use Rattle.std.proofs.Math.Path.{refl, ap}
use Rattle.std.proofs.Math.Bool.{true, false, cond}
use mathlib.Core.List.{List, [], ◌∷◌}
use Rattle.std.proofs.Math.ListN.{length}
use Rattle.trim.specs.Kept.{sift, rank}

-- two tests that agree on the m numbers from n on
module _ (k l : ℕ → Bool) where
  pub rank_same : (n m : ℕ) → ((i : ℕ) → i < m → k (n + i) ≡ l (n + i)) → rank k n m ≡ rank l n m
  unfolding rank
  rank_same n zero h = refl
  rank_same n (suc m) h =
      let z : n + 0 ≡ n = omega arith in
      let e : k n ≡ l n = rw z at (h 0 (omega arith)) in
      let r = rank_same (suc n) m (λ i lt. let s : n + suc i ≡ suc n + i = omega arith in rw s at (h (suc i) (omega arith))) in
      rw (e, r) refl

  pub sift_same : {A : Type 0} (n : ℕ) (xs : List A) → ((i : ℕ) → i < length xs → k (n + i) ≡ l (n + i)) → sift k n xs ≡ sift l n xs
  unfolding sift
  sift_same n [] h = refl
  sift_same n (x ∷ xs) h =
      let z : n + 0 ≡ n = omega arith in
      let e : k n ≡ l n = rw z at (h 0 (omega arith)) in
      let r = sift_same (suc n) xs (λ i lt. let s : n + suc i ≡ suc n + i = omega arith in rw s at (h (suc i) (omega arith))) in
      rw (e, r) refl

module _ (k : ℕ → Bool) where
  -- one more at the end
  pub rank_end : (n m : ℕ) → rank k n (suc m) ≡ rank k n m + cond (k (n + m)) 1 0
  unfolding rank
  rank_end n zero = let z : n + 0 ≡ n = omega arith in rw z (sym (zero-add (cond (k n) 1 0)))
  rank_end n (suc m) =
      let s : n + suc m ≡ suc n + m = omega arith in
      let r = rank_end (suc n) m in
      rw s (pick (k n) (cond (k (suc n + m)) 1 0) r)
    where
      pick : (b : Bool) (x : ℕ) → rank k (suc n) (suc m) ≡ rank k (suc n) m + x
          → cond b (suc (rank k (suc n) (suc m))) (rank k (suc n) (suc m)) ≡ cond b (suc (rank k (suc n) m)) (rank k (suc n) m) + x
      pick true x h = omega arith
      pick false x h = h

  pub rank_most : (n m : ℕ) → rank k n m ≤ m
  unfolding rank
  rank_most n zero = omega arith
  rank_most n (suc m) = pick (k n) (rank_most (suc n) m)
    where
      pick : (b : Bool) → rank k (suc n) m ≤ m → cond b (suc (rank k (suc n) m)) (rank k (suc n) m) ≤ suc m
      pick true h = omega arith
      pick false h = omega arith

  -- further on it is no less
  pub rank_more : (n m j : ℕ) → rank k n m ≤ rank k n (m + j)
  unfolding rank
  rank_more n zero j = omega arith
  rank_more n (suc m) j = let e : suc m + j ≡ suc (m + j) = omega arith in rw e (pick (k n) (rank_more (suc n) m j))
    where
      pick : (b : Bool) → rank k (suc n) m ≤ rank k (suc n) (m + j)
          → cond b (suc (rank k (suc n) m)) (rank k (suc n) m) ≤ cond b (suc (rank k (suc n) (m + j))) (rank k (suc n) (m + j))
      pick true h = omega arith
      pick false h = h

  -- as many as are sifted
  pub sift_length : {A : Type 0} (n : ℕ) (xs : List A) → length (sift k n xs) ≡ rank k n (length xs)
  unfolding sift rank
  sift_length n [] = refl
  sift_length n (x ∷ xs) = pick (k n) (sift_length (suc n) xs)
    where
      pick : (b : Bool) → length (sift k (suc n) xs) ≡ rank k (suc n) (length xs)
          → length (cond b (x ∷ sift k (suc n) xs) (sift k (suc n) xs)) ≡ cond b (suc (rank k (suc n) (length xs))) (rank k (suc n) (length xs))
      pick true h = ap suc h
      pick false h = h
