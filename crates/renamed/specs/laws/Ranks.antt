-- What is kept stands where its new number says, and each new number is that of something kept. Assumes nothing.
use Prim.Native.Nat.{ℕ, zero, suc, ◌+◌, ◌<◌}
use native.Mathlib.Omega.{arith}
use Rattle.std.specs.Prelude.{◌≡◌, Bool, false, cond, ltb, length, get_or}
use Rattle.std.proofs.Math.Path.{refl}
use Rattle.std.proofs.Common.{ap, ltb-true, ltb-false}
use Rattle.std.proofs.Math.Bool.{true}
use mathlib.Core.List.{List, [], ◌∷◌}
use Rattle.files.specs.Entries.{Entry}
use Rattle.files.specs.Grammar.{entry_of}
use Rattle.trim.specs.Kept.{sift, rank}

module _ (k : ℕ → Bool) where
  -- where what is kept stands then
  pub sift_at : {A : Type 0} (d : A) (xs : List A) (n i : ℕ) → i < length xs → k (n + i) ≡ true → get_or (sift k n xs) (rank k n i) d ≡ get_or xs i d
  unfolding sift rank
  sift_at d [] n i h e = absurd (omega arith)
  sift_at d (x ∷ xs) n zero h e = let z : n + 0 ≡ n = omega arith in rw (rw z at e) refl
  sift_at d (x ∷ xs) n (suc i) h e = pick (k n) (sift_at d xs (suc n) i (omega arith) (rw s at e))
    where
      s : n + suc i ≡ suc n + i
      s = omega arith

      pick : (b : Bool) → get_or (sift k (suc n) xs) (rank k (suc n) i) d ≡ get_or xs i d
          → get_or (cond b (x ∷ sift k (suc n) xs) (sift k (suc n) xs)) (cond b (suc (rank k (suc n) i)) (rank k (suc n) i)) d ≡ get_or xs i d
      pick true h = h
      pick false h = h

  pub entry_at : (es : List Entry) (n i : ℕ) → k (n + i) ≡ true → entry_of (sift k n es) (suc (rank k n i)) ≡ entry_of es (suc i)
  unfolding sift rank entry_of
  entry_at [] n i e = refl
  entry_at (x ∷ es) n zero e = let z : n + 0 ≡ n = omega arith in rw (rw z at e) refl
  entry_at (x ∷ es) n (suc i) e = pick (k n) (entry_at es (suc n) i (rw s at e))
    where
      s : n + suc i ≡ suc n + i
      s = omega arith

      pick : (b : Bool) → entry_of (sift k (suc n) es) (suc (rank k (suc n) i)) ≡ entry_of es (suc i)
          → entry_of (cond b (x ∷ sift k (suc n) es) (sift k (suc n) es)) (suc (cond b (suc (rank k (suc n) i)) (rank k (suc n) i))) ≡ entry_of es (suc i)
      pick true h = h
      pick false h = h

  -- what is kept further on has a greater number
  pub rank_grows : (n i j : ℕ) → i < j → k (n + i) ≡ true → rank k n i < rank k n j
  unfolding rank
  rank_grows n i zero h e = absurd (omega arith)
  rank_grows n zero (suc j) h e = let z : n + 0 ≡ n = omega arith in rw (rw z at e) (omega arith)
  rank_grows n (suc i) (suc j) h e = pick (k n) (rank_grows (suc n) i j (omega arith) (rw s at e))
    where
      s : n + suc i ≡ suc n + i
      s = omega arith

      pick : (b : Bool) → rank k (suc n) i < rank k (suc n) j
          → cond b (suc (rank k (suc n) i)) (rank k (suc n) i) < cond b (suc (rank k (suc n) j)) (rank k (suc n) j)
      pick true h = omega arith
      pick false h = h

  -- each new number is the number of something that is kept
  pub record Old (n m v : ℕ) : Type 0 where
    pub number : ℕ
    pub below : number < m
    pub stays : k (n + number) ≡ true
    pub is : rank k n number ≡ v

  -- one further on
  old_next : {n m v w : ℕ} → Old (suc n) m v → ((i : ℕ) → rank k (suc n) i ≡ v → rank k n (suc i) ≡ w) → Old n (suc m) w
  old_next {n} o f =
      let s : n + suc o.number ≡ suc n + o.number = omega arith in
      record { number = suc o.number; below = omega (arith, o.below); stays = rw s o.stays; is = f o.number o.is }

  pub rank_old : (n m v : ℕ) → v < rank k n m → Old n m v
  unfolding rank
  rank_old n zero v h = absurd (omega arith)
  rank_old n (suc m) v h = go (k n) refl v h (λ v h. rank_old (suc n) m v h)
    where
      z : n + 0 ≡ n
      z = omega arith

      go : (b : Bool) → k n ≡ b → (v : ℕ) → v < cond b (suc (rank k (suc n) m)) (rank k (suc n) m)
          → ((v : ℕ) → v < rank k (suc n) m → Old (suc n) m v) → Old n (suc m) v
      go true e zero h f = record { number = 0; below = omega arith; stays = rw z e; is = refl }
      go true e (suc v) h f = old_next (f v (omega arith)) (λ i q. rw e (ap suc q))
      go false e v h f = old_next (f v h) (λ i q. rw e q)

  -- where all are kept
  pub rank_all : (n m : ℕ) → ((i : ℕ) → i < m → k (n + i) ≡ true) → rank k n m ≡ m
  unfolding rank
  rank_all n zero h = refl
  rank_all n (suc m) h =
      let z : n + 0 ≡ n = omega arith in
      let e : k n ≡ true = rw z at (h 0 (omega arith)) in
      rw e (ap suc (rank_all (suc n) m (λ i l. let s : n + suc i ≡ suc n + i = omega arith in rw s at (h (suc i) (omega arith)))))

  pub sift_all : {A : Type 0} (n : ℕ) (xs : List A) → ((i : ℕ) → i < length xs → k (n + i) ≡ true) → sift k n xs ≡ xs
  unfolding sift
  sift_all n [] h = refl
  sift_all n (x ∷ xs) h =
      let z : n + 0 ≡ n = omega arith in
      let e : k n ≡ true = rw z at (h 0 (omega arith)) in
      rw (e, sift_all (suc n) xs (λ i l. let s : n + suc i ≡ suc n + i = omega arith in rw s at (h (suc i) (omega arith)))) refl

pub rank_one : (k : ℕ → Bool) (i j : ℕ) → k i ≡ true → k j ≡ true → rank k 0 i ≡ rank k 0 j → i ≡ j
rank_one k i j e e' h = go (ltb i j) (ltb j i) refl refl
  where
    z : (n : ℕ) → 0 + n ≡ n
    z n = omega arith

    go : (a b : Bool) → ltb i j ≡ a → ltb j i ≡ b → i ≡ j
    go true b q r = let g = rank_grows k 0 i j (ltb-true i j q) (rw (z i) e) in absurd (omega arith)
    go false true q r = let g = rank_grows k 0 j i (ltb-true j i r) (rw (z j) e') in absurd (omega arith)
    go false false q r = let a = ltb-false i j q in let b = ltb-false j i r in omega arith
