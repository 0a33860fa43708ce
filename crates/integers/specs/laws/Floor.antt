-- `floor_quotient` is the one quotient toward minus infinity, and the quotient toward zero, corrected by one where the signs differ and a remainder is left.
-- Assumes nothing.
use Rattle.std.specs.Prelude.{◌≡◌, Bool, not, ◌&&◌, ℕ, zero, suc, ◌+◌, ◌-◌, ◌*◌, ◌/◌, ◌%◌, ◌<◌, ℤ, neg_ℤ, nat_abs, ◌+ℤ◌, ◌-ℤ◌, ◌*ℤ◌, ltb, leb}
use Rattle.std.proofs.Math.Path.{refl}
use Rattle.std.proofs.Common.{sym, ap, ◌∙◌, suc-mul, mod-lt, div-add-mod', add-zero, zero-mul, arith, lt-ltb, le-ltb, ltb-true, ltb-false, le-leb, eqb-true}
use Rattle.std.proofs.Math.Bool.{true, false, cond, and-eq-true_iff}
use Rattle.std.proofs.lemmas.Bool.{false≢true, lt-leb, eqb-false}
use Rattle.std.specs.Bool.{beq}
use Rattle.std.proofs.Math.Nat.{mul-add-div_right, div-eq_of_lt, zero-mod, zero-div}
use Rattle.std.proofs.Math.IntN.{pos, negsuc, pred_ℤ, *ℤ-negsuc, neg_ℤ-neg_ℤ, neg_ℤ-+ℤ, -ℤ_one}
use Rattle.std.specs.Int.Signed.{shr_z, lt_z, quot_z, rem_z}
use Rattle.std.proofs.Math.Dec.{eqb}
use Rattle.integers.specs.Integers.{left_by, Floor, floor_quotient}

-- ---- by a natural number
-- -k + r, where r is less
less_than : (k r : ℕ) → r < k → neg_ℤ (pos k) +ℤ pos r ≡ negsuc (k - suc r)
less_than zero r h = absurd (clash r h) where
  clash : (r : ℕ) → r < 0 → ⊥
  clash r h = omega arith
less_than (suc k) r h = rw (lt-ltb r (suc k) h)

-- the multiple p of b that is next below -(n + 1)
next_below : (n p r b : ℕ) → p + r ≡ n → r < b → negsuc n ≡ neg_ℤ (pos (p + b)) +ℤ pos (b - suc r)
next_below n p r b e h = sym (less_than (p + b) (b - suc r) (omega arith) ∙ ap negsuc back) where
  back : (p + b) - suc (b - suc r) ≡ n
  back = omega arith

quotient_of : (m r b : ℕ) → r < b → (m * b + r) / b ≡ m
quotient_of m r b h = mul-add-div_right (omega arith) m r ∙ rw (div-eq_of_lt h, add-zero m)

left_fits : (b r : ℕ) → r < b → left_by (pos b) (pos r) ≡ true
unfolding left_by
left_fits b r h = rw (le-leb 0 r (omega arith), lt-ltb r b h)

floor_by : (a : ℤ) (b : ℕ) → 0 < b → Floor a (pos b) (shr_z a b)
floor_by (pos n) b h = record { left = pos (n % b); is = ap pos (sym (div-add-mod' n b)); fits = left_fits b (n % b) (mod-lt n h) }
floor_by (negsuc n) b h =
    let l : n % b < b = mod-lt n h in
    record {
      left = pos (b - suc (n % b));
      is = rw (suc-mul (n / b) b) (next_below n (n / b * b) (n % b) b (div-add-mod' n b) l);
      fits = left_fits b (b - suc (n % b)) (omega arith);
    }

only_by : (a q : ℤ) (b : ℕ) → Floor a (pos b) q → q ≡ shr_z a b
unfolding left_by
only_by a q b f = go q f.left f.is f.fits where
  below : (r : ℕ) → left_by (pos b) (pos r) ≡ true → r < b
  below r k = ltb-true r b ((and-eq-true_iff (leb 0 r) (ltb r b)).0 k).1

  go : (q r : ℤ) → a ≡ q *ℤ pos b +ℤ r → left_by (pos b) r ≡ true → q ≡ shr_z a b
  go q (negsuc r) e k = absurd (false≢true k)
  go (pos m) (pos r) e k = rw e (ap pos (sym (quotient_of m r b (below r k))))
  go (negsuc m) (pos r) e k =
      let l : r < b = below r k in
      let n : suc m * b ≡ m * b + b = suc-mul m b in
      let d : (m * b + b) - suc r ≡ m * b + (b - suc r) = omega arith in
      let is : a ≡ negsuc (m * b + (b - suc r)) = e ∙ rw n (less_than (m * b + b) r (omega arith)) ∙ ap negsuc d in
      rw is (ap negsuc (sym (quotient_of m (b - suc r) b (omega arith))))

-- ---- by a negative number: both signs turned
turned : (b : ℕ) (r : ℤ) → left_by (negsuc b) (neg_ℤ r) ≡ left_by (pos (suc b)) r
unfolding left_by
turned b (pos zero) = rw (lt-ltb 0 (suc b) (omega arith))
turned b (pos (suc n)) = rw (le-leb 0 (suc n) (omega arith)) (go (ltb n b) refl) where
  go : (t : Bool) → ltb n b ≡ t → (ltb n b && true) ≡ ltb (suc n) (suc b)
  go true e = rw (e, lt-ltb (suc n) (suc b) (omega (arith, ltb-true n b e)))
  go false e = rw (e, le-ltb (suc n) (suc b) (omega (arith, ltb-false n b e)))
turned b (negsuc n) = rw (lt-leb (suc n) 0 (omega arith))

module _ (a : ℤ) (b : ℕ) (q : ℤ) where
  turn : Floor a (negsuc b) q → Floor (neg_ℤ a) (pos (suc b)) q
  turn f =
      record {
        left = neg_ℤ f.left;
        is = ap neg_ℤ f.is ∙ neg_ℤ-+ℤ (q *ℤ negsuc b) f.left ∙ rw (*ℤ-negsuc q b, neg_ℤ-neg_ℤ (q *ℤ pos (suc b)));
        fits = sym (turned b (neg_ℤ f.left)) ∙ rw (neg_ℤ-neg_ℤ f.left) f.fits;
      }

  turn_back : Floor (neg_ℤ a) (pos (suc b)) q → Floor a (negsuc b) q
  turn_back f =
      record {
        left = neg_ℤ f.left;
        is = sym (neg_ℤ-neg_ℤ a) ∙ ap neg_ℤ f.is ∙ neg_ℤ-+ℤ (q *ℤ pos (suc b)) f.left ∙ rw (*ℤ-negsuc q b);
        fits = turned b f.left ∙ f.fits;
      }

-- ---- there is one quotient, and it is this one
pub floor_is : (a b : ℤ) → (b ≡ pos 0 → ⊥) → Floor a b (floor_quotient a b)
unfolding floor_quotient
floor_is a (pos zero) h = absurd (h refl)
floor_is a (pos (suc b)) h = floor_by a (suc b) (omega arith)
floor_is a (negsuc b) h = turn_back a b _ (floor_by (neg_ℤ a) (suc b) (omega arith))

pub floor_only : (a b q : ℤ) → Floor a b q → q ≡ floor_quotient a b
unfolding floor_quotient
floor_only a (pos b) q f = only_by a q b f
floor_only a (negsuc b) q f = only_by (neg_ℤ a) q (suc b) (turn a b q f)

-- ---- the quotient toward zero, corrected by one where the signs differ and a remainder is left (document 01, 'Forms')
abbrev pub differ : ℤ → ℤ → Bool
differ a b = not (beq (lt_z a (pos 0)) (lt_z b (pos 0)))

abbrev pub left_over : ℤ → ℤ → Bool
left_over a b = not (eqb (nat_abs (rem_z a b)) 0)

unfoldable pub corrected : ℤ → ℤ → ℤ
corrected a b = cond (differ a b && left_over a b) (quot_z a b -ℤ pos 1) (quot_z a b)

-- of -(a + 1) by b, and of a + 1 by -b
negative : ℕ → ℕ → ℤ
negative a b = cond (not (eqb (suc a % b) 0)) (neg_ℤ (pos (suc a / b)) -ℤ pos 1) (neg_ℤ (pos (suc a / b)))

one_below : (m : ℕ) → neg_ℤ (pos m) -ℤ pos 1 ≡ negsuc m
one_below m = -ℤ_one (neg_ℤ (pos m)) ∙ go m where
  go : (m : ℕ) → pred_ℤ (neg_ℤ (pos m)) ≡ negsuc m
  go zero = refl
  go (suc m) = refl

module _ (a b : ℕ) (h : 0 < b) where
  even : suc a % b ≡ 0 → neg_ℤ (pos (suc a / b)) ≡ negsuc (a / b)
  even e = go (suc a / b) (div-add-mod' (suc a) b) where
    go : (m : ℕ) → m * b + suc a % b ≡ suc a → neg_ℤ (pos m) ≡ negsuc (a / b)
    go zero k = absurd (clash (zero-mul b)) where
      clash : zero * b ≡ zero → ⊥
      clash z = omega arith
    go (suc m) k =
        let n : suc m * b ≡ m * b + b = suc-mul m b in
        let d : a ≡ m * b + (b - 1) = omega arith in
        ap negsuc (sym (ap (λ (x : ℕ). x / b) d ∙ quotient_of m (b - 1) b (omega arith)))

  uneven : (suc a % b ≡ 0 → ⊥) → neg_ℤ (pos (suc a / b)) -ℤ pos 1 ≡ negsuc (a / b)
  uneven f =
      let l : suc a % b < b = mod-lt (suc a) h in
      let e = div-add-mod' (suc a) b in
      let d : a ≡ suc a / b * b + (suc a % b - 1) = omega arith in
      one_below (suc a / b) ∙ ap negsuc (sym (ap (λ (x : ℕ). x / b) d ∙ quotient_of (suc a / b) (suc a % b - 1) b (omega arith)))

  negative_is : negative a b ≡ negsuc (a / b)
  unfolding negative
  negative_is = go (eqb (suc a % b) 0) refl where
    go : (t : Bool) → eqb (suc a % b) 0 ≡ t → cond (not t) (neg_ℤ (pos (suc a / b)) -ℤ pos 1) (neg_ℤ (pos (suc a / b))) ≡ negsuc (a / b)
    go true e = even (eqb-true (suc a % b) 0 e)
    go false e = uneven (eqb-false (suc a % b) 0 e)

same_zero : (k : ℕ) → nat_abs (neg_ℤ (pos k)) ≡ k
same_zero zero = refl
same_zero (suc k) = refl

not_negative : (n : ℕ) → ltb n 0 ≡ false
not_negative n = le-ltb n 0 (omega arith)

pub corrected_is : (a b : ℤ) → (b ≡ pos 0 → ⊥) → corrected a b ≡ floor_quotient a b
unfolding corrected floor_quotient negative
corrected_is (pos a) (pos b) h = rw (not_negative a, not_negative b)
corrected_is (pos zero) (negsuc b) h = rw (zero-mod (suc b), zero-div (suc b))
corrected_is (pos (suc a)) (negsuc b) h = rw (not_negative (suc a)) (negative_is a (suc b) (omega arith))
corrected_is (negsuc a) (pos zero) h = absurd (h refl)
corrected_is (negsuc a) (pos (suc b)) h = rw (not_negative (suc b), same_zero (suc a % suc b)) (negative_is a (suc b) (omega arith))
corrected_is (negsuc a) (negsuc b) h = refl
