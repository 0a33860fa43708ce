-- What is found in a region, by its first instruction and by what its lists and its rest are found to be. Assumes nothing.
use Prim.Native.Nat.{ℕ, zero, suc, ◌+◌, ◌*◌, ◌-◌, ◌≤◌, ◌<◌}
use native.Mathlib.Omega.{arith}
use Rattle.std.specs.Prelude.{◌≡◌, Bool, ◌&&◌, length, get_or, take, drop}
use Rattle.std.proofs.Math.Path.{refl}
use Rattle.std.proofs.Common.{ap, ◌∙◌}
use Rattle.std.proofs.Math.Bool.{true, false}
use mathlib.Core.List.{List, [], ◌∷◌}
use Rattle.std.proofs.Math.Option.{Option, none, some}
use borrow.Author.Tests.{le-leb, lt-leb}
use Rattle.files.specs.Codes.{is_neutral, operands}
use Rattle.files.specs.Code.{Code, done, neutral, unless_false, make_cont, neutral_i, unless_i, cont_i, put, simple}
use Rattle.files.specs.Grammar.{each_neutral}
use Rattle.back.specs.Unflat.{ends_in_jump, last_offset, before_jump, on, test, neutral_back, open_arms, closed_arms, arms_back, unless_back, cont_back}
use Rattle.back.specs.Unflat.{end_back}
use Rattle.back.specs.Unflat.{first_back, view}
use Rattle.back.specs.laws.ListBack.{back}
use Rattle.back.proofs.theorems.Steps.{back_nothing, back_first}
use Rattle.unflatten.specs.Found.{kept, found}

-- ---- tests before and after
on_test : {A B : Type 0} (b : Bool) (o : Option A) (f : A → Option B) → on (test b o) f ≡ test b (on o f)
unfolding on test
on_test true o f = refl
on_test false o f = refl

test_none : {A : Type 0} (b : Bool) → test {A = A} b none ≡ none
unfolding test
test_none true = refl
test_none false = refl

test_and : {A : Type 0} (a b : Bool) (o : Option A) → test (a && b) o ≡ test a (test b o)
unfolding test
test_and true b o = refl
test_and false b o = refl

module _ (ok : ℕ → ℕ → Bool) where
  -- ---- one instruction and the rest
  keep_plain : (op : ℕ) (ns : List ℕ) (o : Option Code)
      → on (on o (λ r. some (neutral op ns r))) (kept ok) ≡ on (test (ok op (get_or ns 0 0)) (some (neutral_i op ns)))
      (λ i. on (on o (kept ok)) (λ c. some (put i c)))
  unfolding on kept each_neutral put
  keep_plain op ns none = rw (on_test, test_none) refl
  keep_plain op ns (some c) = simp (on_test, test_and)

  keep_arms : (x y r : Option Code) → on (on x (λ x. on y (λ y. on r (λ r. some (unless_false x y r))))) (kept ok)
      ≡ on (on (on x (kept ok)) (λ x. on (on y (kept ok)) (λ y. some (unless_i x y)))) (λ i. on (on r (kept ok)) (λ c. some (put i c)))
  unfolding on kept each_neutral put
  keep_arms none y r = refl
  keep_arms (some x) none r = simp (on_test, test_none)
  keep_arms (some x) (some y) none = simp (on_test, test_none)
  keep_arms (some x) (some y) (some r) = simp (on_test, test_and)

  keep_saved : (a : ℕ) (x r : Option Code) → on (on x (λ x. on r (λ r. some (make_cont a x r)))) (kept ok)
      ≡ on (on (on x (kept ok)) (λ x. some (cont_i a x))) (λ i. on (on r (kept ok)) (λ c. some (put i c)))
  unfolding on kept each_neutral put
  keep_saved a none r = refl
  keep_saved a (some x) none = simp (on_test, test_none)
  keep_saved a (some x) (some r) = simp (on_test, test_and)

  -- ---- regions
  pub found_nothing : (l : ℕ) → found ok l true [] ≡ none
  unfolding found on test
  found_nothing l = rw (back_nothing l true) refl

  pub found_end : (l : ℕ) → found ok l false [] ≡ some done
  unfolding found on test kept each_neutral
  found_end l = rw (back_nothing l false) refl

  module _ (l : ℕ) (k : Bool) where
    pub found_neutral : (op n : ℕ) (w : List ℕ) → is_neutral op ≡ true → operands op ≡ n → n ≤ length w
        → found ok l k (op ∷ w) ≡ on (test (ok op (get_or (take n w) 0 0)) (some (neutral_i op (take n w))))
        (λ i. on (found ok l k (drop n w)) (λ c. some (put i c)))
    unfolding found first_back neutral_back test
    found_neutral op n w h e f = rw (back_first l k op w, h, e, le-leb n (length w) f) (keep_plain op (take n w) (back l k (drop n w)))

    pub found_cut : (op n : ℕ) (w : List ℕ) → is_neutral op ≡ true → operands op ≡ n → length w < n → found ok l k (op ∷ w) ≡ none
    unfolding found first_back neutral_back test on
    found_cut op n w h e f = rw (back_first l k op w, h, e, lt-leb n (length w) f) refl

    -- a code of 5 or above that is not neutral, and code 0
    pub found_no_code : (op : ℕ) (w : List ℕ) → is_neutral op ≡ false → 5 ≤ op → found ok l k (op ∷ w) ≡ none
    unfolding found first_back end_back view on
    found_no_code op w h f =
        let e : op ≡ suc (suc (suc (suc (suc (op - 5))))) = omega arith in
        rw (back_first l k op w, h) (ap (λ (n : ℕ). on (end_back back l k (view n w)) (kept ok)) e)

    pub found_zero : (w : List ℕ) → found ok l k (0 ∷ w) ≡ none
    unfolding found first_back end_back view on is_neutral
    found_zero w = rw (back_first l k 0 w) refl

    -- return and call, codes 1 and 2 with no and one operand
    pub found_ending : (n : ℕ) (w : List ℕ) → n ≤ 1 → length w ≡ n → found ok l k (suc n ∷ w) ≡ test k (some (put (simple (suc n) w) done))
    unfolding found first_back end_back view is_neutral kept each_neutral test put simple
    found_ending zero [] h e = rw (back_first l k 1 [], on_test) refl
    found_ending zero (a ∷ w) h e = absurd (omega arith)
    found_ending (suc zero) [] h e = absurd (omega arith)
    found_ending (suc zero) (a ∷ []) h e = rw (back_first l k 2 (a ∷ []), on_test) refl
    found_ending (suc zero) (a ∷ b ∷ w) h e = absurd (omega arith)
    found_ending (suc (suc n)) w h e = absurd (omega arith)

    pub found_not_ending : (n : ℕ) (w : List ℕ) → n ≤ 1 → (length w ≡ n → ⊥) → found ok l k (suc n ∷ w) ≡ none
    unfolding found first_back end_back view is_neutral on
    found_not_ending zero [] h e = absurd (e (omega arith))
    found_not_ending zero (a ∷ w) h e = rw (back_first l k 1 (a ∷ w)) refl
    found_not_ending (suc zero) [] h e = rw (back_first l k 2 []) refl
    found_not_ending (suc zero) (a ∷ []) h e = absurd (e (omega arith))
    found_not_ending (suc zero) (a ∷ b ∷ w) h e = rw (back_first l k 2 (a ∷ b ∷ w)) refl
    found_not_ending (suc (suc n)) w h e = absurd (omega arith)

  -- ---- a conditional
  unless_is : (l : ℕ) (k : Bool) (a b : ℕ) (w : List ℕ) → found ok l k (3 ∷ a ∷ b ∷ w) ≡ on (unless_back back l k (256 * a + b) w) (kept ok)
  unfolding found first_back end_back view is_neutral
  unless_is l k a b w = rw (back_first l k 3 (a ∷ b ∷ w)) refl

  pub found_unless_short : (l : ℕ) (k : Bool) (w : List ℕ) → length w < 2 → found ok l k (3 ∷ w) ≡ none
  unfolding found first_back end_back view is_neutral on
  found_unless_short l k [] h = rw (back_first l k 3 []) refl
  found_unless_short l k (a ∷ []) h = rw (back_first l k 3 (a ∷ [])) refl
  found_unless_short l k (a ∷ b ∷ w) h = absurd (omega arith)

  pub found_unless_last : (k : Bool) (w : List ℕ) → found ok 0 k (3 ∷ w) ≡ none
  unfolding unless_back on
  found_unless_last k [] = found_unless_short 0 k [] (omega arith)
  found_unless_last k (a ∷ []) = found_unless_short 0 k (a ∷ []) (omega arith)
  found_unless_last k (a ∷ b ∷ w) = unless_is 0 k a b w

  module _ (l : ℕ) (k : Bool) (a b n : ℕ) (w : List ℕ) (size : 256 * a + b ≡ n) where
    pub found_far : length w < n → found ok (suc l) k (3 ∷ a ∷ b ∷ w) ≡ none
    unfolding unless_back on test
    found_far h = unless_is (suc l) k a b w ∙ rw (size, lt-leb n (length w) h) refl

    module _ (fits : n ≤ length w) where
      arms_are : (j : Bool) → ends_in_jump (take n w) ≡ j → found ok (suc l) k (3 ∷ a ∷ b ∷ w) ≡ on (arms_back back l k j (take n w) (drop n w)) (kept ok)
      unfolding unless_back test
      arms_are j e = unless_is (suc l) k a b w ∙ rw (size, le-leb n (length w) fits, e) refl

      -- the first region ends in no jump
      pub found_loose : k ≡ false → ends_in_jump (take n w) ≡ false → found ok (suc l) k (3 ∷ a ∷ b ∷ w) ≡ none
      unfolding arms_back closed_arms test on
      found_loose f e = arms_are false e ∙ rw f refl

      pub found_closed : k ≡ true → ends_in_jump (take n w) ≡ false → found ok (suc l) k (3 ∷ a ∷ b ∷ w)
          ≡ on (on (found ok l true (take n w)) (λ x. on (found ok l true (drop n w)) (λ y. some (unless_i x y))))
          (λ i. on (found ok (suc l) false []) (λ c. some (put i c)))
      unfolding arms_back closed_arms test found
      found_closed f e =
          let z : back (suc l) false [] ≡ some done = back_nothing (suc l) false in
          arms_are false e ∙ rw (f, z) (keep_arms (back l true (take n w)) (back l true (drop n w)) (some done))

      -- it ends in a jump over m bytes
      module _ (m : ℕ) (jump : last_offset (take n w) ≡ m) (e : ends_in_jump (take n w) ≡ true) where
        pub found_empty_first : length (before_jump (take n w)) < 1 → found ok (suc l) k (3 ∷ a ∷ b ∷ w) ≡ none
        unfolding arms_back open_arms test on
        found_empty_first h = arms_are true e ∙ rw (lt-leb 1 (length (before_jump (take n w))) h) refl

        module _ (some_first : 1 ≤ length (before_jump (take n w))) where
          pub found_empty_second : m < 1 → found ok (suc l) k (3 ∷ a ∷ b ∷ w) ≡ none
          unfolding arms_back open_arms test on
          found_empty_second h = arms_are true e ∙ rw (le-leb 1 (length (before_jump (take n w))) some_first, jump, lt-leb 1 m h) refl

          module _ (some-second : 1 ≤ m) where
            pub found_far_second : length (drop n w) < m → found ok (suc l) k (3 ∷ a ∷ b ∷ w) ≡ none
            unfolding arms_back open_arms test on
            found_far_second h =
                arms_are true e ∙ rw (le-leb 1 (length (before_jump (take n w))) some_first, jump, le-leb 1 m some-second, lt-leb m (length (drop n w)) h) refl

            pub found_open : m ≤ length (drop n w) → found ok (suc l) k (3 ∷ a ∷ b ∷ w)
                ≡ on (on (found ok l false (before_jump (take n w))) (λ x. on (found ok l false (take m (drop n w))) (λ y. some (unless_i x y))))
                (λ i. on (found ok (suc l) k (drop m (drop n w))) (λ c. some (put i c)))
            unfolding arms_back open_arms test found
            found_open h =
                arms_are true e
                ∙ rw (le-leb 1 (length (before_jump (take n w))) some_first, jump, le-leb 1 m some-second, le-leb m (length (drop n w)) h)
                (keep_arms (back l false (before_jump (take n w))) (back l false (take m (drop n w))) (back (suc l) k (drop m (drop n w))))

  -- ---- a make-cont
  cont_is : (l : ℕ) (k : Bool) (a b n : ℕ) (w : List ℕ) → found ok l k (4 ∷ a ∷ b ∷ n ∷ w) ≡ on (cont_back back l k (256 * a + b) n w) (kept ok)
  unfolding found first_back end_back view is_neutral
  cont_is l k a b n w = rw (back_first l k 4 (a ∷ b ∷ n ∷ w)) refl

  pub found_cont_short : (l : ℕ) (k : Bool) (w : List ℕ) → length w < 3 → found ok l k (4 ∷ w) ≡ none
  unfolding found first_back end_back view is_neutral on
  found_cont_short l k [] h = rw (back_first l k 4 []) refl
  found_cont_short l k (a ∷ []) h = rw (back_first l k 4 (a ∷ [])) refl
  found_cont_short l k (a ∷ b ∷ []) h = rw (back_first l k 4 (a ∷ b ∷ [])) refl
  found_cont_short l k (a ∷ b ∷ n ∷ w) h = absurd (omega arith)

  pub found_cont_last : (k : Bool) (w : List ℕ) → found ok 0 k (4 ∷ w) ≡ none
  unfolding cont_back on
  found_cont_last k [] = found_cont_short 0 k [] (omega arith)
  found_cont_last k (a ∷ []) = found_cont_short 0 k (a ∷ []) (omega arith)
  found_cont_last k (a ∷ b ∷ []) = found_cont_short 0 k (a ∷ b ∷ []) (omega arith)
  found_cont_last k (a ∷ b ∷ n ∷ w) = cont_is 0 k a b n w

  module _ (l : ℕ) (k : Bool) (a b c n : ℕ) (w : List ℕ) (size : 256 * a + b ≡ n) where
    pub found_cont_far : length w < n → found ok (suc l) k (4 ∷ a ∷ b ∷ c ∷ w) ≡ none
    unfolding cont_back on test
    found_cont_far h = cont_is (suc l) k a b c w ∙ rw (size, lt-leb n (length w) h) refl

    pub found_cont : n ≤ length w → found ok (suc l) k (4 ∷ a ∷ b ∷ c ∷ w)
        ≡ on (on (found ok l k (drop n w)) (λ x. some (cont_i c x))) (λ i. on (found ok (suc l) true (take n w)) (λ c. some (put i c)))
    unfolding cont_back test found
    found_cont h = cont_is (suc l) k a b c w ∙ rw (size, le-leb n (length w) h) (keep_saved c (back l k (drop n w)) (back (suc l) true (take n w)))
