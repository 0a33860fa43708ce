-- The places of a tree list and of its flat form correspond. Assumes nothing.
use Rattle.std.specs.Prelude.{ℕ, suc, ◌+◌, ◌*◌, ◌≤◌, ◌<◌, ◌^◌, ◌≡◌, refl, Bool, true, false, ◌&&◌, List, ◌∷◌, ◌++◌, length, get_or, drop}
use Rattle.std.proofs.Common.{arith, ap, ◌∙◌, append_assoc, length-append, length-drop, drop-drop}
use Rattle.std.proofs.Math.Bool.{and-eq-true_iff}
use Rattle.std.proofs.Math.Seq.{drop-append_seam}
use Rattle.files.specs.Code.{Code, neutral, unless_false, make_cont, bits}
use Rattle.files.specs.Entries.{Entry}
use Rattle.files.specs.laws.ReadingLaws.{least_bits}
use Rattle.files.specs.Flat.{flat}
use Rattle.files.specs.Grammar.{index_fits, each_neutral, indices_fit}
use Rattle.machines.specs.Fetched.{Fetched, jumps, bad, first, look}
use Rattle.machines.specs.laws.FetchedLaws.{look_first, look_neutral, look_first_arm, look_second_arm, look_after_arms, look_saved, look_after_saved}
use Rattle.agree.specs.laws.Suits.{Ok}

module _ (W : List ℕ) where
  -- xs stands at q
  pub record At (q : ℕ) (xs : List ℕ) : Type 0 where
    pub rest : List ℕ
    pub is : drop q W ≡ xs ++ rest

  pub at_skip : {q q' : ℕ} (xs ys : List ℕ) → At q (xs ++ ys) → q + length xs ≡ q' → At q' ys
  at_skip {q} {q'} xs ys a h =
      record { rest = a.rest; is = rw (← h, ← (drop-drop (length xs) q W), a.is, append_assoc) (drop-append_seam xs (ys ++ a.rest)) }

  pub at_take : {q : ℕ} (xs ys : List ℕ) → At q (xs ++ ys) → At q xs
  at_take xs ys a = record { rest = ys ++ a.rest; is = a.is ∙ append_assoc xs ys a.rest }

  -- what begins with a byte stands within the code
  pub at_within : {q x : ℕ} (xs : List ℕ) → At q (x ∷ xs) → q + suc (length xs) ≤ length W
  at_within {q} {x} xs a = omega (arith, length-drop q W, ap length a.is, length-append (x ∷ xs) a.rest)

module _ (es : List Entry) where
  module _ (top : ℕ → Fetched) where
    -- within the list c at s what `top` finds is what stands in c
    pub record Sub (s : ℕ) (c : Code) (F : Fetched) : Type 0 where
      pub within : (p : ℕ) → s ≤ p → p < s + bits c → top p ≡ look es s c F p
      pub bound : s + bits c ≤ 2 ^ 24
      pub indexed : indices_fit es c ≡ true

    pub sub_head : {s : ℕ} {c : Code} {F : Fetched} → Sub s c F → top s ≡ first es s c F
    sub_head {s} {c} {F} u = u.within s (omega arith) (omega (arith, least_bits c)) ∙ look_first es s s c F refl

    pub sub_neutral : {s op : ℕ} {ns : List ℕ} {r : Code} {F : Fetched} → Sub s (neutral op ns r) F → Sub (s + (5 + 8 * length ns)) r F
    unfolding bits indices_fit each_neutral
    sub_neutral {s} {op} {ns} {r} {F} u =
        record {
          within = λ p h l. u.within p (omega arith) (omega arith) ∙ look_neutral es s p op ns r F (omega arith);
          bound = omega (arith, u.bound);
          indexed = ((and-eq-true_iff (index_fits es op (get_or ns 0 0)) (indices_fit es r)).0 u.indexed).1;
        }

    module _ {s : ℕ} {x y r : Code} {F : Fetched} (u : Sub s (unless_false x y r) F) where
      pub sub_first : Sub (s + 5) x (first es (s + 5 + bits x + bits y) r F)
      unfolding bits indices_fit each_neutral
      sub_first =
          record {
            within = λ p h l. u.within p (omega arith) (omega arith) ∙ look_first_arm es s p x y r F h l;
            bound = omega (arith, u.bound);
            indexed = ((and-eq-true_iff (indices_fit es x) (indices_fit es y)).0
                ((and-eq-true_iff (indices_fit es x && indices_fit es y) (indices_fit es r)).0 u.indexed).0).0;
          }

      pub sub_second : Sub (s + 5 + bits x) y (first es (s + 5 + bits x + bits y) r F)
      unfolding bits indices_fit each_neutral
      sub_second =
          record {
            within = λ p h l. u.within p (omega arith) (omega arith) ∙ look_second_arm es s p x y r F (omega arith) h l;
            bound = omega (arith, u.bound);
            indexed = ((and-eq-true_iff (indices_fit es x) (indices_fit es y)).0
                ((and-eq-true_iff (indices_fit es x && indices_fit es y) (indices_fit es r)).0 u.indexed).0).1;
          }

      pub sub_rest : Sub (s + 5 + bits x + bits y) r F
      unfolding bits indices_fit each_neutral
      sub_rest =
          record {
            within = λ p h l. u.within p (omega arith) (omega arith) ∙ look_after_arms es s p x y r F (omega arith) h;
            bound = omega (arith, u.bound);
            indexed = ((and-eq-true_iff (indices_fit es x && indices_fit es y) (indices_fit es r)).0 u.indexed).1;
          }

    module _ {s n : ℕ} {x r : Code} {F : Fetched} (u : Sub s (make_cont n x r) F) where
      pub sub_saved : Sub (s + 13) x F
      unfolding bits indices_fit each_neutral
      sub_saved =
          record {
            within = λ p h l. u.within p (omega arith) (omega arith) ∙ look_saved es s p n x r F h l;
            bound = omega (arith, u.bound);
            indexed = ((and-eq-true_iff (indices_fit es x) (indices_fit es r)).0 u.indexed).0;
          }

      pub sub_next : Sub (s + 13 + bits x) r bad
      unfolding bits indices_fit each_neutral
      sub_next =
          record {
            within = λ p h l. u.within p (omega arith) (omega arith) ∙ look_after_saved es s p n x r F (omega arith) h;
            bound = omega (arith, u.bound);
            indexed = ((and-eq-true_iff (indices_fit es x) (indices_fit es r)).0 u.indexed).1;
          }

    -- lin: what the linear code W says at a place
    module _ (W : List ℕ) (lin : ℕ → Fetched) where
      mutual
        -- the linear code at q does what F says, and j jumps are pending before the list's end is left
        pub data Spot : Fetched → ℕ → ℕ → Type 0 where
          here : {k : Bool} {s : ℕ} {c : Code} {F G : Fetched} {q e j : ℕ} → G ≡ first es s c F → Ok k c → Sub s c F
              → At W q (flat c) → q + length (flat c) ≡ e → Close k F e j → Spot G q j
          leap : {F : Fetched} {q q' j : ℕ} → lin q ≡ jumps q' → Spot F q' j → Spot F q (suc j)

        -- after a closed list comes nothing, after an open one what F says
        pub data Close : Bool → Fetched → ℕ → ℕ → Type 0 where
          nothing_after : {F : Fetched} {e : ℕ} → Close true F e 0
          flows : {F : Fetched} {e j : ℕ} → Spot F e j → Close false F e j

      -- a list that stands at s in the tree and at q in the linear code
      pub stands : {k : Bool} {s : ℕ} {c : Code} {F : Fetched} {q e j : ℕ} → Ok k c → Sub s c F → At W q (flat c) → q + length (flat c) ≡ e
          → Close k F e j → Spot (top s) q j
      stands o u a h z = here (sub_head u) o u a h z
