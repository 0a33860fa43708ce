-- Demand 3 and request 8 of the functions themselves, from their promises alone. A promise is given here as the function's `ensures` has it: an
-- equation for what is answered and left, in the words of flatten/specs/Flatten and machines/specs/Runs. Assumes nothing.
use Rattle.std.specs.Prelude.{ℕ, ◌*◌, ◌≤◌, ◌≡◌, refl, List, length, take, drop, Result, Ok}
use Rattle.std.proofs.Common.{arith, sym, ap, ◌∙◌}
use Rattle.std.proofs.Math.Seq.{take-append_seam}
use Rattle.files.specs.Reading.{Got, got, refused}
use Rattle.files.specs.Outcome.{answered, written}
use Rattle.flatten.specs.Flatten.{flattened}
use Rattle.machines.specs.Runs.{Memory, ran, tree_run, linear_run}
use Rattle.machines.specs.declared.Run.{Run}
use Rattle.agree.specs.Demand3.{EndAlike, Flattens, StartsFrom, Ends, jumps_made, first_arms}
use Rattle.agree.specs.laws.Proved.{demand_3_forward, demand_3_backward}
use Rattle.files.specs.declared.Refusal.{Refusal}

-- ---- the promises
-- flatten(s, out) answered r, where out held old and then new
pub record FlattenPromise (s old : List ℕ) (r : Result ℕ (Refusal ℕ)) (new : List ℕ) : Type 0 where
  pub answer : r ≡ answered (flattened s (length old))
  pub output : new ≡ written old (flattened s (length old))

-- run_tree(file, budget, owner, ..) returned x and left m' of the memory m that was lent
abbrev pub RunTreePromise : List ℕ → ℕ → ℕ → Memory → Run → Memory → Type 0
RunTreePromise file budget owner m x m' = ran x m' ≡ tree_run file budget owner m

abbrev pub RunLinearPromise : List ℕ → ℕ → ℕ → Memory → Run → Memory → Type 0
RunLinearPromise file budget owner m x m' = ran x m' ≡ linear_run file budget owner m

-- ---- the first bytes of the output are the linear file
written_file : (s old new : List ℕ) (n : ℕ) → FlattenPromise s old (Ok n) new → Flattens s (length old) (take n new)
unfolding answered written
written_file s old new n p = by (flattened s (length old)) refl
  where
    by : (g : Got (List ℕ)) → flattened s (length old) ≡ g → Flattens s (length old) (take n new)
    by (got w q) e = (q, e ∙ ap (λ v. got v q) (sym (is w q e)))
      where
        is : (w : List ℕ) (q : ℕ) → flattened s (length old) ≡ got w q → take n new ≡ w
        is w q e =
            let a : Ok n ≡ answered (got w q) = rw e at p.answer in
            let l : n ≡ length w = cc in
            let o : new ≡ written old (got w q) = rw e at p.output in
            rw (l, o) (take-append_seam w (drop (length w) old))
    by (refused m q) e =
        let a : Ok n ≡ answered (refused m q) = rw e at p.answer in
        let z : ◌≡◌ {A = ℕ} 0 1 = cc in
        absurd (omega arith)

-- o is the owner given to both machines; s is flattened into an output that held old and then new, and its first n bytes are the file that run_linear is given;
-- x, y are returned
module _ (s old new : List ℕ) (n : ℕ) (f : FlattenPromise s old (Ok n) new) (g : List ℕ) (b o : ℕ) (h : b ≤ 1000000) (owned : o ≤ 1)
    (m m' left left' : Memory) (st : StartsFrom g m) (st' : StartsFrom g m') (x y : Run) (t : RunTreePromise s b o m x left) where
  pub functions_forward : RunLinearPromise (take n new) (2 * b) o m' y left' → Ends (ran x left)
      → EndAlike (ran x left) (ran y left') (jumps_made (take n new) (2 * b) o g) (first_arms s b o g)
  functions_forward l e =
      rw (t, l) (demand_3_forward s (take n new) g (length old) b o m m' (written_file s old new n f) st st' h owned (rw t at e))

  pub functions_backward : RunLinearPromise (take n new) b o m' y left' → Ends (ran y left')
      → EndAlike (ran x left) (ran y left') (jumps_made (take n new) b o g) (first_arms s b o g)
  functions_backward l e =
      rw (t, l) (demand_3_backward s (take n new) g (length old) b o m m' (written_file s old new n f) st st' h owned (rw l at e))
