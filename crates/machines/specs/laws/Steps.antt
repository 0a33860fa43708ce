-- A run told as it is reported, step by step: jumps and first arms need not be counted for that. Assumes nothing.
use Prim.Native.Nat.{ℕ, zero, suc, ◌+◌, ◌-◌, ◌<◌, ◌≤◌}
use Rattle.std.specs.Prelude.{◌≡◌, refl}
use Rattle.std.proofs.Common.{ap, ◌∙◌}
use native.Mathlib.Omega.{arith}
use Rattle.std.proofs.Math.Nat.{sub-zero}
use Rattle.std.proofs.Math.Numerals.{add-one}
use Rattle.cells.specs.Cells.{value_of}
use Rattle.owners.specs.declared.Owner.{Owner}
use Rattle.machines.specs.Machine.{Program, State, Step, go, halt, stop, Counts, no_counts, counted, here, step, Ended, next, run}
use Rattle.machines.specs.Runs.{Ran, ran, end_of, memory_of, reported}
use Rattle.machines.specs.declared.End.{End}
use Rattle.machines.specs.declared.End.TheVariants.{Halted, Wrong, OutOfBudget}
use Rattle.machines.specs.Steps.{done, ran_from}

-- what is reported does not depend on the jumps and the first arms counted so far
next_forgotten : (f g : Counts → State → Ended) (a b a' b' : Counts) (s : State) (x : Step) → a.steps ≡ b.steps → a'.steps ≡ b'.steps
    → ((s' : State) → reported (f a' s') ≡ reported (g b' s')) → reported (next f a a' s x) ≡ reported (next g b b' s x)
unfolding next reported
next_forgotten f g a b a' b' s (go s') h h' k = k s'
next_forgotten f g a b a' b' s halt h h' k = rw h'
next_forgotten f g a b a' b' s (stop n) h h' k = rw h

pub counts_forgotten : (o : Owner) (P : Program) (b : ℕ) (j k : Counts) (s : State) → j.steps ≡ k.steps → reported (run o P b j s) ≡ reported (run o P b k s)
unfolding run reported counted
counts_forgotten o P zero j k s e = rw e
counts_forgotten o P (suc b) j k s e =
    next_forgotten (λ k' s'. run o P b k' s') (λ k' s'. run o P b k' s') j k (counted (here P s) s j) (counted (here P s) s k) s (step o P s) e (ap suc e)
    (λ s'. counts_forgotten o P b (counted (here P s) s j) (counted (here P s) s k) s' (ap suc e))

-- the end e in state s with n steps done
unfoldable pub ends_in : End → ℕ → State → Ran
unfolding memory_of
ends_in e n s = ran (record { end = e; steps = n; stack = s.now.regs.sp; store = s.now.regs.st; frames = s.now.fr }) (memory_of s.now)

-- ---- one turn of a machine's loop, which has `left` of the budget b left: what is left to do gives what it gave before
module _ {goal : Ran} (o : Owner) (P : Program) (left b : ℕ) (s : State) (x : Step) (some : 0 < left) (most : left ≤ b) (e : x ≡ step o P s)
    (h : ran_from o P left (b - left) s ≡ goal) where
  opened : reported (next (λ k' s'. run o P (left - 1) k' s') (done (b - left)) (counted (here P s) s (done (b - left))) s x) ≡ goal
  unfolding ran_from run
  opened = let a : left ≡ suc (left - 1) = omega arith in rw e (rw (ap (λ (n : ℕ). ran_from o P n (b - left) s) a) at h)

  pub turn_goes : (s' : State) → x ≡ go s' → ran_from o P (left - 1) (b - (left - 1)) s' ≡ goal
  unfolding ran_from next counted
  turn_goes s' k =
      counts_forgotten o P (left - 1) (done (b - (left - 1))) (counted (here P s) s (done (b - left))) s' (omega arith)
      ∙ rw k at opened

  pub turn_halts : x ≡ halt → ends_in (Halted (value_of s.now.regs.v)) (b - left + 1) s ≡ goal
  unfolding next reported end_of ends_in counted
  turn_halts k = rw add-one (rw k at opened)

  pub turn_stops : (n : ℕ) → x ≡ stop n → ends_in (Wrong n) (b - left) s ≡ goal
  unfolding next reported end_of ends_in
  turn_stops n k = rw k at opened

-- nothing is left of the budget
pub budget_spent_lem : {goal : Ran} (o : Owner) (P : Program) (left b : ℕ) (s : State) → left ≤ 0 → ran_from o P left (b - left) s ≡ goal
    → ends_in OutOfBudget b s ≡ goal
unfolding ran_from run reported end_of ends_in
budget_spent_lem o P left b s k h = let a : left ≡ 0 = omega arith in rw sub-zero at (rw a at h)

-- the whole budget is left
pub whole_budget : (o : Owner) (P : Program) (b : ℕ) (s : State) → ran_from o P b 0 s ≡ reported (run o P b no_counts s)
unfolding ran_from
whole_budget o P b s = refl
