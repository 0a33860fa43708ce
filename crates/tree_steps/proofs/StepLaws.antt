-- A step by what stands at its place, of any program; a place kept by itself. Assumes nothing.
use native.Mathlib.Omega.{arith}
use Prim.Native.Nat.{ℕ, ◌+◌, ◌≤◌}
use mathlib.Core.Path.{◌≡◌, refl, sym, ap, ◌∙◌, subst}
use mathlib.Core.List.{List}
use lib.ListN.{length}
use Rattle.owners.specs.declared.Owner.{Owner}
use Rattle.rules.specs.declared.Regs.{Regs}
use Rattle.machines.specs.Fetched.{Fetched}
use Rattle.machines.specs.Machine.{Program, act, step}
use Rattle.machines.specs.Runs.{Memory, memory, Ran}
use Rattle.machines.specs.Slots.{slot_at}
use Rattle.machines.specs.Steps.{ran_from}
use Rattle.machines.specs.Instruction.{number, Form, tree_form, Of}
use Rattle.machines.specs.declared.CodePlace.{CodePlace}
use Rattle.steps.specs.Step.{CodeReady, start_at, control, state_of, Taken, StepReady}
use Rattle.steps.specs.declared.Control.{Control}
use Rattle.steps.specs.declared.OneStep.{OneStep}

-- ---- of a tree
pub short : (s table : List ℕ) (r : Regs) (c : Control) → Of tree_form c.place → StepReady s table r c → length s ≤ 65536
unfolding CodeReady
short s table r c o w = rw o at w.code_ready

pub starts : (form : Form) (table : List ℕ) → form ≡ tree_form → (t : ℕ) → start_at form table t ≡ slot_at table t 0
unfolding start_at
starts form table e t = rw e refl

-- ---- of any program
-- F stands at c's place, whose number is p
pub steps_as : {m' : Memory} {y : OneStep} {form : Form} (own : Owner) (P : Program) (r : Regs) (c : Control) (F : Fetched) (p : ℕ) (m n : Memory) → number c.place ≡ p
    → F ≡ P.fetch c.template p → n ≡ m → Taken form y n m' (act own P F (state_of r c n)) → Taken form y m m' (step own P (state_of r c m))
unfolding step
steps_as own P r c F p m n i e same t =
    let there : F ≡ P.fetch c.template (number c.place) = e ∙ ap (P.fetch c.template) (sym i) in rw (← there, ← same) t

pub same_memory : {g s t f g₀ s₀ t₀ f₀ : List ℕ} → g ≡ g₀ → s ≡ s₀ → t ≡ t₀ → f ≡ f₀ → memory g s t f ≡ memory g₀ s₀ t₀ f₀
same_memory a b c d = rw (a, b, c, d)

-- k's place is p, which is kept by itself
module _ (k : Control) (p : CodePlace) (e : k.place ≡ p) where
  apart : k ≡ control k.template p k.fr
  apart = ap (λ (q : CodePlace). control k.template q k.fr) e

  pub ready_apart : (s table : List ℕ) (q : Regs) → StepReady s table q k → StepReady s table q (control k.template p k.fr)
  ready_apart s table q w = subst (λ (c : Control). StepReady s table q c) apart w

  pub turn_apart : {goal : Ran} (own : Owner) (P : Program) (left b : ℕ) (m : Memory) (q : Regs) → ran_from own P left b (state_of q k m) ≡ goal
      → ran_from own P left b (state_of q (control k.template p k.fr) m) ≡ goal
  turn_apart own P left b m q h = rw e at h

-- past a code that it is not
pub past_code : (k code : ℕ) → k ≤ code → (code ≡ k → ⊥) → k + 1 ≤ code
past_code k code h n = omega arith
