-- A step of the basic machine, by what was fetched. Assumes nothing.
use Prim.Native.Nat.{ℕ, ◌<◌, ◌^◌}
use mathlib.Core.Path.{◌≡◌, refl, ap, ◌∙◌}
use mathlib.Core.List.{List}
use Rattle.cells.specs.laws.Laws.{clash}
use Rattle.cells.specs.declared.BitPlace.{BitPlace}
use Rattle.cells.specs.declared.BytePlace.{BytePlace}
use Rattle.owners.specs.declared.Owner.{Owner}
use Rattle.rules.specs.declared.Regs.{Regs}
use Rattle.machines.specs.Machine.{act, step}
use Rattle.machines.specs.Runs.{Memory}
use Rattle.machines.specs.Instruction.{number, Form, tree_form, linear_form, form_of, Of}
use Rattle.machines.specs.declared.CodePlace.{CodePlace}
use Rattle.machines.specs.declared.CodePlace.TheVariants.{Linear}
use Rattle.steps.specs.Step.{start_at, state_of, Taken}
use Rattle.steps.specs.declared.Control.{Control}
use Rattle.steps.specs.declared.OneStep.{OneStep}
use Rattle.basic_code.specs.Fetch.{read_as, SavedFits, fetched_at, basic_linked}
use Rattle.basic_code.specs.declared.BasicInstruction.{BasicInstruction}
use Rattle.basic_code.specs.declared.BasicInstruction.TheVariants.{Save}

-- no place of this machine is a byte number
pub no_byte : {A : Type 0} (q : CodePlace) (p : BytePlace) → q ≡ Linear p → Of tree_form q → A
unfolding form_of
no_byte q p e o = let z : linear_form ≡ tree_form = rw e at o in clash (cc)

-- x was fetched at the place p, and is z
module _ (own : Owner) (s L table : List ℕ) (r : Regs) (c : Control) (x z : BasicInstruction) (p : BitPlace) (i : p.0 ≡ number c.place)
    (e : read_as x ≡ fetched_at s L c.template p.0) (h : x ≡ z) where
  found : read_as x ≡ fetched_at s L c.template (number c.place)
  found = e ∙ ap (fetched_at s L c.template) i

  pub step_is : (m m' : Memory) (y : OneStep) → Taken tree_form y m m' (act own (basic_linked s L table) (read_as z) (state_of r c m))
      → Taken tree_form y m m' (step own (basic_linked s L table) (state_of r c m))
  unfolding step
  step_is m m' y t = rw (← found, h) t

-- where a template's list begins
pub starts : (form : Form) (s L table : List ℕ) → form ≡ tree_form → (t : ℕ) → start_at form table t ≡ (basic_linked s L table).start t
unfolding start_at
starts form s L table e t = rw e refl

pub saved_fits : (x : BasicInstruction) → SavedFits x → (n : ℕ) (p q : BitPlace) → x ≡ Save n p q → p.0 < 2 ^ 24
unfolding SavedFits
saved_fits x h n p q e = rw e at h
