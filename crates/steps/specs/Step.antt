-- What a step answers, as a step of the machine of a file's program.
use Rattle.std.specs.Prelude.{ℕ, ◌≤◌, ◌≡◌, List, length}
use Rattle.rules.specs.State.{mem}
use Rattle.rules.specs.Fit.{Fit}
use Rattle.rules.specs.WrongNumber.{wrong_number}
use Rattle.rules.specs.declared.Regs.{Regs}
use Rattle.machines.specs.Machine.{State, at, Step, go, halt, stop}
use Rattle.machines.specs.Runs.{Memory}
use Rattle.machines.specs.Slots.{slot_at}
use Rattle.machines.specs.Instruction.{number, Form, tree_form, linear_form, form_of, Of}
use Rattle.machines.specs.declared.CodePlace.{CodePlace}
use Rattle.machines.specs.declared.End.{End}
use Rattle.machines.specs.declared.Run.{Run}
use Rattle.linear_code.specs.Bytes.{AllWithin}
use Rattle.steps.specs.declared.Control.{Control}
use Rattle.steps.specs.declared.OneStep.{OneStep}
use Rattle.steps.specs.declared.OneStep.TheVariants.{Next, Halted, Wrong}

-- where a template's code begins
unfoldable pub start_at : Form → List ℕ → ℕ → ℕ
start_at tree_form table t = slot_at table t 0
start_at linear_form table t = 0

-- what reading at a place asks of the file and its table
unfoldable pub CodeReady : Form → List ℕ → List ℕ → Type 0
CodeReady tree_form s table = length s ≤ 65536
CodeReady linear_form s table = AllWithin s table

-- ---- states
-- in template t at place p, with f frame cells in use
abbrev pub control : ℕ → CodePlace → ℕ → Control
control t p f = record { template = t; place = p; fr = f }

-- the state that registers and lent cells are
abbrev pub state_of : Regs → Control → Memory → State
state_of r c m =
    at (record { regs = r; mem = mem m.globals m.stack m.store; frames = m.frames; fr = c.fr }) c.template (number c.place)

-- what a run returns that ends so with n steps done
abbrev pub ends_with : End → ℕ → Regs → Control → Run
ends_with e n r c = record { end = e; steps = n; stack = r.sp; store = r.st; frames = c.fr }

-- ---- steps
unfoldable pub meant : OneStep → Memory → Step
meant (Next r c) m = go (state_of r c m)
meant Halted m = halt
meant (Wrong w) m = stop (wrong_number w)

-- at an end nothing is changed
unfoldable pub Unchanged : OneStep → Memory → Memory → Type 0
Unchanged (Next r c) m m' = Unit
Unchanged Halted m m' = m' ≡ m
Unchanged (Wrong w) m m' = m' ≡ m

unfoldable pub GoesOn : Form → OneStep → Type 0
GoesOn form (Next r c) = Fit r × (c.fr ≤ 2048) × Of form c.place
GoesOn form Halted = Unit
GoesOn form (Wrong w) = Unit

-- x, which leaves the cells m' where m were, is the step y, and stays in its form of code
pub record Taken (form : Form) (x : OneStep) (m m' : Memory) (y : Step) : Type 0 where
  pub meant_is : meant x m' ≡ y
  pub unchanged : Unchanged x m m'
  pub goes_on : GoesOn form x

-- what a step asks
pub record StepReady (s table : List ℕ) (r : Regs) (c : Control) : Type 0 where
  pub code_ready : CodeReady (form_of c.place) s table
  pub fit : Fit r
  pub frames_fit : c.fr ≤ 2048
