-- What a step of the tree machine asks where it has come to a code, and where a run begins.
use Rattle.std.specs.Prelude.{ℕ, ◌+◌, ◌*◌, ◌≤◌, ◌<◌, ◌≡◌, List, length}
use Rattle.cells.specs.Cells.{unspecified_cell}
use Rattle.cells.specs.declared.BitPlace.{BitPlace}
use Rattle.fields.specs.Field.{field_at}
use Rattle.rules.specs.State.{regs}
use Rattle.rules.specs.declared.Regs.{Regs}
use Rattle.machines.specs.Instruction.{tree_form, Of}
use Rattle.machines.specs.declared.CodePlace.TheVariants.{Tree}
use Rattle.steps.specs.Step.{control, StepReady}
use Rattle.steps.specs.declared.Control.{Control}

-- at p stands a code, and the 21 bits there are the line
pub record LineReady (s table : List ℕ) (r : Regs) (c : Control) (p line : ℕ) : Type 0 where
  pub in_tree : Of tree_form c.place
  pub ready : StepReady s table r c
  pub code_whole : p + 5 ≤ 8 * length s
  pub line_is : line ≡ field_at s p 21
  pub line_low : line < 0x200000

-- a run's first registers, and that it is at p, where template 0's code begins
abbrev pub first_regs : Regs
first_regs = regs unspecified_cell 0 0 0

abbrev pub beginning : BitPlace → Control
beginning p = control 0 (Tree p) 0
