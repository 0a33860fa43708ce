-- `basic_steps::run_from` meets its contract. Assumes nothing.
use Prim.Native.Nat.{◌-◌}
use mathlib.Core.Path.{◌≡◌}
use Rattle.machines.specs.Runs.{memory}
use Rattle.machines.specs.Steps.{ran_from}
use Rattle.machines.specs.Instruction.{tree_form, Of}
use Rattle.steps.specs.Step.{state_of, StepReady}
use Rattle.basic_code.specs.Fetch.{basic_linked}
use Rattle.basic_steps.proofs.run_from.Given as goal

abbrev pub invariant-loop-done : goal.invariant-loop-done
invariant-loop-done l = StepReady l.file l.table l.r l.c × Of tree_form l.c.place
    × (ran_from l.owner (basic_linked l.file l.links l.table) (l.budget - l.done) l.done (state_of l.r l.c (memory l.globals l.stack l.store l.frames))
    ≡ ran_from l.owner (basic_linked l.file l.links l.table) l.budget 0 (state_of l.initial.r l.initial.c (memory l.initial.globals l.initial.stack l.initial.store l.initial.frames)))
