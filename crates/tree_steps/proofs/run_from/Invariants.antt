-- `tree_steps::run_from` meets its contract. Assumes nothing.
use Prim.Native.Nat.{◌-◌}
use mathlib.Core.Path.{◌≡◌}
use Rattle.rules.specs.State.{regs}
use Rattle.machines.specs.Runs.{memory}
use Rattle.machines.specs.Steps.{ran_from}
use Rattle.machines.specs.declared.CodePlace.TheVariants.{Tree}
use Rattle.tree_code.specs.Fetch.{linked_program}
use Rattle.steps.specs.Step.{control, state_of, StepReady}
use Rattle.tree_steps.specs.Ready.{first_regs, beginning}
use Rattle.tree_steps.proofs.run_from.Given as goal

abbrev pub invariant-loop-done : goal.invariant-loop-done
invariant-loop-done l = StepReady l.file l.table (regs l.v l.env l.sp l.st) (control l.template (Tree l.at) l.fr)
    × (ran_from l.owner (linked_program l.file l.links l.table) (l.budget - l.done) l.done
    (state_of (regs l.v l.env l.sp l.st) (control l.template (Tree l.at) l.fr) (memory l.globals l.stack l.store l.frames))
    ≡ ran_from l.owner (linked_program l.file l.links l.table) l.budget 0 (state_of first_regs (beginning l.initial.at) (memory l.initial.globals l.initial.stack l.initial.store l.initial.frames)))
