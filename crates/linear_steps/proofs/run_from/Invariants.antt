-- `linear_steps::run_from` meets its contract. Assumes nothing.
use Prim.Native.Nat.{◌-◌}
use mathlib.Core.Path.{◌≡◌}
use Rattle.rules.specs.State.{regs}
use Rattle.machines.specs.Runs.{memory}
use Rattle.machines.specs.Steps.{ran_from}
use Rattle.machines.specs.declared.CodePlace.TheVariants.{Linear}
use Rattle.linear_code.specs.Bytes.{bytes_program}
use Rattle.steps.specs.Step.{control, state_of, StepReady}
use Rattle.linear_steps.specs.Code.{code_of}
use Rattle.linear_steps.proofs.run_from.Given as goal

abbrev pub invariant-loop-done : goal.invariant-loop-done
invariant-loop-done l = StepReady l.file l.table (regs l.v l.env l.sp l.st) (control l.template (Linear l.at) l.fr) × (l.code ≡ code_of l.table l.template)
    × (ran_from l.owner (bytes_program l.file l.table) (l.budget - l.done) l.done (state_of (regs l.v l.env l.sp l.st) (control l.template (Linear l.at) l.fr) (memory l.globals l.stack l.store l.frames))
    ≡ ran_from l.owner (bytes_program l.file l.table) l.budget 0
    (state_of (regs l.initial.v l.initial.env l.initial.sp l.initial.st) (control l.initial.template (Linear l.initial.at) l.initial.fr) (memory l.initial.globals l.initial.stack l.initial.store l.initial.frames)))
