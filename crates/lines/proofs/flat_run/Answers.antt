-- `lines::flat_run` meets its contract: the machine's contract, with fresh memory. Assumes nothing.
use mathlib.Core.Path.{ap}
use Rattle.machines.specs.Runs.{run_of}
use Rattle.lines.proofs.flat_run.Goals as goal

pub returns : goal.returns
returns c = ap run_of c.run_linear.ensures
