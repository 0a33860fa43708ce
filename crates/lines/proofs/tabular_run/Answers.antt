-- `lines::tabular_run` meets its contract: the machine's contract, with fresh memory. Assumes nothing.
use mathlib.Core.Path.{ap}
use Rattle.machines.specs.Runs.{run_of}
use Rattle.lines.proofs.tabular_run.Goals as goal

pub returns : goal.returns
returns c = ap run_of c.run_tree.ensures
