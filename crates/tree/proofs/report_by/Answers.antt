-- `tree::report_by` meets its contract. Assumes nothing.
use mathlib.Core.Path.{refl}
use Rattle.tree.specs.Summary.{report_by}
use Rattle.tree.proofs.report_by.Goals as goal

pub returns : goal.returns
unfolding report_by
returns c = rw c.is_closed.ensures refl
