-- `linear::check_linear` meets its contract. Assumes nothing.
use native.Mathlib.Omega.{arith}
use mathlib.Core.Path.{sym, ◌∙◌}
use Rattle.linear.specs.laws.LinearSteps.{checked_read, checked_refused}
use Rattle.linear.proofs.check_linear.Goals as goal

pub returns-in-Ok : goal.returns-in-Ok
returns-in-Ok c = checked_read _ (sym c.read_linear.ensures.value ∙ c.in-Ok.is)

pub returns-in-Err : goal.returns-in-Err
returns-in-Err c = checked_refused _ (sym c.read_linear.ensures.value ∙ c.in-Err.is) (omega arith) c.number.ensures
