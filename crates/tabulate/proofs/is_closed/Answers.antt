-- `tabulate::is_closed` meets its contract: by its class. Assumes nothing.
use Rattle.tabulate.specs.laws.JudgeLaws.{told_class, told_none}
use Rattle.basic.specs.laws.StepLaws.{list_was}
use mathlib.Core.Path.{◌∙◌}
use Rattle.tabulate.proofs.is_closed.Goals as goal

pub returns-in-Ok : goal.returns-in-Ok
returns-in-Ok c = λ x q e. c.is_closed.ensures ∙ told_class (list_was _ _ _ c.read_list.ensures c.in-Ok.is) x q e

pub returns-in-Err : goal.returns-in-Err
returns-in-Err c = λ x q e. told_none _ _ _ c.in-Err.is c.read_list.ensures x q e
