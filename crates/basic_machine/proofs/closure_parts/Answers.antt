-- `basic_machine::closure_parts` meets its contract. Assumes nothing.
use mathlib.Core.Path.{sym, ◌∙◌}
use Rattle.basic.specs.laws.StepLaws.{list_is, list_refused}
use Rattle.basic_machine.specs.laws.PassLaws.{closure_parted, none_parted}
use Rattle.basic_machine.proofs.closure_parts.Goals as goal

pub returns-in-Ok : goal.returns-in-Ok
returns-in-Ok c = λ p d e h. closure_parted _ p d h _ _ _ (list_is _ _ _ _ _ (sym c.in-Ok.is ∙ c.read_list.ensures)) e

pub returns-in-Err : goal.returns-in-Err
returns-in-Err c = λ p d e h. none_parted _ p d h _ (list_refused _ _ _ _ (sym c.in-Err.is ∙ c.read_list.ensures)) e
