-- `basic_machine::saved_parts` meets its contract. Assumes nothing.
use mathlib.Core.Path.{sym, ◌∙◌}
use Rattle.basic.specs.laws.StepLaws.{list_is, list_refused}
use Rattle.basic_machine.specs.laws.PassLaws.{saved_parted, none_saved}
use Rattle.basic_machine.proofs.saved_parts.Goals as goal

pub returns-in-Ok : goal.returns-in-Ok
returns-in-Ok c = λ p n d e h. saved_parted _ p d h _ n _ _ (list_is _ _ _ _ _ (sym c.in-Ok.is ∙ c.read_list.ensures)) e

pub returns-in-Err : goal.returns-in-Err
returns-in-Err c = λ p n d e h. none_saved _ p d h _ (list_refused _ _ _ _ (sym c.in-Err.is ∙ c.read_list.ensures)) e
