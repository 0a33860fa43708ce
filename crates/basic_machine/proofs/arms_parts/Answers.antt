-- `basic_machine::arms_parts` meets its contract. Assumes nothing.
use mathlib.Core.Path.{sym, ◌∙◌}
use Rattle.basic.specs.laws.StepLaws.{list_is, list_refused}
use Rattle.basic_machine.specs.laws.PassLaws.{arms_parted, none_first, none_second}
use Rattle.basic_machine.proofs.arms_parts.Goals as goal

pub returns : goal.returns
returns c =
    λ p d e h. arms_parted _ p d h _ _ _ _ _ (list_is _ _ _ _ _ (sym c.in-Ok.is ∙ c.read_list.ensures))
    (list_is _ _ _ _ _ (sym c.in-Ok-read_list.is ∙ c.read_list-2.ensures)) e

pub returns-in_default-read_list : goal.returns-in_default-read_list
returns-in_default-read_list c =
    λ p d e h. none_second _ p d h _ _ _ (list_is _ _ _ _ _ (sym c.in-Ok.is ∙ c.read_list.ensures))
    (list_refused _ _ _ _ (sym c.in_default-read_list.is ∙ c.read_list-2.ensures)) e

pub returns-in_default : goal.returns-in_default
returns-in_default c = λ p d e h. none_first _ p d h _ (list_refused _ _ _ _ (sym c.in_default.is ∙ c.read_list.ensures)) e
