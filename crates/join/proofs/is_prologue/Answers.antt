-- `join::is_prologue` meets its contract: by the class of the one list. Assumes nothing.
use mathlib.Core.Path.{sym, ◌∙◌}
use Rattle.join.specs.laws.JudgedLaws.{all_closed, more_templates, prologue_class, prologue_refused}
use Rattle.join.proofs.is_prologue.Goals as goal

pub returns-then-count-ne1 : goal.returns-then-count-ne1
returns-then-count-ne1 c = λ w. more_templates _ (λ e. c.if-count-ne1.true (w.count_is ∙ e))

pub returns-then-unclosed-ge64 : goal.returns-then-unclosed-ge64
returns-then-unclosed-ge64 c = all_closed c.requires.1 c.if-unclosed-ge64.true

pub returns-in-Ok : goal.returns-in-Ok
returns-in-Ok c = λ w. c.is_open.ensures ∙ prologue_class w c.if-count-ne1.false _ c.from_slot.ensures _ _ (sym c.read_list.ensures.value ∙ c.in-Ok.is)

pub returns-in-Err : goal.returns-in-Err
returns-in-Err c = λ w. prologue_refused w c.if-count-ne1.false _ c.from_slot.ensures _ _ (sym c.read_list.ensures.value ∙ c.in-Err.is)
