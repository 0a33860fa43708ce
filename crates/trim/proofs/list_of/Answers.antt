-- `trim::list_of` meets its contract: by the list that is read at the table's slot. Assumes nothing.
use mathlib.Core.Path.{sym, ◌∙◌}
use Rattle.trim.specs.laws.StandLaws.{span_done, span_refused}
use Rattle.trim.proofs.list_of.Goals as goal

pub returns-in-Ok : goal.returns-in-Ok
returns-in-Ok c = λ here w. span_done w _ c.from_slot-start.ensures _ _ (sym c.read_list.ensures.value ∙ c.in-Ok.is)

pub returns-in-Err : goal.returns-in-Err
returns-in-Err c = λ here w. span_refused w _ c.from_slot-start.ensures _ _ (sym c.read_list.ensures.value ∙ c.in-Err.is)
