-- `join::join` meets its contract: as the prologue was judged. Assumes nothing.
use mathlib.Core.Path.{refl, sym, ◌∙◌}
use Rattle.tree.specs.laws.Judged.{judged_refused}
use Rattle.join.specs.laws.WholeLaws.{prologue_at, prologue_refused}
use Rattle.files.specs.laws.RoomLaws.{all_rows}
use Rattle.files.specs.laws.RefusalLaws.{handed_on}
use Rattle.join.proofs.join.Goals as goal

pub join_second-requires : goal.join_second-requires
join_second-requires c =
    prologue_at _ (sym c.read_operand.ensures.value ∙ c.in_ok-read_operand.was) (all_rows _ refl)
    c.read_operand.ensures.table_after

pub returns-in_err-read_operand : goal.returns-in_err-read_operand
returns-in_err-read_operand c =
    let all = prologue_refused _ _ _ (judged_refused _ (sym c.read_operand.ensures.value ∙ c.in_err-read_operand.was)) in
    record { value = handed_on c.from_residual.ensures ∙ all.0; out_after = all.1 }
