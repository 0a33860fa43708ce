-- `join::join_second` meets its contract: as the second operand was judged. Assumes nothing.
use mathlib.Core.Path.{refl, sym, ◌∙◌}
use Rattle.tree.specs.laws.Judged.{judged_refused}
use Rattle.join.specs.laws.WholeLaws.{to_join, second_refused}
use Rattle.files.specs.laws.RoomLaws.{all_rows}
use Rattle.files.specs.laws.RefusalLaws.{handed_on}
use Rattle.join.proofs.join_second.Goals as goal

pub join_both-requires : goal.join_both-requires
join_both-requires c =
    let pre = c.requires in
    (to_join pre _ (sym c.read_operand.ensures.value ∙ c.in_ok-sum.was) (all_rows _ refl) c.read_operand.ensures.table_after)

pub returns-in_err-sum : goal.returns-in_err-sum
returns-in_err-sum c =
    let pre = c.requires in
    let all = second_refused _ _ _ pre (judged_refused _ (sym c.read_operand.ensures.value ∙ c.in_err-sum.was)) in
    record { value = handed_on c.from_residual.ensures ∙ all.0; out_after = all.1 }
