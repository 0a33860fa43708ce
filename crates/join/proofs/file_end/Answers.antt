-- `join::file_end` meets its contract: where the last list ends. Assumes nothing.
use native.Mathlib.Omega.{arith}
use mathlib.Core.Path.{refl}
use Rattle.join.specs.laws.PutLaws.{operand_short, operand_count_lem, only_end, end_is}
use Rattle.join.proofs.file_end.Goals as goal

pub returns-then-count-eq1 : goal.returns-then-count-eq1
returns-then-count-eq1 c = λ w. only_end w c.if-count-eq1.true _ (c.requires.first_is w) _ refl

pub overflow_sub-own : goal.overflow_sub-own
overflow_sub-own c = (operand_count_lem c.requires.operand).0

pub bounds-table-slot : goal.bounds-table-slot
bounds-table-slot c = let k = operand_count_lem c.requires.operand in omega (arith, k)

pub past_list-requires : goal.past_list-requires
past_list-requires c =
    let pre = c.requires.operand in
    let k = operand_count_lem pre in
    (operand_short pre, omega (arith, k))

pub returns : goal.returns
returns c = λ w. end_is w _ _ c.past_list.ensures _ refl c.from_slot.ensures
