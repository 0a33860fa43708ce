-- `linear_code::neutral_at` meets its contract. Assumes nothing.
use native.Mathlib.Omega.{arith}
use Rattle.machines.specs.laws.FetchedLaws.{operand_bytes_few}
use Rattle.linear_code.specs.Neutral.{neutral_as}
use Rattle.linear_code.proofs.FetchLaws.{op_cut, op_whole, whole_neutral}
use Rattle.linear_code.proofs.neutral_at.Goals as goal

pub past-requires : goal.past-requires
past-requires c = omega (arith, c.requires.1, c.operand_count-count.ensures, operand_bytes_few c.args.op)

pub returns-then-count-left : goal.returns-then-count-left
unfolding neutral_as
returns-then-count-left c =
    let few = c.if-count-left.true in
    λ slot. op_whole _ _ _ c.requires.0 slot _ _ _ c.operand_count-count.ensures _ _ few c.past.ensures
    (whole_neutral slot _ _ _ _ _ c.requires.2 c.operand-a.ensures c.operand-b.ensures)

pub returns : goal.returns
unfolding neutral_as
returns c = λ slot. op_cut _ _ _ c.requires.0 slot _ _ _ c.operand_count-count.ensures c.if-count-left.false
