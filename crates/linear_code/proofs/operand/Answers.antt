-- `linear_code::operand` meets its contract. Assumes nothing.
use Rattle.linear_code.proofs.FetchLaws.{operand_there, operand_past}
use Rattle.linear_code.proofs.operand.Goals as goal

pub returns-then-k-left : goal.returns-then-k-left
returns-then-k-left c = operand_there _ _ _ c.requires _ c.if-k-left.true

pub returns-else-k-left : goal.returns-else-k-left
returns-else-k-left c = operand_past _ _ _ c.requires _ c.if-k-left.false
