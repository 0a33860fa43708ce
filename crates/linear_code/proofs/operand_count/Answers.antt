-- `linear_code::operand_count` meets its contract. Assumes nothing.
use mathlib.Core.Path.{refl, sym}
use lib.ListN.{get_or-eq_default}
use Rattle.files.specs.Codes.{linear_bytes, operand_bytes}
use Rattle.linear_code.proofs.operand_count.Goals as goal

pub returns-then-op-lt32 : goal.returns-then-op-lt32
unfolding operand_bytes
returns-then-op-lt32 c = refl

pub returns-else-op-lt32 : goal.returns-else-op-lt32
unfolding operand_bytes
returns-else-op-lt32 c = sym (get_or-eq_default linear_bytes 0 c.if-op-lt32.false)
