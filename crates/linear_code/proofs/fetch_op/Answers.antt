-- `linear_code::fetch_op` meets its contract. Assumes nothing.
use native.Mathlib.Omega.{arith}
use Rattle.machines.specs.Instruction.{fetched_as, Places}
use Rattle.machines.specs.laws.FetchedLaws.{operand_bytes_few}
use Rattle.linear_code.proofs.FetchLaws.{op_cut, op_whole}
use Rattle.linear_code.proofs.fetch_op.Goals as goal

pub returns-then-left-count : goal.returns-then-left-count
unfolding fetched_as Places
returns-then-left-count c = (λ slot. op_cut _ _ _ c.requires.0 slot _ _ _ c.operand_count-count.ensures c.if-left-count.true, tt)

pub past-requires : goal.past-requires
past-requires c = omega (arith, c.requires.1, c.operand_count-count.ensures, operand_bytes_few c.args.op)

pub fetch_whole-requires : goal.fetch_whole-requires
fetch_whole-requires c =
    let n = c.operand_count-count.ensures in
    (c.requires.0, omega (arith, n, c.if-left-count.false), omega (arith, c.past.ensures, c.requires.1, n, operand_bytes_few c.args.op))

pub returns : goal.returns
returns c = (
  λ slot. op_whole _ _ _ c.requires.0 slot _ _ _ c.operand_count-count.ensures _ _ (omega (arith, c.if-left-count.false)) c.past.ensures
      (c.fetch_whole.ensures.0 slot),
  c.fetch_whole.ensures.1,
)
