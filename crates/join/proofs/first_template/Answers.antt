-- `join::first_template` meets its contract: E is the second byte of the file. Assumes nothing.
use native.Mathlib.Omega.{arith}
use Rattle.join.specs.laws.PutLaws.{operand_short, operand_two, first_is}
use Rattle.join.proofs.first_template.Goals as goal

pub past_list-past-requires : goal.past_list-past-requires
past_list-past-requires c = (operand_short c.requires, omega arith)

pub bits_at-entries-requires : goal.bits_at-entries-requires
bits_at-entries-requires c =
    let pre = c.requires in
    (omega (arith, operand_short pre), (omega arith, operand_two pre))

pub returns : goal.returns
returns c = λ w. first_is w _ _ c.past_list-past.ensures c.from_slot-start.ensures _ c.bits_at-entries.ensures.0
