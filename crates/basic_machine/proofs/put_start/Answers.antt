-- `basic_machine::put_start` meets its contract. Assumes nothing.
use mathlib.Core.Path.{refl, sym}
use lib.Seq.{set_out}
use Rattle.basic_machine.proofs.put_start.Goals as goal

pub returns-then-i-table : goal.returns-then-i-table
returns-then-i-table c = rw c.to_slot.ensures refl

pub returns-else-i-table : goal.returns-else-i-table
returns-else-i-table c = sym (set_out _ _ _ c.if-i-table.false)
