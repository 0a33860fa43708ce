-- `machines::slot_at` meets its contract. Assumes nothing.
use mathlib.Core.Path.{refl, sym}
use lib.ListN.{get_or-eq_default}
use Rattle.machines.specs.Slots.{slot_at}
use Rattle.machines.proofs.slot_at.Goals as goal

pub returns-then-i-table : goal.returns-then-i-table
unfolding slot_at
returns-then-i-table c = refl

pub returns-else-i-table : goal.returns-else-i-table
unfolding slot_at
returns-else-i-table c = sym (get_or-eq_default c.args.table.now 0 c.if-i-table.false)
