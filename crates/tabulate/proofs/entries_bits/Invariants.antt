-- `tabulate::entries_bits` meets its contract: one slot after the other. Assumes nothing.
use mathlib.Core.Path.{◌≡◌}
use Prim.Native.Nat.{◌*◌, ◌≤◌}
use Rattle.tabulate.specs.Collect.{slots_bits}
use lib.ListN.{take}
use Rattle.tabulate.proofs.entries_bits.Given as goal

abbrev pub invariant-loop-slot : goal.invariant-loop-slot
invariant-loop-slot l = (l.bits ≡ slots_bits (take l.slot-index l.slots)) × (l.bits ≤ 53 * l.slot-index)
