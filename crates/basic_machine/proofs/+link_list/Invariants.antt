-- The cycle of `basic_machine::link_list`: a list within a list begins further on; within a list unread bits fall. Assumes nothing.
use Prim.Native.Nat.{◌*◌, ◌-◌, ◌≤◌}
use mathlib.Core.Path.{◌≡◌}
use lib.ListN.{length}
use Rattle.basic.specs.Basic.{Basic}
use Rattle.basic_machine.specs.Pass.{Reads, Going}
use Rattle.basic_machine.proofs.+link_list.Given as goal

abbrev pub decreases-link_list : goal.decreases-link_list
decreases-link_list l = 524288 - l.at.0

abbrev pub invariant-loop-links : goal.invariant-loop-links
invariant-loop-links l = ((c : Basic) → Reads l.s l.initial.here.0 c → Going l.s l.initial.links l.initial.table l.initial.number l.initial.goes.0 l.initial.here.0 c l.links l.table l.number l.goes.0 l.here.0)
    × (length l.links ≡ length l.initial.links)
    × (length l.table ≡ length l.initial.table)
    × (l.goes.0 ≤ 524288)
    × (l.initial.here.0 ≤ l.here.0)

abbrev pub decreases-loop-links : goal.decreases-loop-links
decreases-loop-links l = 8 * length l.s - l.here.0
