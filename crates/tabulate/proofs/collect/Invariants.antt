-- `tabulate::collect` meets its contract: code by code; the entries so far and the uses that are left come to the template's entries. Assumes nothing.
use Prim.Native.Nat.{◌-◌, ◌≤◌}
use Rattle.tabulate.specs.Collect.{OwnList, Collecting}
use Rattle.tabulate.proofs.collect.Given as goal

abbrev pub invariant-loop-end : goal.invariant-loop-end
invariant-loop-end l = (l.count ≤ 255) × ((w : OwnList l.s l.initial.here.0 l.end.0 l.n) → Collecting l.s l.end.0 w.list l.n l.here.0 l.next l.count l.bits l.table)

abbrev pub decreases-loop-end : goal.decreases-loop-end
decreases-loop-end l = l.end.0 - l.here.0
