-- `tabulate::next_closure` meets its contract: code by code; the lists that are left have the same closures. Assumes nothing.
use Rattle.tabulate.specs.Walk.{Walk, Walked}
use Prim.Native.Nat.{◌-◌}
use Rattle.tabulate.proofs.next_closure.Given as goal

abbrev pub invariant-loop-end : goal.invariant-loop-end
invariant-loop-end l = (w : Walk l.s l.initial.here.0 l.end.0) → Walked l.s l.end.0 l.here.0 w.lists

abbrev pub decreases-loop-end : goal.decreases-loop-end
decreases-loop-end l = l.end.0 - l.here.0
