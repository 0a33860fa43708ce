-- `tabulate::put_code` meets its contract: code by code; what is put and what is left come to the list's bits. Assumes nothing.
use Rattle.tabulate.specs.Put.{CodeIn, Coding}
use lib.ListN.{length}
use mathlib.Core.Path.{◌≡◌}
use Prim.Native.Nat.{◌-◌}
use Rattle.tabulate.proofs.put_code.Given as goal

abbrev pub invariant-loop-end : goal.invariant-loop-end
invariant-loop-end l = (length l.out ≡ length l.initial.out) × ((w : CodeIn l.s l.table l.initial.here.0 l.end.0 l.n l.count l.initial.out l.initial.past.0)
    → Coding l.s l.end.0 w.entries w.own.list l.n l.initial.out l.initial.past.0 l.here.0 l.next l.out l.past.0)

abbrev pub decreases-loop-end : goal.decreases-loop-end
decreases-loop-end l = l.end.0 - l.here.0
