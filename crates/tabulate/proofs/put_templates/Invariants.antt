-- `tabulate::put_templates` meets its contract: template after template. Assumes nothing.
use Rattle.tabulate.specs.Put.{TemplatesIn, Writing}
use lib.ListN.{length}
use mathlib.Core.Path.{◌≡◌}
use Prim.Native.Nat.{◌-◌, ◌<◌}
use Rattle.tabulate.proofs.put_templates.Given as goal

abbrev pub invariant-loop-past : goal.invariant-loop-past
invariant-loop-past l = (length l.out ≡ length l.initial.out) × ((w : TemplatesIn l.s l.end.0 l.initial.out l.initial.place.0)
    → Writing l.s l.end.0 l.own l.here.0 w.few.whole.list l.initial.out l.initial.place.0 l.out l.place.0) × (l.own < 64)

abbrev pub decreases-loop-past : goal.decreases-loop-past
decreases-loop-past l = 64 - l.own
