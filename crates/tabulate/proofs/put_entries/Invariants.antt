-- `tabulate::put_entries` meets its contract: one slot after the other. Assumes nothing.
use Rattle.tabulate.specs.laws.PutLaws.{Listing}
use Rattle.tabulate.specs.Put.{EntriesIn}
use lib.ListN.{length}
use mathlib.Core.Path.{◌≡◌}
use Rattle.tabulate.proofs.put_entries.Given as goal

abbrev pub invariant-loop-slot : goal.invariant-loop-slot
invariant-loop-slot l = (length l.out ≡ length l.initial.out) × ((w : EntriesIn l.slots (length l.slots) l.initial.out l.initial.here.0)
    → Listing l.slots (length l.slots) l.slot-index l.initial.out l.initial.here.0 w.entries l.out l.here.0)
