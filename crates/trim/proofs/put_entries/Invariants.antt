-- `trim::put_entries` meets its contract. The loop's invariant: the entries from n on, at `here`, are left. Assumes nothing.
use Prim.Native.Nat.{◌+◌}
use Rattle.trim.specs.Standing.{EntriesIn}
use Rattle.trim.proofs.theorems.EntryLaws.{Entering}
use Rattle.trim.proofs.put_entries.Given as goal

abbrev pub invariant-loop-mark : goal.invariant-loop-mark
invariant-loop-mark l = (w : EntriesIn l.s l.initial.here.0 l.count l.initial.there.0) → Entering l.s l.numbers l.row w.entries l.initial.out l.initial.there.0 (l.mark-index + 1) l.here.0 l.out l.there.0
