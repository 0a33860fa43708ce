-- `trim::mark_reached` meets its contract. The loop's invariant: the set and the marks after the templates below `own`. Assumes nothing.
use Rattle.trim.specs.Standing.{FileIn}
use Rattle.trim.specs.laws.ReachedLaws.{Reaching}
use Rattle.trim.proofs.mark_reached.Given as goal

abbrev pub invariant-loop-own : goal.invariant-loop-own
invariant-loop-own l = (w : FileIn l.s l.table l.count) → Reaching l.s l.table w.templates l.own l.reach l.marks
