-- `trim::number` meets its contract. Assumes nothing.
use Rattle.trim.proofs.theorems.MarkLaws.{Numbering}
use Rattle.trim.proofs.number.Given as goal

abbrev pub invariant-loop-mark : goal.invariant-loop-mark
invariant-loop-mark l = Numbering l.initial.mark-items l.mark-index l.count l.mark-items
