-- `trim::mark_names` meets its contract. The loop's invariant: what is left of the codes marks the rest. Assumes nothing.
use Rattle.rewrite.specs.Tokens.{TokensAt}
use Rattle.trim.proofs.theorems.MarkLaws.{Marking}
use Rattle.trim.proofs.mark_names.Given as goal

abbrev pub invariant-loop-left : goal.invariant-loop-left
invariant-loop-left l = (w : TokensAt l.s l.initial.here.0 l.n) → Marking l.s w.all l.initial.row l.here.0 l.left l.row

abbrev pub decreases-loop-left : goal.decreases-loop-left
decreases-loop-left l = l.left
