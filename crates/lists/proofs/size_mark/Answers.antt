-- `lists::size_mark` meets its contract: by the test. Assumes nothing.
use native.Mathlib.Omega.{arith}
use Rattle.lists.specs.Marks.{size_mark}
use Rattle.lists.proofs.size_mark.Goals as goal

pub returns-then-closed : goal.returns-then-closed
unfolding size_mark
returns-then-closed c = rw c.if-closed.true (omega arith)

pub returns-else-closed : goal.returns-else-closed
unfolding size_mark
returns-else-closed c = rw c.if-closed.false (omega arith)
