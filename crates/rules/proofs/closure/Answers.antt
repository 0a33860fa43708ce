-- `rules::closure` meets its contract. Assumes nothing.
use borrow.Author.Tests.{le-leb, lt-leb}
use Rattle.rules.specs.Rules.{closure_rule}
use Rattle.rules.specs.State.{told}
use Rattle.rules.proofs.closure.Goals as goal

pub returns-then-st-le2048 : goal.returns-then-st-le2048
unfolding told closure_rule
returns-then-st-le2048 c = λ g s. rw (le-leb _ _ c.if-st-le2048.true, c.closure_cell-v.ensures)

pub returns-else-st-le2048 : goal.returns-else-st-le2048
unfolding told closure_rule
returns-else-st-le2048 c = λ g s. rw (lt-leb _ _ c.if-st-le2048.false)
