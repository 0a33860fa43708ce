-- `rules::integer` meets its contract: the rule goes by whether the number is in range. Assumes nothing.
use Rattle.rules.specs.Answers.{integer_by}
use Rattle.rules.specs.State.{told}
use Rattle.rules.proofs.integer.Goals as goal

pub int_cell-requires : goal.int_cell-requires
int_cell-requires c = rw c.in-Some.is at c.requires.1

pub returns-in-Some : goal.returns-in-Some
unfolding told integer_by
returns-in-Some c = λ g t. rw (c.in-Some.is, c.emptied.ensures.value, c.emptied.ensures.stack, c.int_cell.ensures)

pub returns-in-None : goal.returns-in-None
unfolding told integer_by
returns-in-None c = λ g t. rw c.in-None.is
