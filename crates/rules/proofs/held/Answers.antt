-- `rules::held` meets its contract. Assumes nothing.
use borrow.Author.Tests.{eq-eqb, ne_eqb}
use Rattle.rules.specs.Rules.{held_rule}
use Rattle.rules.specs.State.{told}
use Rattle.rules.proofs.held.Goals as goal

pub returns-then-c-eq-UNDEFINED : goal.returns-then-c-eq-UNDEFINED
unfolding told held_rule
returns-then-c-eq-UNDEFINED c = λ m. rw (eq-eqb _ _ c.if-c-eq-UNDEFINED.true)

pub returns-else-c-eq-UNDEFINED : goal.returns-else-c-eq-UNDEFINED
unfolding told held_rule
returns-else-c-eq-UNDEFINED c = λ m. rw (ne_eqb _ _ c.if-c-eq-UNDEFINED.false)
