-- `rules::eqv` meets its contract. Assumes nothing.
use borrow.Author.Tests.{le-leb, lt-leb, eq-eqb, ne_eqb}
use Rattle.rules.specs.Rules.{eqv_rule}
use Rattle.rules.specs.State.{told}
use Rattle.rules.proofs.eqv.Goals as goal

pub returns-then-sp-lt2 : goal.returns-then-sp-lt2
unfolding told eqv_rule
returns-then-sp-lt2 c = λ g t. rw (lt-leb _ _ c.if-sp-lt2.true)

pub returns-then-stack-sp : goal.returns-then-stack-sp
unfolding told eqv_rule
returns-then-stack-sp c = λ g t. rw (le-leb _ _ c.if-sp-lt2.false, eq-eqb _ _ c.if-stack-sp.true, c.emptied.ensures.value, c.emptied.ensures.stack)

pub returns-else-stack-sp : goal.returns-else-stack-sp
unfolding told eqv_rule
returns-else-stack-sp c = λ g t. rw (le-leb _ _ c.if-sp-lt2.false, ne_eqb _ _ c.if-stack-sp.false, c.emptied-else-stack-sp.ensures.value, c.emptied-else-stack-sp.ensures.stack)
