-- `rules::push` meets its contract. Assumes nothing.
use borrow.Author.Tests.{lt-ltb, le-ltb}
use Rattle.rules.specs.Rules.{push_rule}
use Rattle.rules.specs.State.{told}
use Rattle.rules.proofs.push.Goals as goal

pub returns-then-sp-lt256 : goal.returns-then-sp-lt256
unfolding told push_rule
returns-then-sp-lt256 c = λ g t. rw (lt-ltb _ _ c.if-sp-lt256.true)

pub returns-else-sp-lt256 : goal.returns-else-sp-lt256
unfolding told push_rule
returns-else-sp-lt256 c = λ g t. rw (le-ltb _ _ c.if-sp-lt256.false)
