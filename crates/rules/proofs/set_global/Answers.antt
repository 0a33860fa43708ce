-- `rules::set_global` meets its contract. Assumes nothing.
use mathlib.Core.Path.{ap}
use Rattle.rules.specs.Rules.{set_global_rule, plain_rule}
use Rattle.rules.specs.Owned.{may_do}
use Rattle.rules.specs.State.{told}
use Rattle.rules.proofs.Laws.{barred, allowed}
use Rattle.rules.proofs.set_global.Goals as goal

pub returns-then-not-may_set : goal.returns-then-not-may_set
unfolding told may_do
returns-then-not-may_set c = λ s t. ap (told _) (barred _ _ _ _ _ c.may_set.ensures c.if-not-may_set.true)

pub returns : goal.returns
unfolding told may_do plain_rule set_global_rule
returns c = λ s t. ap (told _) (allowed _ _ _ _ _ c.may_set.ensures c.if-not-may_set.false)
