-- `rules::global` meets its contract. Assumes nothing.
use mathlib.Core.Path.{ap, ◌∙◌}
use Rattle.rules.specs.Rules.{global_rule, plain_rule}
use Rattle.rules.specs.Owned.{may_do}
use Rattle.rules.specs.State.{told}
use Rattle.rules.proofs.Laws.{barred, allowed}
use Rattle.rules.proofs.global.Goals as goal

pub returns-then-not-may_read : goal.returns-then-not-may_read
unfolding told may_do
returns-then-not-may_read c = λ s t. ap (told _) (barred _ _ _ _ _ c.may_read.ensures c.if-not-may_read.true)

pub returns : goal.returns
unfolding may_do plain_rule global_rule
returns c = λ s t. c.held.ensures _ ∙ ap (told _) (allowed _ _ _ _ _ c.may_read.ensures c.if-not-may_read.false)
