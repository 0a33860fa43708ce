-- `rules::make_env` meets its contract. Assumes nothing.
use borrow.Author.Tests.{le-leb, lt-leb, eq-eqb, ne_eqb}
use mathlib.Core.Path.{refl}
use native.Mathlib.Numerals.{add-one}
use Rattle.rules.specs.Rules.{make_env_rule}
use Rattle.rules.specs.State.{told}
use Rattle.rules.proofs.make_env.Goals as goal

pub returns-then-sp-n : goal.returns-then-sp-n
unfolding told make_env_rule
returns-then-sp-n c = λ g. rw (ne_eqb _ _ c.if-sp-n.true)

pub returns-then-st-sp-le2048 : goal.returns-then-st-sp-le2048
unfolding told make_env_rule
returns-then-st-sp-le2048 c = λ g. rw (c.copy_down.ensures, c.clear.ensures, c.layer_cell.ensures, ← c.if-sp-n.false, eq-eqb _ _ refl, le-leb _ _ c.if-st-sp-le2048.true, add-one _)

pub returns-else-st-sp-le2048 : goal.returns-else-st-sp-le2048
unfolding told make_env_rule
returns-else-st-sp-le2048 c = λ g. rw (← c.if-sp-n.false, eq-eqb _ _ refl, lt-leb _ _ c.if-st-sp-le2048.false)
