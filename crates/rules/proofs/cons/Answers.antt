-- `rules::cons` meets its contract. Assumes nothing.
use borrow.Author.Tests.{le-leb, lt-leb}
use native.Mathlib.Numerals.{add-one}
use Rattle.rules.specs.Rules.{cons_rule}
use Rattle.rules.specs.State.{told}
use Rattle.rules.proofs.cons.Goals as goal

pub returns-then-sp-lt2 : goal.returns-then-sp-lt2
unfolding told cons_rule
returns-then-sp-lt2 c = λ g. rw (lt-leb _ _ c.if-sp-lt2.true)

pub returns-then-st-le2048 : goal.returns-then-st-le2048
unfolding told cons_rule
returns-then-st-le2048 c = λ g. rw (le-leb _ _ c.if-sp-lt2.false, le-leb _ _ c.if-st-le2048.true, c.emptied-e.ensures.value, c.emptied-e.ensures.stack, c.pair_cell-pair.ensures, add-one _)

pub returns-else-st-le2048 : goal.returns-else-st-le2048
unfolding told cons_rule
returns-else-st-le2048 c = λ g. rw (le-leb _ _ c.if-sp-lt2.false, lt-leb _ _ c.if-st-le2048.false)
