-- `rules::part` meets its contract. Assumes nothing.
use borrow.Author.Tests.{le-leb, lt-leb, eq-eqb, ne_eqb}
use mathlib.Core.Path.{sym, ◌∙◌}
use Rattle.rules.specs.State.{told}
use Rattle.rules.proofs.part.Goals as goal

pub returns-then-sp-lt1 : goal.returns-then-sp-lt1
unfolding told
returns-then-sp-lt1 c = λ location g e. rw (lt-leb _ _ c.if-sp-lt1.true)

pub returns-then-tag_of-eq8 : goal.returns-then-tag_of-eq8
unfolding told
returns-then-tag_of-eq8 c = λ location g e. rw (le-leb _ _ c.if-sp-lt1.false, eq-eqb _ _ (sym c.tag_of.ensures ∙ c.if-tag_of-eq8.true), e, c.emptied.ensures.value, c.emptied.ensures.stack, c.fetch-c.ensures)

pub returns-else-tag_of-eq8 : goal.returns-else-tag_of-eq8
unfolding told
returns-else-tag_of-eq8 c = λ location g e. rw (le-leb _ _ c.if-sp-lt1.false, ne_eqb _ _ (λ k. c.if-tag_of-eq8.false (c.tag_of.ensures ∙ k)))
