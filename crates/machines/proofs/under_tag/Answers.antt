-- `machines::under_tag` meets its contract. Assumes nothing.
use borrow.Author.Tests.{eq-eqb, ne_eqb}
use Rattle.machines.specs.Slots.{marked_as}
use Rattle.machines.proofs.under_tag.Goals as goal

pub returns-then-tag_of-tag : goal.returns-then-tag_of-tag
unfolding marked_as
returns-then-tag_of-tag c = simp (← c.tag_of.ensures, eq-eqb _ _ c.if-tag_of-tag.true)

pub returns-else-tag_of-tag : goal.returns-else-tag_of-tag
unfolding marked_as
returns-else-tag_of-tag c = simp (← c.tag_of.ensures, ne_eqb _ _ c.if-tag_of-tag.false)
