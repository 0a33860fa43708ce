-- `machines::literal` meets its contract. Assumes nothing.
use borrow.Author.Tests.{eq-eqb, ne_eqb, le-leb}
use Rattle.machines.specs.Fetched.{as_literal}
use Rattle.machines.specs.Slots.{slot_names, resolved_as}
use Rattle.machines.proofs.ResolveLaws.{no_literal}
use Rattle.machines.proofs.literal.Goals as goal

pub returns-then-tag-eq0 : goal.returns-then-tag-eq0
unfolding slot_names as_literal resolved_as
returns-then-tag-eq0 c = simp (← c.tag_of-tag.ensures, eq-eqb _ _ c.if-tag-eq0.true)

pub returns-then-tag-le6 : goal.returns-then-tag-le6
unfolding slot_names as_literal resolved_as
returns-then-tag-le6 c = simp (← c.tag_of-tag.ensures, ne_eqb _ _ c.if-tag-eq0.false, le-leb _ _ c.if-tag-le6.true)

pub returns-else-tag-le6 : goal.returns-else-tag-le6
returns-else-tag-le6 c = no_literal c.args.slot _ c.tag_of-tag.ensures c.if-tag-le6.false
