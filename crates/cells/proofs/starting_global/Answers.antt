-- `cells::starting_global` meets its contract: a law for each case of the tag. Assumes nothing.
use borrow.Author.Rules.{rules}
use Rattle.cells.specs.laws.Laws.{starting_integer, starting_constant, starting_none_below, starting_none_above}
use Rattle.cells.proofs.starting_global.Goals as goal

pub returns-in-6 : goal.returns-in-6
returns-in-6 c = rw (c.int_cell.ensures, c.int_of.ensures) (starting_integer _ _ c.tag_of-t.ensures c.in-6.is)

pub returns-in-1-to-5 : goal.returns-in-1-to-5
returns-in-1-to-5 c = starting_constant _ _ c.tag_of-t.ensures c.in-1-to-5.if-t-lt1-own.false c.in-1-to-5.if-t-lt6-own.true

pub returns-in_default : goal.returns-in_default
returns-in_default c = starting_none_below _ _ c.tag_of-t.ensures c.in_default.if-t-lt1-own.true

pub returns-in_default-2 : goal.returns-in_default-2
returns-in_default-2 c = starting_none_above _ _ c.tag_of-t.ensures (search rules)
