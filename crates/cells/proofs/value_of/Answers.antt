-- `cells::value_of` meets its contract: in each arm the tag is known, and the definition goes by it. Assumes nothing.
use mathlib.Core.Path.{sym, ◌∙◌}
use Rattle.cells.specs.Cells.{value_of}
use Rattle.cells.specs.laws.Laws.{no_value}
use Rattle.cells.proofs.value_of.Goals as goal

pub returns-in-1 : goal.returns-in-1
unfolding value_of
returns-in-1 c = rw (sym c.tag_of.ensures ∙ c.in-1.is)

pub returns-in-2 : goal.returns-in-2
unfolding value_of
returns-in-2 c = rw (sym c.tag_of.ensures ∙ c.in-2.is)

pub returns-in-3 : goal.returns-in-3
unfolding value_of
returns-in-3 c = rw (sym c.tag_of.ensures ∙ c.in-3.is)

pub returns-in-4 : goal.returns-in-4
unfolding value_of
returns-in-4 c = rw (sym c.tag_of.ensures ∙ c.in-4.is)

pub returns-in-6 : goal.returns-in-6
unfolding value_of
returns-in-6 c = rw (c.int_of.ensures, sym c.tag_of.ensures ∙ c.in-6.is)

pub returns-in-7 : goal.returns-in-7
unfolding value_of
returns-in-7 c = rw (c.closure_of.ensures, sym c.tag_of.ensures ∙ c.in-7.is)

pub returns-in-8 : goal.returns-in-8
unfolding value_of
returns-in-8 c = rw (c.pair_first.ensures, c.pair_second.ensures, sym c.tag_of.ensures ∙ c.in-8.is)

pub returns-in_default : goal.returns-in_default
returns-in_default c = no_value _ _ c.tag_of.ensures c.in_default.in_default-own.rest.0.0.0.0.0.0.1 c.in_default.in_default-own.rest.0.0.0.0.0.1 c.in_default.in_default-own.rest.0.0.0.0.1 c.in_default.in_default-own.rest.0.0.0.1 c.in_default.in_default-own.rest.0.0.1 c.in_default.in_default-own.rest.0.1 c.in_default.in_default-own.rest.1
