-- `basic_code::fetch` meets its contract. Assumes nothing.
use mathlib.Core.Path.{sym, ◌∙◌}
use Rattle.basic_code.specs.Fetch.{SavedFits}
use Rattle.basic_code.specs.laws.FetchSteps.{no_template_lem, here_away, here_0}
use borrow.Author.Tests.{eqb-true, eqb-false}
use Rattle.basic_code.proofs.fetch.Goals as goal

pub returns-then-template-eq0 : goal.returns-then-template-eq0
returns-then-template-eq0 c = (c.fetch_here.ensures.0 ∙ here_0 _ _ _ _ c.if-template-eq0.true, c.fetch_here.ensures.1)

pub returns-then-is_first : goal.returns-then-is_first
unfolding SavedFits
returns-then-is_first c = (no_template_lem _ _ _ _ c.if-template-eq0.false (eqb-true _ 0 (sym c.is_first.ensures ∙ c.if-is_first.true)), tt)

pub returns : goal.returns
returns c = (
  c.fetch_here-2.ensures.0 ∙ here_away _ _ _ _ (eqb-false _ 0 (sym c.is_first.ensures ∙ c.if-is_first.false)),
  c.fetch_here-2.ensures.1,
)
