-- `basic_code::fetch_after` meets its contract. Assumes nothing.
use mathlib.Core.Path.{sym, ◌∙◌}
use Rattle.lists.specs.laws.ReadLaws.{read_below}
use Rattle.basic_code.specs.Fetch.{SavedFits}
use Rattle.basic_code.specs.laws.FetchSteps.{nowhere_led, cut_led, code_led}
use borrow.Author.Rules.{rules}
use borrow.Author.Tests.{eqb-true, eqb-false}
use Rattle.basic_code.proofs.fetch_after.Goals as goal

pub returns-then-is_first : goal.returns-then-is_first
unfolding SavedFits
returns-then-is_first c = (nowhere_led _ _ _ (eqb-true _ 0 (sym c.is_first.ensures ∙ c.if-is_first.true)), tt)

pub returns-in_default : goal.returns-in_default
unfolding SavedFits
returns-in_default c = (cut_led _ _ _ (eqb-false _ 0 (sym c.is_first.ensures ∙ c.if-is_first.false)) (sym c.read_field.ensures ∙ c.in_default.is), tt)

pub fetch_code-requires : goal.fetch_code-requires
fetch_code-requires c = (search rules, read_below _ _ 5 _ _ (sym c.read_field.ensures ∙ c.in-Some.is))

pub returns : goal.returns
returns c = (
  c.fetch_code.ensures.0 ∙ code_led _ _ _ (eqb-false _ 0 (sym c.is_first.ensures ∙ c.if-is_first.false)) _ _
      (sym c.read_field.ensures ∙ c.in-Some.is),
  c.fetch_code.ensures.1,
)
