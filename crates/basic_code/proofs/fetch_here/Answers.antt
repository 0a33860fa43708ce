-- `basic_code::fetch_here` meets its contract. Assumes nothing.
use mathlib.Core.Path.{sym, ◌∙◌}
use Rattle.lists.specs.laws.ReadLaws.{read_below}
use Rattle.basic_code.specs.Fetch.{SavedFits}
use Rattle.basic_code.specs.laws.FetchSteps.{cut_here, end_here, code_here}
use borrow.Author.Rules.{rules}
use Rattle.basic_code.proofs.fetch_here.Goals as goal

pub returns-in_default : goal.returns-in_default
unfolding SavedFits
returns-in_default c = (cut_here _ _ _ (sym c.read_field.ensures ∙ c.in_default.is), tt)

pub fetch_code-requires : goal.fetch_code-requires
fetch_code-requires c = (search rules, read_below _ _ 5 _ _ (sym c.read_field.ensures ∙ c.in-Some.is))

pub returns-then-code-eq0 : goal.returns-then-code-eq0
returns-then-code-eq0 c = (
  c.fetch_after.ensures.0 ∙ end_here _ _ _ _ _ (sym c.read_field.ensures ∙ c.in-Some.is) c.if-code-eq0.true _
      c.link_at.ensures,
  c.fetch_after.ensures.1,
)

pub returns-else-code-eq0 : goal.returns-else-code-eq0
returns-else-code-eq0 c = (c.fetch_code.ensures.0 ∙ code_here _ _ _ _ _ (sym c.read_field.ensures ∙ c.in-Some.is) c.if-code-eq0.false, c.fetch_code.ensures.1)
