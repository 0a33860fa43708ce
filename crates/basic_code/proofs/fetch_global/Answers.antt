-- `basic_code::fetch_global` meets its contract. Assumes nothing.
use native.Mathlib.Omega.{arith}
use mathlib.Core.Path.{sym, ◌∙◌}
use Rattle.lists.specs.laws.ReadLaws.{read_below}
use Rattle.basic_code.specs.Fetch.{SavedFits}
use Rattle.basic_code.specs.laws.FetchSteps.{global_read, set_global_read, global_cut}
use Rattle.basic_code.proofs.fetch_global.Goals as goal

pub returns-in_default : goal.returns-in_default
unfolding SavedFits
returns-in_default c =
    let pre = c.requires in
    (λ L p. global_cut _ L p _ _ pre.1 pre.2 (sym c.read_field.ensures ∙ c.in_default.is), tt)

pub overflow_cast-result : goal.overflow_cast-result
overflow_cast-result c = omega (arith, read_below _ _ 8 _ _ (sym c.read_field.ensures ∙ c.in-Some.is))

pub overflow_cast-result-else-code-eq8 : goal.overflow_cast-result-else-code-eq8
overflow_cast-result-else-code-eq8 c = omega (arith, read_below _ _ 8 _ _ (sym c.read_field.ensures ∙ c.in-Some.is))

pub returns-then-code-eq8 : goal.returns-then-code-eq8
unfolding SavedFits
returns-then-code-eq8 c = (λ L p. global_read _ L p _ _ _ _ c.if-code-eq8.true (sym c.read_field.ensures ∙ c.in-Some.is), tt)

pub returns-else-code-eq8 : goal.returns-else-code-eq8
unfolding SavedFits
returns-else-code-eq8 c = (λ L p. set_global_read _ L p _ _ _ _ (omega (arith, c.if-code-eq8.false)) (sym c.read_field.ensures ∙ c.in-Some.is), tt)
