-- `basic_code::fetch_one` meets its contract. Assumes nothing.
use Rattle.basic_code.specs.Fetch.{SavedFits}
use Rattle.basic_code.specs.laws.FetchSteps.{operand_cut, call_read, one_read}
use Rattle.lists.specs.laws.ReadLaws.{read_below}
use native.Mathlib.Omega.{arith}
use mathlib.Core.Path.{sym, ◌∙◌}
use Rattle.basic_code.proofs.fetch_one.Goals as goal

pub returns-in_default : goal.returns-in_default
unfolding SavedFits
returns-in_default c = (λ L p. operand_cut _ L p _ _ 2 (omega arith) (omega arith) (sym c.read_field.ensures ∙ c.in_default.is), tt)

pub overflow_cast-result : goal.overflow_cast-result
overflow_cast-result c = omega (arith, read_below _ _ 8 _ _ (sym c.read_field.ensures ∙ c.in-Some.is))

pub overflow_cast-n : goal.overflow_cast-n
overflow_cast-n c = omega (arith, read_below _ _ 8 _ _ (sym c.read_field.ensures ∙ c.in-Some.is))

pub returns-then-code-eq2 : goal.returns-then-code-eq2
unfolding SavedFits
returns-then-code-eq2 c = (λ L p. call_read _ L p _ _ _ _ (sym c.read_field.ensures ∙ c.in-Some.is) c.if-code-eq2.true, tt)

pub returns-else-code-eq2 : goal.returns-else-code-eq2
unfolding SavedFits
returns-else-code-eq2 c = (λ L p. c.ready.ensures.0 ∙ one_read _ L p _ _ _ _ (sym c.read_field.ensures ∙ c.in-Some.is) c.if-code-eq2.false, c.ready.ensures.1)
