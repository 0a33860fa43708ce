-- `basic_code::fetch_two` meets its contract. Assumes nothing.
use Rattle.basic_code.specs.Fetch.{SavedFits}
use Rattle.basic_code.specs.laws.FetchSteps.{operand_cut, second_cut, two_read}
use Rattle.lists.specs.laws.ReadLaws.{read_below}
use native.Mathlib.Omega.{arith}
use mathlib.Core.Path.{sym, ◌∙◌}
use Rattle.basic_code.proofs.fetch_two.Goals as goal

pub returns-in_default : goal.returns-in_default
unfolding SavedFits
returns-in_default c = (λ L p. operand_cut _ L p _ _ 3 (omega arith) (omega arith) (sym c.read_field.ensures ∙ c.in_default.is), tt)

pub returns-in_default-read_field : goal.returns-in_default-read_field
unfolding SavedFits
returns-in_default-read_field c = (λ L p. second_cut _ L p _ _ _ _ (sym c.read_field.ensures ∙ c.in-Some.is) (sym c.read_field-2.ensures ∙ c.in_default-read_field.is), tt)

pub overflow_cast-a : goal.overflow_cast-a
overflow_cast-a c = omega (arith, read_below _ _ 8 _ _ (sym c.read_field.ensures ∙ c.in-Some.is))

pub overflow_cast-b : goal.overflow_cast-b
overflow_cast-b c = omega (arith, read_below _ _ 8 _ _ (sym c.read_field-2.ensures ∙ c.in-Some-read_field.is))

pub returns : goal.returns
unfolding SavedFits
returns c = (
  λ L p. c.ready.ensures.0 ∙ two_read _ L p _ _ _ _ (sym c.read_field.ensures ∙ c.in-Some.is) _ _
      (sym c.read_field-2.ensures ∙ c.in-Some-read_field.is),
  c.ready.ensures.1,
)
