-- `basic_code::fetch_code` meets its contract. Assumes nothing.
use mathlib.Core.Path.{◌∙◌}
use Rattle.basic_code.specs.laws.FetchSteps.{other_read}
use Rattle.basic_code.proofs.fetch_code.Goals as goal

pub returns-in-6 : goal.returns-in-6
returns-in-6 c = (c.fetch_literal.ensures.0 _ _ _ c.in-6.is, c.fetch_literal.ensures.1)

pub returns-in-7 : goal.returns-in-7
returns-in-7 c = (c.fetch_closure.ensures.0 _ _ _ c.in-7.is, c.fetch_closure.ensures.1)

pub returns-in-8 : goal.returns-in-8
returns-in-8 c = (c.fetch_global.ensures.0 _ _, c.fetch_global.ensures.1)

pub returns-in-9 : goal.returns-in-9
returns-in-9 c = (c.fetch_global-in-9.ensures.0 _ _, c.fetch_global-in-9.ensures.1)

pub returns-in_default : goal.returns-in_default
returns-in_default c = (c.fetch_shaped.ensures.0 ∙ other_read _ _ _ _ _ c.in_default.in_default-own.rest.0.0.0.1 c.in_default.in_default-own.rest.0.0.1 c.in_default.in_default-own.rest.0.1 c.in_default.in_default-own.rest.1, c.fetch_shaped.ensures.1)
