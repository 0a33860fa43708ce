-- `basic_machine::follow_of` meets its contract. Assumes nothing.
use mathlib.Core.Path.{sym, ◌∙◌}
use Rattle.basic_machine.proofs.theorems.FollowLaws.{follow_cut, follow_end, follow_on}
use Rattle.basic_machine.proofs.follow_of.Goals as goal

pub returns-in_default : goal.returns-in_default
returns-in_default c = λ d h. follow_cut _ _ _ d h (sym c.read_field.ensures ∙ c.in_default.is)

pub returns-then-code-eq0 : goal.returns-then-code-eq0
returns-then-code-eq0 c = λ d h. follow_end _ _ _ d h _ _ (sym c.read_field.ensures ∙ c.in-Some.is) c.if-code-eq0.true

pub returns-else-code-eq0 : goal.returns-else-code-eq0
returns-else-code-eq0 c = λ d h. follow_on _ _ _ d h _ _ (sym c.read_field.ensures ∙ c.in-Some.is) c.if-code-eq0.false
