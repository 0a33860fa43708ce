-- `lists::conditional_size` meets its contract. Assumes nothing.
use Rattle.lists.specs.Pass.{conditional_size}
use mathlib.Core.Path.{refl, sym, ◌∙◌}
use Rattle.lists.proofs.conditional_size.Goals as goal

pub returns-then-is_closed : goal.returns-then-is_closed
unfolding conditional_size
returns-then-is_closed c = rw (sym c.is_closed.ensures ∙ c.if-is_closed.true) refl

pub returns : goal.returns
unfolding conditional_size
returns c = rw (sym c.is_closed.ensures ∙ c.if-is_closed.false) refl
