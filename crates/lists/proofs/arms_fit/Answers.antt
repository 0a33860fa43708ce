-- `lists::arms_fit` meets its contract. Assumes nothing.
use Rattle.files.specs.Flat.{arms_fit}
use mathlib.Core.Path.{refl, sym, ◌∙◌}
use Rattle.lists.proofs.arms_fit.Goals as goal

pub returns-then-is_closed : goal.returns-then-is_closed
unfolding arms_fit
returns-then-is_closed c = rw (sym c.is_closed.ensures ∙ c.if-is_closed.true) refl

pub returns : goal.returns
unfolding arms_fit
returns c = c.both.ensures ∙ rw (sym c.is_closed.ensures ∙ c.if-is_closed.false) refl
