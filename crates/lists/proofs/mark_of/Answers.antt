-- `lists::mark_of` meets its contract: by what is kept. Assumes nothing.
use mathlib.Core.Path.{refl, ◌∙◌}
use Rattle.lists.specs.Marks.{mark_by}
use Rattle.lists.proofs.mark_of.Goals as goal

pub returns-in-Sizes : goal.returns-in-Sizes
unfolding mark_by
returns-in-Sizes c = c.size_mark.ensures ∙ rw (c.in-Sizes.is, c.is_closed.ensures) refl

pub returns-in-Pasts : goal.returns-in-Pasts
unfolding mark_by
returns-in-Pasts c = c.to_link.ensures ∙ rw c.in-Pasts.is refl
