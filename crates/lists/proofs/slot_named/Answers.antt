-- `lists::slot_named` meets its contract. Assumes nothing.
use mathlib.Core.Path.{◌∙◌}
use Rattle.lists.specs.laws.ReadLaws.{named_any}
use Rattle.lists.proofs.slot_named.Goals as goal

pub returns : goal.returns
returns c = c.either.ensures ∙ rw c.both.ensures (named_any _ _ _ _ _ c.requires.3 c.slot_fits.ensures)
