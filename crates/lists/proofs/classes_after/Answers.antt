-- `lists::classes_after` meets its contract. Assumes nothing.
use Rattle.lists.specs.Pass.{classes_after}
use mathlib.Core.Path.{refl}
use Rattle.lists.proofs.classes_after.Goals as goal

pub returns-in-Neutral : goal.returns-in-Neutral
unfolding classes_after
returns-in-Neutral c = rw c.in-Neutral.is refl

pub returns-in-Ending : goal.returns-in-Ending
unfolding classes_after
returns-in-Ending c = rw c.in-Ending.is refl

pub returns-in-SavesOpen : goal.returns-in-SavesOpen
unfolding classes_after
returns-in-SavesOpen c = rw c.in-SavesOpen.is refl

pub returns-in-SavesClosed : goal.returns-in-SavesClosed
unfolding classes_after
returns-in-SavesClosed c = rw c.in-SavesClosed.is refl

pub returns-in-SavesNeither : goal.returns-in-SavesNeither
unfolding classes_after
returns-in-SavesNeither c = rw c.in-SavesNeither.is refl

pub returns-in-Neither : goal.returns-in-Neither
unfolding classes_after
returns-in-Neither c = rw c.in-Neither.is refl
