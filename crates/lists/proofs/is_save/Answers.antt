-- `lists::is_save` meets its contract. Assumes nothing.
use Rattle.lists.specs.Pass.{is_save}
use mathlib.Core.Path.{refl}
use Rattle.lists.proofs.is_save.Goals as goal

pub returns-in-Neutral : goal.returns-in-Neutral
unfolding is_save
returns-in-Neutral c = rw c.in-Neutral.is refl

pub returns-in-Ending : goal.returns-in-Ending
unfolding is_save
returns-in-Ending c = rw c.in-Ending.is refl

pub returns-in-SavesOpen : goal.returns-in-SavesOpen
unfolding is_save
returns-in-SavesOpen c = rw c.in-SavesOpen.is refl

pub returns-in-SavesClosed : goal.returns-in-SavesClosed
unfolding is_save
returns-in-SavesClosed c = rw c.in-SavesClosed.is refl

pub returns-in-SavesNeither : goal.returns-in-SavesNeither
unfolding is_save
returns-in-SavesNeither c = rw c.in-SavesNeither.is refl

pub returns-in-Neither : goal.returns-in-Neither
unfolding is_save
returns-in-Neither c = rw c.in-Neither.is refl
