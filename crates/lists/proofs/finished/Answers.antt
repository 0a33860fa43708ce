-- `lists::finished` meets its contract. Assumes nothing.
use Rattle.lists.specs.Pass.{finish}
use mathlib.Core.Path.{refl}
use Rattle.lists.proofs.finished.Goals as goal

pub returns : goal.returns
unfolding finish
returns c = rw c.both.ensures refl
