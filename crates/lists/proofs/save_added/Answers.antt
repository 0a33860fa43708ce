-- `lists::save_added` meets its contract. Assumes nothing.
use Rattle.lists.specs.Pass.{save_added}
use mathlib.Core.Path.{refl}
use Rattle.lists.proofs.save_added.Goals as goal

pub returns : goal.returns
unfolding save_added
returns c = rw c.save_kind.ensures refl
