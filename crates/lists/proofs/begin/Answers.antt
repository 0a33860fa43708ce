-- `lists::begin` meets its contract. Assumes nothing.
use mathlib.Core.Path.{refl}
use Rattle.lists.specs.Pass.{begun}
use Rattle.lists.proofs.begin.Goals as goal

pub returns : goal.returns
unfolding begun
returns c = refl
