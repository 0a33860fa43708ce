-- `lists::unite` meets its contract. Assumes nothing.
use mathlib.Core.Path.{refl}
use Rattle.lists.specs.Sets.{unite}
use Rattle.lists.proofs.unite.Goals as goal

pub returns : goal.returns
unfolding unite
returns c = refl
