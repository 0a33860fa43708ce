-- `lists::conditional_added` meets its contract. Assumes nothing.
use Rattle.lists.specs.Pass.{conditional_added}
use mathlib.Core.Path.{refl}
use Rattle.lists.proofs.conditional_added.Goals as goal

pub returns : goal.returns
unfolding conditional_added
returns c =
    rw (
      c.unite.ensures,
      c.both-3.ensures,
      c.both-2.ensures,
      c.arms_fit.ensures,
      c.both.ensures,
      c.conditional_size.ensures,
      c.conditional_kind.ensures,
    ) refl
