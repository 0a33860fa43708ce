-- `tree::summary_after` meets its contract. Assumes nothing.
use mathlib.Core.Path.{refl}
use Rattle.lists.specs.Sets.{unite}
use Rattle.tree.specs.Summary.{summary_after}
use Rattle.tree.proofs.summary_after.Goals as goal

pub returns : goal.returns
unfolding summary_after unite
returns c =
    rw (
      c.lower.ensures,
      c.lower-2.ensures,
      c.lower-3.ensures,
    ) refl
