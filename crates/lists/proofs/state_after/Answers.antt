-- `lists::state_after` meets its contract. Assumes nothing.
use Rattle.lists.specs.Pass.{state_after}
use mathlib.Core.Path.{refl}
use Rattle.lists.proofs.state_after.Goals as goal

pub returns : goal.returns
unfolding state_after
returns c =
    rw (
      c.unite.ensures,
      c.both-2.ensures,
      c.both.ensures,
      c.tail_after.ensures,
      c.either.ensures,
      c.is_save.ensures,
      c.classes_after.ensures,
    ) refl
