-- `lists::tail_after` meets its contract. Assumes nothing.
use mathlib.Core.Path.{refl}
use Rattle.lists.proofs.tail_after.Goals as goal

pub returns-then-seen : goal.returns-then-seen
returns-then-seen c = rw c.if-seen.true refl
