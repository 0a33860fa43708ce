-- `emit::gap` meets its contract: by the test. Assumes nothing.
use mathlib.Core.Path.{refl}
use Rattle.emit.specs.Written.{gap}
use Rattle.emit.proofs.gap.Goals as goal

pub returns-then-closed : goal.returns-then-closed
unfolding gap
returns-then-closed c = rw c.if-closed.true refl

pub returns-else-closed : goal.returns-else-closed
unfolding gap
returns-else-closed c = rw c.if-closed.false refl
