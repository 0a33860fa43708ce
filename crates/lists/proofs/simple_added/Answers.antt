-- `lists::simple_added` meets its contract. Assumes nothing.
use Rattle.lists.specs.Pass.{simple_added}
use mathlib.Core.Path.{refl}
use borrow.Author.Tests.{lt-ltb, le-ltb}
use Rattle.lists.proofs.simple_added.Goals as goal

pub returns-then-code-lt6 : goal.returns-then-code-lt6
unfolding simple_added
returns-then-code-lt6 c = rw (lt-ltb _ _ c.if-code-lt6.true) refl

pub returns : goal.returns
unfolding simple_added
returns c = rw (c.slot_closes.ensures, c.slot_named.ensures, le-ltb _ _ c.if-code-lt6.false) refl
