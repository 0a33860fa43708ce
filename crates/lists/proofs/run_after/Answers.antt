-- `lists::run_after` meets its contract. Assumes nothing.
use mathlib.Core.Path.{refl}
use borrow.Author.Tests.{eq-eqb, ne_eqb}
use Rattle.lists.specs.Pass.{run_after}
use Rattle.lists.proofs.run_after.Goals as goal
use Rattle.lists.proofs.run_after.Goals.{then-run-eq0, else-run-eq0}

pub returns : goal.returns
unfolding run_after
returns c =
    elim c.if-run-eq0.branch [
      | then-run-eq0 w ↦ rw (c.both.ensures, c.tail_after.ensures, w.classes-is, eq-eqb _ _ w.if-run-eq0.true) refl
      | else-run-eq0 w ↦ rw (c.both.ensures, c.tail_after.ensures, w.classes-is, ne_eqb _ _ w.if-run-eq0.false) refl
    ]
