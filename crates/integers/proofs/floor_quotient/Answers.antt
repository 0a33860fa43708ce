-- `integers::floor_quotient` meets its contract. Assumes nothing.
use mathlib.Core.Path.{ap}
use mathlib.Core.Bool.{not}
use borrow.Author.Tests.{eq-eqb, ne_eqb}
use Rattle.integers.proofs.Dividing.{divides, one_less, alike, evenly}
use Rattle.integers.proofs.floor_quotient.Goals as goal
use Rattle.integers.proofs.floor_quotient.Goals.{else-x-y-via-then-x-y+else-x-y-ne0, else-x-y-via-else-x-y}

pub nonzero_div-q : goal.nonzero_div-q
nonzero_div-q c = divides c.ranges.x c.ranges.y c.requires.x_fits c.requires.not_zero

pub nonzero_rem-x : goal.nonzero_rem-x
nonzero_rem-x c = divides c.ranges.x c.ranges.y c.requires.x_fits c.requires.not_zero

pub returns-then-x-y-ne0 : goal.returns-then-x-y-ne0
returns-then-x-y-ne0 c =
    one_less c.ranges.x c.ranges.y c.requires.x_fits c.requires.not_zero c.if-x-y.true (ap not (ne_eqb _ _ c.if-x-y-ne0.true))

pub returns-else-x-y : goal.returns-else-x-y
returns-else-x-y c =
    elim c.else-x-y.branch [
      | else-x-y-via-then-x-y+else-x-y-ne0 w ↦ evenly c.ranges.x c.ranges.y c.requires.x_fits c.requires.not_zero w.if-x-y.true (ap not (eq-eqb _ _ w.if-x-y-ne0.false))
      | else-x-y-via-else-x-y w ↦ alike c.ranges.x c.ranges.y c.requires.x_fits c.requires.not_zero w.if-x-y.false
    ]
