-- `lists::set_mark` meets its contract. Assumes nothing.
use mathlib.Core.Path.{refl, sym}
use lib.Seq.{set_out}
use Rattle.lists.proofs.set_mark.Goals as goal

pub returns-then-i-marks : goal.returns-then-i-marks
returns-then-i-marks c = rw c.link_index-i.ensures refl

pub returns-else-i-marks : goal.returns-else-i-marks
returns-else-i-marks c = rw (← c.link_index-i.ensures) (sym (set_out _ _ _ c.if-i-marks.false))
