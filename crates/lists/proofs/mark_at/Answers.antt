-- `lists::mark_at` meets its contract. Assumes nothing.
use Prim.Native.Nat.{ℕ}
use mathlib.Core.Path.{sym, ap, ◌∙◌}
use lib.ListN.{get_or, get_or-eq_default}
use Rattle.lists.proofs.mark_at.Goals as goal

pub returns-then-i-marks : goal.returns-then-i-marks
returns-then-i-marks c = ap (λ (i : ℕ). get_or c.args.marks.now i 0) c.link_index-i.ensures

pub returns-else-i-marks : goal.returns-else-i-marks
returns-else-i-marks c = sym (get_or-eq_default c.args.marks.now 0 c.if-i-marks.false) ∙ ap (λ (i : ℕ). get_or c.args.marks.now i 0) c.link_index-i.ensures
