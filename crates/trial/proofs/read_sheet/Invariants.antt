-- `trial::read_sheet` meets its contract: what is there already stays within the buffer; the measure is the room that is left. Assumes nothing.
use Rattle.std.proofs.Common.{length, ◌-◌, ◌≤◌, ◌≡◌}
use Rattle.trial.proofs.read_sheet.Given as goal

abbrev pub invariant-loop-done : goal.invariant-loop-done
invariant-loop-done g l = (l.done ≤ length l.sheet) × (length l.sheet ≡ length l.initial.sheet)

abbrev pub decreases-loop-done : goal.decreases-loop-done
decreases-loop-done g l = length l.initial.sheet - l.done
