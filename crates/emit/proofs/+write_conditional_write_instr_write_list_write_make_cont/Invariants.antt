-- The cycle of calls {write_conditional, write_instr, write_list, write_make_cont} meets its contracts: a level falls at each list inside an
-- instruction, and the unread bits within a list. Assumes nothing.
use Prim.Native.Nat.{◌+◌, ◌*◌, ◌-◌, ◌≤◌}
use mathlib.Core.Path.{◌≡◌}
use lib.ListN.{length}
use Rattle.emit.specs.laws.Steps.{Left}
use Rattle.emit.proofs.+write_conditional_write_instr_write_list_write_make_cont.Given as goal

abbrev pub decreases-write_conditional : goal.decreases-write_conditional
decreases-write_conditional l = 3 * l.levels + 3

abbrev pub decreases-write_instr : goal.decreases-write_instr
decreases-write_instr l = 3 * l.levels + 1

abbrev pub decreases-write_list : goal.decreases-write_list
decreases-write_list l = 3 * l.levels + 2

abbrev pub decreases-write_make_cont : goal.decreases-write_make_cont
decreases-write_make_cont l = 3 * l.levels + 3

abbrev pub invariant-write_list-loop-shape : goal.invariant-write_list-loop-shape
invariant-write_list-loop-shape l = (l.rest.back ≤ length l.out) × (length l.out ≡ length l.initial.out) × Left l.s l.marks l.levels l.initial.rest.at.0 l.front l.back l.rest.at.0 l.rest.front l.rest.back l.initial.out l.out

abbrev pub decreases-write_list-loop-shape : goal.decreases-write_list-loop-shape
decreases-write_list-loop-shape l = 8 * length l.s - l.rest.at.0
