-- The cycle of calls {read_conditional, read_instr, read_list, read_make_cont}: levels fall where an instruction's lists are read; within
-- a list unread bits fall. Assumes nothing.
use Prim.Native.Nat.{◌+◌, ◌*◌, ◌-◌, ◌≤◌}
use mathlib.Core.Path.{◌≡◌}
use lib.ListN.{length}
use Rattle.files.specs.Reading.{list_at}
use Rattle.lists.specs.Facts.{listed}
use Rattle.lists.specs.Pass.{listed_from}
use Rattle.lists.specs.laws.MarkSteps.{Marking}
use Rattle.lists.proofs.+read_conditional_read_instr_read_list_read_make_cont.Given as goal

abbrev pub decreases-read_conditional : goal.decreases-read_conditional
decreases-read_conditional l = 3 * l.levels + 3

abbrev pub decreases-read_instr : goal.decreases-read_instr
decreases-read_instr l = 3 * l.levels + 1

abbrev pub decreases-read_list : goal.decreases-read_list
decreases-read_list l = 3 * l.levels + 2

abbrev pub decreases-read_make_cont : goal.decreases-read_make_cont
decreases-read_make_cont l = 3 * l.levels + 3

abbrev pub invariant-read_list-loop-next : goal.invariant-read_list-loop-next
invariant-read_list-loop-next l = (listed l.table l.own (list_at l.s l.levels l.at.0) ≡ listed_from l.table l.own l.st (list_at l.s l.levels l.here.0)) × (5 * l.st.size ≤ 2 * l.here.0) × (l.st.tail ≤ l.st.size) × Marking l.keep l.s l.levels l.initial.marks l.at.0 l.marks l.here.0 × (length l.marks ≡ length l.initial.marks) × (5 * l.st.size ≤ 16 * length l.s)

abbrev pub decreases-read_list-loop-next : goal.decreases-read_list-loop-next
decreases-read_list-loop-next l = 8 * length l.s - l.here.0
