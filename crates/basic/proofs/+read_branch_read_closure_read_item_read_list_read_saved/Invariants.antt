-- `basic::read_branch`, `read_closure`, `read_item`, `read_list`, `read_saved` meet their contracts: a list is read one instruction at a time; each list of an instruction has one level less below it. Assumes nothing.
use Rattle.basic.specs.Told.{list_told, told_from}
use Rattle.basic.specs.Reading.{list_at}
use lib.ListN.{length}
use mathlib.Core.Path.{◌≡◌}
use Prim.Native.Nat.{◌+◌, ◌*◌, ◌-◌, ◌≤◌}
use Rattle.basic.proofs.+read_branch_read_closure_read_item_read_list_read_saved.Given as goal

abbrev pub decreases-read_branch : goal.decreases-read_branch
decreases-read_branch l = 3 * l.levels + 3

abbrev pub decreases-read_closure : goal.decreases-read_closure
decreases-read_closure l = 3 * l.levels + 3

abbrev pub decreases-read_item : goal.decreases-read_item
decreases-read_item l = 3 * l.levels + 1

abbrev pub decreases-read_list : goal.decreases-read_list
decreases-read_list l = 3 * l.levels + 2

abbrev pub decreases-read_saved : goal.decreases-read_saved
decreases-read_saved l = 3 * l.levels + 3

abbrev pub invariant-read_list-loop-next : goal.invariant-read_list-loop-next
invariant-read_list-loop-next l = (list_told (list_at l.s l.levels l.initial.here.0) ≡ told_from l.classes l.inside (list_at l.s l.levels l.here.0)) × (5 * l.inside ≤ l.here.0)

abbrev pub decreases-read_list-loop-next : goal.decreases-read_list-loop-next
decreases-read_list-loop-next l = 8 * length l.s - l.here.0
