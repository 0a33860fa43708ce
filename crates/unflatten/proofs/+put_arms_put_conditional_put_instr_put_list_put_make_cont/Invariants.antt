-- The cycle of calls {put_arms, put_conditional, put_instr, put_list, put_make_cont} meets its contracts: a level falls at each list inside an
-- instruction, and the bytes of the region within a list. Assumes nothing.
use Prim.Native.Nat.{◌+◌, ◌*◌, ◌-◌}
use Rattle.lists.specs.Facts.{slot_named}
use Rattle.unflatten.specs.ToPut.{Going}
use Rattle.unflatten.proofs.+put_arms_put_conditional_put_instr_put_list_put_make_cont.Given as goal

abbrev pub decreases-put_arms : goal.decreases-put_arms
decreases-put_arms l = 4 * l.levels + 4

abbrev pub decreases-put_conditional : goal.decreases-put_conditional
decreases-put_conditional l = 4 * l.levels + 1

abbrev pub decreases-put_instr : goal.decreases-put_instr
decreases-put_instr l = 4 * l.levels + 2

abbrev pub decreases-put_list : goal.decreases-put_list
decreases-put_list l = 4 * l.levels + 3

abbrev pub decreases-put_make_cont : goal.decreases-put_make_cont
decreases-put_make_cont l = 4 * l.levels + 1

abbrev pub invariant-put_list-loop-left : goal.invariant-put_list-loop-left
invariant-put_list-loop-left l = Going (slot_named l.source.table.now l.source.own) l.source.file.now l.levels l.initial.left.from l.initial.left.to l.initial.left.closed l.initial.here.0 l.initial.out l.left.from l.left.to l.left.closed l.here.0 l.out

abbrev pub decreases-put_list-loop-left : goal.decreases-put_list-loop-left
decreases-put_list-loop-left l = l.left.to - l.left.from
