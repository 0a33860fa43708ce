-- `join::find_joint` meets its contract. The loop's invariant: the joint is that of the list at `here`, and as many levels deeper as were left. Assumes nothing.
use Prim.Native.Nat.{◌*◌, ◌-◌, ◌≤◌}
use lib.ListN.{length}
use Rattle.join.specs.Operands.{CodeAt}
use Rattle.join.specs.laws.TurnLaws.{Walked}
use Rattle.join.proofs.find_joint.Given as goal

abbrev pub invariant-loop-next : goal.invariant-loop-next
invariant-loop-next l = (l.levels ≤ 15) × ((w : CodeAt l.s 15 l.initial.here.0) → Walked l.s l.initial.here.0 w l.levels l.here.0)

abbrev pub decreases-loop-next : goal.decreases-loop-next
decreases-loop-next l = 8 * length l.s - l.here.0
