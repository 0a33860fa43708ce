-- `unflatten::ends_in_jump` meets its contract: the loop is at an instruction's start, or past the end. Assumes nothing.
use Rattle.unflatten.specs.laws.Regions.{Scanned}
use Prim.Native.Nat.{◌+◌, ◌-◌, ◌≤◌}
use Rattle.unflatten.proofs.ends_in_jump.Given as goal

abbrev pub invariant-loop-p : goal.invariant-loop-p
invariant-loop-p l = Scanned l.s l.from l.to l.last l.p × (l.p ≤ l.to + 6)

abbrev pub decreases-loop-p : goal.decreases-loop-p
decreases-loop-p l = l.to - l.p
