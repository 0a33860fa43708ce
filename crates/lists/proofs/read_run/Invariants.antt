-- `lists::read_run` meets its contract: each turn takes one neutral instruction on, and unread bits fall. Assumes nothing.
use Prim.Native.Nat.{◌*◌, ◌-◌, ◌≤◌}
use lib.ListN.{length}
use Rattle.lists.specs.Pass.{Neutrals}
use Rattle.lists.specs.laws.RunLaws.{Window}
use Rattle.lists.proofs.read_run.Given as goal

abbrev pub invariant-loop-line : goal.invariant-loop-line
invariant-loop-line l = Neutrals l.table l.own l.s l.initial.here.0 l.here.0 l.size l.named × Window l.s l.here.0 l.skip l.high l.low × (l.here.0 ≤ 8 * length l.s)

abbrev pub decreases-loop-line : goal.decreases-loop-line
decreases-loop-line l = 8 * length l.s - l.here.0
