-- `pull::lowest_still` meets its contract: no clip before clip k stands still. Assumes nothing.
use Prim.Native.Nat.{◌-◌, ◌/◌}
use mathlib.Core.Path.{◌≡◌}
use lib.ListN.{length}
use Rattle.pull.specs.Pull.{lowest_still}
use Rattle.pull.proofs.lowest_still.Given as goal

abbrev pub invariant-loop-k : goal.invariant-loop-k
invariant-loop-k l = lowest_still l.clips l.k (length l.clips / 8 - l.k) ≡ lowest_still l.clips 0 (length l.clips / 8)
