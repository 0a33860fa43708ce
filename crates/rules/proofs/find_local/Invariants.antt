-- `rules::find_local` meets its contract. The invariant: the walk from here finds what the walk from the start finds. Assumes nothing.
use mathlib.Core.Path.{◌≡◌}
use Prim.Native.Nat.{◌<◌}
use Rattle.rules.specs.Rules.{walk}
use Rattle.rules.proofs.find_local.Given as goal

abbrev pub invariant-loop-e : goal.invariant-loop-e
invariant-loop-e l = (l.e < 65536) × (l.left < 256) × (walk l.store l.e l.left l.place ≡ walk l.store l.env l.layers l.place)

abbrev pub decreases-loop-e : goal.decreases-loop-e
decreases-loop-e l = l.left
