-- `tree_steps::take_step` meets its contract. Assumes nothing.
use Prim.Native.Nat.{◌≤◌}
use mathlib.Core.Path.{◌≡◌}
use Rattle.tree_code.specs.Fetch.{settled}
use Rattle.tree_steps.proofs.take_step.Given as goal

abbrev pub invariant-loop-owner : goal.invariant-loop-owner
invariant-loop-owner l = (settled l.file l.links 17 l.initial.here.0 ≡ settled l.file l.links l.left l.here.0) × (l.left ≤ 17) × (l.globals ≡ l.initial.globals) × (l.stack ≡ l.initial.stack) × (l.store ≡ l.initial.store)
    × (l.frames ≡ l.initial.frames)

abbrev pub decreases-loop-owner : goal.decreases-loop-owner
decreases-loop-owner l = l.left
