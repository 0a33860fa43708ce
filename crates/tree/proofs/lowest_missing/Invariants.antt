-- `tree::lowest_missing` meets its contract. The invariant: what is found from here on is what is found from 1 on. Assumes nothing.
use Prim.Native.Nat.{◌-◌, ◌/◌, ◌≤◌}
use mathlib.Core.Path.{◌≡◌}
use Rattle.tree.specs.Summary.{lowest_missing}
use Rattle.tree.proofs.lowest_missing.Given as goal

abbrev pub invariant-loop-own : goal.invariant-loop-own
invariant-loop-own l = (1 ≤ l.own) × (lowest_missing (l.set / 2) 1 (l.count - 1) ≡ lowest_missing l.rest l.own (l.count - l.own))
