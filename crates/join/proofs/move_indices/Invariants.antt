-- `join::move_indices` meets its contract. The loop's invariant: the indices below i are moved. Assumes nothing.
use Prim.Native.Nat.{ℕ, ◌+◌, ◌<◌}
use mathlib.Core.Path.{◌≡◌}
use lib.ListN.{length, get_or}
use Rattle.join.proofs.move_indices.Given as goal

abbrev pub invariant-loop-i : goal.invariant-loop-i
invariant-loop-i l = (length l.indices ≡ 256) × ((j : ℕ) → j < l.i → get_or l.indices j 0 ≡ l.n + j)
