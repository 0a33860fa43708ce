-- `trim::put_lines` meets its contract. The loop's invariant: the lines from entry n on are left. Assumes nothing.
use Prim.Native.Nat.{◌+◌, ◌*◌, ◌≤◌}
use mathlib.Core.Path.{◌≡◌}
use lib.ListN.{length}
use Rattle.trim.specs.Standing.{row_lines}
use Rattle.trim.specs.laws.LineLaws.{Lining}
use Rattle.trim.proofs.put_lines.Given as goal

abbrev pub invariant-loop-n : goal.invariant-loop-n
invariant-loop-n l = (l.there + 12 ≤ l.initial.there + 12 * l.n) × (length l.out ≡ length l.initial.out) × Lining l.own l.row (row_lines l.own l.row 1 l.entries) l.initial.out l.initial.there l.entries l.n l.there l.out
