-- `pull::pull_clips` meets its contract: the lines of the first k clips are put. Assumes nothing.
use Prim.Native.Nat.{◌*◌, ◌≤◌}
use mathlib.Core.Path.{◌≡◌}
use lib.ListN.{length}
use Rattle.text.specs.Put.{Put}
use Rattle.pull.specs.Pull.{pull_lines}
use Rattle.pull.proofs.pull_clips.Given as goal

abbrev pub invariant-loop-k : goal.invariant-loop-k
invariant-loop-k l = (length l.list ≡ length l.initial.list) × (l.at ≤ 44 * l.k) × Put l.initial.list 0 l.list l.at (pull_lines l.clips l.file l.budget l.k)
