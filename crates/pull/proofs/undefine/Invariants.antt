-- `pull::undefine` meets its contract: what is left to fill, filled, gives globals that are all undefined. Assumes nothing.
use Prim.Native.Nat.{◌-◌}
use mathlib.Core.Path.{◌≡◌}
use lib.ListN.{length, replicate}
use lib.Seq.{sets}
use Rattle.cells.specs.Cells.{undefined_cell}
use Rattle.pull.proofs.undefine.Given as goal

abbrev pub invariant-loop-g : goal.invariant-loop-g
invariant-loop-g l = (length l.globals ≡ 256) × (sets l.globals l.g (replicate (256 - l.g) undefined_cell) ≡ replicate 256 undefined_cell)
