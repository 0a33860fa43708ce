-- `runs::clear` meets its contract. Assumes nothing.
use mathlib.Core.Path.{refl}
use Prim.Native.Nat.{◌+◌}
use native.Mathlib.Omega.{arith}
use Rattle.runs.proofs.Laws.{sets_on, zeros_on}
use Rattle.runs.proofs.clear.Goals as goal

pub loop-i-preserved : goal.loop-i-preserved
loop-i-preserved c = sets_on _ _ _ _ _ _ c.loop-i.invariant (zeros_on _ (c.args.at + c.args.n) (omega arith)) refl
