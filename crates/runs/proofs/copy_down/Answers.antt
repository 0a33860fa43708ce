-- `runs::copy_down` meets its contract. Assumes nothing.
use native.Mathlib.Omega.{arith}
use Rattle.runs.proofs.Laws.{sets_on, down_on}
use Rattle.runs.proofs.copy_down.Goals as goal

pub loop-i-preserved : goal.loop-i-preserved
loop-i-preserved c = sets_on _ _ _ _ _ _ c.loop-i.invariant (down_on _ _ _ _ c.requires.source (omega arith)) (omega arith)
