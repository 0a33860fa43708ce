-- `runs::copy_up` meets its contract. Assumes nothing.
use native.Mathlib.Omega.{arith}
use Rattle.runs.proofs.Laws.{sets_on, part_on}
use Rattle.runs.proofs.copy_up.Goals as goal

pub loop-i-preserved : goal.loop-i-preserved
loop-i-preserved c = sets_on _ _ _ _ _ _ c.loop-i.invariant (part_on _ _ _ _ c.loop-i-test.true c.requires.source) (omega arith)
