-- `pull::lowest_still` meets its contract: no clip before clip k stands still. Assumes nothing.
use Rattle.std.proofs.Common.{sym, ◌∙◌}
use Rattle.pull.specs.Pull.{clip_count}
use Rattle.pull.proofs.Checks.{still, moves, none_still}
use Rattle.pull.proofs.lowest_still.Goals as goal

pub returns-then-clips-k-lt1 : goal.returns-then-clips-k-lt1
unfolding clip_count
returns-then-clips-k-lt1 c = sym (still _ _ _ c.loop-k-test.true (search) c.if-clips-k-lt1.true) ∙ c.loop-k.invariant

pub loop-k-preserved : goal.loop-k-preserved
loop-k-preserved c = sym (moves _ _ _ c.loop-k-test.true (search) c.if-clips-k-lt1.false) ∙ c.loop-k.invariant

pub returns : goal.returns
unfolding clip_count
returns c = sym (none_still _ _ _ c.loop-k-test.false) ∙ c.loop-k.invariant
