-- `pull::pull_clips` meets its contract: the lines of the first k clips are put. Assumes nothing.
use native.Mathlib.Omega.{arith}
use mathlib.Core.Path.{refl}
use Rattle.pull.specs.Pull.{clip_count}
use Rattle.pull.proofs.Clips.{no_lines, one_line_more, all_lines}
use Rattle.pull.proofs.pull_clips.Goals as goal

pub loop-k-init : goal.loop-k-init
loop-k-init c =
    (refl, omega arith, no_lines _ _ _ _)

pub pull_clip-at-requires : goal.pull_clip-at-requires
pull_clip-at-requires c =
    let i = c.loop-k.invariant in
    let p = c.requires in
    record { k_bound = (omega (arith, c.loop-k-test, p), omega (arith, c.loop-k-test), p.2, p.3); at_in_bounds = omega (arith, c.loop-k-test, i.0, i.1, p) }

pub loop-k-preserved : goal.loop-k-preserved
loop-k-preserved c =
    let i = c.loop-k.invariant in (
      omega (arith, c.pull_clip-at.auto, i),
      omega (arith, c.pull_clip-at.ensures.upper_bound, i),
      one_line_more _ _ _ _ i.2 c.pull_clip-at.ensures.put,
    )

pub returns : goal.returns
unfolding clip_count
returns c =
    let i = c.loop-k.invariant in
    record { put = all_lines _ _ _ _ (omega (arith, c.loop-k-test, c.loop-k.auto)) i.2; upper_bound = omega (arith, c.loop-k.auto, i.1) }
