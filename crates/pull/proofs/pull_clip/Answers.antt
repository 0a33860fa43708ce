-- `pull::pull_clip` meets its contract: its run, and its line. Assumes nothing.
use native.Mathlib.Omega.{arith}
use Rattle.pull.proofs.Clips.{clip_part, put_clip}
use Rattle.pull.proofs.pull_clip.Goals as goal

pub run_clip-found-requires : goal.run_clip-found-requires
run_clip-found-requires c =
    let p = c.requires in
    let l = c.clip-1.given in
    (omega (arith, l), p.k_bound.2, p.k_bound.3)

pub returns : goal.returns
returns c =
    let is = clip_part c.args.clips.now c.args.k in
    let found = rw is at c.run_clip-found.ensures in
    record { put = put_clip _ _ _ _ found (rw is at c.put_line.ensures.put); upper_bound = c.put_line.ensures.upper_bound }
