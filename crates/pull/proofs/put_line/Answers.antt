-- `pull::put_line` meets its contract: the clip's number and a blank, then the rest of the line. Assumes nothing.
use native.Mathlib.Omega.{arith}
use Rattle.text.specs.laws.Laws.{put_length}
use Rattle.pull.proofs.Lines.{number_after, put_found}
use Rattle.pull.proofs.put_line.Goals as goal

pub put_end-requires : goal.put_end-requires
put_end-requires c =
    let p = c.put_number-next.ensures.put in
    omega (arith, number_after _ c.requires.k_bound p, put_length p, c.requires)

pub returns : goal.returns
returns c =
    let p = c.put_number-next.ensures.put in
    let rest = c.put_end.ensures in
    record { put = put_found _ _ _ p rest.put; upper_bound = omega (arith, number_after _ c.requires.k_bound p, rest.upper_bound) }
