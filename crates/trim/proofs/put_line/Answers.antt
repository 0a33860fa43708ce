-- `trim::put_line` meets its contract. Assumes nothing.
use native.Mathlib.Omega.{arith}
use Rattle.trim.specs.laws.LineLaws.{line_gone, line_new, line_short, put_short}
use Rattle.trim.proofs.put_line.Goals as goal

pub returns-then-mark-lt1 : goal.returns-then-mark-lt1
returns-then-mark-lt1 c =
    let pre = c.requires in
    let l = line_gone _ _ _ _ c.put_number-second.ensures.put c.put_number-third.ensures.put c.if-mark-lt1.true c.put_bytes.ensures in
    record { put = l; short = put_short _ 12 l (line_short _ _ _ _ pre.1 pre.2 (omega (arith, c.ranges.mark))) }

pub returns : goal.returns
returns c =
    let pre = c.requires in
    let l = line_new _ _ _ _ c.put_number-second.ensures.put c.put_number-third.ensures.put c.if-mark-lt1.false c.put_number.ensures.put in
    record { put = l; short = put_short _ 12 l (line_short _ _ _ _ pre.1 pre.2 (omega (arith, c.ranges.mark))) }
