-- `lines::program` meets its contract: the lines are copied where they fit. Assumes nothing.
use native.Mathlib.Omega.{arith}
use mathlib.Core.Path.{sym}
use lib.Seq.{length-take-le}
use Rattle.text.specs.laws.Laws.{put_taken}
use Rattle.lines.proofs.Laws.{lines_fit, lines_do_not_fit}
use Rattle.lines.proofs.program.Goals as goal

pub returns-then-out-count : goal.returns-then-out-count
returns-then-out-count c =
    let all = lines_do_not_fit _ _ c.put_lines-count.ensures.put c.if-out-count.true in
    record { value = all.0; out_after = all.1 }

pub slice_bounds-put_bytes-end : goal.slice_bounds-put_bytes-end
slice_bounds-put_bytes-end c = sym (length-take-le _ _ (omega (arith, c.put_lines-count.auto.out)))

pub put_bytes-requires : goal.put_bytes-requires
put_bytes-requires c =
    let l = length-take-le c.put_lines-count.result c.put_lines-count.new.out (omega (arith, c.put_lines-count.auto.out)) in
    omega arith

pub returns : goal.returns
returns c =
    let q = rw (put_taken _ c.put_lines-count.ensures.put (omega arith)) at c.put_bytes.ensures in
    let all = lines_fit _ q (omega (arith, c.put_lines-count.ensures.put.next, q.next)) in
    record { value = all.0; out_after = all.1 }
