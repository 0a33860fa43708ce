-- `trim::put_both` meets its contract. Assumes nothing.
use native.Mathlib.Omega.{arith}
use mathlib.Core.Path.{sym}
use lib.Seq.{length-take-le}
use Rattle.trim.proofs.theorems.WholeLaws.{short_file, short_list_lem, both_put}
use Rattle.trim.proofs.put_both.Goals as goal

pub returns-then-out-size : goal.returns-then-out-size
returns-then-out-size c =
    let pre = c.requires in
    let all = short_file c.args.file.now c.args.lines.now c.args.out.now c.args.list.now c.args.size c.args.bytes pre.0 pre.1 c.if-out-size.true in
    record { value = all.0; out_after = all.1.0; list_after = all.1.1 }

pub returns-then-list-bytes : goal.returns-then-list-bytes
returns-then-list-bytes c =
    let pre = c.requires in
    let all = short_list_lem c.args.file.now c.args.lines.now c.args.out.now c.args.list.now c.args.size c.args.bytes pre.0 pre.1 c.if-out-size.false
    c.if-list-bytes.true in
    record { value = all.0; out_after = all.1.0; list_after = all.1.1 }

pub slice_bounds-put_bytes-end : goal.slice_bounds-put_bytes-end
slice_bounds-put_bytes-end c = sym (length-take-le _ _ c.requires.0)

pub put_bytes-requires : goal.put_bytes-requires
put_bytes-requires c =
    let pre = c.requires in
    omega (arith, length-take-le c.args.size c.args.file.now pre.0, c.if-out-size.false)

pub slice_bounds-put_bytes-end-2 : goal.slice_bounds-put_bytes-end-2
slice_bounds-put_bytes-end-2 c =
    let pre = c.requires in
    sym (length-take-le _ _ pre.1)

pub put_bytes-requires-2 : goal.put_bytes-requires-2
put_bytes-requires-2 c =
    let pre = c.requires in
    omega (arith, length-take-le c.args.bytes c.args.lines.now pre.1, c.if-list-bytes.false)

pub returns : goal.returns
returns c =
    let pre = c.requires in
    let all = both_put c.args.file.now c.args.lines.now c.args.out.now c.args.list.now c.args.size c.args.bytes pre.0 pre.1 c.if-out-size.false c.if-list-bytes.false
    _ _ _ _ c.put_bytes.ensures c.put_bytes-2.ensures in
    record { value = all.0; out_after = all.1.0; list_after = all.1.1 }
