-- `tabulate::tabulate_checked` meets its contract: 9, or the file. Assumes nothing.
use Rattle.tabulate.specs.laws.TabulateLaws.{checked_short, whole_in, short_output_lem, file_written}
use lib.Seq.{length-take-le}
use mathlib.Core.Path.{refl, sym}
use native.Mathlib.Omega.{arith}
use Rattle.tabulate.proofs.tabulate_checked.Goals as goal

pub returns-then-out-size : goal.returns-then-out-size
returns-then-out-size c =
    let all = short_output_lem c.requires _ c.if-out-size.true in
    record { value = all.0; out_after = all.1 }

pub slice_bounds-write_tabulated-end-2 : goal.slice_bounds-write_tabulated-end-2
slice_bounds-write_tabulated-end-2 c = sym (length-take-le _ _ c.if-out-size.false)

pub write_tabulated-requires : goal.write_tabulated-requires
write_tabulated-requires c =
    let pre = c.requires in
    let f = checked_short pre in
    let m = length-take-le _ c.args.out.now c.if-out-size.false in
    (f.0, rw m (omega (arith, f.1)), whole_in pre _ m)

pub returns : goal.returns
returns c =
    let pre = c.requires in
    let all = file_written pre _ c.if-out-size.false _ _ c.write_tabulated.ensures refl in
    record { value = all.0; out_after = all.1 }
