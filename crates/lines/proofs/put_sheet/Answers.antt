-- `lines::put_sheet` meets its contract: by what the flattener answers; 16,384 bytes are enough for it. Assumes nothing.
use native.Mathlib.Omega.{arith}
use mathlib.Core.Path.{sym, ◌∙◌}
use lib.Seq.{length-take-le}
use Rattle.lines.proofs.Enough.{written_within, accepted_lines_lem, refused_lines}
use Rattle.lines.proofs.put_sheet.Goals as goal

pub slice_bounds-linear-end : goal.slice_bounds-linear-end
slice_bounds-linear-end c =
    let pre = c.requires in
    omega (arith, written_within _ pre.sheet_len_bound _ (sym c.in-Ok.is ∙ c.flatten.ensures.value))

pub slice_bounds-put_accepted-end : goal.slice_bounds-put_accepted-end
slice_bounds-put_accepted-end c =
    let pre = c.requires in
    sym (length-take-le _ _ (omega (arith, written_within _ pre.sheet_len_bound _ (sym c.in-Ok.is ∙ c.flatten.ensures.value))))

pub returns-in-Ok : goal.returns-in-Ok
returns-in-Ok c =
    let pre = c.requires in
    record { put = rw (accepted_lines_lem _ pre.sheet_len_bound _ (sym c.in-Ok.is ∙ c.flatten.ensures.value) _ _ c.flatten.ensures.out_after) c.put_accepted.ensures.put; upper_bound = omega arith }

pub returns-in-Err : goal.returns-in-Err
returns-in-Err c =
    let pre = c.requires in
    record { put = rw (refused_lines _ pre.sheet_len_bound _ (sym c.in-Err.is ∙ c.flatten.ensures.value)) c.put_numbers.ensures.put; upper_bound = omega arith }
