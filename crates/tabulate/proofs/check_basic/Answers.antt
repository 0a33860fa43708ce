-- `tabulate::check_basic` meets its contract: 1 to 5, 6, 26. Assumes nothing.
use Rattle.tabulate.specs.laws.CheckLaws.{file_unread, list_in, not_closed_lem, judged_in}
use Rattle.tabulate.specs.laws.TabulateLaws.{checked_as}
use Rattle.files.specs.laws.RefusalLaws.{handed_on}
use mathlib.Core.Path.{sym}
use Rattle.tabulate.proofs.check_basic.Goals as goal

pub within_limits-requires : goal.within_limits-requires
within_limits-requires c =
    let k = list_in _ _ c.in_ok-end.was c.read_basic.ensures in
    (k.1, judged_in _ _ c.in_ok-end.was c.read_basic.ensures _ _ c.in-Ok.is c.judge_lists.ensures)

pub returns-in-Err : goal.returns-in-Err
returns-in-Err c =
    not_closed_lem _ _ c.in_ok-end.was c.read_basic.ensures _ _ c.in-Err.is c.judge_lists.ensures

pub returns-in_err-end : goal.returns-in_err-end
returns-in_err-end c =
    checked_as (sym (handed_on c.from_residual.ensures)) (file_unread _ _ c.in_err-end.was c.read_basic.ensures)
