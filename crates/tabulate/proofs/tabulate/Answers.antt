-- `tabulate::tabulate` meets its contract: checked, then tabulated. Assumes nothing.
use Rattle.tabulate.specs.laws.TabulateLaws.{refused_checked, checked_as}
use Rattle.files.specs.laws.RefusalLaws.{handed_on}
use mathlib.Core.Path.{◌∙◌}
use Rattle.tabulate.proofs.tabulate.Goals as goal

pub tabulate_checked-requires : goal.tabulate_checked-requires
tabulate_checked-requires c = (checked_as c.in_ok-end.was c.check_basic.ensures)

pub returns-in_err-end : goal.returns-in_err-end
returns-in_err-end c =
    let all = refused_checked _ (checked_as c.in_err-end.was c.check_basic.ensures) in
    record { value = handed_on c.from_residual.ensures ∙ all.0; out_after = all.1 }
