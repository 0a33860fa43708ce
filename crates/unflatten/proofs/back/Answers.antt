-- `unflatten::back` meets its contract. Assumes nothing.
use mathlib.Core.Path.{refl, ◌∙◌}
use Rattle.files.specs.laws.RefusalLaws.{handed_on}
use Rattle.unflatten.specs.laws.GrowLaws.{accepted_file, refused_file}
use Rattle.unflatten.proofs.back.Goals as goal

pub back_read-requires : goal.back_read-requires
back_read-requires c = (accepted_file _ c.check_linear.ensures c.in_ok-check_linear.was, refl)

pub returns-in_err-check_linear : goal.returns-in_err-check_linear
returns-in_err-check_linear c =
    let all = refused_file _ c.check_linear.ensures c.in_err-check_linear.was _ _ in
    record { value = handed_on c.from_residual.ensures ∙ all.0; out_after = all.1 }
