-- `pull::pull_file` meets its contract: by what reading the file answers. Assumes nothing.
use mathlib.Core.Path.{sym, ◌∙◌}
use Rattle.machines.specs.Start.{zeros}
use Rattle.files.specs.laws.RefusalLaws.{handed_on}
use Rattle.pull.proofs.Checks.{accepted_fit, answer_on, file_refused, all_pulled}
use Rattle.pull.proofs.pull_file.Goals as goal

pub pull_read-requires : goal.pull_read-requires
unfolding zeros
pull_read-requires c =
    let f = accepted_fit _ _ _ c.requires in
    let was = sym c.read_linear.ensures.value ∙ c.in_ok-read_linear.was in
    (f.few, f.room_for, record { count = _; read = was; filled = c.read_linear.ensures.table_after }, f.small)

pub returns : goal.returns
returns c =
    let was = sym c.read_linear.ensures.value ∙ c.in_ok-read_linear.was in
    let done = c.pull_read.ensures in
    let all = all_pulled _ _ _ _ c.requires _ _ _ was done.put done.upper_bound in
    record { value = all.0; list_after = all.1.0; result_bound = all.1.1 }

pub returns-in_err-read_linear : goal.returns-in_err-read_linear
returns-in_err-read_linear c =
    let was = sym c.read_linear.ensures.value ∙ c.in_err-read_linear.was in
    let all = answer_on _ _ _ _ (handed_on c.from_residual.ensures) (file_refused _ _ _ _ c.requires _ was) in
    record { value = all.0; list_after = all.1.0; result_bound = all.1.1 }
