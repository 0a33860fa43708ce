-- `pull::pull_list` meets its contract: by what is said of clips, list and budget. Assumes nothing.
use mathlib.Core.Path.{sym, ◌∙◌}
use Rattle.files.specs.laws.RefusalLaws.{handed_on}
use Rattle.pull.proofs.Checks.{clips_refused, answer_on}
use Rattle.pull.proofs.pull_list.Goals as goal

pub pull_file-requires : goal.pull_file-requires
pull_file-requires c = sym c.check_clips.ensures ∙ c.in_ok-check_clips.was

pub returns : goal.returns
returns c =
    let all = c.pull_file.ensures in
    record { value = all.value; list_after = all.list_after; longest = all.result_bound }

pub returns-in_err-check_clips : goal.returns-in_err-check_clips
returns-in_err-check_clips c =
    let all = answer_on _ _ _ _ (handed_on c.from_residual.ensures) (clips_refused _ _ _ _ _ _ c.check_clips.ensures c.in_err-check_clips.was) in
    record { value = all.0; list_after = all.1.0; longest = all.1.1 }
