-- `tree::check_tree` meets its contract. Assumes nothing.
use mathlib.Core.Path.{refl, sym, ap, ◌∙◌}
use Rattle.tree.specs.Summary.{checked_told}
use Rattle.tree.specs.laws.Judged.{judged_told_lem, judged_refused}
use Rattle.files.specs.laws.RoomLaws.{all_rows}
use Rattle.files.specs.laws.RefusalLaws.{handed_on}
use Rattle.tree.proofs.check_tree.Goals as goal

pub read_accepted-requires : goal.read_accepted-requires
read_accepted-requires c = all_rows _ refl

pub returns : goal.returns
unfolding checked_told
returns c = sym (ap checked_told (judged_told_lem _ (sym c.read_accepted.ensures.value ∙ c.in_ok-read_accepted.was)).is)

pub returns-in_err-read_accepted : goal.returns-in_err-read_accepted
unfolding checked_told
returns-in_err-read_accepted c = handed_on c.from_residual.ensures ∙ sym (ap checked_told (judged_refused _ (sym c.read_accepted.ensures.value ∙ c.in_err-read_accepted.was)))
