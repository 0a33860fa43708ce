-- `trim::trim` meets its contract: as the file was judged. Assumes nothing.
use mathlib.Core.Path.{refl, sym, ◌∙◌}
use Rattle.tree.specs.laws.Judged.{judged_refused}
use Rattle.trim.proofs.theorems.WholeLaws.{judged_file, all_refused}
use Rattle.files.specs.laws.RoomLaws.{all_rows}
use Rattle.files.specs.laws.RefusalLaws.{handed_on}
use Rattle.trim.proofs.trim.Goals as goal

pub read_checked-requires : goal.read_checked-requires
read_checked-requires c = all_rows _ refl

pub trim_into-requires : goal.trim_into-requires
trim_into-requires c =
    record {
      file_in = judged_file _ (sym c.read_checked.ensures.value ∙ c.in_ok-sum.was) (all_rows _ refl) c.read_checked.ensures.table_after;
      numbers_zero = refl;
    }

pub returns-in_err-sum : goal.returns-in_err-sum
returns-in_err-sum c =
    let all = all_refused _ _ _ (judged_refused _ (sym c.read_checked.ensures.value ∙ c.in_err-sum.was)) in
    record { value = handed_on c.from_residual.ensures ∙ all.0; out_after = all.1.0; list_after = all.1.1 }
