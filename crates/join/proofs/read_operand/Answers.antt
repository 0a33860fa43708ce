-- `join::read_operand` meets its contract: 6 where it is neither shape, and 7. Assumes nothing.
use mathlib.Core.Path.{sym, ◌∙◌}
use Rattle.join.specs.laws.OperandsLaws.{file_short}
use Rattle.join.specs.laws.JudgedLaws.{operand_read, prologue_told, unclosed_told, operand_open, operand_closed, operand_misnamed, operand_good, operand_other, operand_unclosed, operand_unread}
use Rattle.files.specs.laws.RoomLaws.{all_rows}
use Rattle.files.specs.laws.RefusalLaws.{handed_on}
use Rattle.join.proofs.read_operand.Goals as goal
use Rattle.join.proofs.read_operand.Goals.{then-not-is_prologue+else-not-or_closed+else-sum-lt64, else-not-is_prologue}

pub read_tree-requires : goal.read_tree-requires
read_tree-requires c = all_rows _ c.requires

pub is_prologue-requires : goal.is_prologue-requires
is_prologue-requires c =
    let told = sym c.read_tree.ensures.value ∙ c.in_ok-sum.was in (
      file_short _ _ _ (operand_read _ told (all_rows _ c.requires) c.read_tree.ensures.table_after).read,
      unclosed_told _ told,
    )

pub returns-then-not-or_closed-clause-value : goal.returns-then-not-or_closed-clause-value
returns-then-not-or_closed-clause-value c =
    let told = sym c.read_tree.ensures.value ∙ c.in_ok-sum.was in
    let shape = prologue_told _ told (all_rows _ c.requires) c.read_tree.ensures.table_after c.is_prologue.ensures in
    operand_other _ told _ c.if-not-or_closed.true (shape ∙ c.if-not-is_prologue.true)

pub returns-then-sum-lt64-clause-value : goal.returns-then-sum-lt64-clause-value
returns-then-sum-lt64-clause-value c =
    let told = sym c.read_tree.ensures.value ∙ c.in_ok-sum.was in
    let shape = prologue_told _ told (all_rows _ c.requires) c.read_tree.ensures.table_after c.is_prologue.ensures in
    operand_unclosed _ told _ c.if-not-or_closed.false (shape ∙ c.if-not-is_prologue.true) c.if-sum-lt64.true

pub returns-then-sum-lt64-2-clause-value : goal.returns-then-sum-lt64-2-clause-value
returns-then-sum-lt64-2-clause-value c =
    let told = sym c.read_tree.ensures.value ∙ c.in_ok-sum.was in
    let shape = prologue_told _ told (all_rows _ c.requires) c.read_tree.ensures.table_after c.is_prologue.ensures in
    let h = c.if-sum-lt64-2.true in
    elim c.if-not-is_prologue.branch [
      | then-not-is_prologue+else-not-or_closed+else-sum-lt64 w ↦
          operand_misnamed _ told (operand_closed _ told _ w.if-not-or_closed.false (shape ∙ w.if-not-is_prologue.true) w.if-sum-lt64.false) h
      | else-not-is_prologue w ↦ operand_misnamed _ told (operand_open _ told _ (shape ∙ w.if-not-is_prologue.false)) h
    ]

pub returns-clause-value : goal.returns-clause-value
returns-clause-value c =
    let told = sym c.read_tree.ensures.value ∙ c.in_ok-sum.was in
    let shape = prologue_told _ told (all_rows _ c.requires) c.read_tree.ensures.table_after c.is_prologue.ensures in
    let h = c.if-sum-lt64-2.false in
    elim c.if-not-is_prologue.branch [
      | then-not-is_prologue+else-not-or_closed+else-sum-lt64 w ↦
          operand_good _ told (operand_closed _ told _ w.if-not-or_closed.false (shape ∙ w.if-not-is_prologue.true) w.if-sum-lt64.false) h
      | else-not-is_prologue w ↦ operand_good _ told (operand_open _ told _ (shape ∙ w.if-not-is_prologue.false)) h
    ]

pub returns-in_err-sum-clause-value : goal.returns-in_err-sum-clause-value
returns-in_err-sum-clause-value c = handed_on c.from_residual.ensures ∙ operand_unread _ (sym c.read_tree.ensures.value ∙ c.in_err-sum.was) _
