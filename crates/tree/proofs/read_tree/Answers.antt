-- `tree::read_tree` meets its contract. Assumes nothing.
use Rattle.files.specs.laws.EntriesSteps.{told_cut, told_field}
use Rattle.files.specs.laws.RowFilled.{zeros_unfilled}
use Rattle.files.specs.laws.RoomLaws.{room_rows}
use native.Mathlib.Omega.{arith}
use Rattle.tree.specs.laws.TreeSteps.{too_long_lem, count_cut, count_none, count_many, file_stop, file_within_lem, file_set, file_read}
use Rattle.tree.specs.laws.MarkedSteps.{also, also_by, tree_unmarked, tree_marked}
use mathlib.Core.Path.{◌∙◌}
use Rattle.files.specs.laws.RefusalLaws.{handed_on}
use Rattle.tree.proofs.read_tree.Goals as goal

pub returns-then-s-gt65536 : goal.returns-then-s-gt65536
returns-then-s-gt65536 c =
    let all = also_by (too_long_lem _ _ c.if-s-gt65536.true) (tree_unmarked _ _ _ _) in
    record { value = all.0; table_after = all.1.0; templates_marked = all.1.1 }

pub returns-in_err-count : goal.returns-in_err-count
returns-in_err-count c =
    let all = also_by (count_cut _ _ c.if-s-gt65536.false (told_cut _ _ _ c.read_field.ensures c.in_err-count.was)) (tree_unmarked _ _ _ _) in
    record { value = handed_on c.from_residual.ensures ∙ all.0; table_after = all.1.0; templates_marked = all.1.1 }

pub returns-then-count-lt1 : goal.returns-then-count-lt1
returns-then-count-lt1 c =
    let all = also_by (count_none _ _ c.if-s-gt65536.false (told_field _ _ _ c.read_field.ensures c.in_ok-count.was) c.if-count-lt1.true) (tree_unmarked _ _ _ _) in
    record { value = all.0; table_after = all.1.0; templates_marked = all.1.1 }

pub returns-then-count-gt64 : goal.returns-then-count-gt64
returns-then-count-gt64 c =
    let all = also_by (count_many _ _ c.if-s-gt65536.false (told_field _ _ _ c.read_field.ensures c.in_ok-count.was) c.if-count-gt64.true) (tree_unmarked _ _ _ _) in
    record { value = all.0; table_after = all.1.0; templates_marked = all.1.1 }

pub read_templates-requires : goal.read_templates-requires
read_templates-requires c =
    let z = c.requires in
    let short = c.if-s-gt65536.false in
    let rows = room_rows _ (omega (arith, short)) z.room (told_field _ _ _ c.read_field.ensures c.in_ok-count.was) c.if-count-gt64.false in
    (c.if-s-gt65536.false, (c.if-count-gt64.false, rw z.zero (zeros_unfilled _ _ rows)))

pub read_end-requires : goal.read_end-requires
read_end-requires c = (
  c.if-s-gt65536.false,
  file_within_lem _ _ c.if-s-gt65536.false (told_field _ _ _ c.read_field.ensures c.in_ok-count.was) c.if-count-lt1.false c.if-count-gt64.false c.read_templates.ensures.value
      c.read_templates.ensures.table_after c.in_ok-past.was,
)

pub returns : goal.returns
returns c =
    let all = also (file_read _ _ c.if-s-gt65536.false (told_field _ _ _ c.read_field.ensures c.in_ok-count.was) c.if-count-lt1.false c.if-count-gt64.false c.read_templates.ensures.value
    c.read_templates.ensures.table_after c.in_ok-past.was c.read_end.ensures c.in_ok-read_end.was)
    (tree_marked _ _ _ _ (told_field _ _ _ c.read_field.ensures c.in_ok-count.was) c.read_templates.ensures.templates_marked) in
    record { value = all.0; table_after = all.1.0; templates_marked = all.1.1 }

pub returns-in_err-read_end : goal.returns-in_err-read_end
returns-in_err-read_end c =
    let all = also (file_set _ _ c.if-s-gt65536.false (told_field _ _ _ c.read_field.ensures c.in_ok-count.was) c.if-count-lt1.false c.if-count-gt64.false c.read_templates.ensures.value
    c.read_templates.ensures.table_after c.in_ok-past.was c.read_end.ensures c.in_err-read_end.was)
    (tree_marked _ _ _ _ (told_field _ _ _ c.read_field.ensures c.in_ok-count.was) c.read_templates.ensures.templates_marked) in
    record { value = handed_on c.from_residual-in_err-read_end.ensures ∙ all.0; table_after = all.1.0; templates_marked = all.1.1 }

pub returns-in_err-past : goal.returns-in_err-past
returns-in_err-past c =
    let all = also (file_stop _ _ c.if-s-gt65536.false (told_field _ _ _ c.read_field.ensures c.in_ok-count.was) c.if-count-lt1.false c.if-count-gt64.false c.read_templates.ensures.value
    c.read_templates.ensures.table_after c.in_err-past.was)
    (tree_marked _ _ _ _ (told_field _ _ _ c.read_field.ensures c.in_ok-count.was) c.read_templates.ensures.templates_marked) in
    record { value = handed_on c.from_residual-in_err-past.ensures ∙ all.0; table_after = all.1.0; templates_marked = all.1.1 }
