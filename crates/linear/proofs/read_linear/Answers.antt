-- `linear::read_linear` meets its contract: each answer leads to its case of `linear_read`. Assumes nothing.
use mathlib.Core.Path.{◌∙◌}
use borrow.Author.Rules.{rules}
use Rattle.files.specs.laws.EntriesSteps.{told_field, told_cut}
use Rattle.files.specs.laws.RefusalLaws.{handed_on}
use Rattle.files.specs.laws.RoomLaws.{room_rows}
use Rattle.linear.specs.laws.LinearSteps.{too_long_lem, count_cut, count_low, count_high, templates_stop, more_stop, file_done}
use Rattle.linear.proofs.read_linear.Goals as goal

pub returns-then-s-gt262144 : goal.returns-then-s-gt262144
returns-then-s-gt262144 c =
    let all = too_long_lem _ _ c.if-s-gt262144.true in
    record { value = all.0; table_after = all.1 }

pub returns-in_err-count : goal.returns-in_err-count
returns-in_err-count c =
    let all = count_cut _ _ c.if-s-gt262144.false (told_cut _ _ _ c.read_field.ensures c.in_err-count.was) in
    record { value = handed_on c.from_residual.ensures ∙ all.0; table_after = all.1 }

pub returns-then-count-lt1 : goal.returns-then-count-lt1
returns-then-count-lt1 c =
    let all = count_low _ _ c.if-s-gt262144.false (told_field _ _ _ c.read_field.ensures c.in_ok-count.was) c.if-count-lt1.true in
    record { value = all.0; table_after = all.1 }

pub returns-then-count-gt64 : goal.returns-then-count-gt64
returns-then-count-gt64 c =
    let all = count_high _ _ c.if-s-gt262144.false (told_field _ _ _ c.read_field.ensures c.in_ok-count.was) c.if-count-lt1.false c.if-count-gt64.true in
    record { value = all.0; table_after = all.1 }

pub read_templates-requires : goal.read_templates-requires
read_templates-requires c =
    let few = c.if-count-gt64.false in
    let rows = room_rows _ c.if-s-gt262144.false
    c.requires
    (told_field _ _ _ c.read_field.ensures c.in_ok-count.was) few in
    (search rules, (rows, few))

pub returns-in_err-past : goal.returns-in_err-past
returns-in_err-past c =
    let all = templates_stop _ _ c.if-s-gt262144.false
    (told_field _ _ _ c.read_field.ensures c.in_ok-count.was) c.if-count-lt1.false
    c.if-count-gt64.false (c.read_templates.ensures.value, c.read_templates.ensures.table_after) c.in_err-past.was in
    record { value = handed_on c.from_residual-in_err-past.ensures ∙ all.0; table_after = all.1 }

pub returns-in_err-nothing_more : goal.returns-in_err-nothing_more
returns-in_err-nothing_more c =
    let all = more_stop _ _ c.if-s-gt262144.false
    (told_field _ _ _ c.read_field.ensures c.in_ok-count.was) c.if-count-lt1.false
    c.if-count-gt64.false (c.read_templates.ensures.value, c.read_templates.ensures.table_after) c.in_ok-past.was c.nothing_more.ensures c.in_err-nothing_more.was in
    record { value = handed_on c.from_residual-in_err-nothing_more.ensures ∙ all.0; table_after = all.1 }

pub returns : goal.returns
returns c =
    let all = file_done _ _ c.if-s-gt262144.false
    (told_field _ _ _ c.read_field.ensures c.in_ok-count.was) c.if-count-lt1.false
    c.if-count-gt64.false (c.read_templates.ensures.value, c.read_templates.ensures.table_after) c.in_ok-past.was c.nothing_more.ensures c.in_ok-nothing_more.was in
    record { value = all.0; table_after = all.1 }
