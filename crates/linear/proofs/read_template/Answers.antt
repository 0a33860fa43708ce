-- `linear::read_template` meets its contract. Assumes nothing.
use mathlib.Core.Path.{◌∙◌, sym}
use borrow.Author.Rules.{rules}
use Rattle.files.specs.laws.EntriesLaws.{entries_read}
use Rattle.files.specs.laws.EntriesSteps.{told_field, told_cut, told_below, told_within, entries_told_lem, entries_refused}
use Rattle.files.specs.laws.RefusalLaws.{handed_on}
use Rattle.linear.specs.laws.LinearSteps.{entries_cut, entries_stop, template_done}
use Rattle.linear.proofs.read_template.Goals as goal

pub returns-in_err-n : goal.returns-in_err-n
returns-in_err-n c =
    let all = entries_cut _ _ _ _ _ (told_cut _ _ _ c.read_field.ensures c.in_err-n.was) in
    record { value = handed_on c.from_residual.ensures ∙ all.0; table_after = all.1 }

pub read_entries-requires : goal.read_entries-requires
read_entries-requires c = (search rules, (search rules, (search rules, told_below _ _ _ c.read_field.ensures c.in_ok-n.was)))

pub returns-in_err-padding : goal.returns-in_err-padding
returns-in_err-padding c =
    let all = entries_stop _ _ _ _ _ (told_field _ _ _ c.read_field.ensures c.in_ok-n.was) c.read_entries.ensures.table_after
    (entries_refused _ (sym c.read_entries.ensures.value ∙ c.in_err-padding.was)) in
    record { value = handed_on c.from_residual-in_err-padding.ensures ∙ all.0; table_after = all.1 }

pub read_code-requires : goal.read_code-requires
read_code-requires c =
    let pre = c.requires in
    let e = entries_told_lem _ (sym c.read_entries.ensures.value ∙ c.in_ok-padding.was) in
    (search rules, (search rules, (entries_read _ _ _ pre.1.1 _ _ e.is).within (told_within _ _ _ c.read_field.ensures c.in_ok-n.was)))

pub returns : goal.returns
returns c =
    let e = entries_told_lem _ (sym c.read_entries.ensures.value ∙ c.in_ok-padding.was) in
    let k = c.read_code.ensures in
    let all = template_done _ _ _ _ _ (told_field _ _ _ c.read_field.ensures c.in_ok-n.was) c.read_entries.ensures.table_after e.is (k.value e.entries) (k.table_after e.entries) in
    record { value = all.0; table_after = all.1 }
