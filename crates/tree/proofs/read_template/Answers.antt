-- `tree::read_template` meets its contract. Assumes nothing.
use lib.ListN.{length-set}
use native.Mathlib.Omega.{arith}
use mathlib.Core.Path.{sym, ◌∙◌}
use Rattle.files.specs.laws.EntriesSteps.{told_cut, told_field, told_below, entries_told_lem, entries_refused}
use Rattle.files.specs.laws.EntriesLaws.{entries_read}
use Rattle.files.specs.laws.ReadingLaws.{list_bits_lem}
use Rattle.lists.specs.laws.ReadLaws.{listed_done, listed_refused, listed_size}
use Rattle.tree.specs.laws.TemplateSteps.{count_cut, entries_stop, list_stop, list_done}
use Rattle.tree.specs.laws.MarkedSteps.{also_by, template_unmarked, template_marked_lem}
use Rattle.files.specs.laws.RefusalLaws.{handed_on}
use Rattle.tree.proofs.read_template.Goals as goal

pub returns-in_err-n : goal.returns-in_err-n
returns-in_err-n c =
    let all = also_by (count_cut _ _ _ _ _ (told_cut _ _ _ c.read_field.ensures c.in_err-n.was)) (template_unmarked _ _ _ _) in
    record { value = handed_on c.from_residual.ensures ∙ all.0; table_after = all.1.0; template_marked = all.1.1 }

pub read_entries-requires : goal.read_entries-requires
read_entries-requires c =
    let p = c.requires in
    (omega arith, (omega (arith, p.1.1.1.0, p.1.0), (p.1.1.0, told_below _ _ _ c.read_field.ensures c.in_ok-n.was)))

pub read_list-requires : goal.read_list-requires
read_list-requires c =
    let p = c.requires in
    (p.0, simp length-set (omega (arith, c.read_entries.auto.table, p.1.1.1.0, p.1.0)), omega (arith, p.1.0, p.1.1.0))

pub since-requires : goal.since-requires
since-requires c =
    let pre = c.requires in
    let e = entries_told_lem _ (sym c.read_entries.ensures.value ∙ c.in_ok-start.was) in
    omega (arith, (entries_read _ _ _ pre.1.1.0 _ _ e.is).past)

pub report_by-requires : goal.report_by-requires
report_by-requires c =
    let pre = c.requires in
    let e = entries_told_lem _ (sym c.read_entries.ensures.value ∙ c.in_ok-start.was) in
    let l = listed_done _ _ _ _ _ (sym c.read_list.ensures.value ∙ c.in_ok-past.was) in
    let p = pre.0 in
    (listed_size _ _ _ _ _ _ _ p (sym c.read_list.ensures.value ∙ c.in_ok-past.was), omega (arith, p, c.since.ensures, list_bits_lem _ _ _ _ _ l.1))

pub returns : goal.returns
returns c =
    let p = c.requires in
    let e = entries_told_lem _ (sym c.read_entries.ensures.value ∙ c.in_ok-start.was) in
    let slot = c.to_slot.ensures in
    let l = listed_done _ _ _ _ _ (sym (rw slot at c.read_list.ensures.value) ∙ c.in_ok-past.was) in
    let field = c.read_field.ensures in
    let number = c.in_ok-n.was in
    let told =
    list_done _ _ _ _ _ (told_field _ _ _ field number) c.read_entries.ensures.table_after e.is p.1.1.0 (told_below _ _ _ field number) p.1.0 p.1.1.1 l.1
    (sym l.2) (rw c.since.ensures at c.report_by.ensures) in
    rw slot (record {
      value = told.0;
      table_after = told.1;
      template_marked = template_marked_lem _ _ _ _ _ _ _ (told_field _ _ _ field number) e.is l.1 c.read_list.ensures.list_marked;
    })

pub returns-in_err-past : goal.returns-in_err-past
returns-in_err-past c =
    let e = entries_told_lem _ (sym c.read_entries.ensures.value ∙ c.in_ok-start.was) in
    let slot = c.to_slot.ensures in
    let stop =
    list_stop _ _ _ _ _ (told_field _ _ _ c.read_field.ensures c.in_ok-n.was) c.read_entries.ensures.table_after e.is
    (listed_refused _ _ _ _ _ (sym (rw slot at c.read_list.ensures.value) ∙ c.in_err-past.was)) in
    let all = also_by stop (template_unmarked _ _ _ _) in
    rw slot (record { value = handed_on c.from_residual-in_err-past.ensures ∙ all.0; table_after = all.1.0; template_marked = all.1.1 })

pub returns-in_err-start : goal.returns-in_err-start
returns-in_err-start c =
    let all = also_by (entries_stop _ _ _ _ _ (told_field _ _ _ c.read_field.ensures c.in_ok-n.was) c.read_entries.ensures.table_after
    (entries_refused _ (sym c.read_entries.ensures.value ∙ c.in_err-start.was))) (template_unmarked _ _ _ _) in
    record { value = handed_on c.from_residual-in_err-start.ensures ∙ all.0; table_after = all.1.0; template_marked = all.1.1 }
