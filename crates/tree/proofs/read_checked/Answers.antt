-- `tree::read_checked` meets its contract. Assumes nothing.
use mathlib.Core.Path.{sym, ap, ◌∙◌}
use Rattle.tree.specs.Summary.{judged_told}
use Rattle.tree.specs.laws.Judged.{judged_unclosed, judged_misnamed, judged_good, checked_refused}
use Rattle.files.specs.laws.RefusalLaws.{handed_on}
use Rattle.tree.proofs.read_checked.Goals as goal

pub returns-then-sum-lt64 : goal.returns-then-sum-lt64
unfolding judged_told
returns-then-sum-lt64 c =
    let read = c.read_tree.ensures in
    let told = sym read.value ∙ c.in_ok-sum.was in
    record { value = sym (ap judged_told (judged_unclosed _ told c.if-sum-lt64.true)); table_after = read.table_after; templates_marked = read.templates_marked }

pub returns-then-sum-lt64-2 : goal.returns-then-sum-lt64-2
unfolding judged_told
returns-then-sum-lt64-2 c =
    let read = c.read_tree.ensures in
    let told = sym read.value ∙ c.in_ok-sum.was in
    record { value = sym (ap judged_told (judged_misnamed _ told c.if-sum-lt64.false c.if-sum-lt64-2.true)); table_after = read.table_after; templates_marked = read.templates_marked }

pub returns : goal.returns
returns c =
    let read = c.read_tree.ensures in
    let told = sym read.value ∙ c.in_ok-sum.was in
    record { value = sym (judged_good _ told c.if-sum-lt64.false c.if-sum-lt64-2.false); table_after = read.table_after; templates_marked = read.templates_marked }

pub returns-in_err-sum : goal.returns-in_err-sum
unfolding judged_told
returns-in_err-sum c =
    let read = c.read_tree.ensures in
    let told = sym read.value ∙ c.in_err-sum.was in
    record { value = handed_on c.from_residual.ensures ∙ sym (ap judged_told (checked_refused _ told)); table_after = read.table_after; templates_marked = read.templates_marked }
