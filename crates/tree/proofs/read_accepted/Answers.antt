-- `tree::read_accepted` meets its contract. Assumes nothing.
use mathlib.Core.Path.{sym, ap, ◌∙◌}
use Rattle.tree.specs.Summary.{judged_told}
use Rattle.tree.specs.laws.Judged.{judged_orphan, judged_accepted, judged_refused, accepted_refused}
use Rattle.files.specs.laws.RefusalLaws.{handed_on}
use Rattle.tree.proofs.read_accepted.Goals as goal

pub returns-then-orphan-lt64 : goal.returns-then-orphan-lt64
unfolding judged_told
returns-then-orphan-lt64 c =
    let read = c.read_checked.ensures in
    let told = sym read.value ∙ c.in_ok-sum.was in
    record { value = sym (ap judged_told (judged_orphan _ told _ c.lowest_missing-orphan.ensures c.if-orphan-lt64.true)); table_after = read.table_after; templates_marked = read.templates_marked }

pub returns : goal.returns
returns c =
    let read = c.read_checked.ensures in
    let told = sym read.value ∙ c.in_ok-sum.was in
    record { value = sym (judged_accepted _ told _ c.lowest_missing-orphan.ensures c.if-orphan-lt64.false); table_after = read.table_after; templates_marked = read.templates_marked }

pub returns-in_err-sum : goal.returns-in_err-sum
unfolding judged_told
returns-in_err-sum c =
    let read = c.read_checked.ensures in
    record { value = handed_on c.from_residual.ensures ∙ sym (ap judged_told (accepted_refused _ (judged_refused _ (sym read.value ∙ c.in_err-sum.was)))); table_after = read.table_after; templates_marked = read.templates_marked }
