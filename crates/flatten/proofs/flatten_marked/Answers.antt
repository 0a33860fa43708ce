-- `flatten::flatten_marked` meets its contract: each answer leads to its case of `flattened`. Assumes nothing.
use native.Mathlib.Omega.{arith}
use mathlib.Core.Path.{sym, ◌∙◌}
use lib.ListN.{length-set}
use Rattle.files.specs.laws.RefusalLaws.{handed_on}
use Rattle.tree.specs.laws.Judged.{judged_refused}
use Rattle.flatten.specs.laws.FileSteps.{flatten_refused, flatten_far, flatten_short, some_bytes, file_short, file_rows_lem, file_to_write, flatten_written}
use Rattle.flatten.proofs.flatten_marked.Goals as goal

pub returns-then-sum-lt64 : goal.returns-then-sum-lt64
returns-then-sum-lt64 c =
    let read = c.read_accepted.ensures in
    let told = sym read.value ∙ c.in_ok-sum.was in
    let all = flatten_far _ _ told c.if-sum-lt64.true in
    record { value = all.0; out_after = all.1 }

pub returns-then-out-size : goal.returns-then-out-size
returns-then-out-size c =
    let read = c.read_accepted.ensures in
    let told = sym read.value ∙ c.in_ok-sum.was in
    let all = flatten_short _ _ told c.if-sum-lt64.false c.if-out-size.true in
    record { value = all.0; out_after = all.1 }

pub bounds-out-0 : goal.bounds-out-0
bounds-out-0 c =
    let read = c.read_accepted.ensures in
    let told = sym read.value ∙ c.in_ok-sum.was in
    omega (arith, c.if-out-size.false, some_bytes _ c.args.out.now told)

pub write_templates-requires : goal.write_templates-requires
write_templates-requires c =
    let pre = c.requires in
    let read = c.read_accepted.ensures in
    let told = sym read.value ∙ c.in_ok-sum.was in
    record {
      sizes = (file_short _ c.args.out.now told, omega (arith, file_rows_lem _ c.args.out.now told pre.0, c.read_accepted.auto.table));
      to_write = file_to_write _ c.args.out.now told c.if-sum-lt64.false pre.0 read.table_after _ _ read.templates_marked pre.1 _ (simp length-set c.if-out-size.false);
    }

pub shape_of-out : goal.shape_of-out
shape_of-out c = c.write_templates.auto.out ∙ simp length-set

pub returns : goal.returns
returns c =
    let pre = c.requires in
    let read = c.read_accepted.ensures in
    let told = sym read.value ∙ c.in_ok-sum.was in
    let all = flatten_written _ _ told c.if-sum-lt64.false pre.0 read.table_after _ _ read.templates_marked pre.1 _ (simp length-set c.if-out-size.false) (simp length-set)
    c.write_templates.ensures in
    record { value = all.0; out_after = all.1 }

pub returns-in_err-sum : goal.returns-in_err-sum
returns-in_err-sum c =
    let all = flatten_refused _ _ (judged_refused _ (sym c.read_accepted.ensures.value ∙ c.in_err-sum.was)) in
    record { value = handed_on c.from_residual.ensures ∙ all.0; out_after = all.1 }
