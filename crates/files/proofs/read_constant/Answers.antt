-- `files::read_constant` meets its contract: each test leads to its case of `constant_at`. Assumes nothing.
use native.Mathlib.Omega.{arith}
use mathlib.Core.Path.{◌∙◌}
use Rattle.files.specs.laws.RefusalLaws.{handed_on}
use Rattle.files.specs.laws.EntriesSteps.{told_field, told_cut, told_below, plain_constant, narrow_cut, narrow_read, wide_cut, wide_read, bad_tag}
use Rattle.files.proofs.read_constant.Goals as goal

pub returns-then-t-lt4 : goal.returns-then-t-lt4
returns-then-t-lt4 c = plain_constant _ _ _ _ c.requires.1 c.if-t-lt4.true

pub returns-in_err-x : goal.returns-in_err-x
returns-in_err-x c = handed_on c.from_residual.ensures ∙ narrow_cut _ _ _ _ c.if-t-eq4.true (told_cut _ _ _ c.read_word.ensures c.in_err-x.was)

pub returns-then-t-eq4 : goal.returns-then-t-eq4
returns-then-t-eq4 c = rw c.int_cell.ensures (narrow_read _ _ _ _ c.if-t-eq4.true (told_field _ _ _ c.read_word.ensures c.in_ok-x.was) c.widened.ensures)

pub returns-in_err-x-2 : goal.returns-in_err-x-2
returns-in_err-x-2 c = handed_on c.from_residual-in_err-x-2.ensures ∙ wide_cut _ _ _ _ c.if-t-eq5.true (told_cut _ _ _ c.read_wide.ensures c.in_err-x-2.was)

pub int_cell-requires-then-t-eq5 : goal.int_cell-requires-then-t-eq5
int_cell-requires-then-t-eq5 c = told_below _ _ _ c.read_wide.ensures c.in_ok-x-2.was

pub returns-then-t-eq5 : goal.returns-then-t-eq5
returns-then-t-eq5 c = rw c.int_cell-then-t-eq5.ensures (wide_read _ _ _ _ c.if-t-eq5.true (told_field _ _ _ c.read_wide.ensures c.in_ok-x-2.was))

pub returns : goal.returns
returns c = bad_tag _ _ _ _ (omega (arith, c.if-t-lt4.false, c.if-t-eq4.false, c.if-t-eq5.false))
