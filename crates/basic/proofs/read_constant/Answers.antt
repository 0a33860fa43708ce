-- `basic::read_constant` meets its contract: each test leads to its case of constant_at. Assumes nothing.
use native.Mathlib.Omega.{arith}
use Rattle.files.specs.laws.EntriesLaws.{width_narrow, width_wide}
use Rattle.files.specs.laws.EntriesSteps.{told_field, told_cut}
use Rattle.basic.specs.laws.StepLaws.{turned_on}
use Rattle.basic.specs.laws.TokenLaws.{constant_plain, constant_read, constant_cut, constant_bad}
use Rattle.basic.proofs.read_constant.Goals as goal

pub returns-then-t-lt4 : goal.returns-then-t-lt4
returns-then-t-lt4 c = constant_plain _ _ _ _ c.requires.1 c.if-t-lt4.true

pub returns-in_err-x : goal.returns-in_err-x
returns-in_err-x c =
    turned_on c.from_residual.ensures
    (constant_cut _ _ _ _ 32 (omega arith) (width_narrow _ c.if-t-eq4.true) (told_cut _ _ 32 c.read_word.ensures c.in_err-x.was))

pub returns-then-t-eq4 : goal.returns-then-t-eq4
returns-then-t-eq4 c =
    constant_read _ _ _ _ 32 (omega arith) (width_narrow _ c.if-t-eq4.true) _ _ (told_field _ _ 32 c.read_word.ensures c.in_ok-x.was)

pub returns-in_err-x-2 : goal.returns-in_err-x-2
returns-in_err-x-2 c =
    turned_on c.from_residual-in_err-x-2.ensures
    (constant_cut _ _ _ _ 48 (omega arith) (width_wide _ c.if-t-eq5.true) (told_cut _ _ 48 c.read_wide.ensures c.in_err-x-2.was))

pub returns-then-t-eq5 : goal.returns-then-t-eq5
returns-then-t-eq5 c =
    constant_read _ _ _ _ 48 (omega arith) (width_wide _ c.if-t-eq5.true) _ _ (told_field _ _ 48 c.read_wide.ensures c.in_ok-x-2.was)

pub returns : goal.returns
returns c = constant_bad _ _ _ _ (omega (arith, c.if-t-lt4.false, c.if-t-eq4.false, c.if-t-eq5.false))
