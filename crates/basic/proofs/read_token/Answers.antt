-- `basic::read_token` meets its contract: by its code. Assumes nothing.
use native.Mathlib.Omega.{arith}
use Rattle.files.specs.laws.EntriesSteps.{told_field, told_cut, told_below}
use Rattle.basic.specs.laws.StepLaws.{turned_on}
use Rattle.basic.specs.laws.TokenLaws.{code_cut, code_literal, code_deep, code_closure, code_number, code_other}
use Rattle.basic.proofs.read_token.Goals as goal

pub returns-in_err-code : goal.returns-in_err-code
returns-in_err-code c = turned_on c.from_residual.ensures (code_cut _ _ _ (told_cut _ _ 5 c.read_field.ensures c.in_err-code.was))

pub read_shaped-requires : goal.read_shaped-requires
read_shaped-requires c =
    let pre = c.requires in
    (pre, told_below _ _ 5 c.read_field.ensures c.in_ok-code.was)

pub returns-in-6 : goal.returns-in-6
returns-in-6 c = code_literal _ _ _ _ _ (told_field _ _ 5 c.read_field.ensures c.in_ok-code.was) c.in-6.is c.read_literal.ensures

pub returns-in-8 : goal.returns-in-8
returns-in-8 c = code_number _ _ _ _ _ (told_field _ _ 5 c.read_field.ensures c.in_ok-code.was) (omega arith) (omega arith) c.read_global.ensures

pub returns-in_default : goal.returns-in_default
returns-in_default c =
    code_other _ _ _ _ _ (told_field _ _ 5 c.read_field.ensures c.in_ok-code.was) (λ e. omega arith) (λ e. omega arith) (λ e. omega arith)
    (λ e. omega arith) c.read_shaped.ensures

pub returns-in-7 : goal.returns-in-7
returns-in-7 c = code_deep _ _ _ _ _ (told_field _ _ 5 c.read_field.ensures c.in_ok-code.was) c.in-7.is c.if-levels-eq0.true

pub returns-in-7-2 : goal.returns-in-7-2
returns-in-7-2 c = code_closure _ _ _ _ _ (told_field _ _ 5 c.read_field.ensures c.in_ok-code.was) c.in-7.is c.if-levels-eq0.false
