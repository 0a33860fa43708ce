-- `basic::read_plain` meets its contract: by how many operand bytes it has. Assumes nothing.
use native.Mathlib.Omega.{arith}
use Rattle.files.specs.laws.EntriesSteps.{told_field, told_cut}
use Rattle.basic.specs.laws.StepLaws.{turned_on}
use Rattle.basic.specs.laws.TokenLaws.{no_operands, one_operand, two_operands, first_cut, second_cut}
use Rattle.basic.proofs.read_plain.Goals as goal

pub returns-then-operands-eq0 : goal.returns-then-operands-eq0
returns-then-operands-eq0 c = λ l p. no_operands _ l p _ _ _ (omega (arith, c.if-operands-eq0.true)) c.plain_token.ensures

pub returns-in_err-second : goal.returns-in_err-second
returns-in_err-second c =
    λ l p. turned_on c.from_residual.ensures
    (first_cut _ l p _ _ _ (omega arith) (omega arith) (told_cut _ _ 8 c.read_field.ensures c.in_err-second.was))

pub returns-then-operands-eq1 : goal.returns-then-operands-eq1
returns-then-operands-eq1 c =
    λ l p. one_operand _ l p _ _ _ _ (told_field _ _ 8 c.read_field.ensures c.in_ok-second.was) _ (omega (arith, c.if-operands-eq1.true))
    c.plain_token-then-operands-eq1.ensures

pub returns-in_err-last : goal.returns-in_err-last
returns-in_err-last c =
    λ l p. turned_on c.from_residual-in_err-last.ensures
    (second_cut _ l p _ _ _ _ _ (omega arith) (told_field _ _ 8 c.read_field.ensures c.in_ok-second.was)
    (told_cut _ _ 8 c.read_field-2.ensures c.in_err-last.was))

pub returns : goal.returns
returns c =
    λ l p. two_operands _ l p _ _ _ _ (told_field _ _ 8 c.read_field.ensures c.in_ok-second.was) _ _ _ (omega arith)
    (told_field _ _ 8 c.read_field-2.ensures c.in_ok-last.was) c.plain_token-2.ensures
