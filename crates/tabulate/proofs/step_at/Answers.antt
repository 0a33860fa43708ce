-- `tabulate::step_at` meets its contract: by the code that stands there. Assumes nothing.
use Rattle.tabulate.specs.laws.WalkLaws.{literal_small}
use Rattle.tabulate.specs.laws.WalkLaws.{ok_some, ok_none, copy_told, step_closure, step_literal, step_global, no_refusal}
use Rattle.basic.specs.laws.StepLaws.{turned, turned_to}
use native.Mathlib.Omega.{arith}
use Rattle.tabulate.proofs.step_at.Goals as goal

pub overflow_mul-result : goal.overflow_mul-result
overflow_mul-result c = let k = literal_small _ _ _ _ _ (turned_to (ok_some c.ok.ensures.value c.in_ok-next.was) c.in-Literal.is c.read_token.ensures) in omega (arith, k.0)

pub overflow_add-result : goal.overflow_add-result
overflow_add-result c = let k = literal_small _ _ _ _ _ (turned_to (ok_some c.ok.ensures.value c.in_ok-next.was) c.in-Literal.is c.read_token.ensures) in omega (arith, k.0, k.1)

pub returns-in-Literal : goal.returns-in-Literal
returns-in-Literal c = λ e cs h w. step_literal _ _ _ cs _ _ _ h w (turned_to (ok_some c.ok.ensures.value c.in_ok-next.was) c.in-Literal.is c.read_token.ensures)

pub returns-in-Global : goal.returns-in-Global
returns-in-Global c = λ e cs h w. step_global _ _ _ cs _ _ _ h w (turned_to (ok_some c.ok.ensures.value c.in_ok-next.was) c.in-Global.is c.read_token.ensures)

pub returns-in-Closure : goal.returns-in-Closure
returns-in-Closure c = λ e cs h w. step_closure _ _ _ cs _ h w (turned_to (ok_some c.ok.ensures.value c.in_ok-next.was) c.in-Closure.is c.read_token.ensures)

pub returns-in-End : goal.returns-in-End
returns-in-End c = λ e cs h w. copy_told _ _ _ cs h w (ok_some c.ok.ensures.value c.in_ok-next.was) c.in-End.is c.read_token.ensures

pub returns-in-End-2 : goal.returns-in-End-2
returns-in-End-2 c = λ e cs h w. copy_told _ _ _ cs h w (ok_some c.ok.ensures.value c.in_ok-next.was) c.in-End.is c.read_token.ensures

pub returns-in-End-3 : goal.returns-in-End-3
returns-in-End-3 c = λ e cs h w. copy_told _ _ _ cs h w (ok_some c.ok.ensures.value c.in_ok-next.was) c.in-End.is c.read_token.ensures

pub returns-in-End-4 : goal.returns-in-End-4
returns-in-End-4 c = λ e cs h w. copy_told _ _ _ cs h w (ok_some c.ok.ensures.value c.in_ok-next.was) c.in-End.is c.read_token.ensures

pub returns-in-End-5 : goal.returns-in-End-5
returns-in-End-5 c = λ e cs h w. copy_told _ _ _ cs h w (ok_some c.ok.ensures.value c.in_ok-next.was) c.in-End.is c.read_token.ensures

pub returns-in_err-next : goal.returns-in_err-next
returns-in_err-next c = λ e cs h w. no_refusal _ _ _ cs _ h w (turned (ok_none c.ok.ensures.value c.in_err-next.was).1 c.read_token.ensures)
