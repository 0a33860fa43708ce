-- `tree_steps::take_above_20` meets its contract: in each arm the code is the one that is handed on. Assumes nothing.
use native.Mathlib.Omega.{arith}
use Rattle.tree_steps.proofs.StepLaws.{past_code}
use Rattle.tree_steps.proofs.take_above_20.Goals as goal

pub take_coded-requires-in_default : goal.take_coded-requires-in_default
take_coded-requires-in_default c =
    let p = c.requires in
    let high = past_code 30 _ (past_code 29 _ (past_code 28 _ (past_code 27 _ (past_code 26 _ (past_code 25 _ (past_code 24 _ (past_code 23 _
    (past_code 22 _ (past_code 21 _ p.1 c.in_default.in_default-own.rest.0.0.0.0.0.0.0.0.0.1) c.in_default.in_default-own.rest.0.0.0.0.0.0.0.0.1) c.in_default.in_default-own.rest.0.0.0.0.0.0.0.1) c.in_default.in_default-own.rest.0.0.0.0.0.0.1) c.in_default.in_default-own.rest.0.0.0.0.0.1) c.in_default.in_default-own.rest.0.0.0.0.1) c.in_default.in_default-own.rest.0.0.0.1) c.in_default.in_default-own.rest.0.0.1) c.in_default.in_default-own.rest.0.1) c.in_default.in_default-own.rest.1 in
    (p.0, omega (arith, high, p.0.line_low))
