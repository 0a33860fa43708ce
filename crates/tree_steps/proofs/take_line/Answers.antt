-- `tree_steps::take_line` meets its contract: in each arm the code is the one that is handed on. Assumes nothing.
use native.Mathlib.Omega.{arith}
use Rattle.tree_steps.proofs.StepLaws.{past_code}
use Rattle.tree_steps.proofs.take_line.Goals as goal

pub take_above_10-requires : goal.take_above_10-requires
take_above_10-requires c =
    let p = c.requires in
    let high = past_code 10 _ (past_code 9 _ (past_code 8 _ (past_code 7 _ (past_code 6 _ (past_code 5 _ (past_code 4 _ (past_code 3 _ (past_code 2 _
    (past_code 1 _ (past_code 0 _ (omega arith) c.in_default.in_default-own.rest.0.0.0.0.0.0.0.0.0.0.1) c.in_default.in_default-own.rest.0.0.0.0.0.0.0.0.0.1) c.in_default.in_default-own.rest.0.0.0.0.0.0.0.0.1) c.in_default.in_default-own.rest.0.0.0.0.0.0.0.1) c.in_default.in_default-own.rest.0.0.0.0.0.0.1) c.in_default.in_default-own.rest.0.0.0.0.0.1) c.in_default.in_default-own.rest.0.0.0.0.1) c.in_default.in_default-own.rest.0.0.0.1) c.in_default.in_default-own.rest.0.0.1) c.in_default.in_default-own.rest.0.1)
    c.in_default.in_default-own.rest.1 in
    (p, high)
