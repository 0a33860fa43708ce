-- `tree_steps::take_above_10` meets its contract: in each arm the code is the one that is handed on. Assumes nothing.
use Rattle.tree_steps.proofs.StepLaws.{past_code}
use Rattle.tree_steps.proofs.take_above_10.Goals as goal

pub take_above_20-requires : goal.take_above_20-requires
take_above_20-requires c =
    let p = c.requires in
    let high = past_code 20 _ (past_code 19 _ (past_code 18 _ (past_code 17 _ (past_code 16 _ (past_code 15 _ (past_code 14 _ (past_code 13 _
    (past_code 12 _ (past_code 11 _ p.1 c.in_default.in_default-own.rest.0.0.0.0.0.0.0.0.0.1) c.in_default.in_default-own.rest.0.0.0.0.0.0.0.0.1) c.in_default.in_default-own.rest.0.0.0.0.0.0.0.1) c.in_default.in_default-own.rest.0.0.0.0.0.0.1) c.in_default.in_default-own.rest.0.0.0.0.0.1) c.in_default.in_default-own.rest.0.0.0.0.1) c.in_default.in_default-own.rest.0.0.0.1) c.in_default.in_default-own.rest.0.0.1) c.in_default.in_default-own.rest.0.1) c.in_default.in_default-own.rest.1 in
    (p.0, high)
