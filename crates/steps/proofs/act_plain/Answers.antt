-- `steps::act_plain` meets its contract. Assumes nothing.
use Rattle.steps.proofs.StepLaws.{plain_goes, plain_stops}
use Rattle.steps.proofs.act_plain.Goals as goal

pub returns-in-Ok : goal.returns-in-Ok
returns-in-Ok c =
    let pre = c.requires in
    λ P f. plain_goes _ P _ _ _ _ _ _ f _ _ _ c.args.c _ c.plain_rule.ensures.store_after _ c.in-Ok.is c.plain_rule.ensures.fits pre.1

pub returns-in-Err : goal.returns-in-Err
returns-in-Err c = λ P f. plain_stops _ P _ _ _ _ _ _ f _ _ _ c.args.c _ c.plain_rule.ensures.store_after _ c.in-Err.is
