-- `steps::act_call` meets its contract. Assumes nothing.
use mathlib.Core.Path.{◌∙◌}
use Rattle.steps.proofs.StepLaws.{call_goes, call_stops}
use Rattle.steps.proofs.act_call.Goals as goal

pub returns-in-Ok : goal.returns-in-Ok
returns-in-Ok c =
    let pre = c.requires in
    λ o P m h. call_goes o P m _ _ c.args.c _ c.call.ensures.value _ _ _ c.in-Ok.is c.call.ensures.fits pre.0
    (c.start_place-place.ensures.0 ∙ h _) pre.1 c.start_place-place.ensures.1

pub returns-in-Err : goal.returns-in-Err
returns-in-Err c = λ o P m h. call_stops o P m _ _ c.args.c _ c.call.ensures.value _ c.in-Err.is
