-- `steps::act_return` meets its contract. Assumes nothing.
use Rattle.steps.proofs.StepLaws.{return_goes, return_halts}
use Rattle.steps.proofs.act_return.Goals as goal

pub returns-in-Some : goal.returns-in-Some
returns-in-Some c =
    λ o P g t. return_goes o P g _ t _ _ _ _ c.args.c _ (c.give_back.ensures.by_index g t) _ _ _ _ _ c.in-Some.is c.give_back.ensures.fits
    c.frame_template-template.ensures c.saved_place-place.ensures.0 c.saved_place-place.ensures.1

pub returns-in-None : goal.returns-in-None
returns-in-None c = λ o P g t. return_halts o P g _ t _ _ _ _ c.args.c _ (c.give_back.ensures.by_index g t) c.in-None.is
