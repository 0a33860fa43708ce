-- `steps::act_save` meets its contract. Assumes nothing.
use Rattle.steps.proofs.StepLaws.{save_goes, save_stops}
use Rattle.steps.proofs.act_save.Goals as goal

pub returns-in-Ok : goal.returns-in-Ok
returns-in-Ok c =
    let pre = c.requires in
    λ o P g t. save_goes o P g _ t _ _ _ _ _ _ _ c.args.c _ _ c.frame_of-cell.ensures pre.2 (c.make_cont.ensures.by_index g t) _ _ c.in-Ok.is
    c.make_cont.ensures.fits

pub returns-in-Err : goal.returns-in-Err
returns-in-Err c =
    let pre = c.requires in
    λ o P g t. save_stops o P g _ t _ _ _ _ _ _ _ c.args.c _ _ c.frame_of-cell.ensures pre.2 (c.make_cont.ensures.by_index g t) _ c.in-Err.is
