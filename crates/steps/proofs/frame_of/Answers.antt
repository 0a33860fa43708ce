-- `steps::frame_of` meets its contract. Assumes nothing.
use Rattle.steps.proofs.StepLaws.{tree_number, linear_number, framed}
use Rattle.steps.proofs.frame_of.Goals as goal

pub returns-in-Tree : goal.returns-in-Tree
returns-in-Tree c = framed _ _ _ _ _ _ (tree_number _ _ c.in-Tree.is) c.tree_frame.ensures

pub returns-in-Linear : goal.returns-in-Linear
returns-in-Linear c = framed _ _ _ _ _ _ (linear_number _ _ c.in-Linear.is) c.linear_frame.ensures
