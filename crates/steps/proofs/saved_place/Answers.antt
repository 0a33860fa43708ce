-- `steps::saved_place` meets its contract. Assumes nothing.
use mathlib.Core.Path.{sym}
use Rattle.machines.specs.Instruction.{number, form_of}
use Rattle.steps.proofs.StepLaws.{in_tree, in_linear}
use Rattle.steps.proofs.saved_place.Goals as goal

pub returns-in-Tree : goal.returns-in-Tree
unfolding number form_of
returns-in-Tree c = (c.tree_place.ensures, sym (in_tree _ _ c.in-Tree.is))

pub returns-in-Linear : goal.returns-in-Linear
unfolding number form_of
returns-in-Linear c = (c.linear_place.ensures, sym (in_linear _ _ c.in-Linear.is))
