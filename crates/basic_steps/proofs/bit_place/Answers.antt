-- `basic_steps::bit_place` meets its contract. Assumes nothing.
use mathlib.Core.Path.{sym}
use Rattle.steps.proofs.StepLaws.{tree_number}
use Rattle.basic_steps.proofs.StepLaws.{no_byte}
use Rattle.basic_steps.proofs.bit_place.Goals as goal

pub returns-in-Tree : goal.returns-in-Tree
returns-in-Tree c = sym (tree_number _ _ c.in-Tree.is)

pub returns-in-Linear : goal.returns-in-Linear
returns-in-Linear c = no_byte _ _ c.in-Linear.is c.requires
