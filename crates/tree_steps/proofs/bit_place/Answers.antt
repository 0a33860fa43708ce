-- `tree_steps::bit_place` meets its contract. Assumes nothing.
use mathlib.Core.Path.{◌≡◌, sym, ◌∙◌}
use Rattle.cells.specs.laws.Laws.{clash}
use Rattle.machines.specs.Instruction.{tree_form, linear_form}
use Rattle.steps.proofs.StepLaws.{in_linear}
use Rattle.tree_steps.proofs.bit_place.Goals as goal

pub returns-in-Tree : goal.returns-in-Tree
returns-in-Tree c = c.in-Tree.is

pub returns-in-Linear : goal.returns-in-Linear
returns-in-Linear c = let z : linear_form ≡ tree_form = sym (in_linear _ _ c.in-Linear.is) ∙ c.requires in clash (cc)
