-- `steps::start_place` meets its contract. Assumes nothing.
use mathlib.Core.Path.{refl, sym, ◌∙◌}
use Rattle.machines.specs.Instruction.{number, form_of}
use Rattle.steps.specs.Step.{start_at}
use Rattle.steps.proofs.StepLaws.{in_tree, in_linear}
use Rattle.steps.proofs.start_place.Goals as goal

pub returns-in-Tree : goal.returns-in-Tree
unfolding number form_of start_at
returns-in-Tree c = let e = in_tree _ _ c.in-Tree.is in (rw e (c.from_slot.ensures ∙ c.slot_at.ensures), sym e)

pub returns-in-Linear : goal.returns-in-Linear
unfolding number form_of start_at
returns-in-Linear c = let e = in_linear _ _ c.in-Linear.is in (rw e refl, sym e)
