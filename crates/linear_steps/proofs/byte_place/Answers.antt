-- `linear_steps::byte_place` meets its contract. Assumes nothing.
use mathlib.Core.Path.{sym}
use Rattle.steps.proofs.StepLaws.{linear_number}
use Rattle.linear_steps.proofs.StepLaws.{no_bit}
use Rattle.linear_steps.proofs.byte_place.Goals as goal

pub returns-in-Tree : goal.returns-in-Tree
returns-in-Tree c =
    let pre = c.requires in
    no_bit _ _ c.in-Tree.is (pre)

pub returns-in-Linear : goal.returns-in-Linear
returns-in-Linear c = sym (linear_number _ _ c.in-Linear.is)
