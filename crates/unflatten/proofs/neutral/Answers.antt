-- `unflatten::neutral` meets its contract. Assumes nothing.
use Rattle.unflatten.specs.laws.HeadLaws.{shape_low, head_no_code, head_cut, head_neutral}
use native.Mathlib.Omega.{arith}
use mathlib.Core.Path.{refl}
use Rattle.lists.specs.Shapes.{Numbered}
use Rattle.lists.specs.laws.ShapeLaws.{not_plain}
use Rattle.unflatten.proofs.neutral.Goals as goal

pub returns-in_default : goal.returns-in_default
returns-in_default c =
    let h = c.requires in
    let some = shape_low _ _ refl (omega (arith, h.3)) in
    head_no_code _ _ _ _ _ h.1 h.2 _ refl h.3 (omega (arith, not_plain _ _ c.shape.ensures c.in_default.not-Plain some))

pub returns-then-region-operands : goal.returns-then-region-operands
unfolding Numbered
returns-then-region-operands c =
    let h = c.requires in
    let shape = rw c.in-Plain.is at c.shape.ensures in
    head_cut _ _ _ _ _ h.1 h.2 _ refl h.3 _ (omega (arith, shape)) (omega (arith, shape)) c.if-region-operands.true

pub returns : goal.returns
unfolding Numbered
returns c =
    let h = c.requires in
    let shape = rw c.in-Plain.is at c.shape.ensures in
    head_neutral _ _ _ _ _ h.1 h.2 _ refl h.3 _ (omega (arith, shape)) (omega (arith, shape)) c.if-region-operands.false
