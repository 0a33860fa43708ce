-- `links::parts_at` meets its contract: by the shape of the code that stands there. Assumes nothing.
use native.Mathlib.Omega.{arith}
use mathlib.Core.Path.{sym, ap, ◌∙◌}
use Rattle.fields.specs.laws.Laws.{field_small}
use Rattle.files.specs.Codes.{shape_of}
use Rattle.lists.specs.Shapes.{Numbered}
use Rattle.links.specs.laws.PartsLaws.{end_here, simple_here, arms_here, saved_here, bad_here}
use Rattle.links.proofs.parts_at.Goals as goal

pub shape_of-requires : goal.shape_of-requires
shape_of-requires c = rw c.bits_at.ensures.0 (field_small _ _ 5)

pub returns-in-End : goal.returns-in-End
unfolding Numbered
returns-in-End c = λ l w. end_here w (ap shape_of (sym c.bits_at.ensures.0) ∙ (rw c.in-End.is at c.shape_of.ensures))

pub returns-in-Plain : goal.returns-in-Plain
unfolding Numbered
returns-in-Plain c =
    let shape = rw c.in-Plain.is at c.shape_of.ensures in
    λ l w. simple_here w (ap shape_of (sym c.bits_at.ensures.0) ∙ shape.0) (omega arith) (omega (arith, shape.1)) (omega (arith, c.past.ensures))

pub returns-in-Branch : goal.returns-in-Branch
unfolding Numbered
returns-in-Branch c =
    λ l w. arms_here w (ap shape_of (sym c.bits_at.ensures.0) ∙ (rw c.in-Branch.is at c.shape_of.ensures))
    (rw c.past-in-Branch.ensures at c.link_at-second.ensures) c.link_at.ensures

pub returns-in-Save : goal.returns-in-Save
unfolding Numbered
returns-in-Save c =
    λ l w. saved_here w (ap shape_of (sym c.bits_at.ensures.0) ∙ (rw c.in-Save.is at c.shape_of.ensures))
    (rw c.past-in-Save.ensures at c.link_at-in-Save.ensures)

pub returns-in-NoCode : goal.returns-in-NoCode
unfolding Numbered
returns-in-NoCode c =
    let shape = rw c.in-NoCode.is at c.shape_of.ensures in
    λ l w. absurd (bad_here w (ap shape_of (sym c.bits_at.ensures.0)) (omega (arith, shape)) (omega (arith, shape)))
