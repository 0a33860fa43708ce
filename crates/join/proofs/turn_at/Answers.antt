-- `join::turn_at` meets its contract: by the shape of the code. Assumes nothing.
use native.Mathlib.Omega.{arith}
use mathlib.Core.Path.{ap}
use Rattle.fields.specs.laws.Laws.{field_small}
use Rattle.files.specs.Codes.{shape_of}
use Rattle.lists.specs.Shapes.{Numbered}
use Rattle.join.specs.laws.TurnLaws.{code_five, code_known, code_there, code_within, code_plain, arms_below, code_arms}
use Rattle.join.proofs.turn_at.Goals as goal

pub bits_at-requires : goal.bits_at-requires
bits_at-requires c = (omega (arith, c.requires.0), (omega arith, code_five c.requires.1))

pub shape_of-requires : goal.shape_of-requires
shape_of-requires c = rw c.bits_at.ensures.0 (field_small _ _ 5)

pub overflow_sub-levels : goal.overflow_sub-levels
unfolding Numbered
overflow_sub-levels c = omega (arith, arms_below c.requires.1 _ (ap shape_of c.bits_at.ensures.0) (rw c.in-Branch.is at c.shape_of.ensures))

pub overflow_sub-levels-in-Branch : goal.overflow_sub-levels-in-Branch
unfolding Numbered
overflow_sub-levels-in-Branch c = omega (arith, arms_below c.requires.1 _ (ap shape_of c.bits_at.ensures.0) (rw c.in-Branch.is at c.shape_of.ensures))

pub unreachable-requires : goal.unreachable-requires
unfolding Numbered
unreachable-requires c =
    let shape = rw c.in-NoCode.is at c.shape_of.ensures in
    omega (arith, shape, code_known c.requires.1 _ (ap shape_of c.bits_at.ensures.0))

pub returns-in-End : goal.returns-in-End
unfolding Numbered
returns-in-End c = λ w. code_there w _ (ap shape_of c.bits_at.ensures.0) (rw c.in-End.is at c.shape_of.ensures)

pub returns-in-Plain : goal.returns-in-Plain
unfolding Numbered
returns-in-Plain c =
    let shape = rw c.in-Plain.is at c.shape_of.ensures in
    λ w. code_plain w _ (ap shape_of c.bits_at.ensures.0) (λ e. omega (arith, shape)) (λ e. omega (arith, shape)) (λ e. omega (arith, shape)) _
    (omega (arith, shape, c.past.ensures))

pub returns-in-Branch : goal.returns-in-Branch
unfolding Numbered
returns-in-Branch c =
    λ w. code_arms w _ (ap shape_of c.bits_at.ensures.0) (rw c.in-Branch.is at c.shape_of.ensures) _ _ _ c.past-in-Branch.ensures
    c.past_list-mid.ensures c.past_list.ensures

pub returns-in-Save : goal.returns-in-Save
unfolding Numbered
returns-in-Save c = λ w. code_within w _ (ap shape_of c.bits_at.ensures.0) (rw c.in-Save.is at c.shape_of.ensures) _ c.past-in-Save.ensures
