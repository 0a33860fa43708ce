-- `basic::read_shaped` meets its contract: by its code's shape. Assumes nothing.
use native.Mathlib.Omega.{arith}
use Rattle.lists.specs.Shapes.{Numbered}
use Rattle.basic.specs.laws.TokenLaws.{shaped_end, shaped_deep, shaped_branch, shaped_save, shaped_bad, shape_small}
use Rattle.basic.proofs.read_shaped.Goals as goal

pub returns-in-End : goal.returns-in-End
unfolding Numbered
returns-in-End c = shaped_end _ _ _ _ _ _ (rw c.in-End.is at c.shape_of.ensures)

pub returns-in-Plain : goal.returns-in-Plain
unfolding Numbered
returns-in-Plain c = rw (rw c.in-Plain.is at c.shape_of.ensures).0 (c.read_plain.ensures _ _)

pub returns-in-Branch : goal.returns-in-Branch
unfolding Numbered
returns-in-Branch c = shaped_branch _ _ _ _ _ _ (λ e. omega (arith, e, c.if-levels-gt0.true)) (rw c.in-Branch.is at c.shape_of.ensures)

pub returns-in-Save : goal.returns-in-Save
unfolding Numbered
returns-in-Save c =
    shaped_save _ _ _ _ _ _ (λ e. omega (arith, e, c.if-levels-gt0-2.true)) (rw c.in-Save.is at c.shape_of.ensures) c.read_save.ensures

pub returns-in-Branch-2 : goal.returns-in-Branch-2
unfolding Numbered
returns-in-Branch-2 c =
    let shape = rw c.in-Branch.is at c.shape_of.ensures in
    shaped_deep _ _ _ _ _ _ (omega (arith, c.if-levels-gt0.false)) (omega (arith, shape)) (omega (arith, shape))

pub returns-in-Branch-2-2 : goal.returns-in-Branch-2-2
unfolding Numbered
returns-in-Branch-2-2 c =
    let shape = rw c.in-Save.is at c.shape_of.ensures in
    shaped_deep _ _ _ _ _ _ (omega (arith, c.if-levels-gt0-2.false)) (omega (arith, shape)) (omega (arith, shape))

pub returns-in-NoCode : goal.returns-in-NoCode
unfolding Numbered
returns-in-NoCode c =
    let shape = rw c.in-NoCode.is at c.shape_of.ensures in
    let small = shape_small c.args.code in
    shaped_bad _ _ _ _ _ _ (omega (arith, shape, small))
