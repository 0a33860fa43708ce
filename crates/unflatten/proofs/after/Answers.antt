-- `unflatten::after` meets its contract: by the code's shape. Assumes nothing.
use Rattle.unflatten.specs.laws.HeadLaws.{shape_few, after_without, branch_code, save_code}
use Rattle.lists.specs.Shapes.{Numbered}
use Rattle.back.specs.Unflat.{after}
use native.Mathlib.Omega.{arith}
use mathlib.Core.Path.{refl}
use Rattle.unflatten.proofs.after.Goals as goal

pub returns-then-code-eq5 : goal.returns-then-code-eq5
unfolding after
returns-then-code-eq5 c = rw c.if-code-eq5.true refl

pub returns-in-End : goal.returns-in-End
unfolding Numbered
returns-in-End c =
    let shape = rw c.in-End.is at c.shape.ensures in
    omega (arith, shape, after_without c.args.code c.if-code-eq5.false (λ e. omega (arith, shape)) (λ e. omega (arith, shape)))

pub returns-in-Plain : goal.returns-in-Plain
unfolding Numbered
returns-in-Plain c =
    let shape = rw c.in-Plain.is at c.shape.ensures in
    omega (arith, shape, after_without c.args.code c.if-code-eq5.false (λ e. omega (arith, shape)) (λ e. omega (arith, shape)))

pub returns-in-Branch : goal.returns-in-Branch
unfolding Numbered after
returns-in-Branch c = rw (branch_code _ (rw c.in-Branch.is at c.shape.ensures)) refl

pub returns-in-Save : goal.returns-in-Save
unfolding Numbered after
returns-in-Save c = rw (save_code _ (rw c.in-Save.is at c.shape.ensures)) refl

pub returns-in-NoCode : goal.returns-in-NoCode
unfolding Numbered
returns-in-NoCode c =
    let shape = rw c.in-NoCode.is at c.shape.ensures in
    omega (
      arith,
      shape,
      shape_few c.args.code,
      after_without c.args.code c.if-code-eq5.false (λ e. omega (arith, shape)) (λ e. omega (arith, shape)),
    )
