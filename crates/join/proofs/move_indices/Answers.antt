-- `join::move_indices` meets its contract. The loop's invariant: the indices below i are moved. Assumes nothing.
use native.Mathlib.Omega.{arith}
use mathlib.Core.Path.{refl}
use lib.ListN.{length-set}
use Rattle.join.specs.laws.PutLaws.{one_more}
use Rattle.join.proofs.move_indices.Goals as goal

pub loop-i-init : goal.loop-i-init
loop-i-init c = (c.told-indices, λ j h. absurd (omega arith))

pub loop-i-preserved : goal.loop-i-preserved
loop-i-preserved c =
    let v = c.loop-i.invariant in (
      simp length-set v.0,
      one_more c.loop-i.indices c.args.n c.loop-i.i _ (omega (arith, v.0, c.loop-i-test.true)) refl v.1,
    )

pub returns : goal.returns
returns c = λ j h. c.loop-i.invariant.1 j (omega (arith, c.loop-i-test.false))
