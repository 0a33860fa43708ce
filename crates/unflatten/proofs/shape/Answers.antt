-- `unflatten::shape` meets its contract. Assumes nothing.
use native.Mathlib.Omega.{arith}
use Rattle.lists.specs.Shapes.{Numbered}
use Rattle.unflatten.specs.laws.HeadLaws.{shape_out}
use Rattle.unflatten.proofs.shape.Goals as goal

pub returns-then-code-gt31 : goal.returns-then-code-gt31
unfolding Numbered
returns-then-code-gt31 c = omega (arith, shape_out _ c.if-code-gt31.true)
