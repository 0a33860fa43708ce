-- `tree_code::operand_count` meets its contract. Assumes nothing.
use Rattle.tree_code.specs.laws.LineLaws.{packed, counts_packed}
use mathlib.Core.Path.{refl}
use native.Mathlib.Omega.{arith}
use Rattle.tree_code.proofs.operand_count.Goals as goal

pub returns : goal.returns
unfolding packed
returns c = (counts_packed _ refl _ c.requires, omega arith)
