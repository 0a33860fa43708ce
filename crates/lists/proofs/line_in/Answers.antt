-- `lists::line_in` meets its contract. Assumes nothing.
use mathlib.Core.Path.{refl}
use native.Mathlib.Omega.{arith}
use Rattle.lists.specs.laws.RunLaws.{shifted_out}
use Rattle.lists.proofs.line_in.Goals as goal

pub returns : goal.returns
returns c = rw (shifted_out _ _ c.requires) (refl, omega arith)
