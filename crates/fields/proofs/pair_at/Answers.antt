-- `fields::pair_at` meets its contract. Assumes nothing.
use Prim.Native.Nat.{◌+◌}
use mathlib.Core.Path.{refl}
use native.Mathlib.Omega.{arith}
use Rattle.fields.proofs.pair_at.Goals as goal

pub returns : goal.returns
returns c = (refl, omega (arith, c.shared_slice_known-2-1.given (c.args.i + 1)), omega (arith, c.shared_slice_known-2-1.given c.args.i, c.shared_slice_known-2-1.given (c.args.i + 1)))
