-- `rules::top_of` meets its contract. Assumes nothing.
use mathlib.Core.Path.{◌≡◌}
use Prim.Native.Nat.{◌-◌}
use native.Mathlib.Omega.{arith}
use Rattle.rules.proofs.top_of.Goals as goal

pub returns-then-sp-lt1 : goal.returns-then-sp-lt1
returns-then-sp-lt1 c = λ g t. let e : c.args.r.sp - 1 ≡ 0 = omega arith in rw e
