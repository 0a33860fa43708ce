-- `text::put_integer` meets its contract: by the highest bit; `full` less the bits is the magnitude of a negative integer. Assumes nothing.
use borrow.Author.Tests.{lt-ltb, le-ltb}
use Prim.Native.Nat.{◌-◌}
use native.Mathlib.Omega.{arith}
use mathlib.Core.Path.{◌≡◌}
use Rattle.text.specs.Text.{integer}
use Rattle.text.specs.laws.Laws.{put_then}
use Rattle.text.proofs.put_integer.Goals as goal

pub returns-then-x-full : goal.returns-then-x-full
unfolding integer
returns-then-x-full c = record { put = simp (lt-ltb _ _ c.if-x-full.true) c.put_decimal.ensures.put; upper_bound = omega arith }

pub returns-then-x-full-2 : goal.returns-then-x-full-2
unfolding integer
returns-then-x-full-2 c = record { put = simp (le-ltb _ _ c.if-x-full.false) (put_then c.put_byte-next.ensures c.put_decimal-then-x-full-2.ensures.put); upper_bound = omega arith }

pub returns : goal.returns
unfolding integer
returns c =
    let none : c.args.full - c.args.x ≡ 0 = omega (arith, c.if-x-full-2.false) in
    record { put = simp (le-ltb _ _ c.if-x-full.false, none) (put_then c.put_byte-next.ensures c.put_decimal-2.ensures.put); upper_bound = omega arith }
