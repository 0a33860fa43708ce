-- `fields::bits_at` meets its contract: the two bytes, shifted and cut, are the field. Assumes nothing.
use Prim.Native.Nat.{ℕ, ◌+◌}
use mathlib.Core.Path.{ap}
use native.Mathlib.Omega.{arith}
use lib.ListN.{get_or}
use lib.Pow.{pow_pos}
use Rattle.fields.specs.laws.Laws.{shl_one, shifted}
use Rattle.fields.proofs.bits_at.Goals as goal

pub nonzero_rem-result : goal.nonzero_rem-result
nonzero_rem-result c = rw (shl_one 32 c.args.width (omega arith)) (pow_pos c.args.width)

pub returns : goal.returns
returns c =
    let pre = c.requires in
    let e = c.two_at-two.ensures in
    let y = c.byte.ensures in
    rw (e.0, c.bit.ensures) (shifted c.args.s.now c.args.at.0 c.args.width _ _ (ap (λ (i : ℕ). get_or c.args.s.now i 0) y) (ap (λ (i : ℕ). get_or c.args.s.now (i + 1) 0) y) e.1 pre.1.0)
