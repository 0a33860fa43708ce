-- `fields::two_at` meets its contract. Assumes nothing.
use native.Mathlib.Omega.{arith}
use lib.ListN.{get_or-eq_default}
use Rattle.fields.proofs.two_at.Goals as goal

pub returns-then-i-s : goal.returns-then-i-s
returns-then-i-s c = c.pair_at.ensures

pub returns-else-i-s : goal.returns-else-i-s
returns-else-i-s c =
    let e = get_or-eq_default c.args.s.now 0 c.if-i-s.false in
    (omega (arith, e, c.byte_at.ensures.0), omega (arith, e), omega (arith, c.byte_at.ensures.1))
