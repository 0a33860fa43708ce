-- `text::put_decimal` meets its contract: the kit's digits are the number's decimal, at most 20 of them. Assumes nothing.
use native.Mathlib.Omega.{arith}
use mathlib.Core.Path.{◌∙◌}
use Rattle.text.proofs.Decimal.{decimal_short, decimal_spelled}
use Rattle.text.proofs.put_decimal.Goals as goal

pub put_bytes-requires : goal.put_bytes-requires
put_bytes-requires c =
    let s = decimal_short c.decimal-count.result c.args.n c.ranges.n.fits c.decimal-count.ensures.len in
    omega arith

pub returns : goal.returns
returns c =
    let s = decimal_short c.decimal-count.result c.args.n c.ranges.n.fits c.decimal-count.ensures.len in
    record { put = rw (c.decimal-count.ensures.digits ∙ decimal_spelled _ _ c.decimal-count.ensures.len) at c.put_bytes.ensures; upper_bound = omega arith }
