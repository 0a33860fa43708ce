-- `trim::mark_code` meets its contract. Assumes nothing.
use native.Mathlib.Omega.{arith}
use Rattle.trim.proofs.theorems.MarkLaws.{mark_low, mark_high, mark_read}
use Rattle.trim.proofs.mark_code.Goals as goal

pub returns-then-code-lt6 : goal.returns-then-code-lt6
returns-then-code-lt6 c = mark_low _ _ _ c.if-code-lt6.true

pub returns-then-code-gt9 : goal.returns-then-code-gt9
returns-then-code-gt9 c = mark_high _ _ _ c.if-code-gt9.true

pub past-requires : goal.past-requires
past-requires c =
    let pre = c.requires in
    let h = pre.1 c.if-code-lt6.false c.if-code-gt9.false in
    omega (arith, pre.0)

pub bits_at-requires : goal.bits_at-requires
bits_at-requires c =
    let pre = c.requires in
    let h = pre.1 c.if-code-lt6.false c.if-code-gt9.false in
    (pre.0, (omega arith, omega (arith, c.past.ensures)))

pub returns : goal.returns
returns c = mark_read _ _ _ _ _ _ c.bits_at.ensures.0 c.past.ensures c.if-code-lt6.false c.if-code-gt9.false
