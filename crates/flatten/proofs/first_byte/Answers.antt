-- `flatten::first_byte` meets its contract: whole, or shifted up. Assumes nothing.
use mathlib.Core.Path.{◌∙◌}
use Rattle.flatten.specs.laws.Copied.{shifted, byte_whole}
use Rattle.flatten.proofs.first_byte.Goals as goal

pub overflow_cast-result-then-n-lt8 : goal.overflow_cast-result-then-n-lt8
overflow_cast-result-then-n-lt8 c = record { fits = (shifted _ _ _ _ c.if-n-lt8.true c.bits_at.ensures.0).0 }

pub returns-then-n-lt8 : goal.returns-then-n-lt8
returns-then-n-lt8 c = rw (← c.since-n.ensures) (shifted _ _ _ _ c.if-n-lt8.true c.bits_at.ensures.0).1

pub returns : goal.returns
returns c = rw (← c.since-n.ensures) (c.bits_at-2.ensures.0 ∙ byte_whole _ _ _ c.if-n-lt8.false)
