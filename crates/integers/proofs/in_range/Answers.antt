-- `integers::in_range` meets its contract. Assumes nothing.
use Rattle.integers.proofs.Exact.{below, above, negative, positive, positive_cast, bits_sfit, bits_cast, bits_answer}
use Rattle.integers.proofs.in_range.Goals as goal

-- what is out of range stands first: a wrong range is told here (must-fail/range_of_32_bits)
pub returns-then-z : goal.returns-then-z
returns-then-z c = below c.ranges.z c.if-z.true

pub overflow_add-result : goal.overflow_add-result
overflow_add-result c = bits_sfit (negative c.ranges.z c.if-z-lt0.true c.if-z.false)

pub overflow_cast-result-else-z : goal.overflow_cast-result-else-z
overflow_cast-result-else-z c = bits_cast (negative c.ranges.z c.if-z-lt0.true c.if-z.false)

pub overflow_cast-result-then-z-2 : goal.overflow_cast-result-then-z-2
overflow_cast-result-then-z-2 c = positive_cast c.ranges.z c.if-z-lt0.false

pub returns-else-z : goal.returns-else-z
returns-else-z c = bits_answer (negative c.ranges.z c.if-z-lt0.true c.if-z.false)

pub returns-then-z-2 : goal.returns-then-z-2
returns-then-z-2 c = bits_answer (positive c.ranges.z c.if-z-lt0.false c.if-z-2.true)

pub returns-else-z-2 : goal.returns-else-z-2
returns-else-z-2 c = above c.ranges.z c.if-z-2.false
