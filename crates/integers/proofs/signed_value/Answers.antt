-- `integers::signed_value` meets its contract. Assumes nothing.
use Rattle.integers.proofs.Exact.{low_value, high_fits, high_value}
use Rattle.integers.proofs.signed_value.Goals as goal

pub overflow_sub-result : goal.overflow_sub-result
overflow_sub-result c = high_fits _ c.if-a-lt-HALF.false c.requires

pub returns-then-a-lt-HALF : goal.returns-then-a-lt-HALF
returns-then-a-lt-HALF c =
    let all = low_value _ c.if-a-lt-HALF.true in
    record { value = all.0; near = all.1 }

pub returns-else-a-lt-HALF : goal.returns-else-a-lt-HALF
returns-else-a-lt-HALF c =
    let all = high_value _ c.if-a-lt-HALF.false c.requires in
    record { value = all.0; near = all.1 }
