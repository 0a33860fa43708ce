-- What the functions answer.
use Rattle.std.specs.Prelude.{cond, List, ℕ, ℤ, Option, Some, None, Result, Ok, Err}
use Rattle.integers.specs.Integers.{within, int_bits, total_of, all_integers}
use Rattle.integers.specs.declared.NotIntegers.{NotIntegers}

-- the bits of a number that is in range
unfoldable pub ranged_of : ℤ → Option ℕ
ranged_of z = cond (within z) (Some (int_bits z)) None

abbrev pub not_integers : NotIntegers
not_integers = record {}

-- the exact total, where all are integers
unfoldable pub sum_of : List ℕ → Result (Option ℕ) NotIntegers
sum_of cs = cond (all_integers cs) (Ok (ranged_of (total_of cs))) (Err not_integers)
