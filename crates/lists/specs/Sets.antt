-- Sets of templates as numbers: template t is in the set where the digit t is 1, counted from 0 at the lowest.
use Rattle.std.specs.Prelude.{ℕ, zero, suc, ◌/◌, ◌%◌, Bool, eqb}
use Rattle.std.specs.Int.Bits.{bit_or}

unfoldable pub unite : ℕ → ℕ → ℕ
unite a b = bit_or a b

unfoldable pub has : ℕ → ℕ → Bool
has set zero = eqb (set % 2) 1
has set (suc t) = has (set / 2) t
