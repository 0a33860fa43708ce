-- The bits of a file from a place on.
use Rattle.std.specs.Prelude.{ℕ, zero, suc, ◌+◌, List, [], ◌∷◌}
use Rattle.fields.specs.Field.{bit_at}

-- the n bits at p
unfoldable pub bits_from : List ℕ → ℕ → ℕ → List ℕ
bits_from s p zero = []
bits_from s p (suc n) = bit_at s p ∷ bits_from s (p + 1) n
