-- What a field of a bit-packed file is.
use Rattle.std.specs.Prelude.{ℕ, zero, suc, ◌+◌, ◌*◌, ◌-◌, ◌/◌, ◌%◌, ◌^◌, List, Bool, true, false, length, get_or, leb}
use Rattle.std.specs.Prelude.{Option, Some, None}
use Rattle.cells.specs.declared.BitPlace.{BitPlace}

-- the bit at p, the most significant of its byte first
unfoldable pub bit_at : List ℕ → ℕ → ℕ
bit_at s p = get_or s (p / 8) 0 / 2 ^ (7 - p % 8) % 2

-- the number that the w bits at p are
unfoldable pub field_at : List ℕ → ℕ → ℕ → ℕ
field_at s p zero = 0
field_at s p (suc w) = 2 * field_at s p w + bit_at s (p + w)

unfoldable pub pick_field : Bool → Option (ℕ × BitPlace) → Option (ℕ × BitPlace)
pick_field true f = f
pick_field false f = None

-- the value and the next place, or None where the field runs past the end
unfoldable pub field_read : List ℕ → ℕ → ℕ → Option (ℕ × BitPlace)
field_read s p w = pick_field (leb (p + w) (8 * length s)) (Some (field_at s p w, record { 0 = p + w }))
