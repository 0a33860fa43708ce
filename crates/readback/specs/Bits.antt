-- Bits that stand in a file.
use Rattle.std.specs.Prelude.{ℕ, ◌+◌, ◌*◌, ◌≤◌, ◌<◌, ◌≡◌, List, length, get_or}
use Rattle.fields.specs.Field.{bit_at}

-- the bits b stand at bit place p of the bytes s
pub record Stands (s : List ℕ) (p : ℕ) (b : List ℕ) : Type 0 where
  pub each : (i : ℕ) → i < length b → bit_at s (p + i) ≡ get_or b i 0
  pub fits : p + length b ≤ 8 * length s
