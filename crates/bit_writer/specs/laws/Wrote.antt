-- Bits that were written behind others. Assumes nothing.
use Rattle.std.specs.Prelude.{◌≡◌}
use Rattle.std.specs.Prelude.{ℕ}
use mathlib.Core.List.{List}
use Rattle.std.proofs.Math.ListN.{length}
use Rattle.readback.specs.laws.Bits.{AreBits}
use Rattle.bit_writer.specs.Put.{put_bits}

-- An output that was o₀ and has the bits b from bit 0 on: what a writer's loop keeps, and each part takes on.
pub record Wrote (o₀ o b : List ℕ) (at : ℕ) : Type 0 where
  pub is : o ≡ put_bits o₀ 0 b
  pub at_is : at ≡ length b
  pub are : AreBits b
