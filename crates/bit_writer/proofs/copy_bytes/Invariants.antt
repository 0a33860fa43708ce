-- `bit_writer::copy_bytes` meets its contract. The loop's invariant: putting what is left of the bits into what is there now is putting all of them.
-- Assumes nothing.
use Prim.Native.Nat.{◌+◌, ◌*◌, ◌-◌}
use mathlib.Core.Path.{◌≡◌}
use lib.ListN.{length}
use Rattle.readback.specs.Lists.{bits_from}
use Rattle.bit_writer.specs.Put.{put_bits}
use Rattle.bit_writer.proofs.copy_bytes.Given as goal

abbrev pub invariant-loop-i : goal.invariant-loop-i
invariant-loop-i l = (length l.out ≡ length l.initial.out)
    × (put_bits l.initial.out (8 * l.f) (bits_from l.s l.from.0 (8 * l.count)) ≡ put_bits l.out (8 * (l.f + l.i)) (bits_from l.s (l.from.0 + 8 * l.i) (8 * (l.count - l.i))))
