-- `flatten::write_bits` meets its contract: the loop's invariant: what is left of the bits goes into what is left of the part. Assumes nothing.
use Prim.Native.Nat.{◌+◌, ◌-◌, ◌/◌}
use mathlib.Core.Path.{◌≡◌}
use lib.ListN.{length}
use lib.Seq.{sets}
use Rattle.files.specs.Linear.{bytes_of}
use Rattle.readback.specs.Lists.{bits_from}
use Rattle.flatten.proofs.write_bits.Given as goal

abbrev pub invariant-loop-byte : goal.invariant-loop-byte
invariant-loop-byte l = (l.byte-index + (l.end.0 - l.here.0 + 7) / 8 ≡ length l.initial.byte-items) × (length l.byte-items ≡ length l.initial.byte-items)
    × (sets l.initial.byte-items 0 (bytes_of (bits_from l.s l.initial.here.0 (l.end.0 - l.initial.here.0))) ≡ sets l.byte-items l.byte-index (bytes_of (bits_from l.s l.here.0 (l.end.0 - l.here.0))))
