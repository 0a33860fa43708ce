-- `files::zero_bits` meets its contract. The bits that are left, from here, are read as the whole is from the start. Assumes nothing.
use Prim.Native.Nat.{◌+◌, ◌*◌, ◌-◌, ◌≤◌}
use mathlib.Core.Path.{◌≡◌}
use lib.ListN.{length}
use Rattle.files.specs.Entries.{zero_bits}
use Rattle.files.specs.EntriesRead.{past_told}
use Rattle.files.proofs.zero_bits.Given as goal

abbrev pub invariant-loop : goal.invariant-loop
invariant-loop l = (l.here.0 ≡ l.initial.here.0 + l.counter) × (l.initial.here.0 + l.n ≤ 8 * length l.s)
    × (past_told (zero_bits l.s l.n l.initial.here.0 (tt {0})) ≡ past_told (zero_bits l.s (l.initial.here.0 + l.n - l.here.0) l.here.0 (tt {0})))
