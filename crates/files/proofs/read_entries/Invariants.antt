-- `files::read_entries` meets its contract. What is left to read and to store, from here, equals the whole from the start. Assumes nothing.
use Prim.Native.Nat.{◌+◌, ◌-◌}
use mathlib.Core.Path.{◌≡◌}
use lib.ListN.{length}
use lib.Seq.{sets}
use Rattle.files.specs.Entries.{entries_at}
use Rattle.files.specs.EntriesRead.{past_told, slots_at}
use Rattle.files.proofs.read_entries.Given as goal

abbrev pub invariant-loop-slot : goal.invariant-loop-slot
invariant-loop-slot l = (length l.table ≡ length l.initial.table)
    × (past_told (entries_at l.s l.own l.count l.n l.initial.here.0) ≡ past_told (entries_at l.s l.own l.count (l.first + l.n - l.slot) l.here.0))
    × (sets l.initial.table l.first (slots_at l.s l.own l.count l.n l.initial.here.0) ≡ sets l.table l.slot (slots_at l.s l.own l.count (l.first + l.n - l.slot) l.here.0))
