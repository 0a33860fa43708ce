-- `linear::read_templates` meets its contract. The templates that are left, from here, are read and fill the table as the whole does from the start. Assumes nothing.
use Prim.Native.Nat.{◌-◌}
use mathlib.Core.Path.{◌≡◌}
use lib.ListN.{length}
use Rattle.files.specs.Linear.{linear_templates_at}
use Rattle.files.specs.EntriesRead.{past_told}
use Rattle.linear.specs.Filled.{templates_filled}
use Rattle.linear.proofs.read_templates.Given as goal

abbrev pub invariant-loop-own : goal.invariant-loop-own
invariant-loop-own l = (length l.table ≡ length l.initial.table)
    × (past_told (linear_templates_at l.s l.count 0 l.count l.initial.here.0) ≡ past_told (linear_templates_at l.s l.count l.own (l.count - l.own) l.here.0))
    × (templates_filled l.s l.count 0 l.count l.initial.here.0 l.initial.table ≡ templates_filled l.s l.count l.own (l.count - l.own) l.here.0 l.table)
