-- `tree::read_templates` meets its contract. Assumes nothing.
use Rattle.tree.specs.Summary.{templates_told, told_from}
use Prim.Native.Nat.{◌+◌, ◌*◌, ◌-◌, ◌≤◌}
use mathlib.Core.Path.{◌≡◌}
use Rattle.files.specs.Tree.{templates_at}
use Rattle.files.specs.RowFilled.{Unfilled}
use Rattle.tree.specs.Summary.{templates_told, told_from}
use Rattle.tree.specs.Filled.{templates_filled}
use lib.ListN.{length}
use Rattle.tree.specs.laws.MarkedSteps.{Marking}
use Rattle.tree.proofs.read_templates.Given as goal

abbrev pub invariant-loop-own : goal.invariant-loop-own
invariant-loop-own l = (l.own ≤ l.count) × Unfilled l.count l.own l.table × (l.sum.size ≤ 1 + 2097152 * l.own)
    × (templates_told (templates_at l.s l.count 0 l.count l.initial.here.0) ≡ told_from l.own l.sum (templates_at l.s l.count l.own (l.count - l.own) l.here.0))
    × (templates_filled l.s l.count 0 l.count l.initial.here.0 l.initial.table ≡ templates_filled l.s l.count l.own (l.count - l.own) l.here.0 l.table)
    × Marking l.keep l.s l.count l.initial.marks l.initial.here.0 l.marks l.own l.here.0 × (length l.marks ≡ length l.initial.marks) × (length l.table ≡ length l.initial.table)
