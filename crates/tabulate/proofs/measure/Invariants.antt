-- `tabulate::measure` meets its contract: template after template. Assumes nothing.
use Rattle.tabulate.specs.laws.JudgeLaws.{Measuring}
use Rattle.tabulate.specs.Judge.{FewIn}
use Prim.Native.Nat.{◌*◌, ◌-◌, ◌≤◌, ◌<◌}
use Rattle.tabulate.proofs.measure.Given as goal

abbrev pub invariant-loop-past : goal.invariant-loop-past
invariant-loop-past l = ((w : FewIn l.s l.end.0) → Measuring l.s l.end.0 l.own l.here.0 l.bits w.whole.list) × (l.bits ≤ 2097152 * l.own) × (l.own < 64)

abbrev pub decreases-loop-past : goal.decreases-loop-past
decreases-loop-past l = 64 - l.own
