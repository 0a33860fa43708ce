-- `trim::trim_templates` meets its contract. The loop's invariant: the templates from `own` on, at `here`, are left. Assumes nothing.
use Prim.Native.Nat.{ℕ, ◌*◌, ◌≤◌}
use mathlib.Core.Bool.{Bool}
use Rattle.files.specs.laws.AllGot.{Each}
use Rattle.trim.specs.Standing.{FileIn, Numbers, Leads}
use Rattle.trim.proofs.theorems.WholeLaws.{Passing, Trimming}
use Rattle.trim.proofs.trim_templates.Given as goal

abbrev pub invariant-loop-own : goal.invariant-loop-own
invariant-loop-own l = (l.at.0 ≤ l.here.0) × (l.to ≤ 3072 * l.own) × ((w : FileIn l.s l.table l.count) → Passing l.s l.table l.count l.own l.here.0) × ((w : FileIn l.s l.table l.count) (keep : ℕ → Bool) → Numbers keep l.count l.numbers → Each (Leads keep) 0 w.templates → Trimming keep l.s l.table l.count w.templates l.initial.file l.initial.at.0 l.initial.lines l.own l.here.0 l.file l.at.0 l.lines l.to)
