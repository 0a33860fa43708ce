-- `flatten::write_templates` meets its contract: the loop's invariant: the templates from `own` on go into what is left of the output. Assumes nothing.
use mathlib.Core.Path.{◌≡◌}
use lib.ListN.{length}
use Rattle.flatten.specs.laws.FileSteps.{Left}
use Rattle.flatten.proofs.write_templates.Given as goal

abbrev pub invariant-loop-own : goal.invariant-loop-own
invariant-loop-own l = (length l.out ≡ length l.initial.out) × Left l.s l.table l.marks l.count (length l.initial.out) l.own l.here.0 l.front l.initial.out l.out
