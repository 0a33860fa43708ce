-- `unflatten::put_templates` meets its contract: who puts the templates that are left has put all. Assumes nothing.
use Rattle.unflatten.specs.ToGrow.{Growing}
use Rattle.unflatten.proofs.put_templates.Given as goal

abbrev pub invariant-loop-own : goal.invariant-loop-own
invariant-loop-own l = Growing l.s l.initial.table l.initial.out 0 l.count l.initial.byte l.initial.here.0 l.table l.out l.own l.byte l.here.0
