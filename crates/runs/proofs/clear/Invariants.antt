-- `runs::clear` meets its contract. The invariant: what is left to clear, cleared in the list as it is now, gives the list that is wanted. Assumes nothing.
use Rattle.std.specs.Prelude.{◌≡◌, ◌+◌, ◌-◌, replicate}
use Rattle.std.proofs.lemmas.List.Edits.{sets}
use Rattle.runs.specs.Runs.{zeroed}
use Rattle.runs.proofs.clear.Given as goal

abbrev pub invariant-loop-i : goal.invariant-loop-i
invariant-loop-i l = sets l.s l.i (replicate (l.at + l.n - l.i) 0) ≡ zeroed l.initial.s l.at l.n
