-- `runs::copy_up` meets its contract. The invariant: what is left to copy, stored into the list as it is now, gives the list that is wanted. Assumes nothing.
use Rattle.std.specs.Prelude.{◌≡◌, ◌+◌, ◌-◌}
use Rattle.std.proofs.lemmas.List.Edits.{sets}
use Rattle.runs.specs.Runs.{part}
use Rattle.runs.proofs.copy_up.Given as goal

abbrev pub invariant-loop-i : goal.invariant-loop-i
invariant-loop-i l = sets l.dst (l.at + l.i) (part l.src (l.from + l.i) (l.n - l.i)) ≡ sets l.initial.dst l.at (part l.src l.from l.n)
