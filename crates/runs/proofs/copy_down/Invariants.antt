-- `runs::copy_down` meets its contract. The invariant: what is left to copy, stored into the list as it is now, gives the list that is wanted. Assumes nothing.
use Rattle.std.specs.Prelude.{◌≡◌, ◌+◌, ◌-◌, take, reverse}
use Rattle.std.proofs.lemmas.List.Edits.{sets}
use Rattle.runs.proofs.copy_down.Given as goal

abbrev pub invariant-loop-i : goal.invariant-loop-i
invariant-loop-i l = sets l.dst (l.at + l.i) (reverse (take (l.n - l.i) l.src)) ≡ sets l.initial.dst l.at (reverse (take l.n l.src))
