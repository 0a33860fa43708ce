-- `integers::sum_up` meets its contract. The invariant: the sum from here, of what is left, is that of all. Assumes nothing.
use Rattle.std.specs.Prelude.{◌≡◌, take}
use lib.Seq.{slice}
use Rattle.integers.specs.Answers.{sum_of}
use Rattle.integers.proofs.Adding.{Near, sum_from}
use Rattle.integers.proofs.sum_up.Given as goal

abbrev pub invariant-loop-i : goal.invariant-loop-i
invariant-loop-i l = Near l.total l.i × (sum_from l.total (slice l.i l.n l.s) ≡ sum_of (take l.n l.s))
