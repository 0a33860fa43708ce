-- `pull::set_globals` meets its contract: all undefined, then the first n words stored. Assumes nothing.
use Rattle.std.proofs.Common.{◌≡◌, length}
use Rattle.linear_machine.specs.Again.{AllFit}
use Rattle.pull.proofs.Clips.{Stored}
use Rattle.pull.proofs.set_globals.Given as goal

abbrev pub invariant-loop-n : goal.invariant-loop-n
invariant-loop-n l = (length l.globals ≡ 256) × Stored l.clip l.n l.globals × AllFit l.globals
