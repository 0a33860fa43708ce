-- `basic_machine::run_sized` meets its contract. Assumes nothing.
use Rattle.std.proofs.Common.{ℕ}
use Rattle.std.proofs.lemmas.List.{length-replicate}
use Rattle.basic_machine.proofs.run_sized.Goals as goal

pub run_checked-requires : goal.run_checked-requires
run_checked-requires g c =
    let p = c.requires in
    (p.0, rw (length-replicate {A = ℕ} g.row.LINKS 0) p.2)
