-- `tree_machine::run_sized` meets its contract. Assumes nothing.
use Rattle.std.proofs.Common.{ℕ, refl}
use Rattle.std.proofs.lemmas.List.{length-replicate}
use Rattle.tree_machine.proofs.run_sized.Goals as goal

pub run_marked-requires : goal.run_marked-requires
run_marked-requires g c =
    let p = c.requires in
    (record { size = g.row.CELLS; room = p.2; zero = refl }, rw (length-replicate {A = ℕ} g.row.LINKS 0) p.3)
