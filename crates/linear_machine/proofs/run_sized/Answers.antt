-- `linear_machine::run_sized` meets its contract. Assumes nothing.
use mathlib.Core.Path.{refl}
use Rattle.linear_machine.proofs.run_sized.Goals as goal

pub run_file-requires : goal.run_file-requires
run_file-requires g c =
    let p = c.requires in
    record { size = g.row.CELLS; room = p.1; zero = refl }
