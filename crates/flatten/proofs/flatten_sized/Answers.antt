-- `flatten::flatten_sized` meets its contract. Assumes nothing.
use Rattle.std.proofs.Common.{ℕ, refl}
use Rattle.std.proofs.lemmas.List.{length-replicate}
use Rattle.flatten.proofs.flatten_sized.Goals as goal

pub flatten_marked-requires : goal.flatten_marked-requires
flatten_marked-requires g c =
    let p = c.requires in
    (record { size = g.row.CELLS; room = p.2; zero = refl }, rw (length-replicate {A = ℕ} g.row.MARKS 0) p.3)
