-- `tree_file::put_numbered` meets its contract: two fields one after the other. Assumes nothing.
use native.Mathlib.Omega.{arith}
use Rattle.tree_file.proofs.theorems.Written.{put_numbered}
use Rattle.tree_file.proofs.put_numbered.Goals as goal

pub returns : goal.returns
returns c =
    let e₁ = c.put_field-next.ensures in
    let e₂ = c.put_field.ensures in
    (omega (arith, e₁.0, e₂.0), put_numbered c.args.out.now _ c.args.at.0 _ _ c.args.kind c.args.number c.requires.2 e₁.1 e₁.0 e₂.1)
