-- `tree_file::write_file` meets its contract: T, and then the bits of the templates. Assumes nothing.
use Prim.Native.Nat.{◌+◌, ◌/◌}
use native.Mathlib.Omega.{arith}
use mathlib.Core.Path.{◌≡◌, ◌∙◌}
use Rattle.tree_file.proofs.theorems.Written.{file_written}
use Rattle.tree_file.proofs.write_file.Goals as goal

pub returns : goal.returns
returns c =
    λ ts st e f.
    let e₁ = c.put_field-at.ensures in
    let e₂ = c.copy_bits-end.ensures in
    let bytes : c.byte.result ≡ (c.copy_bits-end.result.0 + 7) / 8 = omega (arith, c.byte.ensures, c.past.ensures, c.to_byte.ensures) in
    let z = file_written c.args.s.now c.args.out.now _ _ c.args.from.0 c.args.n c.args.count _ _ ts st e f c.requires.3 e₁.1 e₁.0 e₂.1 e₂.0 in
    (bytes ∙ z.0, z.1)
