-- `bit_writer::put_wide` meets its contract: two fields and a word one after the other. Assumes nothing.
use native.Mathlib.Omega.{arith}
use Rattle.bit_writer.proofs.theorems.Laws.{put_three}
use Rattle.bit_writer.proofs.put_wide.Goals as goal

pub returns : goal.returns
returns c =
    let e₁ = c.put_field-second.ensures in
    let e₂ = c.put_field-third.ensures in
    let e₃ = c.put_word.ensures in (
      omega (arith, e₁.0, e₂.0, e₃.0),
      put_three c.args.out.now _ _ _ c.args.at.0 _ _ c.args.value c.requires.1 c.requires.2 e₁.1 e₁.0 e₂.1 e₂.0 e₃.1,
    )
