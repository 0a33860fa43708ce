-- `bit_writer::put_word` meets its contract: four fields one after the other. Assumes nothing.
use native.Mathlib.Omega.{arith}
use Rattle.bit_writer.proofs.theorems.Laws.{put_four}
use borrow.Author.Rules.{rules}
use Rattle.bit_writer.proofs.put_word.Goals as goal

pub returns : goal.returns
returns c =
    let e₁ = c.put_field-second.ensures in
    let e₂ = c.put_field-third.ensures in
    let e₃ = c.put_field-fourth.ensures in
    let e₄ = c.put_field.ensures in (
      omega (arith, e₁.0, e₂.0, e₃.0, e₄.0),
      put_four c.args.out.now _ _ _ _ c.args.at.0 _ _ _ c.args.value (search rules) c.requires.1 e₁.1 e₁.0 e₂.1 e₂.0 e₃.1 e₃.0 e₄.1,
    )
