-- `fields::wide_at` meets its contract: a half word and a word are the field's two parts. Assumes nothing.
use mathlib.Core.Path.{ap, ◌∙◌}
use Prim.Native.Nat.{ℕ}
use Rattle.fields.specs.Field.{field_at}
use Rattle.fields.specs.laws.Laws.{joined}
use Rattle.fields.proofs.wide_at.Goals as goal

pub returns : goal.returns
returns c =
    let second = c.word_at.ensures ∙ ap (λ (p : ℕ). field_at c.args.s.now p 32) c.past.ensures in
    joined c.args.s.now c.args.at.0 16 32 _ _ c.half_word_at.ensures.0 second
