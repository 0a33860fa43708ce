-- `fields::half_word_at` meets its contract: the two bytes are the field's two parts. Assumes nothing.
use mathlib.Core.Path.{ap, ◌∙◌}
use Prim.Native.Nat.{ℕ}
use Rattle.fields.specs.Field.{field_at}
use Rattle.fields.specs.laws.Laws.{joined, field_small}
use Rattle.fields.proofs.half_word_at.Goals as goal

pub returns : goal.returns
returns c =
    let second = c.bits_at-2.ensures.0 ∙ ap (λ (p : ℕ). field_at c.args.s.now p 8) c.past.ensures in
    let e = joined c.args.s.now c.args.at.0 8 8 _ _ c.bits_at.ensures.0 second in
    (e, rw e (field_small c.args.s.now c.args.at.0 16))
