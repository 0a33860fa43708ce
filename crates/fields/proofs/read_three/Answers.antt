-- `fields::read_three` meets its contract: the field is read in two parts, of 8 and 16 bits. Assumes nothing.
use Prim.Native.Nat.{ℕ}
use native.Mathlib.Omega.{arith}
use mathlib.Core.Path.{ap, ◌∙◌}
use borrow.Author.Rules.{rules}
use Rattle.fields.specs.Field.{field_at}
use Rattle.fields.specs.laws.Laws.{lies, cut_by, whole_by, joined}
use Rattle.fields.proofs.read_three.Goals as goal

pub bits_at-requires : goal.bits_at-requires
bits_at-requires c =
    let h = lies c.args.s.now c.args.at.0 24 c.within.ensures c.if-within.true in
    (search rules, (search rules, omega (arith, h)))

pub half_word_at-requires : goal.half_word_at-requires
half_word_at-requires c =
    let h = lies c.args.s.now c.args.at.0 24 c.within.ensures c.if-within.true in
    (search rules, omega (arith, h))

pub returns-then-within : goal.returns-then-within
returns-then-within c =
    let second = c.half_word_at.ensures.0 ∙ ap (λ (p : ℕ). field_at c.args.s.now p 16) c.past.ensures in
    let e = joined c.args.s.now c.args.at.0 8 16 _ _ c.bits_at.ensures.0 second in
    whole_by _ _ _ c.within.ensures c.if-within.true e c.past-then-within.ensures

pub returns : goal.returns
returns c = cut_by _ _ _ c.within.ensures c.if-within.false
