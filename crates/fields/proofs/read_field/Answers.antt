-- `fields::read_field` meets its contract. Assumes nothing.
use borrow.Author.Rules.{rules}
use Rattle.fields.specs.laws.Laws.{lies, cut_by, whole_by}
use Rattle.fields.proofs.read_field.Goals as goal

pub bits_at-requires : goal.bits_at-requires
bits_at-requires c =
    let h = lies c.args.s.now c.args.at.0 c.args.width c.within.ensures c.if-within.true in
    (search rules, (search rules, h))

pub returns-then-within : goal.returns-then-within
returns-then-within c = whole_by _ _ _ c.within.ensures c.if-within.true c.bits_at.ensures.0 c.past.ensures

pub returns : goal.returns
returns c = cut_by _ _ _ c.within.ensures c.if-within.false
