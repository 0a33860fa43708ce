-- `fields::read_word` meets its contract: the field lies within the file or runs past its end. Assumes nothing.
use native.Mathlib.Omega.{arith}
use Rattle.fields.specs.laws.Laws.{lies, cut_by, whole_by}
use borrow.Author.Rules.{rules}
use Rattle.fields.proofs.read_word.Goals as goal

pub word_at-requires : goal.word_at-requires
word_at-requires c =
    let h = lies c.args.s.now c.args.at.0 32 c.within.ensures c.if-within.true in
    (search rules, omega (arith, h))

pub returns-then-within : goal.returns-then-within
returns-then-within c = whole_by _ _ _ c.within.ensures c.if-within.true c.word_at.ensures c.past.ensures

pub returns : goal.returns
returns c = cut_by _ _ _ c.within.ensures c.if-within.false
