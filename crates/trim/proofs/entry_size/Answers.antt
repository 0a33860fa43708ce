-- `trim::entry_size` meets its contract. Assumes nothing.
use Rattle.trim.proofs.theorems.EntryLaws.{size_other, size_narrow, size_wide, size_plain}
use Rattle.trim.proofs.entry_size.Goals as goal

pub returns-then-bits_at-ne1 : goal.returns-then-bits_at-ne1
returns-then-bits_at-ne1 c = λ size w. size_other w _ c.bits_at.ensures.0 c.if-bits_at-ne1.true

pub returns-then-tag-eq4 : goal.returns-then-tag-eq4
returns-then-tag-eq4 c = λ size w. size_narrow w _ c.bits_at.ensures.0 c.if-bits_at-ne1.false _ _ c.past.ensures c.bits_at-tag.ensures.0 c.if-tag-eq4.true

pub returns-then-tag-eq5 : goal.returns-then-tag-eq5
returns-then-tag-eq5 c = λ size w. size_wide w _ c.bits_at.ensures.0 c.if-bits_at-ne1.false _ _ c.past.ensures c.bits_at-tag.ensures.0 c.if-tag-eq5.true

pub returns : goal.returns
returns c =
    λ size w. size_plain w _ c.bits_at.ensures.0 c.if-bits_at-ne1.false _ _ c.past.ensures c.bits_at-tag.ensures.0 c.if-tag-eq4.false
    c.if-tag-eq5.false
