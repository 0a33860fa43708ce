-- `unflatten::make_cont` meets its contract. Assumes nothing.
use native.Mathlib.Omega.{arith}
use Rattle.unflatten.specs.laws.HeadLaws.{head_last_4, cont_short, cont_far, cont_head, levelled}
use Rattle.unflatten.proofs.make_cont.Goals as goal

pub returns-then-levels-eq0 : goal.returns-then-levels-eq0
returns-then-levels-eq0 c = let h = c.requires in head_last_4 _ _ _ _ _ h.1 h.2 h.3 c.if-levels-eq0.true

pub returns-then-to-p-lt4 : goal.returns-then-to-p-lt4
returns-then-to-p-lt4 c = let h = c.requires in cont_short _ _ _ _ _ h.1 h.2 h.3 c.if-to-p-lt4.true

pub returns-then-to-p : goal.returns-then-to-p
returns-then-to-p c =
    let h = c.requires in
    levelled _ _ _ _ _ _ c.if-levels-eq0.false (cont_far _ _ _ _ _ _ h.2 (omega arith) h.3 c.offset_at-n.ensures c.if-to-p.true)

pub returns : goal.returns
returns c =
    let h = c.requires in
    levelled _ _ _ _ _ _ c.if-levels-eq0.false (cont_head _ _ _ _ _ _ h.2 (omega arith) h.3 c.offset_at-n.ensures c.if-to-p.false)
