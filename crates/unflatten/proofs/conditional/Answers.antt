-- `unflatten::conditional` meets its contract. Assumes nothing.
use native.Mathlib.Omega.{arith}
use Rattle.unflatten.specs.laws.HeadLaws.{head_last_3, cond_short, cond_far, cond_loose, cond_closed, open_told, levelled}
use mathlib.Core.Path.{sym, ◌∙◌}
use Rattle.unflatten.proofs.conditional.Goals as goal

pub returns-then-levels-eq0 : goal.returns-then-levels-eq0
returns-then-levels-eq0 c = let h = c.requires in head_last_3 _ _ _ _ _ h.1 h.2 h.3 c.if-levels-eq0.true

pub returns-then-to-p-lt3 : goal.returns-then-to-p-lt3
returns-then-to-p-lt3 c = let h = c.requires in cond_short _ _ _ _ _ h.1 h.2 h.3 c.if-to-p-lt3.true

pub returns-then-to-p : goal.returns-then-to-p
returns-then-to-p c =
    let h = c.requires in
    levelled _ _ _ _ _ _ c.if-levels-eq0.false (cond_far _ _ _ _ _ _ h.2 (omega arith) h.3 c.offset_at-n.ensures (omega (arith, c.if-to-p.true)))

pub returns-then-ends_in_jump : goal.returns-then-ends_in_jump
returns-then-ends_in_jump c =
    let h = c.requires in
    levelled _ _ _ _ _ _ c.if-levels-eq0.false (open_told _ _ _ _ _ _ h.2 (omega arith) h.3 c.offset_at-n.ensures c.if-to-p.false
    (sym c.ends_in_jump.ensures ∙ c.if-ends_in_jump.true) c.open_arms.ensures)

pub returns-then-closed : goal.returns-then-closed
returns-then-closed c =
    let h = c.requires in
    levelled _ _ _ _ _ _ c.if-levels-eq0.false (cond_closed _ _ _ _ _ _ h.2 (omega arith) h.3 c.offset_at-n.ensures c.if-to-p.false c.if-closed.true
    (sym c.ends_in_jump.ensures ∙ c.if-ends_in_jump.false))

pub returns : goal.returns
returns c =
    let h = c.requires in
    levelled _ _ _ _ _ _ c.if-levels-eq0.false (cond_loose _ _ _ _ _ _ h.2 (omega arith) h.3 c.offset_at-n.ensures c.if-to-p.false c.if-closed.false
    (sym c.ends_in_jump.ensures ∙ c.if-ends_in_jump.false))
