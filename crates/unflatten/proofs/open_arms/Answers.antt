-- `unflatten::open_arms` meets its contract: the tests are those of `open_head`. Assumes nothing.
use Rattle.unflatten.specs.laws.HeadLaws.{open_0, open_1, open_2, open_3}
use Rattle.unflatten.proofs.open_arms.Goals as goal

pub returns-then-turn-p-lt7 : goal.returns-then-turn-p-lt7
returns-then-turn-p-lt7 c = open_0 _ _ _ _ c.if-turn-p-lt7.true

pub returns-then-n-eq0 : goal.returns-then-n-eq0
returns-then-n-eq0 c = open_1 _ _ _ _ c.if-turn-p-lt7.false _ c.offset_at-n.ensures c.if-n-eq0.true

pub returns-then-to-turn : goal.returns-then-to-turn
returns-then-to-turn c = open_2 _ _ _ _ c.if-turn-p-lt7.false _ c.offset_at-n.ensures c.if-n-eq0.false c.if-to-turn.true

pub returns : goal.returns
returns c = open_3 _ _ _ _ c.if-turn-p-lt7.false _ c.offset_at-n.ensures c.if-n-eq0.false c.if-to-turn.false
