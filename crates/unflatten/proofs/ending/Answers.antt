-- `unflatten::ending` meets its contract. Assumes nothing.
use Rattle.unflatten.specs.laws.HeadLaws.{head_not_ending, head_loose, head_ending}
use Rattle.unflatten.proofs.ending.Goals as goal

pub returns-then-region-n : goal.returns-then-region-n
returns-then-region-n c = let h = c.requires in head_not_ending _ _ _ _ _ h.1 h.2 _ h.4 h.3 c.if-region-n.true

pub returns-then-region : goal.returns-then-region
returns-then-region c = let h = c.requires in head_ending _ _ _ _ _ h.1 h.2 _ h.4 h.3 c.if-region-n.false c.if-region.true

pub returns : goal.returns
returns c = let h = c.requires in head_loose _ _ _ _ _ h.1 h.2 _ h.4 h.3 c.if-region-n.false c.if-region.false
