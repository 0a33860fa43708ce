-- `unflatten::first_of` meets its contract. Assumes nothing.
use Rattle.unflatten.specs.laws.HeadLaws.{head_zero}
use Rattle.unflatten.proofs.first_of.Goals as goal

pub returns-in-0 : goal.returns-in-0
returns-in-0 c = let h = c.requires in head_zero _ _ _ _ _ h.1 h.2 c.in-0.is
