-- `fields::line_at` meets its contract. Assumes nothing.
use Rattle.fields.specs.laws.Laws.{line_at}
use Rattle.fields.proofs.line_at.Goals as goal

pub returns : goal.returns
returns c = line_at c.args.s.now c.args.at.0 _ _ _ c.four_at.ensures c.byte.ensures c.bit.ensures
