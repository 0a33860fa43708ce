-- `emit::measure` meets its contract: a mark is taken apart. Assumes nothing.
use Rattle.emit.specs.laws.Steps.{mark_measured}
use Rattle.emit.proofs.measure.Goals as goal

pub returns : goal.returns
returns c = mark_measured c.args.marks.now c.args.at.0 _ c.mark_at-mark.ensures
