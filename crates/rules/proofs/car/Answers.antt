-- `rules::car` meets its contract: it is `part` at the pair's first location. Assumes nothing.
use mathlib.Core.Path.{sym, ap, ◌∙◌}
use Rattle.cells.specs.Cells.{pair_first}
use Rattle.rules.specs.Rules.{car_rule}
use Rattle.rules.proofs.car.Goals as goal

pub returns : goal.returns
unfolding car_rule
returns c = λ g. c.part.ensures pair_first g (sym (c.pair_first-l.ensures ∙ ap pair_first (c.top_of.ensures g g)))
