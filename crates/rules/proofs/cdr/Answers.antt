-- `rules::cdr` meets its contract: it is `part` at the pair's second location. Assumes nothing.
use mathlib.Core.Path.{sym, ap, ◌∙◌}
use Rattle.cells.specs.Cells.{pair_second}
use Rattle.rules.specs.Rules.{cdr_rule}
use Rattle.rules.proofs.cdr.Goals as goal

pub returns : goal.returns
unfolding cdr_rule
returns c = λ g. c.part.ensures pair_second g (sym (c.pair_second-l.ensures ∙ ap pair_second (c.top_of.ensures g g)))
