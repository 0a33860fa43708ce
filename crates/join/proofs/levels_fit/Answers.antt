-- `join::levels_fit` meets its contract: a list that was read has at most 15 levels below it, and it is read where its levels are there. Assumes nothing.
use mathlib.Core.Path.{ap, ◌∙◌}
use Rattle.std.specs.Prelude.{is_ok}
use Rattle.join.specs.laws.OperandsLaws.{levels_most, levels_told}
use Rattle.join.proofs.levels_fit.Goals as goal

pub returns-then-most-eq15 : goal.returns-then-most-eq15
returns-then-most-eq15 c = levels_most _ c.if-most-eq15.true

pub returns : goal.returns
returns c =
    let pre = c.requires in
    λ w. c.is_ok.ensures.value ∙ ap is_ok c.read_list.ensures.value ∙ levels_told _ _ _ pre.1 w _ _
