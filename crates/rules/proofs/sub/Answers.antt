-- `rules::sub` meets its contract: the rule goes by the two operands. Assumes nothing.
use mathlib.Core.Path.{ap, ◌∙◌}
use Rattle.rules.specs.State.{mem, told}
use Rattle.rules.specs.Rules.{subtracted, sub_rule}
use Rattle.rules.proofs.Laws.{passed, two_are, two_wrong, integer_of, fits_of}
use Rattle.rules.proofs.sub.Goals as goal

pub integer-requires : goal.integer-requires
integer-requires c = (c.requires, fits_of _ _ c.difference.ensures)

pub returns : goal.returns
unfolding sub_rule
returns c =
    λ g t. c.integer.ensures g t ∙ ap (told (mem g c.args.stack.now t))
    (integer_of _ _ _ _ c.difference.ensures ∙ two_are subtracted (mem g c.args.stack.now t) c.args.r _ (c.two_integers.ensures.by_index g t) _ _ c.in_ok-a.was)

pub returns-in_err-a : goal.returns-in_err-a
unfolding told sub_rule
returns-in_err-a c =
    λ g t. rw (passed _ _ c.from_residual.ensures) (ap (told (mem g c.args.stack.now t))
    (two_wrong subtracted (mem g c.args.stack.now t) c.args.r _ (c.two_integers.ensures.by_index g t) _ c.in_err-a.was))
