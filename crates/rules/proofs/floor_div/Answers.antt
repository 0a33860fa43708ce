-- `rules::floor_div` meets its contract: the rule goes by the two operands, and by whether the right one is zero. Assumes nothing.
use mathlib.Core.Path.{ap, ◌∙◌}
use Rattle.rules.specs.State.{mem, told}
use Rattle.rules.specs.Rules.{divided, floor_div_rule}
use Rattle.rules.proofs.Laws.{passed, two_are, two_wrong, integer_of, fits_of, by_zero, by_other}
use Rattle.rules.proofs.floor_div.Goals as goal

pub returns-then-b-eq0 : goal.returns-then-b-eq0
unfolding told floor_div_rule
returns-then-b-eq0 c =
    λ g t. ap (told (mem g c.args.stack.now t))
    (by_zero _ _ (mem g c.args.stack.now t) c.args.r c.in_ok-a.ensures.fits.1 c.if-b-eq0.true ∙ two_are divided
    (mem g c.args.stack.now t) c.args.r _ (c.two_integers.ensures.by_index g t) _ _ c.in_ok-a.was)

pub integer-requires : goal.integer-requires
integer-requires c = (c.requires, fits_of _ _ c.floor_div.ensures)

pub returns : goal.returns
unfolding floor_div_rule
returns c =
    λ g t. c.integer.ensures g t ∙ ap (told (mem g c.args.stack.now t))
    (integer_of _ _ _ _ c.floor_div.ensures ∙ by_other _ _ (mem g c.args.stack.now t) c.args.r c.in_ok-a.ensures.fits.1
    c.if-b-eq0.false ∙ two_are divided (mem g c.args.stack.now t) c.args.r _ (c.two_integers.ensures.by_index g t) _ _ c.in_ok-a.was)

pub returns-in_err-a : goal.returns-in_err-a
unfolding told floor_div_rule
returns-in_err-a c =
    λ g t. rw (passed _ _ c.from_residual.ensures) (ap (told (mem g c.args.stack.now t))
    (two_wrong divided (mem g c.args.stack.now t) c.args.r _ (c.two_integers.ensures.by_index g t) _ c.in_err-a.was))
