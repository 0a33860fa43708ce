-- `rules::add` meets its contract: the rule goes by what `sum_up` answers. Assumes nothing.
use mathlib.Core.Path.{sym, ◌∙◌}
use Rattle.rules.specs.State.{mem, told}
use Rattle.rules.proofs.Laws.{passed, added, add_by_sum, sum_fits}
use Rattle.rules.proofs.add.Goals as goal

pub integer-requires : goal.integer-requires
integer-requires c = (c.requires, sum_fits _ _ (sym c.sum_up.ensures ∙ c.in_ok-total.was))

pub returns-in_err-total : goal.returns-in_err-total
unfolding told added
returns-in_err-total c = λ g t. rw (passed _ _ c.from_residual.ensures, add_by_sum (mem g c.args.stack.now t) c.args.r, ← c.sum_up.ensures, c.in_err-total.was)

pub returns : goal.returns
unfolding told added
returns c = λ g t. rw (add_by_sum (mem g c.args.stack.now t) c.args.r, ← c.sum_up.ensures, c.in_ok-total.was) (c.integer.ensures g t)
