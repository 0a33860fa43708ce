-- `tree::read_end` meets its contract. Assumes nothing.
use mathlib.Core.Path.{sym, ap, ◌∙◌}
use Rattle.files.specs.EntriesRead.{past_told}
use Rattle.files.specs.laws.RefusalLaws.{handed_on}
use Rattle.tree.specs.laws.TreeSteps.{end_on, end_set}
use Rattle.tree.proofs.read_end.Goals as goal

pub returns : goal.returns
returns c =
    c.nothing_more.ensures ∙ ap (past_told {A = Unit {0}})
    (sym (end_on (tt {0}) _ _ (sym (rw c.to_byte.ensures at c.zero_bits.ensures) ∙ c.in_ok-past.was)))

pub returns-in_err-past : goal.returns-in_err-past
unfolding past_told
returns-in_err-past c =
    handed_on c.from_residual.ensures
    ∙ sym (ap (past_told {A = Unit {0}}) (end_set (tt {0}) _ _ (sym (rw c.to_byte.ensures at c.zero_bits.ensures) ∙ c.in_err-past.was)))
