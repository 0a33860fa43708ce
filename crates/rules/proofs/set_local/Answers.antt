-- `rules::set_local` meets its contract. Assumes nothing.
use mathlib.Core.Path.{sym, ◌∙◌}
use Rattle.rules.specs.Rules.{set_local_rule}
use Rattle.rules.specs.State.{told}
use Rattle.rules.proofs.Laws.{passed, found_beyond, found_cell}
use Rattle.rules.proofs.set_local.Goals as goal

pub returns-in_err-l : goal.returns-in_err-l
unfolding told set_local_rule
returns-in_err-l c = λ g s. rw (passed _ _ c.from_residual.ensures, found_beyond _ _ _ (sym c.find_local.ensures ∙ c.in_err-l.was))

pub returns : goal.returns
unfolding told set_local_rule
returns c = λ g s. rw (found_cell _ _ _ (sym c.find_local.ensures ∙ c.in_ok-l.was), c.put.ensures)
