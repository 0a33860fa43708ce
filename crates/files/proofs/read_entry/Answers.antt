-- `files::read_entry` meets its contract. Assumes nothing.
use mathlib.Core.Path.{◌∙◌}
use borrow.Author.Rules.{rules}
use Rattle.files.specs.laws.RefusalLaws.{handed_on}
use Rattle.files.specs.laws.EntriesSteps.{told_field, told_cut, told_below, entry_cut, entry_kind}
use Rattle.files.proofs.read_entry.Goals as goal

pub returns-in_err-k : goal.returns-in_err-k
returns-in_err-k c = handed_on c.from_residual.ensures ∙ entry_cut _ _ _ _ (told_cut _ _ _ c.read_field.ensures c.in_err-k.was)

pub read_kind-requires : goal.read_kind-requires
read_kind-requires c = (search rules, told_below _ _ _ c.read_field.ensures c.in_ok-k.was)

pub returns : goal.returns
returns c = c.read_kind.ensures ∙ entry_kind _ _ _ _ (told_field _ _ _ c.read_field.ensures c.in_ok-k.was)
