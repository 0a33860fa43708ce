-- `files::read_word` meets its contract. Assumes nothing.
use mathlib.Core.Path.{◌∙◌}
use Rattle.files.specs.laws.EntriesSteps.{told_or}
use Rattle.files.proofs.read_word.Goals as goal

pub returns : goal.returns
returns c = c.ok_or.ensures.value ∙ told_or _ _ _ c.read_word.ensures
