-- `files::read_wide` meets its contract: the field lies within the file or runs past its end. Assumes nothing.
use Rattle.fields.specs.laws.Laws.{cut_by, whole_by}
use Rattle.files.specs.laws.EntriesSteps.{told_or}
use Rattle.files.proofs.read_wide.Goals as goal

pub returns-then-within : goal.returns-then-within
returns-then-within c = told_or _ _ _ (whole_by _ _ _ c.within.ensures c.if-within.true c.wide_at.ensures c.past.ensures)

pub returns : goal.returns
returns c = told_or _ _ _ (cut_by _ _ _ c.within.ensures c.if-within.false)
