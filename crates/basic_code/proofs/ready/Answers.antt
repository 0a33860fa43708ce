-- `basic_code::ready` meets its contract. Assumes nothing.
use Rattle.basic_code.specs.Fetch.{SavedFits}
use Rattle.basic_code.specs.laws.FetchSteps.{ready_read, unready_read}
use Rattle.basic_code.proofs.ready.Goals as goal

pub returns-in-Some : goal.returns-in-Some
unfolding SavedFits
returns-in-Some c = (ready_read _ _ c.unnamed.ensures _ _ c.in-Some.is, tt)

pub returns-in-None : goal.returns-in-None
unfolding SavedFits
returns-in-None c = (unready_read _ _ c.unnamed.ensures _ c.in-None.is, tt)
