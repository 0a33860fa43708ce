-- `steps::act_neutral` meets its contract. Assumes nothing.
use Rattle.steps.proofs.StepLaws.{neutral_goes, neutral_stops}
use Rattle.steps.proofs.act_neutral.Goals as goal

pub returns-in-Some : goal.returns-in-Some
returns-in-Some c = λ P f. neutral_goes _ P _ _ _ _ _ _ c.resolve.ensures _ _ _ c.in-Some.is (c.act_plain.ensures P f)

pub returns-in-None : goal.returns-in-None
returns-in-None c = λ P f. neutral_stops _ P _ _ _ _ _ _ c.resolve.ensures c.in-None.is
