-- `machines::globals_refusal` meets its contract. Assumes nothing.
use Rattle.machines.proofs.Laws.{unfit_found, unfit_nowhere}
use Rattle.machines.proofs.globals_refusal.Goals as goal

pub returns-in-Some : goal.returns-in-Some
returns-in-Some c = unfit_found _ _ c.first_unfit.ensures _ c.in-Some.is

pub returns-in-None : goal.returns-in-None
returns-in-None c = unfit_nowhere _ _ c.first_unfit.ensures c.in-None.is
