-- `exporter::put_outcome` meets its contract: in each arm the answer is known, and so are its slots. Assumes nothing.
use Rattle.exporter.specs.Exporter.{outcome_slots}
use Rattle.exporter.proofs.put_outcome.Goals as goal

pub returns-in-Ok : goal.returns-in-Ok
unfolding outcome_slots
returns-in-Ok c = rw c.in-Ok.is c.put_slots.ensures

pub returns-in-Err : goal.returns-in-Err
unfolding outcome_slots
returns-in-Err c = rw c.in-Err.is c.put_slots-in-Err.ensures
