-- `exporter::put_run` meets its contract: the end's slots, then four stores. Assumes nothing.
use Rattle.exporter.proofs.put_run.Goals as goal

pub returns : goal.returns
returns c = rw c.put_end.ensures
