-- `emit::put_offset` meets its contract: the stores are a run of stores. Assumes nothing.
use native.Mathlib.Numerals.{towards_suc}
use Rattle.emit.proofs.put_offset.Goals as goal

pub returns : goal.returns
returns c = simp towards_suc
