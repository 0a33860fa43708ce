-- `linear_steps::code_at` meets its contract. Assumes nothing.
use mathlib.Core.Path.{refl}
use Rattle.linear_steps.specs.Code.{code_of}
use Rattle.linear_steps.proofs.code_at.Goals as goal

pub returns : goal.returns
unfolding code_of
returns c = rw c.slot_at-slot.ensures refl
