-- `tabulate::add` meets its contract: it is there, or it is put there. Assumes nothing.
use Rattle.tabulate.specs.laws.SlotLaws.{kept_slots, more_slots}
use native.Mathlib.Omega.{arith}
use Rattle.tabulate.proofs.add.Goals as goal

pub returns-then-find-count : goal.returns-then-find-count
returns-then-find-count c = kept_slots _ _ _ (omega arith) (omega (arith, c.find.ensures, c.if-find-count.true))

pub returns : goal.returns
returns c = more_slots _ _ _ (omega arith) (omega (arith, c.find.ensures, c.if-find-count.false))
