-- `lists::slot_closes` meets its contract. Assumes nothing.
use mathlib.Core.Path.{sym, ◌∙◌}
use native.Mathlib.Omega.{arith}
use Rattle.fields.specs.laws.Laws.{shl_one}
use Rattle.lists.specs.laws.ReadLaws.{closes_any}
use Rattle.lists.proofs.slot_closes.Goals as goal

pub returns-then-both : goal.returns-then-both
returns-then-both c =
    let e = sym c.both.ensures ∙ c.if-both.true in
    shl_one 64 _ (omega arith) ∙ closes_any _ _ _ _ (rw c.slot_named.ensures at e)

pub returns-else-both : goal.returns-else-both
returns-else-both c =
    let e = sym c.both.ensures ∙ c.if-both.false in
    closes_any _ _ _ _ (rw c.slot_named.ensures at e)
