-- `tabulate::find` meets its contract: one slot after the other. Assumes nothing.
use Rattle.std.proofs.Common.{◌≡◌, ◌∙◌, ap, arith, length, sym, take}
use Rattle.std.proofs.lemmas.List.{take_all}
use Rattle.tabulate.specs.Slots.{position}
use Rattle.tabulate.specs.laws.SlotLaws.{position_at, position_none, not_yet}
use Rattle.tabulate.proofs.find.Goals as goal

pub returns-then-slots-i : goal.returns-then-slots-i
returns-then-slots-i c =
    let l = c.args.slots.now in
    let all : take (length l) l ≡ l = take_all (length l) l (omega arith) in
    sym (position_at c.args.slot l (length l) _ c.loop-i.invariant c.loop-i-test.true c.loop-i-test.true c.if-slots-i.true) ∙ ap (position c.args.slot) all

pub loop-i-preserved : goal.loop-i-preserved
loop-i-preserved c = not_yet _ c.args.slots.now _ c.loop-i.invariant c.if-slots-i.false

pub returns : goal.returns
returns c =
    let l = c.args.slots.now in
    let all : take (length l) l ≡ l = take_all (length l) l (omega arith) in
    sym (position_none c.args.slot l (length l) (λ j lt. c.loop-i.invariant j (omega (arith, c.loop-i-test.false))) (omega arith)) ∙ ap (position c.args.slot) all
