-- The cycle of calls {put_arms, put_conditional, put_instr, put_list, put_make_cont} meets its contracts: a level falls at each list inside an
-- instruction, and the bytes of the region within a list. Assumes nothing.
use native.Mathlib.Omega.{arith}
use mathlib.Core.Path.{refl}
use Rattle.lists.specs.Facts.{slot_named}
use Rattle.unflatten.specs.laws.PutLaws.{puts_none, puts_some, two_first, two_from, stepped_none, stepped_on, arms_none, arms_more, saved_none, saved_more}
use Rattle.unflatten.specs.laws.PutLaws.{head_none, going_no_end, going_end, going_none, going_on}
use Rattle.unflatten.proofs.+put_arms_put_conditional_put_instr_put_list_put_make_cont.Goals as goal

pub put_arms-returns-in_err-mid : goal.put_arms-returns-in_err-mid
put_arms-returns-in_err-mid t c = rw c.from_residual.ensures (two_first (puts_none c.put_list.ensures c.in_err-mid.was))

pub put_arms-returns : goal.put_arms-returns
put_arms-returns t c = two_from _ _ (omega (arith, c.requires.1.room)) (puts_some c.put_list.ensures c.in_ok-mid.was) c.put_list-2.ensures

pub put_conditional-returns-in_err-past : goal.put_conditional-returns-in_err-past
put_conditional-returns-in_err-past t c =
    let f = c.put_field-next.ensures in
    rw c.from_residual.ensures (arms_none (slot_named c.args.source.now.table.now c.args.source.now.own) c.args.source.now.file.now c.args.levels c.args.region.closed c.args.region.from c.args.region.to c.args.at.0 c.args.out.now _ c.requires.2 c.args.arms c.requires.3 _
    f.1 f.0 c.put_arms.ensures c.in_err-past.was)

pub put_conditional-returns-then-not-arms : goal.put_conditional-returns-then-not-arms
put_conditional-returns-then-not-arms t c =
    let f = c.put_field-next.ensures in
    arms_more (slot_named c.args.source.now.table.now c.args.source.now.own) c.args.source.now.file.now c.args.levels c.args.region.closed c.args.region.from c.args.region.to c.args.at.0 c.args.out.now _ c.requires.2 c.args.arms c.requires.3 _
    f.1 f.0 _ (rw c.if-not-arms.true refl) c.put_arms.ensures c.in_ok-past.was

pub put_conditional-returns-else-not-arms : goal.put_conditional-returns-else-not-arms
put_conditional-returns-else-not-arms t c =
    let f = c.put_field-next.ensures in
    arms_more (slot_named c.args.source.now.table.now c.args.source.now.own) c.args.source.now.file.now c.args.levels c.args.region.closed c.args.region.from c.args.region.to c.args.at.0 c.args.out.now _ c.requires.2 c.args.arms c.requires.3 _
    f.1 f.0 _ (rw c.if-not-arms.false refl) c.put_arms.ensures c.in_ok-past.was

pub put_instr-returns-in_err-n : goal.put_instr-returns-in_err-n
put_instr-returns-in_err-n t c =
    rw c.from_residual.ensures (head_none (slot_named c.args.source.now.table.now c.args.source.now.own) c.args.source.now.file.now c.args.levels c.args.region.closed c.args.region.from c.args.region.to c.args.out.now c.args.at.0
    c.first_of.ensures c.in_err-n.was)

pub put_list-returns-in_err-rest : goal.put_list-returns-in_err-rest
put_list-returns-in_err-rest t c =
    rw c.from_residual.ensures (going_none _ _ _ _ _ _ _ _ _ _ _ _ _ c.loop-left.invariant (stepped_none c.put_instr.ensures c.in_err-rest.was))

pub put_list-loop-left-preserved : goal.put_list-loop-left-preserved
put_list-loop-left-preserved t c =
    let g = c.loop-left.invariant in
    going_on _ _ _ _ _ _ _ _ _ _ _ _ _ g c.put_instr.auto.out (stepped_on g.room c.put_instr.ensures c.in_ok-rest.was)

pub put_list-returns-then-left : goal.put_list-returns-then-left
put_list-returns-then-left t c =
    let g = c.loop-left.invariant in
    going_no_end _ _ _ _ _ _ _ _ _ _ _ _ _ g (omega (arith, g.ordered, c.loop-left-test.false)) c.if-left.true

pub put_list-returns : goal.put_list-returns
put_list-returns t c =
    let g = c.loop-left.invariant in
    let f = c.put_field.ensures in
    going_end _ _ _ _ _ _ _ _ _ _ _ _ _ g (omega (arith, g.ordered, c.loop-left-test.false)) c.if-left.false f.0 f.1

pub put_make_cont-returns-in_err-past : goal.put_make_cont-returns-in_err-past
put_make_cont-returns-in_err-past t c =
    let f = c.put_field-next.ensures in
    let i = c.put_field-count.ensures in
    rw c.from_residual.ensures (saved_none (slot_named c.args.source.now.table.now c.args.source.now.own) c.args.source.now.file.now c.args.levels c.args.region.closed c.args.region.from c.args.region.to c.args.at.0 c.args.out.now _ c.requires.2 c.args.cut c.requires.3 _ _ _
    f.1 f.0 i.1 i.0 c.put_list.ensures c.in_err-past.was)

pub put_make_cont-returns : goal.put_make_cont-returns
put_make_cont-returns t c =
    let f = c.put_field-next.ensures in
    let i = c.put_field-count.ensures in
    saved_more (slot_named c.args.source.now.table.now c.args.source.now.own) c.args.source.now.file.now c.args.levels c.args.region.closed c.args.region.from c.args.region.to c.args.at.0 c.args.out.now _ c.requires.2 c.args.cut c.requires.3 _ _ _
    f.1 f.0 i.1 i.0 c.put_list.ensures c.in_ok-past.was
