-- `linear_steps::take_transfer` meets its contract. Assumes nothing.
use mathlib.Core.Path.{sym, ◌∙◌}
use Rattle.machines.specs.Instruction.{linear_form, fetched_as}
use Rattle.machines.specs.Slots.{slot_at}
use Rattle.linear_code.specs.Bytes.{bytes_program}
use Rattle.steps.proofs.StepLaws.{acts_as, stays, neutral_place, jump_place, branch_places, save_places, jump_goes, bad_stops}
use Rattle.linear_steps.proofs.StepLaws.{starts}
use Rattle.linear_steps.proofs.take_transfer.Goals as goal

pub act_branch-requires : goal.act_branch-requires
act_branch-requires c =
    let pre = c.requires in
    let p = branch_places _ _ c.fetch_op.ensures.1 _ _ c.in-Branch.is in
    (pre.3.fit, pre.3.frames_fit, p.1 ∙ sym p.0)

pub act_save-requires : goal.act_save-requires
act_save-requires c =
    let pre = c.requires in
    let w = pre.3 in
    (w.fit, w.frames_fit, (save_places _ _ c.fetch_op.ensures.1 _ _ _ c.in-Save.is).2)

pub returns-in-Neutral : goal.returns-in-Neutral
unfolding fetched_as
returns-in-Neutral c =
    let P = bytes_program c.args.s.now c.args.table.now in
    acts_as c.args.owner P (slot_at c.args.table.now c.args.c.template) _ _ _ _ (c.fetch_op.ensures.0 _) c.in-Neutral.is
    (stays _ _ (neutral_place _ _ c.fetch_op.ensures.1 _ _ _ _ c.in-Neutral.is) (c.act_neutral.ensures P c.args.frames.now))

pub returns-in-Return : goal.returns-in-Return
unfolding fetched_as
returns-in-Return c =
    let args = c.args
    in
    let pre = c.requires in
    let a = args in
    let P = bytes_program a.s.now a.table.now in
    acts_as a.owner P (slot_at a.table.now a.c.template) _ _ _ _ (c.fetch_op.ensures.0 _) c.in-Return.is
    (stays _ _ pre.2 (c.act_return.ensures a.owner P a.globals.now a.store.now))

pub returns-in-Call : goal.returns-in-Call
unfolding fetched_as
returns-in-Call c =
    let pre = c.requires in
    let P = bytes_program c.args.s.now c.args.table.now in
    acts_as c.args.owner P (slot_at c.args.table.now c.args.c.template) _ _ _ _ (c.fetch_op.ensures.0 _) c.in-Call.is
    (stays _ _ pre.2 (c.act_call.ensures c.args.owner P _ (starts _ c.args.table.now pre.2)))

pub returns-in-Branch : goal.returns-in-Branch
unfolding fetched_as
returns-in-Branch c =
    let P = bytes_program c.args.s.now c.args.table.now in
    acts_as c.args.owner P (slot_at c.args.table.now c.args.c.template) _ _ _ _ (c.fetch_op.ensures.0 _) c.in-Branch.is
    (stays _ _ (branch_places _ _ c.fetch_op.ensures.1 _ _ c.in-Branch.is).0 (c.act_branch.ensures c.args.owner P _))

pub returns-in-Save : goal.returns-in-Save
unfolding fetched_as
returns-in-Save c =
    let P = bytes_program c.args.s.now c.args.table.now in
    acts_as c.args.owner P (slot_at c.args.table.now c.args.c.template) _ _ _ _ (c.fetch_op.ensures.0 _) c.in-Save.is
    (stays _ _ (save_places _ _ c.fetch_op.ensures.1 _ _ _ c.in-Save.is).1 (c.act_save.ensures c.args.owner P c.args.globals.now c.args.store.now))

pub returns-in-Jump : goal.returns-in-Jump
unfolding fetched_as
returns-in-Jump c =
    let pre = c.requires in
    let P = bytes_program c.args.s.now c.args.table.now in
    acts_as c.args.owner P (slot_at c.args.table.now c.args.c.template) _ _ _ _ (c.fetch_op.ensures.0 _) c.in-Jump.is
    (stays _ _ (jump_place _ _ c.fetch_op.ensures.1 _ c.in-Jump.is)
    (jump_goes c.args.owner P _ c.args.r c.args.c pre.3.fit pre.3.frames_fit _ _ c.act_jump.ensures))

pub returns-in-Bad : goal.returns-in-Bad
unfolding fetched_as
returns-in-Bad c =
    let P = bytes_program c.args.s.now c.args.table.now in
    acts_as c.args.owner P (slot_at c.args.table.now c.args.c.template) _ _ _ _ (c.fetch_op.ensures.0 _) c.in-Bad.is
    (bad_stops linear_form c.args.owner P _ c.args.r c.args.c)
