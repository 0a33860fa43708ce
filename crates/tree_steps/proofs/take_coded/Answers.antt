-- `tree_steps::take_coded` meets its contract. Assumes nothing.
use mathlib.Core.Path.{sym, ◌∙◌}
use Rattle.machines.specs.Instruction.{fetched_as}
use Rattle.tree_code.specs.Fetch.{linked_program}
use Rattle.steps.proofs.StepLaws.{acts_as, stays, neutral_place, jump_place, branch_places, save_places, jump_goes, bad_stops}
use Rattle.tree_steps.proofs.StepLaws.{short, starts}
use borrow.Author.Rules.{rules}
use Rattle.machines.specs.Slots.{slot_at}
use Rattle.tree_steps.proofs.take_coded.Goals as goal

pub fetch_coded-requires : goal.fetch_coded-requires
fetch_coded-requires c =
    let pre = c.requires in
    (short _ _ _ _ pre.0.in_tree pre.0.ready, pre.0.code_whole, pre.0.line_is, pre.0.line_low, pre.1)

pub act_branch-requires : goal.act_branch-requires
act_branch-requires c =
    let pre = c.requires in
    let p = branch_places _ _ c.fetch_coded.ensures.1 _ _ c.in-Branch.is in
    (pre.0.ready.fit, pre.0.ready.frames_fit, p.1 ∙ sym p.0)

pub act_save-requires : goal.act_save-requires
act_save-requires c = (search rules, search rules, (save_places _ _ c.fetch_coded.ensures.1 _ _ _ c.in-Save.is).2)

pub returns-in-Neutral : goal.returns-in-Neutral
unfolding fetched_as
returns-in-Neutral c =
    let pre = c.requires in
    let fetch = c.fetch_coded.ensures in
    let told = c.in-Neutral.is in
    let P = linked_program c.args.file.now c.args.links.now c.args.table.now in
    acts_as c.args.owner P (slot_at c.args.table.now c.args.c.template) _ _ _ _ (fetch.0 c.args.table.now c.args.c.template) told
    (stays _ _ (neutral_place _ _ fetch.1 _ _ _ _ told) (c.act_neutral.ensures P c.args.frames.now))

pub returns-in-Return : goal.returns-in-Return
unfolding fetched_as
returns-in-Return c =
    let pre = c.requires in
    let fetch = c.fetch_coded.ensures in
    let told = c.in-Return.is in
    let P = linked_program c.args.file.now c.args.links.now c.args.table.now in
    acts_as c.args.owner P (slot_at c.args.table.now c.args.c.template) _ _ _ _ (fetch.0 c.args.table.now c.args.c.template) told
    (stays _ _ pre.0.in_tree (c.act_return.ensures c.args.owner P c.args.globals.now c.args.store.now))

pub returns-in-Call : goal.returns-in-Call
unfolding fetched_as
returns-in-Call c =
    let pre = c.requires in
    let fetch = c.fetch_coded.ensures in
    let told = c.in-Call.is in
    let P = linked_program c.args.file.now c.args.links.now c.args.table.now in
    acts_as c.args.owner P (slot_at c.args.table.now c.args.c.template) _ _ _ _ (fetch.0 c.args.table.now c.args.c.template) told
    (stays _ _ pre.0.in_tree (c.act_call.ensures c.args.owner P _ (starts _ c.args.table.now pre.0.in_tree)))

pub returns-in-Branch : goal.returns-in-Branch
unfolding fetched_as
returns-in-Branch c =
    let pre = c.requires in
    let fetch = c.fetch_coded.ensures in
    let told = c.in-Branch.is in
    let P = linked_program c.args.file.now c.args.links.now c.args.table.now in
    acts_as c.args.owner P (slot_at c.args.table.now c.args.c.template) _ _ _ _ (fetch.0 c.args.table.now c.args.c.template) told
    (stays _ _ (branch_places _ _ fetch.1 _ _ told).0 (c.act_branch.ensures c.args.owner P _))

pub returns-in-Save : goal.returns-in-Save
unfolding fetched_as
returns-in-Save c =
    let pre = c.requires in
    let fetch = c.fetch_coded.ensures in
    let told = c.in-Save.is in
    let P = linked_program c.args.file.now c.args.links.now c.args.table.now in
    acts_as c.args.owner P (slot_at c.args.table.now c.args.c.template) _ _ _ _ (fetch.0 c.args.table.now c.args.c.template) told
    (stays _ _ (save_places _ _ fetch.1 _ _ _ told).1 (c.act_save.ensures c.args.owner P c.args.globals.now c.args.store.now))

pub returns-in-Jump : goal.returns-in-Jump
unfolding fetched_as
returns-in-Jump c =
    let pre = c.requires in
    let fetch = c.fetch_coded.ensures in
    let told = c.in-Jump.is in
    let P = linked_program c.args.file.now c.args.links.now c.args.table.now in
    acts_as c.args.owner P (slot_at c.args.table.now c.args.c.template) _ _ _ _ (fetch.0 c.args.table.now c.args.c.template) told
    (stays _ _ (jump_place _ _ fetch.1 _ told)
    (jump_goes c.args.owner P _ c.args.r c.args.c pre.0.ready.fit pre.0.ready.frames_fit _ _ c.act_jump.ensures))

pub returns-in-Bad : goal.returns-in-Bad
unfolding fetched_as
returns-in-Bad c =
    let pre = c.requires in
    let fetch = c.fetch_coded.ensures in
    let told = c.in-Bad.is in
    let P = linked_program c.args.file.now c.args.links.now c.args.table.now in
    acts_as c.args.owner P (slot_at c.args.table.now c.args.c.template) _ _ _ _ (fetch.0 c.args.table.now c.args.c.template) told
    (bad_stops _ c.args.owner P _ c.args.r c.args.c)
