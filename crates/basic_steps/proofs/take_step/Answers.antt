-- `basic_steps::take_step` meets its contract. Assumes nothing.
use mathlib.Core.Path.{refl}
use Rattle.machines.specs.Instruction.{number, form_of}
use Rattle.steps.specs.Step.{CodeReady}
use Rattle.steps.proofs.StepLaws.{stays, bad_stops}
use Rattle.basic_code.specs.Fetch.{read_as, basic_linked}
use Rattle.basic_steps.proofs.StepLaws.{step_is, starts, saved_fits}
use borrow.Author.Rules.{rules}
use Rattle.basic_steps.proofs.take_step.Goals as goal

pub fetch-requires : goal.fetch-requires
unfolding CodeReady
fetch-requires c =
    let pre = c.requires in
    rw pre.0 at pre.1.code_ready

pub act_branch-requires : goal.act_branch-requires
unfolding form_of
act_branch-requires c =
    let pre = c.requires in
    (pre.1.fit, pre.1.frames_fit, refl)

pub act_save-requires : goal.act_save-requires
unfolding number
act_save-requires c = (search rules, search rules, saved_fits _ c.fetch.ensures.1 _ _ _ c.in-Save.is)

pub returns-in-Ready : goal.returns-in-Ready
unfolding read_as form_of number
returns-in-Ready c =
    let P = basic_linked c.args.file.now c.args.links.now c.args.table.now in
    step_is c.args.owner c.args.file.now c.args.links.now c.args.table.now c.args.r c.args.c _ _ _ c.bit_place.ensures c.fetch.ensures.0 c.in-Ready.is _ _ _
    (c.act_plain.ensures P c.args.frames.now)

pub returns-in-Return : goal.returns-in-Return
unfolding read_as
returns-in-Return c =
    let pre = c.requires in
    let P = basic_linked c.args.file.now c.args.links.now c.args.table.now in
    step_is c.args.owner c.args.file.now c.args.links.now c.args.table.now c.args.r c.args.c _ _ _ c.bit_place.ensures c.fetch.ensures.0 c.in-Return.is _ _ _
    (stays _ _ pre.0 (c.act_return.ensures c.args.owner P c.args.globals.now c.args.store.now))

pub returns-in-Call : goal.returns-in-Call
unfolding read_as
returns-in-Call c =
    let pre = c.requires in
    let P = basic_linked c.args.file.now c.args.links.now c.args.table.now in
    step_is c.args.owner c.args.file.now c.args.links.now c.args.table.now c.args.r c.args.c _ _ _ c.bit_place.ensures c.fetch.ensures.0
    c.in-Call.is _ _ _ (stays _ _ pre.0
    (c.act_call.ensures c.args.owner P _ (starts _ c.args.file.now c.args.links.now c.args.table.now pre.0)))

pub returns-in-Branch : goal.returns-in-Branch
unfolding read_as form_of number
returns-in-Branch c =
    let P = basic_linked c.args.file.now c.args.links.now c.args.table.now in
    step_is c.args.owner c.args.file.now c.args.links.now c.args.table.now c.args.r c.args.c _ _ _ c.bit_place.ensures c.fetch.ensures.0
    c.in-Branch.is _ _ _ (c.act_branch.ensures c.args.owner P _)

pub returns-in-Save : goal.returns-in-Save
unfolding read_as form_of number
returns-in-Save c =
    let P = basic_linked c.args.file.now c.args.links.now c.args.table.now in
    step_is c.args.owner c.args.file.now c.args.links.now c.args.table.now c.args.r c.args.c _ _ _ c.bit_place.ensures c.fetch.ensures.0 c.in-Save.is _ _ _
    (c.act_save.ensures c.args.owner P c.args.globals.now c.args.store.now)

pub returns-in-Bad : goal.returns-in-Bad
unfolding read_as
returns-in-Bad c =
    let P = basic_linked c.args.file.now c.args.links.now c.args.table.now in
    step_is c.args.owner c.args.file.now c.args.links.now c.args.table.now c.args.r c.args.c _ _ _ c.bit_place.ensures c.fetch.ensures.0
    c.in-Bad.is _ _ _ (bad_stops _ c.args.owner P _ c.args.r c.args.c)
