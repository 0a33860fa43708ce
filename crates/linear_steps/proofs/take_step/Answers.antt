-- `linear_steps::take_step` meets its contract. Assumes nothing.
use mathlib.Core.Path.{refl, sym, ◌∙◌}
use borrow.Author.Tests.{eqb-true, eqb-false}
use native.Mathlib.Omega.{arith}
use Rattle.machines.specs.Instruction.{linear_form}
use Rattle.linear_code.proofs.FetchLaws.{fetch_known, fetch_past, fetch_absent, fetch_past_absent}
use Rattle.steps.proofs.StepLaws.{stays, bad_stops}
use Rattle.linear_steps.proofs.StepLaws.{code_within, code_short, step_is}
use Rattle.linear_steps.proofs.take_step.Goals as goal

pub returns-then-code-ne0 : goal.returns-then-code-ne0
returns-then-code-ne0 c =
    let pre = c.requires in
    let w = code_within _ _ _ _ pre.0 _ pre.1 pre.2.code_ready in
    step_is c.args.owner c.args.file.now c.args.table.now c.args.r c.args.c c.args.code pre.0 _ c.byte_place-at.ensures _ _ _ _
    (fetch_past _ c.args.table.now c.args.c.template _ _ _ w (omega (arith, c.left-left.ensures, c.if-left-eq0.true)) c.if-code-ne0.true)
    (bad_stops linear_form c.args.owner _ _ c.args.r c.args.c)

pub index-i-requires : goal.index-i-requires
index-i-requires c =
    let pre = c.requires in
    let h = code_short _ _ _ _ pre.0 _ pre.1 pre.2.code_ready in
    omega (arith, h, c.left-left.ensures, c.if-left-eq0.false)

pub bounds-file-i : goal.bounds-file-i
bounds-file-i c =
    let pre = c.requires in
    let w = code_within _ _ _ _ pre.0 _ pre.1 pre.2.code_ready in
    omega (arith, w.inside, c.index-i.ensures, c.left-left.ensures, c.if-left-eq0.false)

pub overflow_add-here : goal.overflow_add-here
overflow_add-here c =
    let pre = c.requires in
    let h = code_short _ _ _ _ pre.0 _ pre.1 pre.2.code_ready in
    omega (arith, h, c.index-i.ensures, c.left-left.ensures, c.if-left-eq0.false)

pub take_coded-requires : goal.take_coded-requires
take_coded-requires c =
    let pre = c.requires in
    let w = code_within _ _ _ _ pre.0 _ pre.1 pre.2.code_ready in
    let h = code_short _ _ _ _ pre.0 _ pre.1 pre.2.code_ready in
    (omega (arith, w.inside, c.index-i.ensures, c.left-left.ensures, c.if-left-eq0.false), omega (arith, h, c.left-left.ensures, c.if-left-eq0.false), pre.1, pre.2)

pub returns-then-is_first : goal.returns-then-is_first
returns-then-is_first c =
    let pre = c.requires in
    let w = code_within _ _ _ _ pre.0 _ pre.1 pre.2.code_ready in
    step_is c.args.owner c.args.file.now c.args.table.now c.args.r c.args.c c.args.code pre.0 _ c.byte_place-at.ensures _ _ _ _
    (fetch_absent _ c.args.table.now c.args.c.template _ _ _ w c.if-code-ne0.false (eqb-true _ 0 (sym c.is_first.ensures ∙ c.if-is_first.true)))
    (stays _ _ pre.1 (c.act_return.ensures c.args.owner _ c.args.globals.now c.args.store.now))

pub returns-then-left-eq0 : goal.returns-then-left-eq0
returns-then-left-eq0 c =
    let pre = c.requires in
    let w = code_within _ _ _ _ pre.0 _ pre.1 pre.2.code_ready in
    step_is c.args.owner c.args.file.now c.args.table.now c.args.r c.args.c c.args.code pre.0 _ c.byte_place-at.ensures _ _ _ _
    (fetch_past_absent _ c.args.table.now c.args.c.template _ _ _ w c.if-code-ne0.false (eqb-false _ 0 (sym c.is_first.ensures ∙ c.if-is_first.false)))
    (bad_stops linear_form c.args.owner _ _ c.args.r c.args.c)

pub returns : goal.returns
returns c =
    let pre = c.requires in
    let left = c.left-left
    in
    let w = code_within _ _ _ _ pre.0 _ pre.1 pre.2.code_ready in
    step_is c.args.owner c.args.file.now c.args.table.now c.args.r c.args.c c.args.code pre.0 _ c.byte_place-at.ensures _ _ _ _
    (fetch_known _ c.args.table.now c.args.c.template _ _ _ w _ _ _ _ c.index-i.ensures left.ensures c.if-left-eq0.false refl refl)
    c.take_coded.ensures
