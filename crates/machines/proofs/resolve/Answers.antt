-- `machines::resolve` meets its contract. Assumes nothing.
use mathlib.Core.Path.{ap, ◌∙◌}
use Rattle.rules.specs.declared.Plain.TheVariants.{Closure, Global, SetGlobal}
use Rattle.machines.specs.Fetched.{as_literal, rule_of}
use Rattle.machines.specs.Slots.{slot_at, slot_names, slot_resolve, resolved_as, marked_as}
use Rattle.machines.proofs.ResolveLaws.{coded, other_code, closure_slot, global_slot, marked_number, marked_other}
use Rattle.machines.proofs.resolve.Goals as goal

pub returns-in-6 : goal.returns-in-6
unfolding slot_resolve rule_of
returns-in-6 c =
    coded (slot_at c.args.table.now c.args.template) _ 6 c.args.a c.args.b _ c.in-6.is
    (c.literal.ensures ∙ ap (λ x. resolved_as (as_literal (slot_names x))) c.slot_at.ensures)

pub returns-in_ok-under_tag-in-7 : goal.returns-in_ok-under_tag-in-7
unfolding slot_resolve rule_of
returns-in_ok-under_tag-in-7 c =
    let x = slot_at c.args.table.now c.args.template c.args.a in
    coded (slot_at c.args.table.now c.args.template) _ 7 c.args.a c.args.b _ c.in-7.is
    (marked_number x Closure 12 _ (c.under_tag.ensures ∙ ap (marked_as 12) c.slot_at-in-7.ensures) _ (closure_slot x) _ c.in_ok-under_tag-in-7.was)

pub returns-in_err-under_tag-in-7 : goal.returns-in_err-under_tag-in-7
unfolding slot_resolve rule_of
returns-in_err-under_tag-in-7 c =
    let x = slot_at c.args.table.now c.args.template c.args.a in
    c.from_residual.ensures ∙ coded (slot_at c.args.table.now c.args.template) _ 7 c.args.a c.args.b _ c.in-7.is
    (marked_other x Closure 12 _ (c.under_tag.ensures ∙ ap (marked_as 12) c.slot_at-in-7.ensures) _ (closure_slot x) c.in_err-under_tag-in-7.was)

pub returns-in_ok-under_tag-in-8 : goal.returns-in_ok-under_tag-in-8
unfolding slot_resolve rule_of
returns-in_ok-under_tag-in-8 c =
    let x = slot_at c.args.table.now c.args.template c.args.a in
    coded (slot_at c.args.table.now c.args.template) _ 8 c.args.a c.args.b _ c.in-8.is
    (marked_number x Global 11 _ (c.under_tag-in-8.ensures ∙ ap (marked_as 11) c.slot_at-in-8.ensures) _ (global_slot x Global) _ c.in_ok-under_tag-in-8.was)

pub returns-in_err-under_tag-in-8 : goal.returns-in_err-under_tag-in-8
unfolding slot_resolve rule_of
returns-in_err-under_tag-in-8 c =
    let x = slot_at c.args.table.now c.args.template c.args.a in
    c.from_residual-in_err-under_tag-in-8.ensures ∙ coded (slot_at c.args.table.now c.args.template) _ 8 c.args.a c.args.b _ c.in-8.is
    (marked_other x Global 11 _ (c.under_tag-in-8.ensures ∙ ap (marked_as 11) c.slot_at-in-8.ensures) _ (global_slot x Global) c.in_err-under_tag-in-8.was)

pub returns-in_ok-under_tag-in-9 : goal.returns-in_ok-under_tag-in-9
unfolding slot_resolve rule_of
returns-in_ok-under_tag-in-9 c =
    let x = slot_at c.args.table.now c.args.template c.args.a in
    coded (slot_at c.args.table.now c.args.template) _ 9 c.args.a c.args.b _ c.in-9.is
    (marked_number x SetGlobal 11 _ (c.under_tag-in-9.ensures ∙ ap (marked_as 11) c.slot_at-in-9.ensures) _ (global_slot x SetGlobal) _ c.in_ok-under_tag-in-9.was)

pub returns-in_err-under_tag-in-9 : goal.returns-in_err-under_tag-in-9
unfolding slot_resolve rule_of
returns-in_err-under_tag-in-9 c =
    let x = slot_at c.args.table.now c.args.template c.args.a in
    c.from_residual-in_err-under_tag-in-9.ensures ∙ coded (slot_at c.args.table.now c.args.template) _ 9 c.args.a c.args.b _ c.in-9.is
    (marked_other x SetGlobal 11 _ (c.under_tag-in-9.ensures ∙ ap (marked_as 11) c.slot_at-in-9.ensures) _ (global_slot x SetGlobal) c.in_err-under_tag-in-9.was)

pub returns-in_default : goal.returns-in_default
returns-in_default c = c.unnamed.ensures ∙ other_code _ _ _ _ c.in_default.in_default-own.rest.0.0.0.1 c.in_default.in_default-own.rest.0.0.1 c.in_default.in_default-own.rest.0.1 c.in_default.in_default-own.rest.1
