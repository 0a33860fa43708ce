-- `machines::unnamed` meets its contract. Assumes nothing.
use mathlib.Core.Path.{refl}
use Rattle.machines.specs.Fetched.{rule_of}
use Rattle.machines.specs.Slots.{slot_resolve, resolved_as}
use Rattle.machines.proofs.ResolveLaws.{no_entry, coded, no_code}
use Rattle.machines.proofs.unnamed.Goals as goal

pub returns-in-10 : goal.returns-in-10
unfolding slot_resolve rule_of resolved_as
returns-in-10 c = coded no_entry _ 10 c.args.a c.args.b _ c.in-10.is refl

pub returns-in-11 : goal.returns-in-11
unfolding slot_resolve rule_of resolved_as
returns-in-11 c = coded no_entry _ 11 c.args.a c.args.b _ c.in-11.is refl

pub returns-in-12 : goal.returns-in-12
unfolding slot_resolve rule_of resolved_as
returns-in-12 c = coded no_entry _ 12 c.args.a c.args.b _ c.in-12.is refl

pub returns-in-13 : goal.returns-in-13
unfolding slot_resolve rule_of resolved_as
returns-in-13 c = coded no_entry _ 13 c.args.a c.args.b _ c.in-13.is refl

pub returns-in-15 : goal.returns-in-15
unfolding slot_resolve rule_of resolved_as
returns-in-15 c = coded no_entry _ 15 c.args.a c.args.b _ c.in-15.is refl

pub returns-in-16 : goal.returns-in-16
unfolding slot_resolve rule_of resolved_as
returns-in-16 c = coded no_entry _ 16 c.args.a c.args.b _ c.in-16.is refl

pub returns-in-18 : goal.returns-in-18
unfolding slot_resolve rule_of resolved_as
returns-in-18 c = coded no_entry _ 18 c.args.a c.args.b _ c.in-18.is refl

pub returns-in-19 : goal.returns-in-19
unfolding slot_resolve rule_of resolved_as
returns-in-19 c = coded no_entry _ 19 c.args.a c.args.b _ c.in-19.is refl

pub returns-in-20 : goal.returns-in-20
unfolding slot_resolve rule_of resolved_as
returns-in-20 c = coded no_entry _ 20 c.args.a c.args.b _ c.in-20.is refl

pub returns-in-21 : goal.returns-in-21
unfolding slot_resolve rule_of resolved_as
returns-in-21 c = coded no_entry _ 21 c.args.a c.args.b _ c.in-21.is refl

pub returns-in-22 : goal.returns-in-22
unfolding slot_resolve rule_of resolved_as
returns-in-22 c = coded no_entry _ 22 c.args.a c.args.b _ c.in-22.is refl

pub returns-in-23 : goal.returns-in-23
unfolding slot_resolve rule_of resolved_as
returns-in-23 c = coded no_entry _ 23 c.args.a c.args.b _ c.in-23.is refl

pub returns-in-24 : goal.returns-in-24
unfolding slot_resolve rule_of resolved_as
returns-in-24 c = coded no_entry _ 24 c.args.a c.args.b _ c.in-24.is refl

pub returns-in-25 : goal.returns-in-25
unfolding slot_resolve rule_of resolved_as
returns-in-25 c = coded no_entry _ 25 c.args.a c.args.b _ c.in-25.is refl

pub returns-in_default : goal.returns-in_default
returns-in_default c =
    no_code _ _ _ c.in_default.in_default-own.rest.0.0.0.0.0.0.0.0.0.0.0.0.0.1 c.in_default.in_default-own.rest.0.0.0.0.0.0.0.0.0.0.0.0.1 c.in_default.in_default-own.rest.0.0.0.0.0.0.0.0.0.0.0.1
    c.in_default.in_default-own.rest.0.0.0.0.0.0.0.0.0.0.1 c.in_default.in_default-own.rest.0.0.0.0.0.0.0.0.0.1 c.in_default.in_default-own.rest.0.0.0.0.0.0.0.0.1 c.in_default.in_default-own.rest.0.0.0.0.0.0.0.1 c.in_default.in_default-own.rest.0.0.0.0.0.0.1
    c.in_default.in_default-own.rest.0.0.0.0.0.1 c.in_default.in_default-own.rest.0.0.0.0.1 c.in_default.in_default-own.rest.0.0.0.1 c.in_default.in_default-own.rest.0.0.1 c.in_default.in_default-own.rest.0.1 c.in_default.in_default-own.rest.1
