-- `tabulate::slot_bits` meets its contract: by its kind. Assumes nothing.
use Rattle.tabulate.specs.Collect.{slot_bits}
use borrow.Author.Tests.{ne_eqb}
use mathlib.Core.Path.{refl}
use Rattle.tabulate.proofs.slot_bits.Goals as goal

pub returns-in-4 : goal.returns-in-4
unfolding slot_bits
returns-in-4 c = rw c.in-4.is refl

pub returns-in-5 : goal.returns-in-5
unfolding slot_bits
returns-in-5 c = rw c.in-5.is refl

pub returns-in-6 : goal.returns-in-6
unfolding slot_bits
returns-in-6 c = rw c.in-6.is refl

pub returns-in-7 : goal.returns-in-7
unfolding slot_bits
returns-in-7 c = rw c.in-7.is refl

pub returns-in_default : goal.returns-in_default
unfolding slot_bits
returns-in_default c = rw (ne_eqb _ 4 c.in_default.in_default-own.rest.0.0.0.1, ne_eqb _ 5 c.in_default.in_default-own.rest.0.0.1, ne_eqb _ 6 c.in_default.in_default-own.rest.0.1, ne_eqb _ 7 c.in_default.in_default-own.rest.1) refl
