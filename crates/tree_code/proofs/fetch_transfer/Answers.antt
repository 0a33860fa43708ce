-- `tree_code::fetch_transfer` meets its contract. Assumes nothing.
use mathlib.Core.Path.{refl}
use borrow.Author.Tests.{ne_eqb}
use Rattle.machines.specs.Instruction.{number, form_of, fetched_as, Places}
use Rattle.tree_code.specs.Fetch.{transfer_as}
use Rattle.tree_code.proofs.fetch_transfer.Goals as goal

pub returns-in-1 : goal.returns-in-1
unfolding fetched_as transfer_as number form_of Places
returns-in-1 c = (λ slot. rw c.in-1.is refl, tt)

pub returns-in-2 : goal.returns-in-2
unfolding fetched_as transfer_as number form_of Places
returns-in-2 c = (λ slot. rw c.in-2.is refl, tt)

pub returns-in-3 : goal.returns-in-3
unfolding fetched_as transfer_as number form_of Places
returns-in-3 c = (λ slot. rw (c.in-3.is, c.link_at-second.ensures) refl, (refl, refl))

pub returns-in-4 : goal.returns-in-4
unfolding fetched_as transfer_as number form_of Places
returns-in-4 c = (λ slot. rw (c.in-4.is, c.link_at-rest.ensures) refl, (refl, refl, c.requires))

pub returns-in_default : goal.returns-in_default
unfolding fetched_as transfer_as number form_of Places
returns-in_default c = (λ slot. rw (ne_eqb _ 1 c.in_default.in_default-own.rest.0.0.0.1, ne_eqb _ 2 c.in_default.in_default-own.rest.0.0.1, ne_eqb _ 3 c.in_default.in_default-own.rest.0.1, ne_eqb _ 4 c.in_default.in_default-own.rest.1) refl, tt)
