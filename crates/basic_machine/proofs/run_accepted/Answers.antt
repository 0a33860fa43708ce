-- `basic_machine::run_accepted` meets its contract. Assumes nothing.
use native.Mathlib.Omega.{arith}
use mathlib.Core.Path.{◌∙◌}
use Rattle.basic_machine.proofs.theorems.RunLaws.{file_short, file_fresh, linked_ran}
use Rattle.basic_machine.proofs.run_accepted.Goals as goal

pub link_list-requires : goal.link_list-requires
link_list-requires c =
    let pre = c.requires in
    let w = pre.0 in
    (file_short _ w, omega arith, file_fresh _ w)

pub run_code-requires : goal.run_code-requires
run_code-requires c =
    let pre = c.requires in
    file_short _ pre.0

pub returns : goal.returns
returns c =
    let p = c.requires in
    linked_ran _ p.0 _ _ _ _ _ _ _ _ _ p.2 p.1 c.link_list.ensures (c.from_slot-first.ensures ∙ c.slot_at.ensures) c.run_code.ensures
