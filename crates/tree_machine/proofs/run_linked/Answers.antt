-- `tree_machine::run_linked` meets its contract. Assumes nothing.
use mathlib.Core.Path.{◌∙◌}
use Rattle.links.specs.laws.TreeSteps.{ready_short}
use Rattle.tree_machine.specs.laws.FileLaws.{linked_ran}
use Rattle.tree_machine.proofs.run_linked.Goals as goal

pub run_code-requires : goal.run_code-requires
run_code-requires c =
    let p = c.requires in
    ready_short p.0

pub returns : goal.returns
returns c =
    let p = c.requires in
    linked_ran _ _ _ _ _ _ _ _ _ _ p.0 p.2 p.3 c.link_tree.ensures (c.from_slot-first.ensures ∙ c.slot_at.ensures) c.run_code.ensures
