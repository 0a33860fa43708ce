-- `links::link_tree` meets its contract. The loop's invariant: what is left to link from template `own` on gives what the whole gives.
-- Assumes nothing.
use native.Mathlib.Omega.{arith}
use mathlib.Core.Path.{refl, sym, ◌∙◌}
use Rattle.links.specs.laws.TreeSteps.{ready_short, linked_all_lem, list_to_link, next_has, templates_same, template_linked, linked_on}
use Rattle.links.proofs.link_tree.Goals as goal

pub loop-own-init : goal.loop-own-init
loop-own-init c = (refl, c.requires.2)

pub link_list-requires : goal.link_list-requires
link_list-requires c =
    let pre = c.requires in
    let r = pre.0 in
    (ready_short r, omega arith, omega arith, rw c.from_slot-start.ensures (list_to_link r c.loop-own.own c.loop-own-test.true _ (c.loop-own.invariant.1 _ _ r.read)))

pub loop-own-preserved : goal.loop-own-preserved
loop-own-preserved c =
    let pre = c.requires in (
      linked_on _ _ (c.loop-own.invariant.0 ∙ template_linked pre.0 _ c.loop-own-test.true _) (rw c.from_slot-start.ensures at c.link_list.ensures),
      templates_same pre.0 _ _
          (next_has pre.0 c.loop-own.own c.loop-own-test.true _ (c.loop-own.invariant.1 _ _ pre.0.read) (rw c.from_slot-start.ensures at c.link_list.ensures)),
    )

pub returns : goal.returns
returns c = sym (c.loop-own.invariant.0 ∙ linked_all_lem c.requires.0 _ _ (omega arith))
