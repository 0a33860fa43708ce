-- The cycle of calls {link_arms, link_list, link_saved}: levels fall where an instruction's lists are linked; within a list unread bits
-- fall. Assumes nothing.
use Prim.Native.Nat.{◌+◌, ◌*◌, ◌-◌}
use mathlib.Core.Path.{◌≡◌}
use lib.ListN.{length}
use Rattle.files.specs.Reading.{list_at}
use Rattle.links.specs.Parts.{ToLink, linked_got}
use Rattle.links.proofs.+link_arms_link_list_link_saved.Given as goal

abbrev pub decreases-link_arms : goal.decreases-link_arms
decreases-link_arms l = 2 * l.levels + 1

abbrev pub decreases-link_list : goal.decreases-link_list
decreases-link_list l = 2 * l.levels

abbrev pub decreases-link_saved : goal.decreases-link_saved
decreases-link_saved l = 2 * l.levels + 1

abbrev pub invariant-link_list-loop-links : goal.invariant-link_list-loop-links
invariant-link_list-loop-links l = (linked_got l.initial.links l.initial.here.0 l.end.0 l.follow.0 (list_at l.s l.levels l.initial.here.0) ≡ linked_got l.links l.here.0 l.end.0 l.follow.0 (list_at l.s l.levels l.here.0))
    × ToLink l.s l.links l.levels l.here.0
    × (length l.links ≡ length l.initial.links)

abbrev pub decreases-link_list-loop-links : goal.decreases-link_list-loop-links
decreases-link_list-loop-links l = 8 * length l.s - l.here.0
