-- The cycle of calls {link_arms, link_list, link_saved}: levels fall where an instruction's lists are linked; within a list unread bits
-- fall. Assumes nothing.
use native.Mathlib.Omega.{arith}
use mathlib.Core.Path.{◌≡◌, refl, sym, ◌∙◌}
use Rattle.links.specs.laws.LinkSteps.{Outcome, outcome, arms_room, first_to_link, second_to_link, saved_room, saved_to_link, arms_linked, saved_linked, linked_on}
use Rattle.links.specs.laws.PartsLaws.{here_within}
use Rattle.links.specs.declared.Parts.{Parts}
use Prim.Native.Nat.{ℕ}
use Rattle.links.proofs.+link_arms_link_list_link_saved.Goals as goal
use Rattle.links.proofs.+link_arms_link_list_link_saved.Goals.{link_list-After-parts_at}

-- what is left to do, by what stands here
at_turn : (t : ℕ) (k : link_list-After-parts_at t) (x : Parts) →
    k.parts_at.result ≡ x
    → Outcome k.args.s.now k.args.levels k.loop-links.here.0 k.loop-links.links k.args.end.0 k.args.follow.0 x
at_turn t k x e = outcome _ _ _ k.loop-links.invariant.1 _ _ x (sym (k.parts_at.ensures _ k.loop-links.invariant.1) ∙ e)

pub link_arms-set_link-requires : goal.link_arms-set_link-requires
link_arms-set_link-requires t c = omega (arith, c.requires.0, arms_room c.requires.1)

pub link_arms-past-requires : goal.link_arms-past-requires
link_arms-past-requires t c = omega (arith, c.requires.0, arms_room c.requires.1)

pub link_arms-back-requires : goal.link_arms-back-requires
link_arms-back-requires t c = omega (arith, c.requires.0, arms_room c.requires.1)

pub link_arms-link_list-requires : goal.link_arms-link_list-requires
link_arms-link_list-requires t c = (
  omega arith,
  (
    c.requires.0,
    omega (arith, c.requires.0, arms_room c.requires.1, c.back.ensures),
    omega (arith, c.requires.0, arms_room c.requires.1),
    first_to_link c.requires.1 c.past.ensures c.set_link.ensures,
  ),
)

pub link_arms-back-requires-2 : goal.link_arms-back-requires-2
link_arms-back-requires-2 t c = omega (arith, c.requires.0, arms_room c.requires.1)

pub link_arms-link_list-requires-2 : goal.link_arms-link_list-requires-2
link_arms-link_list-requires-2 t c = (
  omega arith,
  (
    c.requires.0,
    omega (arith, c.requires.0, arms_room c.requires.1, c.back-2.ensures),
    omega (arith, c.requires.0, arms_room c.requires.1),
    second_to_link c.requires.1 c.past.ensures c.set_link.ensures _ c.link_list.ensures,
  ),
)

pub link_arms-returns : goal.link_arms-returns
link_arms-returns t c =
    arms_linked _ _ _ _ _ _ c.args.at.0 c.args.second.0 c.args.past.0 c.past.ensures c.back.ensures c.back-2.ensures c.set_link.ensures c.link_list.ensures
    c.link_list-2.ensures

pub link_list-loop-links-init : goal.link_list-loop-links-init
link_list-loop-links-init t c = (refl, c.requires.3, refl)

pub link_list-parts_at-requires : goal.link_list-parts_at-requires
link_list-parts_at-requires t c = (c.requires.0, here_within c.loop-links.invariant.1)

pub link_list-returns-in-End : goal.link_list-returns-in-End
link_list-returns-in-End t c = c.set_link.ensures ∙ sym (c.loop-links.invariant.0 ∙ at_turn t ((goal.at.link_list-returns-in-End t c).After-parts_at) _ c.in-End.is)

pub link_list-loop-links-smaller-in-Simple : goal.link_list-loop-links-smaller-in-Simple
link_list-loop-links-smaller-in-Simple t c = let w = at_turn t (goal.at.link_list-loop-links-smaller-in-Simple t c).After-parts_at _ c.in-Simple.is in omega arith

pub link_list-loop-links-preserved-in-Simple : goal.link_list-loop-links-preserved-in-Simple
link_list-loop-links-preserved-in-Simple t c =
    let w = at_turn t (goal.at.link_list-loop-links-preserved-in-Simple t c).After-parts_at _ c.in-Simple.is in
    (c.loop-links.invariant.0 ∙ w.links, w.rest, c.loop-links.invariant.2)

pub link_list-overflow_sub-levels : goal.link_list-overflow_sub-levels
link_list-overflow_sub-levels t c = let w = at_turn t (goal.at.link_list-overflow_sub-levels t c).After-parts_at _ c.in-Arms.is in omega (arith, w.levels_left)

pub link_list-link_arms-requires : goal.link_list-link_arms-requires
link_list-link_arms-requires t c =
    let w = at_turn t ((goal.at.link_list-link_arms-requires t c).After-parts_at) _ c.in-Arms.is in
    (omega (arith, w.levels_left), (c.requires.0, w.arms))

pub link_list-loop-links-smaller-in-Arms : goal.link_list-loop-links-smaller-in-Arms
link_list-loop-links-smaller-in-Arms t c =
    let w = at_turn t ((goal.at.link_list-loop-links-smaller-in-Arms t c).After-parts_at) _ c.in-Arms.is in
    omega arith

pub link_list-loop-links-preserved-in-Arms : goal.link_list-loop-links-preserved-in-Arms
link_list-loop-links-preserved-in-Arms t c =
    let w = at_turn t ((goal.at.link_list-loop-links-preserved-in-Arms t c).After-parts_at) _ c.in-Arms.is in
    (linked_on _ _ _ _ (c.loop-links.invariant.0 ∙ w.left.links) c.link_arms.ensures, rw c.link_arms.ensures w.left.rest, c.link_arms.auto.links ∙ c.loop-links.invariant.2)

pub link_list-overflow_sub-levels-in-Saved : goal.link_list-overflow_sub-levels-in-Saved
link_list-overflow_sub-levels-in-Saved t c = let w = at_turn t (goal.at.link_list-overflow_sub-levels-in-Saved t c).After-parts_at _ c.in-Saved.is in omega (arith, w.levels_left)

pub link_list-link_saved-requires : goal.link_list-link_saved-requires
link_list-link_saved-requires t c =
    let w = at_turn t ((goal.at.link_list-link_saved-requires t c).After-parts_at) _ c.in-Saved.is in
    (omega (arith, w.levels_left), (c.requires.0, c.requires.1, w.saved))

pub link_list-loop-links-smaller : goal.link_list-loop-links-smaller
link_list-loop-links-smaller t c =
    let w = at_turn t ((goal.at.link_list-loop-links-smaller t c).After-parts_at) _ c.in-Saved.is in
    omega arith

pub link_list-loop-links-preserved : goal.link_list-loop-links-preserved
link_list-loop-links-preserved t c =
    let w = at_turn t ((goal.at.link_list-loop-links-preserved t c).After-parts_at) _ c.in-Saved.is in (
      linked_on _ _ _ _ (c.loop-links.invariant.0 ∙ w.left.links) c.link_saved.ensures,
      rw c.link_saved.ensures w.left.rest,
      c.link_saved.auto.links ∙ c.loop-links.invariant.2,
    )

pub link_list-returns-in-Bad : goal.link_list-returns-in-Bad
link_list-returns-in-Bad t c = absurd (at_turn t (goal.at.link_list-returns-in-Bad t c).After-parts_at _ c.in-Bad.is)

pub link_saved-set_link-requires : goal.link_saved-set_link-requires
link_saved-set_link-requires t c = omega (arith, c.requires.0, saved_room c.requires.2)

pub link_saved-past-requires : goal.link_saved-past-requires
link_saved-past-requires t c = omega (arith, c.requires.0, saved_room c.requires.2)

pub link_saved-back-requires : goal.link_saved-back-requires
link_saved-back-requires t c = omega (arith, c.requires.0, saved_room c.requires.2)

pub link_saved-link_list-requires : goal.link_saved-link_list-requires
link_saved-link_list-requires t c = (
  omega arith,
  (
    c.requires.0,
    omega (arith, c.requires.0, saved_room c.requires.2, c.back.ensures),
    c.requires.1,
    saved_to_link c.requires.2 c.past.ensures c.set_link.ensures,
  ),
)

pub link_saved-returns : goal.link_saved-returns
link_saved-returns t c = saved_linked _ _ _ _ _ c.args.at.0 _ c.args.past.0 c.past.ensures c.back.ensures c.set_link.ensures c.link_list.ensures
