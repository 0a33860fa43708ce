-- The cycle of `basic_machine::link_list`: a list within a list begins further on; within a list unread bits fall. Assumes nothing.
use Prim.Native.Nat.{◌+◌, ◌*◌}
use native.Mathlib.Omega.{arith}
use mathlib.Core.Path.{refl, ap, ◌∙◌}
use borrow.Author.Rules.{rules}
use Rattle.links.specs.Links.{link}
use Rattle.basic_machine.proofs.theorems.TurnLaws.{reads_within, begun, parted_as, turn_end, turn_simple, turn_closure, turn_arms, turn_saved, turn_bad}
use Rattle.basic_machine.proofs.+link_list.Goals as goal

pub loop-links-init : goal.loop-links-init
loop-links-init t c = ((λ d h. begun _ _ _ _ _ _ c.requires.2 d h), refl, refl, c.requires.1, omega arith)

pub parts_at-requires : goal.parts_at-requires
parts_at-requires t c = c.requires.0

pub put_link-requires : goal.put_link-requires
put_link-requires t c = omega (arith, c.number.ensures, c.loop-links.invariant.3)

pub returns-in-End : goal.returns-in-End
returns-in-End t c =
    λ d h. turn_end _ _ _ _ _ _ _ _ _ _ _ _ (c.loop-links.invariant.0 d h)
    (parted_as _ _ c.in-End.is (c.parts_at.ensures (c.loop-links.invariant.0 d h).rest (c.loop-links.invariant.0 d h).reads))
    (c.put_link.ensures ∙ ap (λ n. link c.loop-links.links c.loop-links.here.0 n) c.number.ensures)

pub loop-links-smaller-in-Simple : goal.loop-links-smaller-in-Simple
loop-links-smaller-in-Simple t c =
    let w = turn_simple _ _ _ _ _ _ _ _ _ _ _ _ (c.loop-links.invariant.0 c.requires.2.code c.requires.2.reads) _
    (parted_as _ _ c.in-Simple.is
    (c.parts_at.ensures (c.loop-links.invariant.0 c.requires.2.code c.requires.2.reads).rest (c.loop-links.invariant.0 c.requires.2.code c.requires.2.reads).reads)) in
    omega (arith, w.1, reads_within _ _ _ w.0.reads)

pub loop-links-preserved-in-Simple : goal.loop-links-preserved-in-Simple
loop-links-preserved-in-Simple t c =
    let w = turn_simple _ _ _ _ _ _ _ _ _ _ _ _ (c.loop-links.invariant.0 c.requires.2.code c.requires.2.reads) _
    (parted_as _ _ c.in-Simple.is (c.parts_at.ensures (c.loop-links.invariant.0 c.requires.2.code c.requires.2.reads).rest
    (c.loop-links.invariant.0 c.requires.2.code c.requires.2.reads).reads)) in (
      (λ d h. (turn_simple _ _ _ _ _ _ _ _ _ _ _ _ (c.loop-links.invariant.0 d h) _
          (parted_as _ _ c.in-Simple.is (c.parts_at.ensures (c.loop-links.invariant.0 d h).rest (c.loop-links.invariant.0 d h).reads))).0),
      c.loop-links.invariant.1,
      c.loop-links.invariant.2,
      c.loop-links.invariant.3,
      omega (arith, w.1, c.loop-links.invariant.4),
    )

pub put_start-requires : goal.put_start-requires
put_start-requires t c =
    let w = turn_closure _ _ _ _ _ _ _ _ _ _ _ _ (c.loop-links.invariant.0 c.requires.2.code c.requires.2.reads) _ _ _
    (parted_as _ _ c.in-Closure.is
    (c.parts_at.ensures (c.loop-links.invariant.0 c.requires.2.code c.requires.2.reads).rest (c.loop-links.invariant.0 c.requires.2.code c.requires.2.reads).reads)) in
    omega (arith, w.below_64)

pub overflow_mul-number : goal.overflow_mul-number
overflow_mul-number t c =
    let w = turn_closure _ _ _ _ _ _ _ _ _ _ _ _ (c.loop-links.invariant.0 c.requires.2.code c.requires.2.reads) _ _ _
    (parted_as _ _ (c.in-Closure.is) (c.parts_at.ensures (c.loop-links.invariant.0 c.requires.2.code c.requires.2.reads).rest
    (c.loop-links.invariant.0 c.requires.2.code c.requires.2.reads).reads)) in
    omega (arith, c.number-in-Closure.ensures, w.below_64, w.within, c.requires.0)

pub overflow_add-number : goal.overflow_add-number
overflow_add-number t c =
    let w = turn_closure _ _ _ _ _ _ _ _ _ _ _ _ (c.loop-links.invariant.0 c.requires.2.code c.requires.2.reads) _ _ _
    (parted_as _ _ (c.in-Closure.is) (c.parts_at.ensures (c.loop-links.invariant.0 c.requires.2.code c.requires.2.reads).rest
    (c.loop-links.invariant.0 c.requires.2.code c.requires.2.reads).reads)) in
    omega (arith, c.number-in-Closure.ensures, w.below_64, w.within, c.requires.0)

pub put_link-requires-in-Closure : goal.put_link-requires-in-Closure
put_link-requires-in-Closure t c =
    let w = turn_closure _ _ _ _ _ _ _ _ _ _ _ _ (c.loop-links.invariant.0 c.requires.2.code c.requires.2.reads) _ _ _
    (parted_as _ _ (c.in-Closure.is) (c.parts_at.ensures (c.loop-links.invariant.0 c.requires.2.code c.requires.2.reads).rest
    (c.loop-links.invariant.0 c.requires.2.code c.requires.2.reads).reads)) in
    omega (arith, c.number-in-Closure.ensures, w.below_64, w.within, c.requires.0)

pub link_list-requires : goal.link_list-requires
link_list-requires t c =
    let w = turn_closure _ _ _ _ _ _ _ _ _ _ _ _ (c.loop-links.invariant.0 c.requires.2.code c.requires.2.reads) _ _ _
    (parted_as _ _ (c.in-Closure.is) (c.parts_at.ensures (c.loop-links.invariant.0 c.requires.2.code c.requires.2.reads).rest
    (c.loop-links.invariant.0 c.requires.2.code c.requires.2.reads).reads)) in
    (omega (arith, w.on, w.past, w.within, c.requires.0, c.loop-links.invariant.4, c.decreases), (c.requires.0, omega arith, w.fresh))

pub overflow_add-number-in-Closure-3 : goal.overflow_add-number-in-Closure-3
overflow_add-number-in-Closure-3 t c =
    let w = turn_closure _ _ _ _ _ _ _ _ _ _ _ _ (c.loop-links.invariant.0 c.requires.2.code c.requires.2.reads) _ _ _
    (parted_as _ _ (c.in-Closure.is) (c.parts_at.ensures (c.loop-links.invariant.0 c.requires.2.code c.requires.2.reads).rest
    (c.loop-links.invariant.0 c.requires.2.code c.requires.2.reads).reads)) in
    omega (arith, w.below_64)

pub loop-links-smaller-in-Closure : goal.loop-links-smaller-in-Closure
loop-links-smaller-in-Closure t c =
    let w = turn_closure _ _ _ _ _ _ _ _ _ _ _ _ (c.loop-links.invariant.0 c.requires.2.code c.requires.2.reads) _ _ _
    (parted_as _ _ (c.in-Closure.is) (c.parts_at.ensures (c.loop-links.invariant.0 c.requires.2.code c.requires.2.reads).rest
    (c.loop-links.invariant.0 c.requires.2.code c.requires.2.reads).reads)) in
    omega (arith, w.past, w.within)

pub loop-links-preserved-in-Closure : goal.loop-links-preserved-in-Closure
loop-links-preserved-in-Closure t c =
    let w = turn_closure _ _ _ _ _ _ _ _ _ _ _ _ (c.loop-links.invariant.0 c.requires.2.code c.requires.2.reads) _ _ _
    (parted_as _ _ (c.in-Closure.is) (c.parts_at.ensures (c.loop-links.invariant.0 c.requires.2.code c.requires.2.reads).rest
    (c.loop-links.invariant.0 c.requires.2.code c.requires.2.reads).reads)) in (
      (λ d h. (turn_closure _ _ _ _ _ _ _ _ _ _ _ _ (c.loop-links.invariant.0 d h) _ _ _
          (parted_as _ _ (c.in-Closure.is) (c.parts_at.ensures (c.loop-links.invariant.0 d h).rest (c.loop-links.invariant.0 d h).reads))).left _ _ _ _
          (c.put_link-in-Closure.ensures ∙ ap (λ n. link c.loop-links.links c.loop-links.here.0 (64 * n + c.loop-links.number)) c.number-in-Closure.ensures) c.put_start.ensures
          c.link_list.ensures),
      search rules,
      search rules,
      c.loop-links.invariant.3,
      omega (arith, w.past, c.loop-links.invariant.4),
    )

pub put_link-requires-in-Arms : goal.put_link-requires-in-Arms
put_link-requires-in-Arms t c =
    let w = turn_arms _ _ _ _ _ _ _ _ _ _ _ _ (c.loop-links.invariant.0 c.requires.2.code c.requires.2.reads) _ _ _ _ _
    (parted_as _ _ c.in-Arms.is (c.parts_at.ensures (c.loop-links.invariant.0 c.requires.2.code c.requires.2.reads).rest
    (c.loop-links.invariant.0 c.requires.2.code c.requires.2.reads).reads)) in
    omega (arith, c.number-in-Arms.ensures, w.short, w.within, c.requires.0)

pub link_list-requires-in-Arms : goal.link_list-requires-in-Arms
link_list-requires-in-Arms t c =
    let w = turn_arms _ _ _ _ _ _ _ _ _ _ _ _ (c.loop-links.invariant.0 c.requires.2.code c.requires.2.reads) _ _ _ _ _
    (parted_as _ _ c.in-Arms.is (c.parts_at.ensures (c.loop-links.invariant.0 c.requires.2.code c.requires.2.reads).rest
    (c.loop-links.invariant.0 c.requires.2.code c.requires.2.reads).reads)) in (
      omega (arith, w.on, w.past, w.within, c.requires.0, c.loop-links.invariant.4, c.decreases),
      (c.requires.0, w.small _ 524288 c.follow_of-after.ensures c.loop-links.invariant.3 (omega (arith, c.requires.0)), w.first_fresh),
    )

pub overflow_add-number-in-Arms : goal.overflow_add-number-in-Arms
overflow_add-number-in-Arms t c =
    let w = turn_arms _ _ _ _ _ _ _ _ _ _ _ _ (c.loop-links.invariant.0 c.requires.2.code c.requires.2.reads) _ _ _ _ _
    (parted_as _ _ c.in-Arms.is (c.parts_at.ensures (c.loop-links.invariant.0 c.requires.2.code c.requires.2.reads).rest
    (c.loop-links.invariant.0 c.requires.2.code c.requires.2.reads).reads)) in
    omega (arith, w.below_64)

pub link_list-requires-in-Arms-2 : goal.link_list-requires-in-Arms-2
link_list-requires-in-Arms-2 t c =
    let w = turn_arms _ _ _ _ _ _ _ _ _ _ _ _ (c.loop-links.invariant.0 c.requires.2.code c.requires.2.reads) _ _ _ _ _
    (parted_as _ _ c.in-Arms.is (c.parts_at.ensures (c.loop-links.invariant.0 c.requires.2.code c.requires.2.reads).rest
    (c.loop-links.invariant.0 c.requires.2.code c.requires.2.reads).reads)) in (
      omega (arith, w.middle, w.past, w.within, c.requires.0, c.loop-links.invariant.4, c.decreases),
      (c.requires.0, w.small _ 524288 c.follow_of-after.ensures c.loop-links.invariant.3 (omega (arith, c.requires.0)), w.second_fresh),
    )

pub overflow_add-number-in-Arms-2 : goal.overflow_add-number-in-Arms-2
overflow_add-number-in-Arms-2 t c =
    let w = turn_arms _ _ _ _ _ _ _ _ _ _ _ _ (c.loop-links.invariant.0 c.requires.2.code c.requires.2.reads) _ _ _ _ _
    (parted_as _ _ c.in-Arms.is (c.parts_at.ensures (c.loop-links.invariant.0 c.requires.2.code c.requires.2.reads).rest
    (c.loop-links.invariant.0 c.requires.2.code c.requires.2.reads).reads)) in
    omega (arith, w.below_64)

pub overflow_add-number-in-Arms-3 : goal.overflow_add-number-in-Arms-3
overflow_add-number-in-Arms-3 t c =
    let w = turn_arms _ _ _ _ _ _ _ _ _ _ _ _ (c.loop-links.invariant.0 c.requires.2.code c.requires.2.reads) _ _ _ _ _
    (parted_as _ _ c.in-Arms.is (c.parts_at.ensures (c.loop-links.invariant.0 c.requires.2.code c.requires.2.reads).rest
    (c.loop-links.invariant.0 c.requires.2.code c.requires.2.reads).reads)) in
    omega (arith, w.below_64)

pub loop-links-smaller-in-Arms : goal.loop-links-smaller-in-Arms
loop-links-smaller-in-Arms t c =
    let w = turn_arms _ _ _ _ _ _ _ _ _ _ _ _ (c.loop-links.invariant.0 c.requires.2.code c.requires.2.reads) _ _ _ _ _
    (parted_as _ _ c.in-Arms.is (c.parts_at.ensures (c.loop-links.invariant.0 c.requires.2.code c.requires.2.reads).rest
    (c.loop-links.invariant.0 c.requires.2.code c.requires.2.reads).reads)) in
    omega (arith, w.past, w.within)

pub loop-links-preserved-in-Arms : goal.loop-links-preserved-in-Arms
loop-links-preserved-in-Arms t c =
    let w = turn_arms _ _ _ _ _ _ _ _ _ _ _ _ (c.loop-links.invariant.0 c.requires.2.code c.requires.2.reads) _ _ _ _ _
    (parted_as _ _ c.in-Arms.is (c.parts_at.ensures (c.loop-links.invariant.0 c.requires.2.code c.requires.2.reads).rest
    (c.loop-links.invariant.0 c.requires.2.code c.requires.2.reads).reads)) in (
      (λ d h. (turn_arms _ _ _ _ _ _ _ _ _ _ _ _ (c.loop-links.invariant.0 d h) _ _ _ _ _
          (parted_as _ _ c.in-Arms.is (c.parts_at.ensures (c.loop-links.invariant.0 d h).rest (c.loop-links.invariant.0 d h).reads))).left _ c.follow_of-after.ensures _ _ _ _ _
          (c.put_link-in-Arms.ensures ∙ ap (λ n. link c.loop-links.links c.loop-links.here.0 n) c.number-in-Arms.ensures) c.link_list-in-Arms.ensures c.link_list-in-Arms-2.ensures),
      c.link_list-in-Arms-2.auto.links ∙ c.link_list-in-Arms.auto.links ∙ c.put_link-in-Arms.auto.links ∙ c.loop-links.invariant.1,
      c.link_list-in-Arms-2.auto.table ∙ c.link_list-in-Arms.auto.table ∙ c.loop-links.invariant.2,
      c.loop-links.invariant.3,
      omega (arith, w.past, c.loop-links.invariant.4),
    )

pub put_link-requires-in-Saved : goal.put_link-requires-in-Saved
put_link-requires-in-Saved t c =
    let w = turn_saved _ _ _ _ _ _ _ _ _ _ _ _ (c.loop-links.invariant.0 c.requires.2.code c.requires.2.reads) _ _ _
    (parted_as _ _ c.in-Saved.is (c.parts_at.ensures (c.loop-links.invariant.0 c.requires.2.code c.requires.2.reads).rest
    (c.loop-links.invariant.0 c.requires.2.code c.requires.2.reads).reads)) in
    omega (arith, c.number-in-Saved.ensures, w.within, c.requires.0)

pub link_list-requires-in-Saved : goal.link_list-requires-in-Saved
link_list-requires-in-Saved t c =
    let w = turn_saved _ _ _ _ _ _ _ _ _ _ _ _ (c.loop-links.invariant.0 c.requires.2.code c.requires.2.reads) _ _ _
    (parted_as _ _ c.in-Saved.is (c.parts_at.ensures (c.loop-links.invariant.0 c.requires.2.code c.requires.2.reads).rest
    (c.loop-links.invariant.0 c.requires.2.code c.requires.2.reads).reads)) in
    (omega (arith, w.on, w.past, w.within, c.requires.0, c.loop-links.invariant.4, c.decreases), (c.requires.0, c.loop-links.invariant.3, w.fresh))

pub overflow_add-number-in-Saved : goal.overflow_add-number-in-Saved
overflow_add-number-in-Saved t c =
    let w = turn_saved _ _ _ _ _ _ _ _ _ _ _ _ (c.loop-links.invariant.0 c.requires.2.code c.requires.2.reads) _ _ _
    (parted_as _ _ c.in-Saved.is (c.parts_at.ensures (c.loop-links.invariant.0 c.requires.2.code c.requires.2.reads).rest
    (c.loop-links.invariant.0 c.requires.2.code c.requires.2.reads).reads)) in
    omega (arith, w.below_64)

pub loop-links-smaller : goal.loop-links-smaller
loop-links-smaller t c =
    let w = turn_saved _ _ _ _ _ _ _ _ _ _ _ _ (c.loop-links.invariant.0 c.requires.2.code c.requires.2.reads) _ _ _
    (parted_as _ _ c.in-Saved.is (c.parts_at.ensures (c.loop-links.invariant.0 c.requires.2.code c.requires.2.reads).rest
    (c.loop-links.invariant.0 c.requires.2.code c.requires.2.reads).reads)) in
    omega (arith, w.past, w.within)

pub loop-links-preserved : goal.loop-links-preserved
loop-links-preserved t c =
    let w = turn_saved _ _ _ _ _ _ _ _ _ _ _ _ (c.loop-links.invariant.0 c.requires.2.code c.requires.2.reads) _ _ _
    (parted_as _ _ c.in-Saved.is (c.parts_at.ensures (c.loop-links.invariant.0 c.requires.2.code c.requires.2.reads).rest
    (c.loop-links.invariant.0 c.requires.2.code c.requires.2.reads).reads)) in (
      (λ d h. (turn_saved _ _ _ _ _ _ _ _ _ _ _ _ (c.loop-links.invariant.0 d h) _ _ _
          (parted_as _ _ c.in-Saved.is (c.parts_at.ensures (c.loop-links.invariant.0 d h).rest (c.loop-links.invariant.0 d h).reads))).left _ _ _
          (c.put_link-in-Saved.ensures ∙ ap (λ n. link c.loop-links.links c.loop-links.here.0 n) c.number-in-Saved.ensures) c.link_list-in-Saved.ensures),
      search rules,
      search rules,
      omega arith,
      omega (arith, w.past, c.loop-links.invariant.4),
    )

pub returns-in-Bad : goal.returns-in-Bad
returns-in-Bad t c =
    λ d h. absurd (turn_bad _ _ _ _ _ _ _ _ _ _ _ _ (c.loop-links.invariant.0 d h)
    (parted_as _ _ c.in-Bad.is (c.parts_at.ensures (c.loop-links.invariant.0 d h).rest (c.loop-links.invariant.0 d h).reads)))
