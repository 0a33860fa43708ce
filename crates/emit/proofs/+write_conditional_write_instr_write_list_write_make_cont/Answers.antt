-- The cycle of calls {write_conditional, write_instr, write_list, write_make_cont} meets its contracts: a level falls at each list inside an
-- instruction, and the unread bits within a list. Assumes nothing.
use lib.ListN.{length-set}
use Rattle.fields.specs.laws.Laws.{field_small, line_code, line_first}
use Rattle.files.specs.Codes.{shape_of}
use Rattle.lists.specs.Shapes.{Numbered}
use Rattle.lists.specs.laws.ShapeLaws.{not_end, no_instruction}
use Rattle.lists.specs.laws.Known.{head_within}
use Rattle.emit.specs.laws.Steps.{deeper_arms, item_arms, arms_item, deeper_saved, item_saved, saved_item, plain, plain_room, plain_item_lem}
use Rattle.emit.specs.laws.Steps.{saved_size, saved_cut, saved_rest, saved_to_write, saved_done}
use Rattle.emit.specs.laws.Steps.{left_all, left_within, left_none, left_item, left_less, next_is, back_less, left_next}
use native.Mathlib.Omega.{arith}
use mathlib.Core.Path.{refl, ◌∙◌}
use Rattle.emit.specs.laws.Steps.{first_room, arms_room, arms_near, jump_near, first_to_write, second_to_write, arms_done}
use Prim.Native.Nat.{ℕ}
use Rattle.emit.proofs.+write_conditional_write_instr_write_list_write_make_cont.Goals as goal
use Rattle.emit.proofs.+write_conditional_write_instr_write_list_write_make_cont.Goals.{write_list-After-shape_of}
use Rattle.fields.specs.Field.{field_at}

pub write_conditional-overflow_add-turn-2 : goal.write_conditional-overflow_add-turn-2
write_conditional-overflow_add-turn-2 t c = omega (arith, first_room c.requires.2 _ _ c.measure-first.ensures c.gap-jump.ensures, c.requires.2.room, c.requires.1)

pub write_conditional-overflow_add-end : goal.write_conditional-overflow_add-end
write_conditional-overflow_add-end t c =
    omega (
      arith,
      arms_room c.requires.2 _ _ c.measure-first.ensures c.gap-jump.ensures
          (c.write_list-mid.ensures (first_to_write c.requires.2 _ _ c.measure-first.ensures c.gap-jump.ensures)).0 _ c.measure-second.ensures,
      c.requires.2.room,
      c.requires.1,
      c.well_formed,
    )

pub write_conditional-overflow_add-end-2 : goal.write_conditional-overflow_add-end-2
write_conditional-overflow_add-end-2 t c =
    omega (
      arith,
      arms_room c.requires.2 _ _ c.measure-first.ensures c.gap-jump.ensures
          (c.write_list-mid.ensures (first_to_write c.requires.2 _ _ c.measure-first.ensures c.gap-jump.ensures)).0 _ c.measure-second.ensures,
      c.requires.2.room,
      c.requires.1,
      c.well_formed,
    )

pub write_conditional-overflow_add-jump : goal.write_conditional-overflow_add-jump
write_conditional-overflow_add-jump t c = omega (arith, arms_near c.requires.2 _ _ c.measure-first.ensures c.gap-jump.ensures)

pub write_conditional-put_offset-requires : goal.write_conditional-put_offset-requires
write_conditional-put_offset-requires t c = (
  omega (arith, first_room c.requires.2 _ _ c.measure-first.ensures c.gap-jump.ensures, c.requires.2.room, c.requires.1),
  omega (arith, arms_near c.requires.2 _ _ c.measure-first.ensures c.gap-jump.ensures),
)

pub write_conditional-write_list-mid-requires : goal.write_conditional-write_list-mid-requires
write_conditional-write_list-mid-requires t c = (
  omega (arith, c.decreases),
  (
    c.requires.0,
    omega
        (arith, first_room c.requires.2 _ _ c.measure-first.ensures c.gap-jump.ensures, c.requires.2.room, c.requires.1, c.put_offset.auto.out),
    first_to_write c.requires.2 _ _ c.measure-first.ensures c.gap-jump.ensures,
  ),
)

pub write_conditional-put_jump-requires : goal.write_conditional-put_jump-requires
write_conditional-put_jump-requires t c = (
  omega (
    arith,
    arms_room c.requires.2 _ _ c.measure-first.ensures c.gap-jump.ensures
        (c.write_list-mid.ensures (first_to_write c.requires.2 _ _ c.measure-first.ensures c.gap-jump.ensures)).0 _ c.measure-second.ensures,
    c.requires.2.room,
    c.requires.1,
    c.gap-jump.ensures,
    c.put_offset.auto.out,
    c.write_list-mid.auto.out,
  ),
  jump_near c.requires.2 _ _ c.measure-first.ensures c.gap-jump.ensures (c.write_list-mid.ensures (first_to_write c.requires.2 _ _ c.measure-first.ensures c.gap-jump.ensures)).0 _
      c.measure-second.ensures,
)

pub write_conditional-overflow_add-turn-3 : goal.write_conditional-overflow_add-turn-3
write_conditional-overflow_add-turn-3 t c =
    omega (
      arith,
      arms_room c.requires.2 _ _ c.measure-first.ensures c.gap-jump.ensures
          (c.write_list-mid.ensures (first_to_write c.requires.2 _ _ c.measure-first.ensures c.gap-jump.ensures)).0 _ c.measure-second.ensures,
      c.requires.2.room,
      c.requires.1,
      c.well_formed,
    )

pub write_conditional-write_list-next-requires : goal.write_conditional-write_list-next-requires
write_conditional-write_list-next-requires t c = (
  omega (arith, c.decreases),
  (
    c.requires.0,
    omega (
      arith,
      arms_room c.requires.2 _ _ c.measure-first.ensures c.gap-jump.ensures
          (c.write_list-mid.ensures (first_to_write c.requires.2 _ _ c.measure-first.ensures c.gap-jump.ensures)).0 _ c.measure-second.ensures,
      c.requires.2.room,
      c.requires.1,
      c.put_offset.auto.out,
      c.write_list-mid.auto.out,
      c.put_jump.auto.out,
    ),
    second_to_write c.requires.2 _ _ c.measure-first.ensures c.gap-jump.ensures
        (c.write_list-mid.ensures (first_to_write c.requires.2 _ _ c.measure-first.ensures c.gap-jump.ensures)).0 _ c.measure-second.ensures,
  ),
)

pub write_conditional-returns : goal.write_conditional-returns
write_conditional-returns t c =
    λ w. arms_done w _ _ c.measure-first.ensures c.gap-jump.ensures (c.write_list-mid.ensures (first_to_write w _ _ c.measure-first.ensures c.gap-jump.ensures)).0 _
    c.measure-second.ensures _ c.put_offset.ensures (c.write_list-mid.ensures (first_to_write w _ _ c.measure-first.ensures c.gap-jump.ensures)).1 c.put_jump.ensures
    (c.write_list-next.ensures
    (second_to_write w _ _ c.measure-first.ensures c.gap-jump.ensures (c.write_list-mid.ensures (first_to_write w _ _ c.measure-first.ensures c.gap-jump.ensures)).0 _
    c.measure-second.ensures))

pub write_instr-past-requires : goal.write_instr-past-requires
write_instr-past-requires t c = omega (arith, c.requires.0, head_within _ _ _ c.requires.4.read)

pub write_instr-overflow_sub-levels : goal.write_instr-overflow_sub-levels
unfolding Numbered
write_instr-overflow_sub-levels t c =
    let k = deeper_arms c.requires.4 (rw c.in-Branch.is at c.requires.3) in
    omega arith

pub write_instr-write_conditional-requires : goal.write_instr-write_conditional-requires
unfolding Numbered
write_instr-write_conditional-requires t c =
    let shape = rw c.in-Branch.is at c.requires.3 in
    let k = deeper_arms c.requires.4 shape in (
      omega (arith, c.decreases),
      (c.requires.0, c.requires.1, rw c.past.ensures (item_arms c.requires.4 shape)),
    )

pub write_instr-past-requires-in-Save : goal.write_instr-past-requires-in-Save
unfolding Numbered
write_instr-past-requires-in-Save t c =
    let k = deeper_saved c.requires.4 (rw c.in-Save.is at c.requires.3) in
    omega (arith, c.requires.0)

pub write_instr-overflow_sub-levels-in-Save : goal.write_instr-overflow_sub-levels-in-Save
unfolding Numbered
write_instr-overflow_sub-levels-in-Save t c =
    let k = (deeper_saved c.requires.4 (rw c.in-Save.is at c.requires.3)).0 in
    omega arith

pub write_instr-write_make_cont-requires : goal.write_instr-write_make_cont-requires
unfolding Numbered
write_instr-write_make_cont-requires t c =
    let shape = rw c.in-Save.is at c.requires.3 in
    let k = (deeper_saved c.requires.4 shape).0 in (
      omega (arith, c.decreases),
      (c.requires.0, omega arith, c.requires.1, rw c.past-in-Save.ensures (item_saved c.requires.4 shape)),
    )

pub write_instr-write_simple-requires : goal.write_instr-write_simple-requires
unfolding Numbered
write_instr-write_simple-requires t c =
    let shape = rw c.in-Plain.is at c.requires.3 in
    let r = plain_room c.requires.4 (λ e. omega (arith, shape)) (λ e. omega (arith, shape)) in
    (shape.1, omega (arith, c.requires.2, field_small c.args.s.now c.args.rest.at.0 21), omega (arith, r, shape, c.requires.1))

pub write_instr-past-requires-in-Plain : goal.write_instr-past-requires-in-Plain
unfolding Numbered
write_instr-past-requires-in-Plain t c =
    let shape = rw c.in-Plain.is at c.requires.3 in
    let k = plain c.requires.4 (λ e. omega (arith, shape)) (λ e. omega (arith, shape)) in
    omega (arith, k.2, shape, c.requires.0)

pub write_instr-unreachable-requires : goal.write_instr-unreachable-requires
write_instr-unreachable-requires t c =
    let other = no_instruction _ _ c.requires.3 c.in-End.is in
    let k = plain c.requires.4 (other 4 (omega arith) (omega arith)) (other 5 (omega arith) (omega arith)) in
    other _ k.0 (omega (arith, k.1)) refl

pub write_instr-returns-in-Branch : goal.write_instr-returns-in-Branch
unfolding Numbered
write_instr-returns-in-Branch t c = λ w. arms_item w (rw c.in-Branch.is at c.requires.3) _ c.past.ensures c.write_conditional.ensures

pub write_instr-returns-in-Save : goal.write_instr-returns-in-Save
unfolding Numbered
write_instr-returns-in-Save t c =
    λ w. saved_item w (rw c.in-Save.is at c.requires.3) _ (line_first _ _ _ c.requires.2) c.past-in-Save.ensures
    c.write_make_cont.ensures

pub write_instr-returns-in-Plain : goal.write_instr-returns-in-Plain
unfolding Numbered
write_instr-returns-in-Plain t c =
    let shape = rw c.in-Plain.is at c.requires.3 in
    λ w. plain_item_lem w (λ e. omega (arith, shape)) (λ e. omega (arith, shape)) _ (omega (arith, shape)) c.past-in-Plain.ensures c.requires.2 c.write_simple.ensures

pub write_list-loop-shape-init : goal.write_list-loop-shape-init
write_list-loop-shape-init t c = (c.requires.1, refl, left_all _ _ _ _ _ _ _ c.requires.2)

pub write_list-line_at-line-requires : goal.write_list-line_at-line-requires
write_list-line_at-line-requires t c =
    let here = left_within _ _ _ _ _ _ _ _ _ _ _ c.loop-shape.invariant.2 in
    (omega (arith, c.requires.0), omega (arith, here))

pub write_list-past-requires : goal.write_list-past-requires
write_list-past-requires t c = omega (arith, c.requires.0, left_within _ _ _ _ _ _ _ _ _ _ _ c.loop-shape.invariant.2)

-- the shape of the code that stands next
shape_there : (t : ℕ) (k : write_list-After-shape_of t) → Numbered k.shape_of.result (shape_of (field_at k.args.s.now k.loop-shape.rest.at.0 5))
shape_there t k = rw (line_code _ _ _ k.line_at-line.ensures.0) at k.shape_of.ensures

pub write_list-returns-in-End : goal.write_list-returns-in-End
unfolding Numbered
write_list-returns-in-End t c =
    let none = rw c.in-End.is at (shape_there t (goal.at.write_list-returns-in-End t c).After-shape_of) in
    λ w. let l = left_none _ _ _ _ _ _ _ _ _ _ _ c.loop-shape.invariant.2 none w in
    (c.past.ensures ∙ l.0, l.1)

pub write_list-write_instr-rest-requires : goal.write_list-write_instr-rest-requires
write_list-write_instr-rest-requires t c =
    let shape = shape_there t (goal.at.write_list-write_instr-rest-requires t c).After-shape_of in
    let more = not_end _ _ shape c.in_default.not-End in (
      omega (arith, c.decreases),
      (
        c.requires.0,
        c.loop-shape.invariant.0,
        c.line_at-line.ensures.0,
        shape,
        left_item _ _ _ _ _ _ _ _ _ _ _ c.loop-shape.invariant.2 more,
      ),
    )

pub write_list-loop-shape-smaller : goal.write_list-loop-shape-smaller
write_list-loop-shape-smaller t c =
    let more = not_end _ _ (shape_there t (goal.at.write_list-loop-shape-smaller t c).After-shape_of) c.in_default.not-End in
    omega (
      arith,
      left_less _ _ _ _ _ _ _ _ _ _ _ c.loop-shape.invariant.2 more,
      next_is _ _ _ _ _ _ _ _ _ _ _ c.loop-shape.invariant.2 more (c.write_instr-rest.ensures (left_item _ _ _ _ _ _ _ _ _ _ _ c.loop-shape.invariant.2 more)),
    )

pub write_list-loop-shape-preserved : goal.write_list-loop-shape-preserved
write_list-loop-shape-preserved t c =
    let more = not_end _ _ (shape_there t (goal.at.write_list-loop-shape-preserved t c).After-shape_of) c.in_default.not-End in
    let item = c.write_instr-rest.ensures (left_item _ _ _ _ _ _ _ _ _ _ _ c.loop-shape.invariant.2 more) in (
      omega (arith, c.loop-shape.invariant.0, c.write_instr-rest.auto.out, back_less _ _ _ _ _ _ _ _ _ _ _ c.loop-shape.invariant.2 more item),
      c.write_instr-rest.auto.out ∙ c.loop-shape.invariant.1,
      left_next _ _ _ _ _ _ _ _ _ _ _ c.loop-shape.invariant.2 more item,
    )

pub write_make_cont-overflow_sub-cut : goal.write_make_cont-overflow_sub-cut
write_make_cont-overflow_sub-cut t c = omega (arith, saved_cut c.requires.3 _ c.measure-list.ensures, saved_size c.requires.3 _ c.measure-list.ensures, c.requires.3.room, c.requires.2)

pub write_make_cont-overflow_sub-cut-2 : goal.write_make_cont-overflow_sub-cut-2
write_make_cont-overflow_sub-cut-2 t c = omega (arith, saved_cut c.requires.3 _ c.measure-list.ensures, saved_size c.requires.3 _ c.measure-list.ensures, c.requires.3.room, c.requires.2)

pub write_make_cont-put_offset-requires : goal.write_make_cont-put_offset-requires
write_make_cont-put_offset-requires t c = (
  omega (arith, saved_cut c.requires.3 _ c.measure-list.ensures, saved_size c.requires.3 _ c.measure-list.ensures, c.requires.3.room, c.requires.2),
  omega (arith, saved_rest c.requires.3 _ c.measure-list.ensures, c.requires.3.fits),
)

pub write_make_cont-write_list-next-requires : goal.write_make_cont-write_list-next-requires
write_make_cont-write_list-next-requires t c = (omega (arith, c.decreases), (c.requires.0, simp length-set (omega (arith, c.requires.2, c.put_offset.auto.out)), saved_to_write c.requires.3 _ c.measure-list.ensures))

pub write_make_cont-returns : goal.write_make_cont-returns
write_make_cont-returns t c = λ w. saved_done (w) _ c.measure-list.ensures _ _ c.put_offset.ensures (c.write_list-next.ensures (saved_to_write (w) _ c.measure-list.ensures))
