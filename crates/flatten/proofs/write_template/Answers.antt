-- `flatten::write_template` meets its contract: the four parts of its bytes, one after the other. Assumes nothing.
use native.Mathlib.Omega.{arith}
use mathlib.Core.Path.{◌∙◌}
use lib.ListN.{length-set}
use Rattle.flatten.specs.laws.TemplateSteps.{places, count_within, room_enough, size_small, list_to_write, template_done}
use borrow.Author.Rules.{rules}
use Rattle.flatten.proofs.write_template.Goals as goal

pub bits_at-requires : goal.bits_at-requires
bits_at-requires c =
    let w = c.requires in
    let m = c.from_slot-start.ensures in
    (omega (arith, w.sizes.0), (search rules, count_within w.to_write m _ c.measure-size.ensures))

pub bounds-out-front : goal.bounds-out-front
bounds-out-front c =
    let w = c.requires in
    let m = c.from_slot-start.ensures in
    let r = room_enough w.to_write m _ c.measure-size.ensures in
    let p = places w.to_write m _ c.measure-size.ensures in
    omega (arith, r, p, m, w.sizes.0, c.well_formed)

pub past-entries-requires : goal.past-entries-requires
past-entries-requires c =
    let w = c.requires in
    let m = c.from_slot-start.ensures in
    let r = room_enough w.to_write m _ c.measure-size.ensures in
    let p = places w.to_write m _ c.measure-size.ensures in
    omega (arith, r, p, m, w.sizes.0, c.well_formed)

pub write_bits-requires : goal.write_bits-requires
write_bits-requires c =
    let w = c.requires in
    let m = c.from_slot-start.ensures in
    let r = room_enough w.to_write m _ c.measure-size.ensures in
    let p = places w.to_write m _ c.measure-size.ensures in
    record {
      at_in = (w.sizes.0, omega (arith, r, p, m, w.sizes.0, c.well_formed, c.past-entries.ensures), p.1);
      out_long = simp length-set (omega (arith, r, p, m, w.sizes.0, c.well_formed, c.past-entries.ensures));
    }

pub since-requires : goal.since-requires
since-requires c =
    let w = c.requires in
    let m = c.from_slot-start.ensures in
    let r = room_enough w.to_write m _ c.measure-size.ensures in
    let p = places w.to_write m _ c.measure-size.ensures in
    omega (arith, r, p, m, w.sizes.0, c.well_formed, c.past-entries.ensures)

pub put_length-requires : goal.put_length-requires
put_length-requires c =
    let w = c.requires in
    let m = c.from_slot-start.ensures in
    let r = room_enough w.to_write m _ c.measure-size.ensures in
    let p = places w.to_write m _ c.measure-size.ensures in
    let a = c.past-entries.ensures in
    let b = c.since.ensures in
    let o = simp length-set at c.write_bits.auto.out in
    (omega (arith, r, p, m, w.sizes.0, c.well_formed), size_small w.to_write m _ c.measure-size.ensures w.sizes.0)

pub overflow_add-end-2 : goal.overflow_add-end-2
overflow_add-end-2 c =
    let w = c.requires in
    let m = c.from_slot-start.ensures in
    let r = room_enough w.to_write m _ c.measure-size.ensures in
    let p = places w.to_write m _ c.measure-size.ensures in
    let a = c.past-entries.ensures in
    let b = c.since.ensures in
    omega (arith, r, p, m, w.sizes.0, c.well_formed)

pub write_list-next-requires : goal.write_list-next-requires
write_list-next-requires c =
    let w = c.requires in
    let m = c.from_slot-start.ensures in
    let r = room_enough w.to_write m _ c.measure-size.ensures in
    let p = places w.to_write m _ c.measure-size.ensures in
    let a = c.past-entries.ensures in
    let b = c.since.ensures in
    let o = simp length-set at c.write_bits.auto.out in
    (w.sizes.0, omega (arith, r, p, m, w.sizes.0, c.well_formed, c.put_length.auto.out), list_to_write w.to_write m _ c.measure-size.ensures _)

pub shape_of-out : goal.shape_of-out
shape_of-out c =
    c.write_list-next.auto.out ∙ c.put_length.auto.out
    ∙ (simp length-set at c.write_bits.auto.out)

pub returns : goal.returns
returns c =
    λ w. let m = c.from_slot-start.ensures in let first = c.past-entries.ensures in let gap = c.since.ensures in let count = c.bits_at.ensures.0 in let entries =
    c.write_bits.ensures in let size = c.put_length.ensures in let list = c.write_list-next.ensures (list_to_write w m _ c.measure-size.ensures _) in
    template_done w m _ c.measure-size.ensures first gap _ count entries size list
