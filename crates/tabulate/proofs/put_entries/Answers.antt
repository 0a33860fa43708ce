-- `tabulate::put_entries` meets its contract: one slot after the other. Assumes nothing.
use Rattle.tabulate.specs.laws.PutLaws.{listing_begin, slot_next, listing_room, listing_on, listing_end}
use mathlib.Core.Path.{refl}
use native.Mathlib.Omega.{arith}
use Rattle.tabulate.proofs.put_entries.Goals as goal

pub loop-slot-init : goal.loop-slot-init
loop-slot-init c = (refl, λ w. listing_begin w)

pub put_entry-here-requires : goal.put_entry-here-requires
put_entry-here-requires c =
    let pre = c.requires in
    let k = c.loop-slot.invariant.1 pre.2 in (
      omega (arith, c.loop-slot.invariant.0, pre.1),
      slot_next k c.loop-slot-test.true (omega arith),
      listing_room k c.loop-slot-test.true (omega arith),
    )

pub loop-slot-preserved : goal.loop-slot-preserved
loop-slot-preserved c =
    let pre = c.requires in (
      (listing_on (c.loop-slot.invariant.1 pre.2) c.loop-slot-test.true (omega arith) c.put_entry-here.ensures).put.long,
      λ w. listing_on (c.loop-slot.invariant.1 w) c.loop-slot-test.true (omega arith) c.put_entry-here.ensures,
    )

pub returns : goal.returns
returns c = λ w. listing_end (c.loop-slot.invariant.1 w) (omega (arith, c.loop-slot-test.false))
