-- `tabulate::entries_bits` meets its contract: one slot after the other. Assumes nothing.
use Rattle.std.proofs.Common.{arith}
use Rattle.std.proofs.lemmas.List.{take_all}
use Rattle.tabulate.specs.laws.BitsLaws.{bits_none, bits_on, bits_bound}
use Rattle.tabulate.proofs.entries_bits.Goals as goal

pub loop-slot-init : goal.loop-slot-init
loop-slot-init c = (bits_none c.args.slots.now, omega arith)

pub overflow_add-bits : goal.overflow_add-bits
overflow_add-bits c =
    let b = bits_bound _ _ c.slot_bits-bits.ensures in
    omega (arith, c.loop-slot.invariant.1, b, c.loop-slot-test.true, c.requires)

pub loop-slot-preserved : goal.loop-slot-preserved
loop-slot-preserved c =
    let k = c.loop-slot.invariant in
    let b = bits_bound _ _ c.slot_bits-bits.ensures in
    (bits_on c.args.slots.now _ _ _ k.0 c.loop-slot-test.true c.slot_bits-bits.ensures, omega (arith, k.1, b))

pub returns : goal.returns
returns c =
    let k = c.loop-slot.invariant in
    record { value = rw (take_all c.loop-slot.slot-index c.args.slots.now c.loop-slot-test.false) at k.0; upper_bound = omega (arith, k.1, c.loop-slot.auto) }
