-- `exporter::put_slots` meets its contract: the first places of the result hold the slots. Assumes nothing.
use Rattle.std.proofs.Common.{◌≡◌, ◌+◌, length, zero-add}
use Rattle.std.proofs.lemmas.List.Edits.{sets-eq}
use native.Mathlib.Omega.{arith}
use Rattle.exporter.proofs.put_slots.Goals as goal

pub returns : goal.returns
returns c =
    let n : 0 + length c.args.slots.now ≡ length c.args.slots.now = zero-add (length c.args.slots.now) in
    rw (c.copy_from_slice.ensures.after, sets-eq c.args.slots.now c.args.res.now 0 (omega (arith, c.requires)), n)
