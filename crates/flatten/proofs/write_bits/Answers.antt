-- `flatten::write_bits` meets its contract: the loop's invariant: what is left of the bits goes into what is left of the part. Assumes nothing.
use Rattle.std.proofs.Common.{◌<◌, ◌+◌, ◌-◌, ◌/◌, ◌≡◌, arith, refl, ◌∙◌, length-set}
use Rattle.flatten.specs.laws.Copied.{bytes_none, bytes_on, bytes_count, part_set}
use Rattle.flatten.proofs.write_bits.Goals as goal

pub loop-byte-preserved : goal.loop-byte-preserved
loop-byte-preserved c =
    let i = c.loop-byte.invariant in
    let l : c.loop-byte.here.0 < c.args.end.0 = omega (arith, i.0, c.loop-byte-test.true) in
    let on = i.2 ∙ bytes_on _ _ _ _ _ _ l c.first_byte.ensures in
    (omega (arith, i.0, l, c.past-here.ensures), simp length-set i.1, rw c.past-here.ensures on)

pub returns : goal.returns
returns c =
    let i = c.loop-byte.invariant in
    let n = c.args.front + (c.since.result + 7) / 8 - c.args.front in
    let size : (c.args.end.0 - c.args.at.0 + 7) / 8 ≡ n = rw c.since.ensures (omega arith) in
    let rest = bytes_none c.args.s.now c.loop-byte.here.0 c.args.end.0 (omega (arith, i.0, c.loop-byte-test.false)) in
    part_set c.args.out.now _ _ c.args.front n (omega (arith, c.requires.out_long, size)) (bytes_count c.args.s.now _ _ ∙ size) (i.2 ∙ rw rest refl)
