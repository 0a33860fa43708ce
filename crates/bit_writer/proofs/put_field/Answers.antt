-- `bit_writer::put_field` meets its contract: the one or two bytes that are stored are those of the bits. Assumes nothing.
use native.Mathlib.Omega.{arith}
use Rattle.bit_writer.proofs.theorems.Laws.{two_small, put_none, put_one, put_two}
use Rattle.bit_writer.proofs.put_field.Goals as goal

pub returns-then-n-eq0 : goal.returns-then-n-eq0
returns-then-n-eq0 c = (omega (arith, c.if-n-eq0.true), put_none c.args.out.now c.args.at.0 c.args.width c.args.value (omega (arith, c.bit-skipped.ensures, c.if-n-eq0.true)))

pub overflow_cast-out : goal.overflow_cast-out
overflow_cast-out c =
    let h = c.requires in
    let e = c.byte-i.ensures in
    let byte = rw e at (c.slice_known-2-1.given c.byte-i.result) in
    rw (e, c.bit-skipped.ensures) (omega (arith, two_small c.args.out.now c.args.at.0 c.args.width c.args.value (omega (arith, byte)) h.1 h.2))

pub returns-then-n-gt8 : goal.returns-then-n-gt8
returns-then-n-gt8 c =
    let h = c.requires in
    let e = c.byte-i.ensures in
    let b = c.bit-skipped.ensures in
    let byte = rw e at (c.slice_known-2-1.given c.byte-i.result) in (
      c.past.ensures,
      rw (e, b) (put_two c.args.out.now c.args.at.0 c.args.width c.args.value (omega (arith, byte)) h.1 h.2
          (omega (arith, b, c.if-n-gt8.true))),
    )

pub returns : goal.returns
returns c =
    let h = c.requires in
    let e = c.byte-i.ensures in
    let b = c.bit-skipped.ensures in
    let byte = rw e at (c.slice_known-2-1.given c.byte-i.result) in
    let l = c.if-n-eq0.false in (
      c.past-2.ensures,
      rw (e, b) (put_one c.args.out.now c.args.at.0 c.args.width c.args.value (omega (arith, byte)) h.1 h.2 (omega (arith, b, l))
          (omega (arith, b, c.if-n-gt8.false))),
    )
