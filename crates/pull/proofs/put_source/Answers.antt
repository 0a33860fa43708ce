-- `pull::put_source` meets its contract: an integer has at most 16 bytes, so the second has room too. Assumes nothing.
use native.Mathlib.Omega.{arith}
use Rattle.text.specs.laws.Laws.{put_then, put_length}
use Rattle.pull.proofs.Lines.{integer_short, put_two}
use Rattle.pull.proofs.put_source.Goals as goal

pub put_integer-newline-requires : goal.put_integer-newline-requires
put_integer-newline-requires c =
    let p = c.put_integer-blank.ensures.put in
    let q = c.put_byte-next.ensures in
    omega (arith, p.next, integer_short c.args.i, put_length p, q.next, put_length q)

pub put_byte-requires : goal.put_byte-requires
put_byte-requires c =
    let p = c.put_integer-blank.ensures.put in
    let q = c.put_byte-next.ensures in
    let r = c.put_integer-newline.ensures.put in
    let i = integer_short c.args.i in
    let o = integer_short c.args.o in
    omega (arith, p.next, i, put_length p, q.next, put_length q, r.next, o, put_length r)

pub returns : goal.returns
returns c =
    let p = c.put_integer-blank.ensures.put in
    let q = c.put_byte-next.ensures in
    let r = c.put_integer-newline.ensures.put in
    let s = c.put_byte.ensures in
    let i = integer_short c.args.i in
    let o = integer_short c.args.o in
    record { put = put_two _ _ (put_then p q) (put_then r s); upper_bound = omega (arith, p.next, i, q.next, r.next, o, s.next) }
