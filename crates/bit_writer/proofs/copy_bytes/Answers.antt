-- `bit_writer::copy_bytes` meets its contract. The loop's invariant: putting what is left of the bits into what is there now is putting all of them.
-- Assumes nothing.
use native.Mathlib.Omega.{arith}
use mathlib.Core.Path.{sym, ◌∙◌}
use lib.ListN.{length-set}
use Rattle.bit_writer.proofs.theorems.Laws.{bytes_on, bytes_done}
use Rattle.bit_writer.proofs.copy_bytes.Goals as goal

pub loop-i-preserved : goal.loop-i-preserved
loop-i-preserved c =
    let h = c.requires in
    let l = c.loop-i-test.true in
    let e = rw c.past.ensures at c.bits_at.ensures.0 in (
      simp length-set c.loop-i.invariant.0,
      c.loop-i.invariant.1 ∙ bytes_on c.args.s.now c.loop-i.out c.args.from.0 c.args.f c.loop-i.i c.args.count _ l (omega (arith, h.bytes_within, c.loop-i.invariant.0)) e,
    )

pub returns : goal.returns
returns c = let i = c.loop-i.invariant in bytes_done _ _ _ _ _ _ c.loop-i-test.false ∙ sym i.1
