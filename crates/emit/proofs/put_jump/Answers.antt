-- `emit::put_jump` meets its contract: by the test. Assumes nothing.
use mathlib.Core.Path.{refl}
use Rattle.emit.specs.Written.{gap, jump_bytes}
use Rattle.emit.proofs.put_jump.Goals as goal

pub returns-then-closed : goal.returns-then-closed
unfolding jump_bytes
returns-then-closed c = rw c.if-closed.true refl

pub put_offset-requires : goal.put_offset-requires
unfolding gap
put_offset-requires c =
    let pre = c.requires in
    let h = rw c.if-closed.false at pre.0 in
    (h, pre.1 c.if-closed.false)

pub returns : goal.returns
unfolding jump_bytes
returns c = rw c.if-closed.false c.put_offset.ensures
