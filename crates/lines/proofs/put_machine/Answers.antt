-- `lines::put_machine` meets its contract: the name with its blank, then the rest of the line. Assumes nothing.
use native.Mathlib.Omega.{arith}
use mathlib.Core.List.{append_assoc}
use lib.ListN.{length-append}
use Rattle.lines.specs.Lines.{machine_line}
use Rattle.text.specs.laws.Laws.{put_then, put_length}
use Rattle.lines.proofs.put_machine.Goals as goal

pub put_end-requires : goal.put_end-requires
put_end-requires c = omega (arith, simp length-append at c.put_word-next.ensures.next, put_length c.put_word-next.ensures)

pub returns : goal.returns
unfolding machine_line
returns c = record { put = simp append_assoc at (put_then c.put_word-next.ensures c.put_end.ensures.put); upper_bound = omega (arith, simp length-append at c.put_word-next.ensures.next) }
