-- `text::put_numbers` meets its contract: three words, each with what follows it. Assumes nothing.
use native.Mathlib.Omega.{arith}
use lib.ListN.{length-append}
use Rattle.text.specs.laws.Laws.{put_line, put_length}
use Rattle.text.proofs.put_numbers.Goals as goal

pub put_number-second-requires : goal.put_number-second-requires
put_number-second-requires c = omega (arith, simp length-append at c.put_word-first.ensures.next, put_length c.put_word-first.ensures)

pub put_number-requires : goal.put_number-requires
put_number-requires c = omega (arith, simp length-append at c.put_word-first.ensures.next, put_length c.put_word-first.ensures, put_length c.put_number-second.ensures.put)

pub returns : goal.returns
returns c = record { put = put_line _ _ _ c.put_word-first.ensures c.put_number-second.ensures.put c.put_number.ensures.put; upper_bound = omega (arith, simp length-append at c.put_word-first.ensures.next) }
