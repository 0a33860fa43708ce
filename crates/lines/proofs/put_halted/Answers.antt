-- `lines::put_halted` meets its contract: three words, each with what follows it. Assumes nothing.
use native.Mathlib.Omega.{arith}
use Rattle.lines.specs.Lines.{end_words}
use Rattle.text.specs.laws.Laws.{put_then, put_line}
use Rattle.lines.proofs.put_halted.Goals as goal

pub returns : goal.returns
unfolding end_words
returns c = record { put = put_line _ _ _ c.put_word-first.ensures (put_then c.put_answer-second.ensures.put c.put_byte-third.ensures) c.put_number.ensures.put; upper_bound = omega arith }
