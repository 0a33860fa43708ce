-- `lines::put_linear` meets its contract: a word and a number, each with what follows it. Assumes nothing.
use native.Mathlib.Omega.{arith}
use mathlib.Core.List.{append_assoc}
use Rattle.text.specs.Text.{line}
use Rattle.text.specs.laws.Laws.{put_then}
use Rattle.lines.proofs.put_linear.Goals as goal

pub returns : goal.returns
unfolding line
returns c = record { put = simp append_assoc at (put_then c.put_word-next.ensures c.put_number.ensures.put); upper_bound = omega arith }
