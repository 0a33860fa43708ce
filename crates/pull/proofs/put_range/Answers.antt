-- `pull::put_range` meets its contract: the media's frames as bits, the word, and the numbers. Assumes nothing.
use native.Mathlib.Omega.{arith}
use Rattle.text.specs.laws.Laws.{put_before}
use Rattle.pull.specs.Pull.{source_words}
use Rattle.pull.proofs.put_range.Goals as goal

pub returns : goal.returns
unfolding source_words
returns c =
    let word = rw (c.word_bits-first.ensures.result_value, c.word_bits-last.ensures.result_value) at c.put_verdict-next.ensures.put in
    record { put = put_before _ _ _ word c.put_source.ensures.put; upper_bound = omega arith }
