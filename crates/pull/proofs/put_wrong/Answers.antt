-- `pull::put_wrong` meets its contract: a word and a number, each with what follows it. Assumes nothing.
use native.Mathlib.Omega.{arith}
use Rattle.pull.proofs.Lines.{put_two}
use Rattle.pull.proofs.put_wrong.Goals as goal

pub returns : goal.returns
returns c = record { put = put_two _ _ c.put_word-next.ensures c.put_number.ensures.put; upper_bound = omega arith }
