-- `text::put_number` meets its contract: a number, then what follows it. Assumes nothing.
use native.Mathlib.Omega.{arith}
use Rattle.text.specs.laws.Laws.{put_then}
use Rattle.text.proofs.put_number.Goals as goal

pub returns : goal.returns
returns c = record { put = put_then c.put_decimal-next.ensures.put c.put_byte.ensures; upper_bound = omega arith }
