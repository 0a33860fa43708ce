-- `rules::put` meets its contract. Assumes nothing.
use mathlib.Core.Path.{sym}
use lib.Seq.{set_out}
use Rattle.rules.proofs.put.Goals as goal

pub returns-else-at-s : goal.returns-else-at-s
returns-else-at-s c = sym (set_out _ _ _ c.if-at-s.false)
