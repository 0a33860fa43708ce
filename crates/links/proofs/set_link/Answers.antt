-- `links::set_link` meets its contract. Assumes nothing.
use mathlib.Core.Path.{refl, sym}
use lib.Seq.{set_out}
use Rattle.links.proofs.set_link.Goals as goal

pub returns-then-i-links : goal.returns-then-i-links
returns-then-i-links c = rw (c.to_link.ensures, c.link_index-i.ensures) refl

pub returns-else-i-links : goal.returns-else-i-links
returns-else-i-links c = rw (← c.link_index-i.ensures) (sym (set_out _ _ _ c.if-i-links.false))
