-- `text::put_bytes` meets its contract: the part of the buffer holds the bytes. Assumes nothing.
use Rattle.text.proofs.Laws.{part_put}
use mathlib.Core.Path.{refl}
use Rattle.text.proofs.put_bytes.Goals as goal

pub returns : goal.returns
returns c = part_put _ _ _ _ _ c.copy_from_slice.ensures.after refl c.requires
