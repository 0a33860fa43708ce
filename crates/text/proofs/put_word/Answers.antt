-- `text::put_word` meets its contract: a word, then a blank. Assumes nothing.
use Rattle.text.specs.laws.Laws.{put_then}
use Rattle.text.proofs.put_word.Goals as goal

pub returns : goal.returns
returns c = put_then c.put_bytes-next.ensures c.put_byte.ensures
