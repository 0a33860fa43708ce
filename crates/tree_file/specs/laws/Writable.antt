-- What a tree file can hold. Assumes nothing.
use Prim.Native.Nat.{◌<◌}
use Prim.Native.Nat.{ℕ}
use Rattle.std.proofs.Math.ListN.{length}
use Rattle.files.specs.Valid.{Valid}
use Rattle.files.specs.laws.EntriesLaws.{EntriesOk}
use Rattle.files.specs.Tree.{Template}
use Rattle.tree_file.specs.File.{levels}

-- template own of T can be written in a tree file
pub record TreeWritable (T own : ℕ) (t : Template) : Type 0 where
  pub entries_ok : EntriesOk own T t.entries
  pub few : length t.entries < 256
  pub valid_code : Valid t.code
  -- level 1 of 16, and those below it
  pub deep : levels t.code < 16
