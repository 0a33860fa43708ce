-- Bytes put into a buffer from a place on.
use Rattle.std.specs.Prelude.{ℕ, ◌+◌, ◌≡◌, List, length}
use Rattle.std.proofs.lemmas.List.Edits.{sets}

-- the buffer old with bs from place at on is new, and r is the place after them
pub record Put (old : List ℕ) (at : ℕ) (new : List ℕ) (r : ℕ) (bs : List ℕ) : Type 0 where
  pub next : r ≡ at + length bs
  pub holds : new ≡ sets old at bs
