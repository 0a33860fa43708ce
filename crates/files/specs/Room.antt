-- How many rows of a run's table a file takes.
use Rattle.std.specs.Prelude.{ℕ, ◌*◌, ◌≤◌, ◌≡◌, cond, List, length, replicate, leb}
use Rattle.files.specs.Reading.{Got, got, refused}
use Rattle.files.specs.Entries.{field}

-- T, by what it is read as
unfoldable pub counted : Got ℕ → ℕ
counted (got T p) = T
counted (refused n p) = 0

-- the number T of templates that the file begins with, 0 where none is read
unfoldable pub count_of : List ℕ → ℕ
count_of s = cond (leb (length s) 262144) (counted (field s 0 8)) 0

-- n numbers are a row for each template; more than 64 templates are refused before the first
abbrev pub RoomFor : List ℕ → ℕ → Type 0
RoomFor s n = count_of s ≤ 64 → 256 * count_of s ≤ n

-- zeros, with a row for each template of s
pub record ZerosFor (s table : List ℕ) : Type 0 where
  pub size : ℕ
  pub room : RoomFor s size
  pub zero : table ≡ replicate size 0
