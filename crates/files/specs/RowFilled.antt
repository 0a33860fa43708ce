-- A table that is filled row by row.
use Rattle.std.specs.Prelude.{ℕ, ◌*◌, ◌-◌, ◌≤◌, ◌≡◌, List, length, drop, replicate}

-- ---- a table of T rows at least, of which row own and those after it are still zero
abbrev pub Unfilled : ℕ → ℕ → List ℕ → Type 0
Unfilled T own table = (256 * T ≤ length table) × (drop (256 * own) table ≡ replicate (length table - 256 * own) 0)
