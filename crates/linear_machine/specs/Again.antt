-- A file that is read once and run often, from globals that are known to fit.
use Rattle.std.specs.Prelude.{ℕ, ◌≡◌, true, List, [], ◌∷◌, Ok}
use Rattle.cells.specs.Cells.{starting_global}
use Rattle.files.specs.Linear.{linear_read}
use Rattle.linear.specs.Filled.{linear_told, linear_filled}
use Rattle.machines.specs.Start.{zeros}

-- `linear::read_linear` accepted the file s, and left this in a table of zeros
pub record TableOf (s table : List ℕ) : Type 0 where
  pub count : ℕ
  pub read : linear_told (linear_read s) ≡ Ok count
  pub filled : table ≡ linear_filled s (zeros 16384)

-- ---- a start that 20, 21, 31 and 22 do not refuse
abbrev pub AllFit : List ℕ → Type 0
AllFit [] = Unit
AllFit (c ∷ cs) = (starting_global c ≡ true) × AllFit cs
