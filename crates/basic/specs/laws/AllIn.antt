-- Entries that are all in a table. Assumes nothing.
use Rattle.std.specs.Prelude.{◌≡◌}
use mathlib.Core.List.{◌∷◌}
use Rattle.std.proofs.Math.Bool.{true}
use mathlib.Core.List.{List, []}
use Rattle.files.specs.Entries.{Entry}
use Rattle.basic.specs.Tabulated.{among}

unfoldable pub AllIn : List Entry → List Entry → Type 0
AllIn es [] = Unit
AllIn es (e ∷ us) = (among e es ≡ true) × AllIn es us
