-- The way back from a list's bytes, and of one whose entries are known. Assumes nothing.
use Rattle.std.specs.Prelude.{ℕ, suc, Bool, List, length}
use Rattle.std.proofs.Math.Bool.{true}
use Rattle.std.proofs.Math.Option.{Option, some}
use Rattle.files.specs.Code.{Code}
use Rattle.files.specs.Entries.{Entry}
use Rattle.files.specs.Grammar.{indices_fit}
use Rattle.back.specs.Unflat.{on, test, unflat}

-- the way back with as many bytes allowed as there are
unfoldable pub back : ℕ → Bool → List ℕ → Option Code
back l k w = unflat (suc (length w)) l k w

unfoldable pub list_back : List Entry → List ℕ → Option Code
list_back es w = on (back 15 true w) (λ c. test (indices_fit es c) (some c))
