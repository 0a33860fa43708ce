-- What is looked for in a region of a linear file (request 13): the list that its bytes are the flat code of, with indices that pass a test.
use Rattle.std.specs.Prelude.{ℕ, ◌+◌, ◌*◌, Bool, List, get_or}
use Rattle.std.proofs.Math.Option.{Option, some}
use Rattle.std.proofs.Math.Seq.{slice}
use Rattle.files.specs.Code.{Code}
use Rattle.files.specs.Grammar.{each_neutral}
use Rattle.back.specs.Unflat.{on, test}
use Rattle.back.specs.laws.ListBack.{back}

-- the bytes from f to t
unfoldable pub part : ℕ → ℕ → List ℕ → List ℕ
part f t s = slice f t s

abbrev pub offset_at : List ℕ → ℕ → ℕ
offset_at s p = 256 * get_or s p 0 + get_or s (p + 1) 0

-- what passes: the list itself
unfoldable pub kept : (ℕ → ℕ → Bool) → Code → Option Code
kept ok c = test (each_neutral ok c) (some c)

-- with l levels left below it, closed or not, ok a test of each neutral code and its first operand
unfoldable pub found : (ℕ → ℕ → Bool) → ℕ → Bool → List ℕ → Option Code
unfolding kept on
found ok l k w = on (back l k w) (kept ok)
