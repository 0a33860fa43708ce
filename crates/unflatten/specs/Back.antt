-- From a linear file back to the one tree file that flattens to it (request 13), into a lent output.
use Rattle.std.specs.Prelude.{ℕ, ◌+◌, cond, List, [], ◌∷◌, length, leb}
use Rattle.std.proofs.Math.Option.{Option, none, some}
use Rattle.cells.specs.Numbers.{no_tree}
use Rattle.files.specs.Code.{Code}
use Rattle.files.specs.Reading.{Got, got, refused}
use Rattle.files.specs.Entries.{then}
use Rattle.files.specs.Outcome.{into_bytes}
use Rattle.files.specs.Tree.{Template}
use Rattle.files.specs.Linear.{Linear, linear_read}
use Rattle.tree_file.specs.File.{tree_file}
use Rattle.back.specs.laws.ListBack.{list_back}

-- on with the list, or 32 with template n
unfoldable pub or_stuck : {A : Type 0} → ℕ → Option Code → (Code → Got A) → Got A
or_stuck n none f = refused no_tree n
or_stuck n (some c) f = f c

-- a template's entries come back as they are, its code as the list that flattens to it (where that begins in the file is not said here)
abbrev pub template_of : Linear → Code → Template
template_of l c = record { entries = l.entries; start = 0; code = c }

-- the templates that linear ones go back to, the first of them number n
unfoldable pub templates_back : ℕ → List Linear → Got (List Template)
templates_back n [] = got [] n
templates_back n (l ∷ ls) = or_stuck n (list_back l.entries l.code) (λ c. then (templates_back (n + 1) ls) (λ ts m. got (template_of l c ∷ ts) m))

-- ---- what stands last in the way: only the tree's length, 32 with place 0; then 9, an output of n bytes that is shorter
unfoldable pub given : List ℕ → ℕ → Got (List ℕ)
unfolding into_bytes
given f n = cond (leb (length f) 65536) (into_bytes n f (length f)) (refused no_tree 0)

-- 1, 2, 3 and 5 as the linear machine gives them, 32, 9
unfoldable pub backed : List ℕ → ℕ → Got (List ℕ)
unfolding given
backed z n = then (linear_read z) (λ ls q. then (templates_back 0 ls) (λ ts m. given (tree_file ts) n))
