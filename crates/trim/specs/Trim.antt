-- Templates trimmed (document 02, request 5): orphan templates and entries that no instruction names are taken out, again and again until nothing more can
-- go, and the rest is renumbered in its old order.
use Rattle.std.specs.Prelude.{ℕ, zero, suc, ◌+◌, Bool, true, false, ◌&&◌, ◌||◌, List, [], ◌∷◌, map, length, get_or, leb, eqb}
use Rattle.files.specs.Code.{Code, done, neutral, return, call, unless_false, make_cont}
use Rattle.files.specs.Entries.{Entry, constant, global, template}
use Rattle.files.specs.Tree.{Template}
use Rattle.files.specs.Orphans.{closes}
use Rattle.rewrite.specs.Reindex.{reindex}
use Rattle.trim.specs.Kept.{sift, rank}

-- ---- entries
-- an instruction of the list names entry n, wherever it stands
unfoldable pub names : ℕ → Code → Bool
names n done = false
names n (neutral op ns r) = (leb op 9 && eqb (get_or ns 0 0) n) || names n r
names n (return r) = names n r
names n (call m r) = names n r
names n (unless_false x y r) = names n x || (names n y || names n r)
names n (make_cont m x r) = names n x || names n r

-- entries are numbered from 1
unfoldable pub new_index : Code → ℕ → ℕ
unfolding names rank
new_index c zero = 0
new_index c (suc i) = suc (rank (λ j. names (suc j) c) 0 i)

-- r: the new number of a template
unfoldable pub renumber : (ℕ → ℕ) → Entry → Entry
renumber r (constant t x) = constant t x
renumber r (global g) = global g
renumber r (template t) = template (r t)

unfoldable pub trim_template : (ℕ → ℕ) → Template → Template
unfolding renumber sift names new_index reindex
trim_template r t = record {
  entries = map (renumber r) (sift (λ j. names (suc j) t.code) 0 t.entries);
  start = t.start;
  code = reindex (new_index t.code) t.code;
}

-- keep: the templates that stay
unfoldable pub trim : (ℕ → Bool) → List Template → List Template
unfolding rank sift trim_template
trim keep ts = map (trim_template (rank keep 0)) (sift keep 0 ts)

-- ---- templates, by rounds
-- a closure instruction of a template that is there, of those of numbers t on, names template u
unfoldable pub named_from : (ℕ → Bool) → ℕ → List Template → ℕ → Bool
unfolding closes
named_from there t [] u = false
named_from there t (x ∷ ts) u = (there t && closes x.entries u x.code) || named_from there (t + 1) ts u

-- template u is there after n rounds: each takes out the templates other than 0 that no closure instruction of those that are there names
unfoldable pub there : ℕ → List Template → ℕ → Bool
unfolding named_from
there zero ts u = true
there (suc n) ts u = eqb u 0 || named_from (there n ts) 0 ts u

-- after as many rounds as there are templates nothing more goes
unfoldable pub stays : List Template → ℕ → Bool
unfolding there
stays ts u = there (length ts) ts u

unfoldable pub trimmed : List Template → List Template
unfolding trim stays
trimmed ts = trim (stays ts) ts
