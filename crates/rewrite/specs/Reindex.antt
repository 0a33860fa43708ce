-- A template's code with the indices of its entries renumbered (requests 5 and 10).
use Rattle.std.specs.Prelude.{ℕ, cond, List, map, leb}
use Rattle.files.specs.Code.{Code, done, neutral, return, call, unless_false, make_cont}

-- f: the new index of an entry. Neutral codes up to 9 name an entry.
unfoldable pub reindexed : (ℕ → ℕ) → ℕ → List ℕ → List ℕ
reindexed f op ns = cond (leb op 9) (map f ns) ns

unfoldable pub reindex : (ℕ → ℕ) → Code → Code
unfolding reindexed
reindex f done = done
reindex f (neutral op ns r) = neutral op (reindexed f op ns) (reindex f r)
reindex f (return r) = return (reindex f r)
reindex f (call n r) = call n (reindex f r)
reindex f (unless_false x y r) = unless_false (reindex f x) (reindex f y) (reindex f r)
reindex f (make_cont n x r) = make_cont n (reindex f x) (reindex f r)
