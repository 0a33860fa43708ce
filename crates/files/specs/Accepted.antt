-- Which tree files are accepted (document 01, 'File refusals', and document 02, request 4): 1 to 5 in reading order, then 6 over all
-- templates, then 7, then 24, then 8.
use Rattle.std.specs.Prelude.{ℕ, List}
use Rattle.std.proofs.Math.Option.{Option, none, some}
use Rattle.cells.specs.Numbers.{not_closed, wrong_index, orphan, far_offset}
use Rattle.files.specs.Reading.{Got, got, refused}
use Rattle.files.specs.Entries.{then}
use Rattle.files.specs.Tree.{Template, tree_read}
use Rattle.files.specs.Grammar.{lowest, closed_template, indexed_template}
use Rattle.files.specs.Orphans.{lowest_orphan}
use Rattle.files.specs.Flat.{offset_template}

-- refused n with the lowest template that stands in the way, if there is one
unfoldable pub or_lowest : {A : Type 0} → ℕ → Option ℕ → Got A → Got A
or_lowest n (some t) g = refused n t
or_lowest n none g = g

-- ---- without 24
-- 1 to 7: all that requests 5, 10 and 13 ask of a tree file
unfoldable pub tree_checked : List ℕ → Got (List Template)
tree_checked s =
    then (tree_read s)
    (λ ts q. or_lowest not_closed (lowest closed_template 0 ts) (or_lowest wrong_index (lowest indexed_template 0 ts) (got ts q)))

-- 1 to 8: the tree files that have a linear file
unfoldable pub flat_checked : List ℕ → Got (List Template)
flat_checked s = then (tree_checked s) (λ ts q. or_lowest far_offset (lowest offset_template 0 ts) (got ts q))

-- ---- with 24
-- 1 to 7 and 24: what the tree machine refuses
unfoldable pub tree_accepted : List ℕ → Got (List Template)
tree_accepted s = then (tree_checked s) (λ ts q. or_lowest orphan (lowest_orphan ts) (got ts q))

-- 1 to 7, 24 and 8: what the flattener refuses before it looks at the output
unfoldable pub flat_accepted : List ℕ → Got (List Template)
flat_accepted s = then (tree_accepted s) (λ ts q. or_lowest far_offset (lowest offset_template 0 ts) (got ts q))
