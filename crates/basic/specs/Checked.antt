-- Which basic files are accepted (document 02, request 6): 1 to 5 in reading order, 6, 26; and the tabulated file: 9 last.
use Rattle.std.specs.Prelude.{ℕ, ◌*◌, Bool, true, cond, ◌&&◌, List, [], ◌∷◌, length, leb}
use Rattle.cells.specs.Numbers.{not_closed, too_large}
use Rattle.files.specs.Reading.{Got, got, refused}
use Rattle.files.specs.Entries.{then}
use Rattle.files.specs.Outcome.{into_bytes}
use Rattle.files.specs.Tree.{Template}
use Rattle.files.specs.Grammar.{lowest, closed_template}
use Rattle.files.specs.Accepted.{or_lowest}
use Rattle.tree_file.specs.File.{tree_file}
use Rattle.basic.specs.Basic.{Basic}
use Rattle.basic.specs.Reading.{basic_read}
use Rattle.basic.specs.Tabulated.{tabulated}

-- ---- 26: more templates, entries of a template or tabulated bytes than a tree file may have; place 0
abbrev pub most_templates : ℕ
most_templates = 64

abbrev pub most_entries : ℕ
most_entries = 255

abbrev pub most_bytes : ℕ
most_bytes = 65536

unfoldable pub entries_fit : List Template → Bool
entries_fit [] = true
entries_fit (t ∷ ts) = leb (length t.entries) most_entries && entries_fit ts

unfoldable pub within_limits : List Template → Bool
unfolding entries_fit
within_limits ts = leb (length ts) most_templates && (entries_fit ts && leb (length (tree_file ts)) most_bytes)

-- ---- 6 at the lowest template whose list is not closed, by the tabulator's numbers; then 26
unfoldable pub limited : Basic → ℕ → Got Basic
unfolding within_limits tabulated
limited c q = or_lowest not_closed (lowest closed_template 0 (tabulated c)) (cond (within_limits (tabulated c)) (got c q) (refused too_large 0))

-- what the tabulator and the basic machine accept: 1 to 6 and 26
unfoldable pub basic_checked : List ℕ → Got Basic
unfolding basic_read limited
basic_checked s = then (basic_read s) limited

-- ---- the tabulator
-- the tabulated file of the basic file s, for an output of n bytes: 9, last
unfoldable pub tabulated_file : List ℕ → ℕ → Got (List ℕ)
unfolding basic_checked into_bytes
tabulated_file s n = then (basic_checked s) (λ c q. into_bytes n (tree_file (tabulated c)) (8 * length (tree_file (tabulated c))))
