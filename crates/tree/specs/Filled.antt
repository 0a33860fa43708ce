-- What the readers of a tree file leave in a run's table: each template whose entries are read fills slots of its row, the entries' first
-- and slot 0 last, up to the first refusal.
use Rattle.std.specs.Prelude.{ℕ, ◌+◌, ◌*◌, cond, List, length, set, leb}
use Rattle.std.proofs.lemmas.List.Edits.{sets}
use Rattle.files.specs.Reading.{Got, got, refused}
use Rattle.files.specs.Entries.{Entry, field, entries_at}
use Rattle.files.specs.Tree.{template_at}
use Rattle.files.specs.EntriesRead.{slots_at}
use Rattle.files.specs.Filled.{templates_by, count_by}

-- slot 0 of row own: where the list begins, past the entries
unfoldable pub start_filled : ℕ → Got (List Entry) → List ℕ → List ℕ
start_filled own (got es r) table = set table (256 * own) r
start_filled own (refused n p) table = table

-- row own, by what E is read as
unfoldable pub row_filled : List ℕ → ℕ → ℕ → Got ℕ → List ℕ → List ℕ
row_filled s own T (got n q) table = start_filled own (entries_at s own T n q) (sets table (256 * own + 1) (slots_at s own T n q))
row_filled s own T (refused n p) table = table

unfoldable pub template_filled : List ℕ → ℕ → ℕ → ℕ → List ℕ → List ℕ
template_filled s own T p table = row_filled s own T (field s p 8) table

-- by templates, and by what T is read as
abbrev pub templates_filled : List ℕ → ℕ → ℕ → ℕ → ℕ → List ℕ → List ℕ
templates_filled s = templates_by (template_at s) (template_filled s)

abbrev pub count_filled : List ℕ → Got ℕ → List ℕ → List ℕ
count_filled s = count_by (template_at s) (template_filled s)

-- a table, filled from the tree file s
unfoldable pub tree_filled : List ℕ → List ℕ → List ℕ
tree_filled s table = cond (leb (length s) 65536) (count_filled s (field s 0 8) table) table
