-- Trimming a tree file into two lent outputs (document 02, request 5).
use Rattle.std.specs.Prelude.{ℕ, cond, List, ◌++◌, length, take, drop, leb, Result, Ok, Err}
use Rattle.cells.specs.Numbers.{short_output}
use Rattle.files.specs.Reading.{Got, got, refused}
use Rattle.files.specs.Entries.{then}
use Rattle.files.specs.Accepted.{tree_checked}
use Rattle.tree_file.specs.File.{tree_file}
use Rattle.trim.specs.Trim.{trimmed}
use Rattle.trim.specs.Lines.{trim_list}
use Rattle.files.specs.declared.Refusal.{Refusal}
use Rattle.files.specs.Refusal.{refusal}

-- what is written
pub record Outputs : Type 0 where
  pub file : List ℕ
  pub list : List ℕ

-- 9 with the bytes needed where an output is too short, the file's of m bytes before the list's of n
unfoldable pub into_both : ℕ → ℕ → Outputs → ℕ → Got Outputs
into_both m n o q =
    cond (leb (length o.file) m) (cond (leb (length o.list) n) (got o q) (refused short_output (length o.list)))
    (refused short_output (length o.file))

-- of what stands at the start of longer lists
abbrev pub both_into : ℕ → ℕ → List ℕ → ℕ → List ℕ → ℕ → Got Outputs
both_into m n f i l j = into_both m n (record { file = take i f; list = take j l }) 0

-- 1 to 7, then 9: 24 is left aside
unfoldable pub trimmed_into : List ℕ → ℕ → ℕ → Got Outputs
unfolding into_both
trimmed_into s m n = then (tree_checked s) (λ ts q. into_both m n (record { file = tree_file (trimmed ts); list = trim_list ts }) q)

-- what trim answers: both lengths
unfoldable pub answered : Got Outputs → Result (ℕ × ℕ) (Refusal ℕ)
answered (got o q) = Ok (length o.file, length o.list)
answered (refused n p) = Err (refusal n p)

-- what an output holds that held old: what is written in its first bytes; on a refusal both are unchanged
unfoldable pub file_left : List ℕ → Got Outputs → List ℕ
file_left old (got o q) = o.file ++ drop (length o.file) old
file_left old (refused n p) = old

unfoldable pub list_left : List ℕ → Got Outputs → List ℕ
list_left old (got o q) = o.list ++ drop (length o.list) old
list_left old (refused n p) = old
