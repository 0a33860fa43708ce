-- What is written into a lent output, and what is answered (document 01, 'File refusals').
use Rattle.std.specs.Prelude.{ℕ, cond, List, ◌++◌, length, drop, leb, Result, Ok, Err}
use Rattle.cells.specs.Numbers.{short_output}
use Rattle.files.specs.Reading.{Got, got, refused}
use Rattle.files.specs.declared.Refusal.{Refusal}
use Rattle.files.specs.Refusal.{refusal}

-- 9, last: an output of n bytes that is shorter than what is to be written; the place is the bytes needed
unfoldable pub into_bytes : ℕ → List ℕ → ℕ → Got (List ℕ)
into_bytes n w q = cond (leb (length w) n) (got w q) (refused short_output (length w))

-- what is answered
unfoldable pub answered : Got (List ℕ) → Result ℕ (Refusal ℕ)
answered (got w q) = Ok (length w)
answered (refused n p) = Err (refusal n p)

-- what an output holds that held old: what was written in its first bytes; on a refusal it is unchanged
unfoldable pub written : List ℕ → Got (List ℕ) → List ℕ
written old (got w q) = w ++ drop (length w) old
written old (refused n p) = old
