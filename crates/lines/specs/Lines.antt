-- The program's lines as ASCII bytes (document 01, 'Rule sheets to try', the program).
use Rattle.std.specs.Prelude.{ℕ, cond, List, [], ◌∷◌, ◌++◌, leb, length, drop, Result, Ok, Err}
use Rattle.cells.specs.Cells.{full}
use Rattle.cells.specs.declared.Value.{Value}
use Rattle.cells.specs.declared.Value.TheVariants.{False, True, Null, Unspecified, Integer, Procedure, Pair, NoValue}
use Rattle.text.specs.Text.{decimal, integer, line}
use Rattle.files.specs.Reading.{Got, got, refused}
use Rattle.files.specs.Entries.{then}
use Rattle.files.specs.Accepted.{flat_accepted}
use Rattle.files.specs.Linear.{linear_file}
use Rattle.machines.specs.Runs.{fresh_memory, run_of, tree_run, linear_run}
use Rattle.machines.specs.declared.End.{End}
use Rattle.machines.specs.declared.End.TheVariants.{Halted, Wrong, OutOfBudget, Refused}
use Rattle.machines.specs.declared.Run.{Run}
use Rattle.files.specs.declared.Refusal.{Refusal}
use Rattle.files.specs.Refusal.{refusal}

-- ---- words
abbrev pub linear_word : List ℕ
linear_word = 108 ∷ 105 ∷ 110 ∷ 101 ∷ 97 ∷ 114 ∷ []

abbrev pub tabular_word : List ℕ
tabular_word = 116 ∷ 97 ∷ 98 ∷ 117 ∷ 108 ∷ 97 ∷ 114 ∷ []

abbrev pub flat_word : List ℕ
flat_word = 102 ∷ 108 ∷ 97 ∷ 116 ∷ []

abbrev pub halted_word : List ℕ
halted_word = 104 ∷ 97 ∷ 108 ∷ 116 ∷ 101 ∷ 100 ∷ []

abbrev pub wrong_word : List ℕ
wrong_word = 119 ∷ 114 ∷ 111 ∷ 110 ∷ 103 ∷ []

abbrev pub refused_word : List ℕ
refused_word = 114 ∷ 101 ∷ 102 ∷ 117 ∷ 115 ∷ 101 ∷ 100 ∷ []

-- an answer; NoValue, which no run answers, is `none`
unfoldable pub answer_word : Value → List ℕ
answer_word False = 102 ∷ 97 ∷ 108 ∷ 115 ∷ 101 ∷ []
answer_word True = 116 ∷ 114 ∷ 117 ∷ 101 ∷ []
answer_word Null = 110 ∷ 117 ∷ 108 ∷ 108 ∷ []
answer_word Unspecified = 117 ∷ 110 ∷ 115 ∷ 112 ∷ 101 ∷ 99 ∷ 105 ∷ 102 ∷ 105 ∷ 101 ∷ 100 ∷ []
answer_word (Integer x) = integer full x
answer_word (Procedure c) = 112 ∷ 114 ∷ 111 ∷ 99 ∷ 101 ∷ 100 ∷ 117 ∷ 114 ∷ 101 ∷ []
answer_word (Pair a b) = 112 ∷ 97 ∷ 105 ∷ 114 ∷ []
answer_word NoValue = 110 ∷ 111 ∷ 110 ∷ 101 ∷ []

-- ---- lines
-- how a run of so many steps ended
unfoldable pub end_words : End → ℕ → List (List ℕ)
end_words (Halted v) steps = halted_word ∷ answer_word v ∷ decimal steps ∷ []
end_words (Wrong n) steps = wrong_word ∷ decimal n ∷ decimal steps ∷ []
end_words OutOfBudget steps = wrong_word ∷ decimal 19 ∷ decimal steps ∷ []
end_words (Refused n p) steps = refused_word ∷ decimal n ∷ decimal p ∷ []

unfoldable pub machine_line : List ℕ → Run → List ℕ
machine_line name r = name ++ (32 ∷ line (end_words r.end r.steps))

abbrev pub linear_line : ℕ → List ℕ
linear_line n = line (linear_word ∷ decimal n ∷ [])

abbrev pub refused_line : ℕ → ℕ → List ℕ
refused_line n p = line (refused_word ∷ decimal n ∷ decimal p ∷ [])

-- ---- the program, which runs as the house (owner 0, request 12)
abbrev pub tabular_run : List ℕ → Run
tabular_run s = run_of (tree_run s 1000000 0 fresh_memory)

abbrev pub flat_run : List ℕ → Run
flat_run w = run_of (linear_run w 2000000 0 fresh_memory)

unfoldable pub accepted_lines : List ℕ → List ℕ → List ℕ
accepted_lines s w = linear_line (length w) ++ machine_line tabular_word (tabular_run s) ++ machine_line flat_word (flat_run w)

-- a sheet's linear file
unfoldable pub linear_of : List ℕ → Got (List ℕ)
linear_of s = then (flat_accepted s) (λ ts q. got (linear_file ts) q)

unfoldable pub sheet_lines : List ℕ → Got (List ℕ) → List ℕ
sheet_lines s (got w q) = accepted_lines s w
sheet_lines s (refused n p) = refused_line n p

-- the lines of a sheet
unfoldable pub program_lines : List ℕ → List ℕ
program_lines s = cond (leb (length s) 4096) (sheet_lines s (linear_of s)) (refused_line 1 0)

-- ---- the lines in a lent output
-- what the program answers for an output of n bytes: how many the lines are; 9 and the bytes needed where they do not fit
unfoldable pub printed : List ℕ → ℕ → Result ℕ (Refusal ℕ)
printed ls n = cond (leb (length ls) n) (Ok (length ls)) (Err (refusal 9 (length ls)))

-- what the output holds that held old: the lines in its first bytes; where they do not fit it is unchanged
unfoldable pub program_output : List ℕ → List ℕ → List ℕ
program_output ls old = cond (leb (length ls) (length old)) (ls ++ drop (length ls) old) old
