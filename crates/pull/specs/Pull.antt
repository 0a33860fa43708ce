-- The pull list (document 02, Ask 9): a rule is run for each clip, and each clip has a line.
use Rattle.std.specs.Prelude.{ℕ, zero, suc, ◌*◌, ◌/◌, ◌%◌, Bool, cond, ◌&&◌, List, [], ◌∷◌, ◌++◌, leb, eqb, ℤ, pos, length, get_or, take, drop, replicate}
use Rattle.std.specs.Prelude.{Option, Some, None, Result, Ok, Err}
use Rattle.std.proofs.lemmas.List.Edits.{sets}
use Rattle.std.specs.Int.Signed.{lt_z}
use Rattle.cells.specs.Cells.{full, undefined_cell, int_cell, tag_of, int_of}
use Rattle.cells.specs.Numbers.{budget_spent, cut_clips, no_speed, short_list, large_budget}
use Rattle.text.specs.Text.{decimal, integer, line}
use Rattle.integers.specs.Integers.{signed, int_bits}
use Rattle.files.specs.Linear.{linear_read}
use Rattle.linear.specs.Filled.{linear_told}
use Rattle.machines.specs.Runs.{Memory, memory, Ran, ran, linear_run}
use Rattle.machines.specs.declared.End.{End}
use Rattle.machines.specs.declared.End.TheVariants.{Halted, Wrong, OutOfBudget, Refused as RefusedRun}
use Rattle.pull.specs.declared.Found.{Found}
use Rattle.files.specs.declared.Refusal.{Refusal}
use Rattle.files.specs.Refusal.{refusal}
use Rattle.cells.specs.declared.BitPlace.{BitPlace}

-- ---- clips
-- A clip is eight words: record in, record out, speed numerator, speed denominator, head handle, tail handle, first and last frame of its media.
unfoldable pub clip_count : List ℤ → ℕ
clip_count cs = length cs / 8

unfoldable pub clip_at : List ℤ → ℕ → List ℤ
clip_at cs k = take 8 (drop (8 * k) cs)

unfoldable pub word : List ℤ → ℕ → ℤ
word clip w = get_or clip w (pos 0)

-- ---- the run of a clip
unfoldable pub word_cell : ℤ → ℕ
word_cell z = int_cell (int_bits z)

-- globals 0 to 5 are the clip's first six words, the others undefined
unfoldable pub clip_globals : List ℤ → List ℕ
unfolding word word_cell
clip_globals clip =
    sets (replicate 256 undefined_cell) 0
    (word_cell (word clip 0) ∷ word_cell (word clip 1) ∷ word_cell (word clip 2)
    ∷ word_cell (word clip 3) ∷ word_cell (word clip 4) ∷ word_cell (word clip 5) ∷ [])

-- run memory of its own
unfoldable pub clip_memory : List ℤ → Memory
clip_memory clip = memory (clip_globals clip) (replicate 256 0) (replicate 2048 0) (replicate 2048 0)

-- what the line tells of a run: its end, and the cells of globals 6 and 7
unfoldable pub found_of : Ran → Found
found_of (ran r m) = record { end = r.end; six = get_or m.globals 6 0; seven = get_or m.globals 7 0 }

-- as the house. This is the one place where a rule is run
unfoldable pub clip_run : List ℤ → List ℕ → ℕ → Found
unfolding found_of
clip_run clip file b = found_of (linear_run file b 0 (clip_memory clip))

-- ---- words
abbrev pub wrong_word : List ℕ
wrong_word = 119 ∷ 114 ∷ 111 ∷ 110 ∷ 103 ∷ []

abbrev pub none_word : List ℕ
none_word = 110 ∷ 111 ∷ 110 ∷ 101 ∷ []

abbrev pub order_word : List ℕ
order_word = 111 ∷ 114 ∷ 100 ∷ 101 ∷ 114 ∷ []

abbrev pub low_word : List ℕ
low_word = 108 ∷ 111 ∷ 119 ∷ []

abbrev pub high_word : List ℕ
high_word = 104 ∷ 105 ∷ 103 ∷ 104 ∷ []

abbrev pub ok_word : List ℕ
ok_word = 111 ∷ 107 ∷ []

-- ---- a clip's line
-- source in and out beside each other and the media's first and last frame: the first word that fits
unfoldable pub verdict : ℤ → ℤ → ℤ → ℤ → List ℕ
verdict i o first last = cond (lt_z o i) order_word (cond (lt_z i first) low_word (cond (lt_z last o) high_word ok_word))

-- of the bits i and o
unfoldable pub source_words : List ℤ → ℕ → ℕ → List (List ℕ)
unfolding word verdict
source_words clip i o = verdict (signed i) (signed o) (word clip 6) (word clip 7) ∷ integer full i ∷ integer full o ∷ []

-- of the cells i and o
unfoldable pub halted_words : List ℤ → ℕ → ℕ → List (List ℕ)
unfolding source_words
halted_words clip i o = cond (eqb (tag_of i) 6 && eqb (tag_of o) 6) (source_words clip (int_of i) (int_of o)) (none_word ∷ [])

abbrev pub wrong_words : ℕ → List (List ℕ)
wrong_words n = wrong_word ∷ decimal n ∷ []

-- every end but halted is wrong. (A list that is accepted has no refused run.)
unfoldable pub end_words : List ℤ → End → ℕ → ℕ → List (List ℕ)
unfolding halted_words
end_words clip (Halted v) i o = halted_words clip i o
end_words clip (Wrong n) i o = wrong_words n
end_words clip OutOfBudget i o = wrong_words budget_spent
end_words clip (RefusedRun n p) i o = wrong_words n

unfoldable pub found_line : ℕ → List ℤ → Found → List ℕ
unfolding end_words
found_line k clip f = line (decimal k ∷ end_words clip f.end f.six f.seven)

-- clip k
unfoldable pub pull_line : ℕ → List ℤ → List ℕ → ℕ → List ℕ
unfolding found_line clip_run
pull_line k clip file b = found_line k clip (clip_run clip file b)

-- ---- the list: of the first k clips
unfoldable pub pull_lines : List ℤ → List ℕ → ℕ → ℕ → List ℕ
pull_lines cs file b zero = []
pull_lines cs file b (suc k) = pull_lines cs file b k ++ pull_line k (clip_at cs k) file b

unfoldable pub pull_list : List ℤ → List ℕ → ℕ → List ℕ
pull_list cs file b = pull_lines cs file b (clip_count cs)

-- ---- what is refused before any run
unfoldable pub whole_clips : List ℤ → Bool
whole_clips cs = leb (clip_count cs) 256 && eqb (length cs % 8) 0

-- the lowest of n clips, from clip k on, whose denominator is not positive
unfoldable pub lowest_still : List ℤ → ℕ → ℕ → Option ℕ
unfolding word
lowest_still cs k zero = None
lowest_still cs k (suc n) = cond (lt_z (word (clip_at cs k) 3) (pos 1)) (Some k) (lowest_still cs (suc k) n)

unfoldable pub speeds_checked : Option ℕ → Result Unit (Refusal ℕ) → Result Unit (Refusal ℕ)
speeds_checked None rest = rest
speeds_checked (Some k) rest = Err (refusal no_speed k)

unfoldable pub file_checked : Result ℕ (Refusal BitPlace) → Result Unit (Refusal ℕ)
file_checked (Ok n) = Ok tt
file_checked (Err e) = Err (refusal e.0 e.1.0)

-- 29, 21
unfoldable pub room_checked : ℕ → ℕ → ℕ → Result Unit (Refusal ℕ)
room_checked clips b room = cond (leb (48 * clips) room) (cond (leb b 2000000) (Ok tt) (Err (refusal large_budget 0))) (Err (refusal short_list 0))

-- 27, 28, then these
unfoldable pub clips_checked : List ℤ → ℕ → ℕ → Result Unit (Refusal ℕ)
unfolding speeds_checked room_checked
clips_checked cs b room =
    cond (whole_clips cs) (speeds_checked (lowest_still cs 0 (clip_count cs)) (room_checked (clip_count cs) b room)) (Err (refusal cut_clips 0))

-- then the linear file's
unfoldable pub and_then : Result Unit (Refusal ℕ) → Result Unit (Refusal ℕ) → Result Unit (Refusal ℕ)
and_then (Ok x) rest = rest
and_then (Err e) rest = Err e

unfoldable pub pull_checked : List ℤ → List ℕ → ℕ → ℕ → Result Unit (Refusal ℕ)
unfolding and_then clips_checked file_checked
pull_checked cs file b room = and_then (clips_checked cs b room) (file_checked (linear_told (linear_read file)))

-- ---- the answer, and what a list that held old holds: the lines in its first bytes; where something is refused it is unchanged
unfoldable pub answered : Result Unit (Refusal ℕ) → List ℕ → Result ℕ (Refusal ℕ)
answered (Ok x) ls = Ok (length ls)
answered (Err e) ls = Err e

unfoldable pub listed : Result Unit (Refusal ℕ) → List ℕ → List ℕ → List ℕ
listed (Ok x) ls old = ls ++ drop (length ls) old
listed (Err e) ls old = old

unfoldable pub pulled : List ℤ → List ℕ → ℕ → ℕ → Result ℕ (Refusal ℕ)
unfolding answered pull_checked
pulled cs file b room = answered (pull_checked cs file b room) (pull_list cs file b)

unfoldable pub pulled_list : List ℤ → List ℕ → ℕ → List ℕ → List ℕ
unfolding listed pull_checked
pulled_list cs file b old = listed (pull_checked cs file b (length old)) (pull_list cs file b) old

-- the bytes of an answer
unfoldable pub bytes_of : Result ℕ (Refusal ℕ) → ℕ
bytes_of (Ok n) = n
bytes_of (Err e) = 0
