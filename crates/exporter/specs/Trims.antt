-- What trimming leaves in the slices that C lends (include/exporter.h).
use Rattle.std.specs.Prelude.{ℕ, cond, List, [], ◌∷◌, leb, length, Result, Ok, Err}
use Rattle.std.proofs.lemmas.List.Edits.{sets}
use Rattle.files.specs.Reading.{Got}
use Rattle.trim.specs.Function.{Outputs, answered, file_left, list_left}
use Rattle.files.specs.declared.Refusal.{Refusal}

-- 0 and both lengths, or the refusal's number, the place and 0
unfoldable pub trim_slots : Result (ℕ × ℕ) (Refusal ℕ) → List ℕ
trim_slots (Ok (n, m)) = 0 ∷ n ∷ m ∷ []
trim_slots (Err e) = e.0 ∷ e.1 ∷ 0 ∷ []

-- the result that held old, and the outputs that held out and list
unfoldable pub trim_result : Got Outputs → List ℕ → List ℕ
trim_result g old = cond (leb 3 (length old)) (sets old 0 (trim_slots (answered g))) old

unfoldable pub trim_output : Got Outputs → List ℕ → List ℕ → List ℕ
trim_output g out old = cond (leb 3 (length old)) (file_left out g) out

unfoldable pub trim_lines : Got Outputs → List ℕ → List ℕ → List ℕ
trim_lines g list old = cond (leb 3 (length old)) (list_left list g) list
