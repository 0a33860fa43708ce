-- What the library's functions leave in the slices that C lends (include/exporter.h): the slots of a result, and nothing at all done where it is too short.
use Rattle.std.specs.Prelude.{ℕ, cond, List, [], ◌∷◌, leb, length, Result, Ok, Err}
use Rattle.std.proofs.lemmas.List.Edits.{sets}
use Rattle.machines.specs.Runs.{Memory, Ran, ran, number_of, answer_cell}
use Rattle.machines.specs.declared.End.{End}
use Rattle.machines.specs.declared.End.TheVariants.{Halted, Wrong, OutOfBudget, Refused}
use Rattle.machines.specs.declared.Run.{Run}
use Rattle.files.specs.declared.Refusal.{Refusal}

-- ---- an output that is filled, by flattening, joining, the way back and the pull list
-- 0 and the length, or the refusal's number and the place
unfoldable pub outcome_slots : Result ℕ (Refusal ℕ) → List ℕ
outcome_slots (Ok n) = 0 ∷ n ∷ []
outcome_slots (Err e) = e.0 ∷ e.1 ∷ []

-- the result that held old, by what was answered
unfoldable pub outcome_result : Result ℕ (Refusal ℕ) → List ℕ → List ℕ
outcome_result r old = cond (leb 2 (length old)) (sets old 0 (outcome_slots r)) old

-- the output that held out, by what it would hold
unfoldable pub outcome_output : List ℕ → List ℕ → List ℕ → List ℕ
outcome_output new out old = cond (leb 2 (length old)) new out

-- ---- runs
-- how a run ended: 0 halted, 1 wrong, 2 out of budget, 3 refused
unfoldable pub end_slot : End → ℕ
end_slot (Halted v) = 0
end_slot (Wrong n) = 1
end_slot OutOfBudget = 2
end_slot (Refused n p) = 3

unfoldable pub place_slot : End → ℕ
place_slot (Halted v) = 0
place_slot (Wrong n) = 0
place_slot OutOfBudget = 0
place_slot (Refused n p) = p

abbrev pub end_slots : End → List ℕ
end_slots e = end_slot e ∷ number_of e ∷ place_slot e ∷ answer_cell e ∷ []

abbrev pub run_slots : Run → List ℕ
run_slots r = end_slot r.end ∷ number_of r.end ∷ place_slot r.end ∷ answer_cell r.end ∷ r.steps ∷ r.stack ∷ r.store ∷ r.frames ∷ []

-- what is left in the four memories and in the result
pub data Exported : Type 0 where
  exported : Memory → List ℕ → Exported

unfoldable pub ran_into : List ℕ → Ran → Exported
ran_into old (ran r m) = exported m (sets old 0 (run_slots r))

-- a run with the memory m, and the result that held old
unfoldable pub run_exported : (Memory → Ran) → Memory → List ℕ → Exported
run_exported run m old = cond (leb 8 (length old)) (ran_into old (run m)) (exported m old)
