-- What readers tell of what is read: fields, entries, padding, and what they leave in a run's table.
use Rattle.std.specs.Prelude.{ℕ, zero, suc, List, [], ◌∷◌, Result, Ok, Err}
use Rattle.files.specs.Reading.{Got, got, refused}
use Rattle.files.specs.Entries.{Entry, entry_at}
use Rattle.files.specs.Table.{slot_of}
use Rattle.files.specs.declared.Refusal.{Refusal}
use Rattle.files.specs.Refusal.{refusal}
use Rattle.cells.specs.declared.BitPlace.{BitPlace}

-- what was read, and the place past it
unfoldable pub told : {A : Type 0} → Got A → Result (A × BitPlace) (Refusal BitPlace)
told (got a q) = Ok (a, record { 0 = q })
told (refused n p) = Err (refusal n (record { 0 = p }))

-- the place past what was read: entries, padding, what follows them
unfoldable pub past_told : {A : Type 0} → Got A → Result BitPlace (Refusal BitPlace)
past_told (got a q) = Ok (record { 0 = q })
past_told (refused n p) = Err (refusal n (record { 0 = p }))

-- an entry: its slot and the place past it
unfoldable pub entry_told : Got Entry → Result (ℕ × BitPlace) (Refusal BitPlace)
entry_told (got e q) = Ok (slot_of e, record { 0 = q })
entry_told (refused n p) = Err (refusal n (record { 0 = p }))

-- the slot of an entry before those that follow it
unfoldable pub slot_then : Got Entry → (ℕ → List ℕ) → List ℕ
slot_then (got e q) f = slot_of e ∷ f q
slot_then (refused n p) f = []

-- the slots of the entries that are read before the first refusal
unfoldable pub slots_at : List ℕ → ℕ → ℕ → ℕ → ℕ → List ℕ
slots_at s own T zero p = []
slots_at s own T (suc n) p = slot_then (entry_at s own T p) (slots_at s own T n)
