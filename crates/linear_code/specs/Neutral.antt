-- A neutral code as a machine reads it in linear code: its operands and the place past it.
use Rattle.std.specs.Prelude.{ℕ, Bool, ◌||◌, eqb, Option, None, Some}
use Rattle.machines.specs.Fetched.{Fetched, bad, plainly}
use Rattle.machines.specs.Slots.{slot_resolve}
use Rattle.cells.specs.declared.BytePlace.{BytePlace}

-- return, call, jump-if-false, make-cont, jump
unfoldable pub is_transfer : ℕ → Bool
is_transfer op = eqb op 1 || (eqb op 2 || (eqb op 3 || (eqb op 4 || eqb op 5)))

unfoldable pub neutral_as : (ℕ → ℕ) → ℕ → Option (ℕ × ℕ × BytePlace) → Fetched
unfolding plainly slot_resolve
neutral_as slot op (Some x) = plainly (slot_resolve slot op x.0 x.1) x.2.0
neutral_as slot op None = bad
