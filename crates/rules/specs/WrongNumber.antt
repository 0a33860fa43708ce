-- What is wrong in a step, by its number in document 01.
use Rattle.std.specs.Prelude.{ℕ}
use Rattle.cells.specs.Numbers.{wrong_count, no_closure, undefined, beyond_layers, wrong_kind, out_of_range, bad_code, stack_full, no_room, zero_divisor}
use Rattle.cells.specs.Numbers.{not_owned}
use Rattle.rules.specs.declared.Wrong.{Wrong}
use Rattle.rules.specs.declared.Wrong.TheVariants.{Count, NoClosure, Undefined, BeyondLayers, Kind, OutOfRange, BadCode, StackFull, NoRoom}
use Rattle.rules.specs.declared.Wrong.TheVariants.{ZeroDivisor, NotOwned}

abbrev pub wrong_number : Wrong → ℕ
wrong_number Count = wrong_count
wrong_number NoClosure = no_closure
wrong_number Undefined = undefined
wrong_number BeyondLayers = beyond_layers
wrong_number Kind = wrong_kind
wrong_number OutOfRange = out_of_range
wrong_number BadCode = bad_code
wrong_number StackFull = stack_full
wrong_number NoRoom = no_room
wrong_number ZeroDivisor = zero_divisor
wrong_number NotOwned = not_owned
