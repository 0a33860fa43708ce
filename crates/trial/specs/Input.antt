-- What reading the sheet promises: bytes, behind those that are there, within the buffer. Where a read fails it promises nothing.
use Rattle.std.specs.Prelude.{ℕ, ◌+◌, ◌≤◌, Result, Ok, Err}

abbrev pub Within : {E : Type 0} → ℕ → Result ℕ E → ℕ → Type 0
Within done (Ok n) most = done + n ≤ most
Within done (Err e) most = Unit {0}
