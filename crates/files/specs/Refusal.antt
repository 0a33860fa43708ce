-- A refusal (document 01, 'File refusals'): its number in the table, and the place.
use Rattle.std.specs.Prelude.{ℕ}
use Rattle.files.specs.declared.Refusal.{Refusal}

abbrev pub refusal : {P : Type 0} → ℕ → P → Refusal P
refusal n p = record { 0 = n; 1 = p }
