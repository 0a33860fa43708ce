-- What the readers of a linear file tell of what is read, and what they leave in a run's table: each template that is read fills slots of its
-- row, the entries' first and slot 0 last, up to the first refusal.
use Rattle.std.specs.Prelude.{ℕ, ◌+◌, ◌*◌, cond, List, length, set, leb, Result, Ok, Err}
use Rattle.std.proofs.lemmas.List.Edits.{sets}
use Rattle.files.specs.Reading.{Got, got, refused}
use Rattle.files.specs.Entries.{Entry, then, field, to_byte, zero_bits}
use Rattle.files.specs.Linear.{Linear, code_at, linear_template_at}
use Rattle.files.specs.EntriesRead.{slots_at}
use Rattle.files.specs.Filled.{templates_by, count_by}
use Rattle.files.specs.declared.Refusal.{Refusal}
use Rattle.files.specs.Refusal.{refusal}
use Rattle.cells.specs.declared.BitPlace.{BitPlace}

-- ---- what is told
-- of a file: its number of templates
unfoldable pub linear_told : Got (List Linear) → Result ℕ (Refusal BitPlace)
linear_told (got ts q) = Ok (length ts)
linear_told (refused n p) = Err (refusal n (record { 0 = p }))

-- whether the file is accepted
unfoldable pub checked_told : Got (List Linear) → Result Unit (Refusal ℕ)
checked_told (got ts q) = Ok tt
checked_told (refused n p) = Err (refusal n p)

-- ---- what is left in the table
-- what follows the entries es of a template
unfoldable pub padded_code : List ℕ → List Entry → ℕ → Got Linear
padded_code s es r = then (zero_bits s (to_byte r) r es) (λ es u. then (field s u 24) (λ k v. code_at s es k v))

-- slot 0 of row own
unfoldable pub code_filled : ℕ → Got Linear → List ℕ → List ℕ
code_filled own (got t q) table = set table (256 * own) (t.start + 0x100000000 * length t.code)
code_filled own (refused n p) table = table

-- the slots of the entries of row own, by what E is read as
unfoldable pub entries_filled : List ℕ → ℕ → ℕ → Got ℕ → List ℕ → List ℕ
entries_filled s own T (got n q) table = sets table (256 * own + 1) (slots_at s own T n q)
entries_filled s own T (refused n p) table = table

unfoldable pub template_filled : List ℕ → ℕ → ℕ → ℕ → List ℕ → List ℕ
template_filled s own T p table = code_filled own (linear_template_at s own T p) (entries_filled s own T (field s p 8) table)

-- by templates, and by what T is read as
abbrev pub templates_filled : List ℕ → ℕ → ℕ → ℕ → ℕ → List ℕ → List ℕ
templates_filled s = templates_by (linear_template_at s) (template_filled s)

abbrev pub count_filled : List ℕ → Got ℕ → List ℕ → List ℕ
count_filled s = count_by (linear_template_at s) (template_filled s)

unfoldable pub linear_filled : List ℕ → List ℕ → List ℕ
linear_filled s table = cond (leb (length s) 262144) (count_filled s (field s 0 8) table) table
