-- Linear code as a machine reads it: a file's bytes, and a run's table of it (files, Table).
use Rattle.std.specs.Prelude.{ℕ, ◌+◌, ◌/◌, ◌%◌, ◌<◌, ◌≤◌, ◌≡◌, cond, List, [], ◌∷◌, eqb, length, get_or, take, drop}
use Rattle.machines.specs.Fetched.{Fetched, bad, plainly, transfer, within}
use Rattle.machines.specs.Machine.{Program}
use Rattle.machines.specs.Slots.{slot_at, slot_resolve}

-- ---- an instruction: its code, the bytes after it, the place past it, and the slots of the template's row
unfoldable pub whole_bytes : (ℕ → ℕ) → ℕ → List ℕ → ℕ → Fetched
whole_bytes slot op w next = transfer op w next (plainly (slot_resolve slot op (get_or w 0 0) (get_or w 1 0)) next)

unfoldable pub code_bytes : (ℕ → ℕ) → ℕ → ℕ → List ℕ → Fetched
code_bytes slot q op w = within q op w (whole_bytes slot op w)

unfoldable pub decode_bytes : (ℕ → ℕ) → ℕ → List ℕ → Fetched
unfolding code_bytes
decode_bytes slot q [] = bad
decode_bytes slot q (op ∷ w) = code_bytes slot q op w

-- ---- a template's code: `len` bytes from `start` on. No code begins at byte 0: a template that is not there is a single return.
unfoldable pub code_from : List ℕ → ℕ → ℕ → List ℕ
code_from s start len = cond (eqb start 0) (1 ∷ []) (take len (drop start s))

unfoldable pub fetch_bytes : List ℕ → List ℕ → ℕ → ℕ → ℕ → ℕ → Fetched
fetch_bytes s table t start len q = decode_bytes (slot_at table t) q (drop q (code_from s start len))

-- where template t's code begins, and how long it is
unfoldable pub code_start : List ℕ → ℕ → ℕ
code_start table t = slot_at table t 0 % 0x100000000

unfoldable pub code_length : List ℕ → ℕ → ℕ
code_length table t = slot_at table t 0 / 0x100000000

abbrev pub bytes_program : List ℕ → List ℕ → Program
bytes_program s table = record { fetch = λ t q. fetch_bytes s table t (code_start table t) (code_length table t) q; start = λ t. 0 }

-- ---- every code lies within the file
pub record Within (s : List ℕ) (start len : ℕ) : Type 0 where
  pub inside : start + len ≤ length s
  pub there : start ≡ 0 → len ≡ 0

pub record AllWithin (s table : List ℕ) : Type 0 where
  pub short : length s ≤ 262144
  pub within : (t : ℕ) → Within s (code_start table t) (code_length table t)

abbrev pub AllBytes : List ℕ → Type 0
AllBytes s = (i : ℕ) → get_or s i 0 < 256
