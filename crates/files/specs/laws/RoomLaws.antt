-- How many rows of a run's table a file takes. Assumes nothing.
use Rattle.std.specs.Prelude.{ℕ, ◌*◌, ◌≤◌, ◌<◌, ◌≡◌, List, length, replicate}
use Rattle.std.proofs.Common.{arith, ap, ◌∙◌, le-leb}
use Rattle.std.proofs.lemmas.Bool.{lt-leb}
use Rattle.std.proofs.lemmas.List.{length-replicate}
use Rattle.files.specs.Reading.{got, refused}
use Rattle.files.specs.Entries.{field}
use Rattle.files.specs.Room.{counted, count_of, RoomFor, ZerosFor}

module _ (s : List ℕ) where
  pub count_long : 262144 < length s → 0 ≡ count_of s
  unfolding count_of
  count_long h = rw (lt-leb (length s) 262144 h)

  module _ (short : length s ≤ 262144) where
    pub count_cut : {n p : ℕ} → field s 0 8 ≡ refused n p → 0 ≡ count_of s
    unfolding count_of counted
    count_cut e = rw (le-leb (length s) 262144 short, e)

    pub count_is : {T p : ℕ} → field s 0 8 ≡ got T p → T ≡ count_of s
    unfolding count_of counted
    count_is e = rw (le-leb (length s) 262144 short, e)

    -- a row for each template
    pub room_rows : {T p n : ℕ} → RoomFor s n → field s 0 8 ≡ got T p → T ≤ 64 → 256 * T ≤ n
    room_rows room e few = let k = count_is e in rw (← k) at (room (rw (← k) few))

pub table_room : (s table : List ℕ) → ZerosFor s table → RoomFor s (length table)
table_room s table z few = let l = ap length z.zero ∙ length-replicate {A = ℕ} z.size 0 in rw l (z.room few)

-- 64 rows are enough for every file
pub all_rows : (s : List ℕ) {table : List ℕ} → table ≡ replicate 16384 0 → ZerosFor s table
all_rows s e = record { size = 16384; room = λ few. omega arith; zero = e }
