-- Entries as slots of a table.
use Rattle.std.specs.Prelude.{ℕ, suc, ◌+◌, ◌*◌, ◌^◌, ◌<◌, ◌≡◌, cond, List, [], ◌∷◌, ◌++◌, length, take, eqb, ltb}
use Rattle.files.specs.Entries.{Entry, constant, global, template, tag_width}

unfoldable pub slot_of : Entry → ℕ
slot_of (constant t x) = t * 0x1000000000000 + x
slot_of (global g) = 0x6000000000000 + g
slot_of (template k) = 0x7000000000000 + k

-- an entry that a slot tells
unfoldable pub Fits : Entry → Type 0
Fits (constant t x) = (t < 6) × (x < 2 ^ tag_width t)
Fits (global g) = g < 256
Fits (template k) = k < 256

unfoldable pub AllFit : List Entry → Type 0
AllFit [] = Unit
AllFit (e ∷ es) = Fits e × AllFit es

unfoldable pub slots_of : List Entry → List ℕ
slots_of [] = []
slots_of (e ∷ es) = slot_of e ∷ slots_of es

-- where x stands; past the last where it does not
unfoldable pub position : ℕ → List ℕ → ℕ
position x [] = 0
position x (y ∷ l) = cond (eqb y x) 0 (suc (position x l))

-- with x at the end, unless it is there
unfoldable pub placed : List ℕ → ℕ → List ℕ
placed l x = cond (ltb (position x l) (length l)) l (l ++ (x ∷ []))

-- the slot put behind the first of a table
pub record Added (table table' : List ℕ) (count slot r : ℕ) : Type 0 where
  pub put : take r table' ≡ placed (take count table) slot
  pub many : r ≡ length (placed (take count table) slot)
  pub long : length table' ≡ length table
