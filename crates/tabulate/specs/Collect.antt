-- Collecting the entries of one template.
use Rattle.std.specs.Prelude.{ℕ, ◌+◌, ◌/◌, ◌≤◌, ◌<◌, ◌≡◌, cond, List, [], ◌∷◌, length, take, eqb, Option, Some, None}
use Rattle.files.specs.Reading.{got}
use Rattle.files.specs.Entries.{Entry}
use Rattle.basic.specs.Basic.{Basic}
use Rattle.basic.specs.Reading.{list_at}
use Rattle.basic.specs.Tabulated.{inside, with_all, entries_of}
use Rattle.basic.specs.Forest.{Lists, inside_all, uses_all, own_bits, own_all}
use Rattle.tabulate.specs.Slots.{slot_of, Fits, AllFit, slots_of}

-- a list that stands from p to e; n is the next template's number
pub record OwnList (s : List ℕ) (p e n : ℕ) : Type 0 where
  pub list : Basic
  pub read : list_at s 15 p ≡ got list e
  pub few : n + inside list ≤ 256

pub data CollectedIs (es : List Entry) (b : ℕ) (table : List ℕ) : Option (ℕ × ℕ) → Type 0 where
  many_entries : 255 < length es → CollectedIs es b table None
  few_entries : (count size : ℕ) → length es ≤ 255 → count ≡ length es → size ≡ b → take count table ≡ slots_of es → AllFit es
      → CollectedIs es b table (Some (count, size))

-- what the loop keeps for the list c, where it is at p
pub record Collecting (s : List ℕ) (e : ℕ) (c : Basic) (n p next count size : ℕ) (table : List ℕ) : Type 0 where
  pub left : List Basic
  pub stand : Lists s e p left
  pub so_far : List Entry
  pub rest : entries_of n c ≡ with_all so_far (uses_all next left)
  pub held : take count table ≡ slots_of so_far
  pub counted : count ≡ length so_far
  pub fit : AllFit so_far
  pub own : own_bits c ≡ size + own_all left
  pub numbers : n + inside c ≡ next + inside_all left

-- ---- how many bits entries have, by their slots
unfoldable pub slot_bits : ℕ → ℕ
slot_bits slot =
    cond (eqb (slot / 0x1000000000000) 4) 37 (cond (eqb (slot / 0x1000000000000) 5) 53
    (cond (eqb (slot / 0x1000000000000) 6) 10 (cond (eqb (slot / 0x1000000000000) 7) 10 5)))

unfoldable pub slots_bits : List ℕ → ℕ
slots_bits [] = 0
slots_bits (x ∷ l) = slot_bits x + slots_bits l

-- a slot that tells an entry
pub record SlotAt (slot : ℕ) : Type 0 where
  pub entry : Entry
  pub is : slot ≡ slot_of entry
  pub fits : Fits entry
