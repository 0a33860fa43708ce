-- Reading a tree file (document 01, 'Two files'; refusals 1 to 5).
use Rattle.std.specs.Prelude.{ℕ, zero, suc, ◌+◌, cond, ◌&&◌, List, [], ◌∷◌, length, leb}
use Rattle.cells.specs.Numbers.{too_long}
use Rattle.files.specs.Code.{Code}
use Rattle.files.specs.Reading.{Got, got, refused, list_at}
use Rattle.files.specs.Entries.{Entry, then, field, valid, entries_at, to_byte, zero_bits, nothing_more}

-- its entries, the first bit of its list, the list
pub record Template : Type 0 where
  pub entries : List Entry
  pub start : ℕ
  pub code : Code

-- template own of T at p: E, the entries 1 to E, the list at level 1 of 16
unfoldable pub template_at : List ℕ → ℕ → ℕ → ℕ → Got Template
template_at s own T p =
    then (field s p 8)
    (λ n q. then (entries_at s own T n q) (λ es r. then (list_at s 15 r) (λ c z. got (record { entries = es; start = r; code = c }) z)))

-- n templates from number own on
unfoldable pub templates_at : List ℕ → ℕ → ℕ → ℕ → ℕ → Got (List Template)
templates_at s T own zero p = got [] p
templates_at s T own (suc n) p = then (template_at s own T p) (λ t q. then (templates_at s T (own + 1) n q) (λ ts r. got (t ∷ ts) r))

-- the padding after the last list, and the end
unfoldable pub padded_end : {A : Type 0} → List ℕ → A → ℕ → Got A
padded_end s a p = then (zero_bits s (to_byte p) p a) (λ a q. nothing_more s q a)

-- 1, then whichever of 2 to 5 comes first in reading order
unfoldable pub tree_read : List ℕ → Got (List Template)
tree_read s =
    cond (leb (length s) 65536)
    (then (field s 0 8) (λ T p. valid 0 (leb 1 T && leb T 64) (then (templates_at s T 0 T p) (λ ts q. padded_end s ts q))))
    (refused too_long 0)
