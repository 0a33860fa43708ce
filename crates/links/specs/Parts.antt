-- What stands at a place of a list, without its code; and the links of a list that is read.
use Rattle.std.specs.Prelude.{ℕ, ◌+◌, ◌-◌, ◌≡◌, List}
use Rattle.cells.specs.declared.BitPlace.{BitPlace}
use Rattle.files.specs.Code.{Code, Instr, neutral_i, return_i, call_i, unless_i, cont_i, bits}
use Rattle.files.specs.Reading.{Got, got, refused, Head, stop, item, bad, list_at}
use Rattle.lists.specs.declared.Keep.TheVariants.{Pasts}
use Rattle.lists.specs.Marks.{HasIn}
use Rattle.links.specs.Links.{link, linked}
use Rattle.links.specs.declared.Parts.{Parts}
use Rattle.links.specs.declared.Parts.TheVariants.{End, Simple, Arms, Saved, Bad}

abbrev pub place : ℕ → BitPlace
place p = record { 0 = p }

-- the instruction i at p, past which is q
unfoldable pub instr_parts : ℕ → Instr → ℕ → Parts
instr_parts p (neutral_i op ns) q = Simple (place q)
instr_parts p return_i q = Simple (place q)
instr_parts p (call_i n) q = Simple (place q)
instr_parts p (unless_i x y) q = Arms (place (p + 5 + bits x)) (place q)
instr_parts p (cont_i n x) q = Saved (place q)

unfoldable pub parts_of : ℕ → Head → Parts
unfolding instr_parts
parts_of p (stop q) = End
parts_of p (item i q) = instr_parts p i q
parts_of p (bad n x) = Bad

-- ---- links
-- the list at p, with l levels left below it, is read, and the links L hold still at each list inside it the place past that
pub record ToLink (s L : List ℕ) (l p : ℕ) : Type 0 where
  pub code : Code
  pub past : ℕ
  pub read : list_at s l p ≡ got code past
  pub has : HasIn Pasts L p code

-- the arms of the conditional at p, the second of which begins at m; past them is q
pub record ArmsToLink (s L : List ℕ) (l p m q : ℕ) : Type 0 where
  pub first : ToLink s L l (p + 5)
  pub second : ToLink s L l m
  pub mid : first.past ≡ m
  pub end : second.past ≡ q

-- the saved list of the make-cont at p, past which is q
pub record SavedToLink (s L : List ℕ) (l p q : ℕ) : Type 0 where
  pub saved : ToLink s L l (p + 13)
  pub end : saved.past ≡ q

-- the links of the list that is read at p
unfoldable pub linked_got : List ℕ → ℕ → ℕ → ℕ → Got Code → List ℕ
unfolding linked
linked_got L p e f (got c q) = linked L p e f c
linked_got L p e f (refused n x) = L

-- those of the arms of the conditional at p that are read as x and, from m on, as y; past them is q
unfoldable pub linked_arms : List ℕ → ℕ → ℕ → ℕ → Got Code → Got Code → List ℕ
unfolding linked_got
linked_arms L p m q x y = linked_got (linked_got (link L p m) (p + 5) (m - 5) q x) m (q - 5) q y

-- those of the saved list of the make-cont at p, in a list that ends at e; past it is q
unfoldable pub linked_saved : List ℕ → ℕ → ℕ → ℕ → Got Code → List ℕ
unfolding linked_got
linked_saved L p e q x = linked_got (link L p q) (p + 13) (q - 5) e x
