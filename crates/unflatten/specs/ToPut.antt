-- What putting a list into a tree leaves, and what each instruction does to that.
use Rattle.std.specs.Prelude.{ℕ, ◌+◌, ◌*◌, ◌-◌, ◌≤◌, ◌<◌, ◌≡◌, Bool, List, ◌++◌, length}
use Rattle.std.proofs.Math.Option.{Option, none, some}
use Rattle.std.specs.Prelude.{Option as OrNone, None, Some}
use Rattle.cells.specs.declared.BitPlace.{BitPlace}
use Rattle.files.specs.Code.{Code, Instr, put, bits}
use Rattle.files.specs.laws.ReadingLaws.{bits_i}
use Rattle.bit_writer.specs.Put.{put_bits}
use Rattle.tree_file.specs.File.{list_bits, instr_bits}
use Rattle.back.specs.Unflat.{on}
use Rattle.unflatten.specs.declared.Arms.{Arms}
use Rattle.unflatten.specs.declared.Region.{Region}
use Rattle.unflatten.specs.Found.{part, found}
use Rattle.unflatten.specs.Heads.{left_found}

-- a list that is looked for in n bytes, put into o at a: none is there, or it is told where it ends, and stands there
pub data Puts (n : ℕ) (o : List ℕ) (a : ℕ) : Option Code → OrNone BitPlace → List ℕ → Type 0 where
  none_put : {o' : List ℕ} → Puts n o a none None o'
  list_put : {c : Code} {a' : ℕ} {o' : List ℕ} → bits c ≤ 8 * n + 5 → a' ≡ a + bits c → o' ≡ put_bits o a (list_bits c)
      → Puts n o a (some c) (Some (record { 0 = a' })) o'

-- two lists one after the other
pub data TwoPut (n : ℕ) (o : List ℕ) (a : ℕ) : Option Code → Option Code → OrNone BitPlace → List ℕ → Type 0 where
  no_first : {y : Option Code} {o' : List ℕ} → TwoPut n o a none y None o'
  no_second : {x : Option Code} {o' : List ℕ} → TwoPut n o a x none None o'
  two_put : {x y : Code} {a' : ℕ} {o' : List ℕ} → bits x + bits y ≤ 8 * n + 10 → a' ≡ a + (bits x + bits y) → o' ≡ put_bits o a (list_bits x ++ list_bits y)
      → TwoPut n o a (some x) (some y) (Some (record { 0 = a' })) o'

-- the first instruction of a list that is looked for in n bytes, put into o at a; rest: what is found in what is left,
-- which ends by `end`
pub data Stepped (n end : ℕ) (o : List ℕ) (a : ℕ) (whole : Option Code) (rest : Region → Option Code) : OrNone (Region × BitPlace) → List ℕ → Type 0 where
  no_item : {o' : List ℕ} → whole ≡ none → Stepped n end o a whole rest None o'
  item_put : (i : Instr) {x : Region} {a' : ℕ} {o' : List ℕ} → whole ≡ on (rest x) (λ c. some (put i c)) → a' ≡ a + bits_i i → o' ≡ put_bits o a (instr_bits i)
      → x.from ≤ x.to → x.to ≤ end → bits_i i + 8 * (x.to - x.from) ≤ 8 * n → x.to - x.from < n
      → Stepped n end o a whole rest (Some (x, record { 0 = a' })) o'

-- the same for the region from p to e of s
abbrev pub Steps : (ℕ → ℕ → Bool) → List ℕ → ℕ → Bool → ℕ → ℕ → List ℕ → ℕ → OrNone (Region × BitPlace) → List ℕ → Type 0
Steps ok s l k p e o a r o' = Stepped (e - p) e o a (found ok l k (part p e s)) (left_found ok s l) r o'

-- how many bytes the arms of the conditional at p are, and that they lie in s and have room in o at a
abbrev pub arms_size : ℕ → Arms → ℕ
arms_size p x = (x.mid - (p + 3)) + (x.end - x.turn)

pub record ArmsIn (s o : List ℕ) (p : ℕ) (x : Arms) (a : ℕ) : Type 0 where
  pub first : p + 3 ≤ x.mid
  pub order : x.mid ≤ x.turn
  pub second : x.turn ≤ x.end
  pub inside : x.end ≤ length s
  pub room : a + 8 * arms_size p x + 10 ≤ 8 * length o

-- what a loop over the list of the region from p₀ to e₀ keeps, where it is at p: who puts what is left has put the whole
pub record Going (ok : ℕ → ℕ → Bool) (s : List ℕ) (l p₀ e₀ : ℕ) (k₀ : Bool) (a₀ : ℕ) (o₀ : List ℕ) (p e : ℕ) (k : Bool) (a : ℕ) (o : List ℕ) : Type 0 where
  pub ordered : p ≤ e
  pub inside : e ≤ length s
  pub long : length o ≡ length o₀
  pub room : a + 8 * (e - p) + 5 ≤ 8 * length o
  pub rest : (r : OrNone BitPlace) (o' : List ℕ) → Puts (e - p) o a (found ok l k (part p e s)) r o' → Puts (e₀ - p₀) o₀ a₀ (found ok l k₀ (part p₀ e₀ s)) r o'
