-- What the pass that makes links finds at a place of a list, and how far it has come.
use Rattle.std.specs.Prelude.{ℕ, ◌+◌, ◌*◌, ◌≤◌, ◌≡◌, List, length}
use Rattle.cells.specs.declared.BitPlace.{BitPlace}
use Rattle.files.specs.Reading.{got}
use Rattle.files.specs.Entries.{Entry}
use Rattle.basic.specs.Basic.{Basic, ended, plain, carries, closure, branch, save, carried_bits, bits}
use Rattle.basic.specs.Reading.{list_at}
use Rattle.basic.specs.Tabulated.{inside}
use Rattle.basic_machine.specs.Links.{linked, tabled}
use Rattle.basic_machine.specs.declared.Parts.{Parts}
use Rattle.basic_machine.specs.declared.Parts.TheVariants.{End, Simple, Closure, Arms, Saved}

-- the list c is read at p
abbrev pub Reads : List ℕ → ℕ → Basic → Type 0
Reads s p c = list_at s 15 p ≡ got c (p + bits c)

-- what a list that is read at p begins with, and where its parts lie
pub data Parted (s : List ℕ) (p : ℕ) : Basic → Parts → Type 0 where
  end_p : Parted s p ended End
  plain_p : {v : ℕ} {ns : List ℕ} {r : Basic} (q : BitPlace) → q.0 ≡ p + (5 + 8 * length ns) → Reads s q.0 r → Parted s p (plain v ns r) (Simple q)
  carries_p : {v : ℕ} {e : Entry} {r : Basic} (q : BitPlace) → q.0 ≡ p + (5 + carried_bits e) → Reads s q.0 r → Parted s p (carries v e r) (Simple q)
  closure_p : {x r : Basic} (a q : BitPlace) (i : ℕ) → a.0 ≡ p + 5 → q.0 ≡ p + 5 + bits x → i ≡ inside x → Reads s a.0 x → Reads s q.0 r
      → Parted s p (closure x r) (Closure a q i)
  arms_p : {x y r : Basic} (a m q : BitPlace) (i j : ℕ) → a.0 ≡ p + 5 → m.0 ≡ p + 5 + bits x → q.0 ≡ p + 5 + bits x + bits y → i ≡ inside x → j ≡ inside y
      → Reads s a.0 x → Reads s m.0 y → Reads s q.0 r → Parted s p (branch x y r) (Arms a m q i j)
  saved_p : {n : ℕ} {x r : Basic} (a q : BitPlace) (i : ℕ) → a.0 ≡ p + 13 → q.0 ≡ p + 13 + bits x → i ≡ inside x → Reads s a.0 x → Reads s q.0 r
      → Parted s p (save n x r) (Saved a q i)

-- what a list to link asks: it is read, and its templates are few
pub record Fresh (s : List ℕ) (p n : ℕ) : Type 0 where
  pub code : Basic
  pub reads : Reads s p code
  pub few : n + inside code ≤ 64

-- what is left of linking c₀ at p₀ from L₀ and T₀ on: a list at p, from L and T on
pub record Going (s L₀ T₀ : List ℕ) (n₀ f₀ p₀ : ℕ) (c₀ : Basic) (L T : List ℕ) (n f p : ℕ) : Type 0 where
  pub rest : Basic
  pub reads : Reads s p rest
  pub links : linked L₀ n₀ f₀ p₀ c₀ ≡ linked L n f p rest
  pub starts : tabled T₀ n₀ p₀ c₀ ≡ tabled T n p rest
  pub few : n + inside rest ≤ 64
