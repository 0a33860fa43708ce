-- What walking over basic code finds, code by code.
use Rattle.std.specs.Prelude.{ℕ, suc, ◌≡◌, List, [], ◌∷◌, Option, Some, None}
use Rattle.cells.specs.declared.BitPlace.{BitPlace}
use Rattle.files.specs.Entries.{Entry}
use Rattle.basic.specs.Basic.{Basic}
use Rattle.basic.specs.Tabulated.{template_of}
use Rattle.basic.specs.Forest.{Lists, closures_all}
use Rattle.basic.specs.laws.ForestLaws.{Passing, Carrying, Closing}
use Rattle.tabulate.specs.declared.Step.{Step}
use Rattle.tabulate.specs.declared.Step.TheVariants.{Copy, Entry as EntryStep, Closure}
use Rattle.tabulate.specs.Slots.{slot_of}

-- lists that stand from p to e
pub record Walk (s : List ℕ) (p e : ℕ) : Type 0 where
  pub lists : List Basic
  pub stand : Lists s e p lists

-- the code at p, the first of the lists cs
pub data StepIs (s : List ℕ) (e p : ℕ) (cs : List Basic) : Step → Type 0 where
  is_copy : (q : BitPlace) → Passing s e p q.0 cs → StepIs s e p cs (Copy q)
  is_entry : (q : BitPlace) (v : ℕ) (x : Entry) (slot : ℕ) → slot ≡ slot_of x → Carrying s e p q.0 v x cs → StepIs s e p cs (EntryStep v slot q)
  is_closure : (q : BitPlace) → Closing s e p q.0 cs → StepIs s e p cs (Closure q)

-- the next closure of the lists cs, which is number n
pub data NextIs (s : List ℕ) (e n : ℕ) (cs : List Basic) : Option BitPlace → Type 0 where
  no_next : closures_all n cs ≡ [] → NextIs s e n cs None
  next_is : (q : BitPlace) (x : Basic) (ds : List Basic) → closures_all n cs ≡ template_of (suc n) x ∷ closures_all (suc n) (x ∷ ds) → Lists s e q.0 (x ∷ ds)
      → NextIs s e n cs (Some q)

-- what the loop keeps: the lists that are left have the same closures
pub record Walked (s : List ℕ) (e p : ℕ) (cs : List Basic) : Type 0 where
  pub left : List Basic
  pub stand : Lists s e p left
  pub same : (n : ℕ) → closures_all n cs ≡ closures_all n left
