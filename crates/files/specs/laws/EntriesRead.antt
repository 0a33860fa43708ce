-- What the readers of entries and of padding tell of what is read, and what they leave in a run's table. Assumes nothing.
use Prim.Native.Nat.{ℕ, zero, suc}
use Rattle.std.specs.Prelude.{◌≡◌}
use Rattle.std.proofs.Math.Path.{refl, ap}
use mathlib.Core.List.{List, ◌∷◌, map}
use Rattle.files.specs.Reading.{Got, got, refused}
use Rattle.files.specs.Entries.{Entry, then, entry_at, entries_at}
use Rattle.files.specs.Table.{slot_of}
use Rattle.files.specs.EntriesRead.{slot_then, slots_at}

-- ---- where all entries are read, their slots are all there
abbrev Slots : List ℕ → Got (List Entry) → Type 0
Slots xs (got es q) = xs ≡ map slot_of es
Slots xs (refused n p) = Unit

module _ (s : List ℕ) (own T : ℕ) where
  slots_more : (e : Entry) (xs : List ℕ) (g : Got (List Entry)) → Slots xs g → Slots (slot_of e ∷ xs) (then g (λ es q. got (e ∷ es) q))
  unfolding then
  slots_more e xs (got es q) h = ap (λ (l : List ℕ). slot_of e ∷ l) h
  slots_more e xs (refused n p) h = tt

  slots_first : (n : ℕ) (g : Got Entry) → ((q : ℕ) → Slots (slots_at s own T n q) (entries_at s own T n q))
      → Slots (slot_then g (slots_at s own T n)) (then g (λ e q. then (entries_at s own T n q) (λ es r. got (e ∷ es) r)))
  unfolding then slot_then
  slots_first n (got e q) f = slots_more e (slots_at s own T n q) (entries_at s own T n q) (f q)
  slots_first n (refused m p) f = tt

  slots_good : (n p : ℕ) → Slots (slots_at s own T n p) (entries_at s own T n p)
  unfolding slots_at entries_at
  slots_good zero p = refl
  slots_good (suc n) p = slots_first n (entry_at s own T p) (slots_good n)

  pub slots_all : (n p : ℕ) {es : List Entry} {q : ℕ} → entries_at s own T n p ≡ got es q → slots_at s own T n p ≡ map slot_of es
  slots_all n p e = rw e at (slots_good n p)
