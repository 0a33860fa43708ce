-- What stands at a place of a tree file, found by the file's bits, a run's links and its table.
use Prim.Native.Nat.{ℕ, zero, suc}
use Rattle.std.specs.Prelude.{Bool, false, List, map, eqb, get_or, Option, Some, None}
use Rattle.std.proofs.Math.Bool.{cond}
use Rattle.fields.specs.Field.{field_read}
use Rattle.files.specs.Codes.{codes, shape_of}
use Rattle.links.specs.Links.{link_at}
use Rattle.machines.specs.Fetched.{Fetched, returns, calls, branches, saves, bad, plainly}
use Rattle.machines.specs.Machine.{Program}
use Rattle.machines.specs.Slots.{slot_at, slot_resolve}
use Rattle.cells.specs.declared.BitPlace.{BitPlace}

-- ---- lists' ends
unfoldable pub is_end : Option (ℕ × BitPlace) → Bool
is_end (Some (v, q)) = eqb v 0
is_end None = false

-- where execution is at p: at a list's end where its link leads, and so on outwards, n times at most
unfoldable pub settled : List ℕ → List ℕ → ℕ → ℕ → ℕ
unfolding is_end
settled s L zero p = p
settled s L (suc n) p = cond (is_end (field_read s p 5)) (settled s L n (link_at L p)) p

-- ---- an instruction
-- how many operand bytes a code has
unfoldable pub tree_bytes : ℕ → ℕ
tree_bytes v = get_or (map (λ r. r.tree) codes) v 0

-- code v with the operand n, or none, of the codes that are not neutral: q is the place past it, and l the link of its place
unfoldable pub transfer_as : ℕ → ℕ → ℕ → ℕ → Fetched
transfer_as l v n q =
    cond (eqb v 1) returns
    (cond (eqb v 2) (calls n)
    (cond (eqb v 3) (branches 0 q l)
    (cond (eqb v 4) (saves n q l) bad)))

-- on with a field's value and the place past it
unfoldable pub with_read : (ℕ → ℕ → Fetched) → Option (ℕ × BitPlace) → Fetched
with_read k (Some (v, q)) = k v q.0
with_read k None = bad

module _ (s L table : List ℕ) (t : ℕ) where
  -- the instruction at p whose code v ends at q, by the code's shape; a conditional's kind is not known here
  unfoldable pub shaped_as : ℕ → ℕ → ℕ → ℕ → Fetched
  unfolding plainly slot_resolve
  shaped_as p v q zero = bad
  shaped_as p v q (suc zero) = cond (eqb v 1) returns (plainly (slot_resolve (slot_at table t) v 0 0) q)
  shaped_as p v q (suc (suc zero)) = with_read (λ a q₁. cond (eqb v 2) (calls a) (plainly (slot_resolve (slot_at table t) v a 0) q₁)) (field_read s q 8)
  shaped_as p v q (suc (suc (suc zero))) =
      with_read (λ a q₁. with_read (λ b q₂. plainly (slot_resolve (slot_at table t) v a b) q₂) (field_read s q₁ 8)) (field_read s q 8)
  shaped_as p v q (suc (suc (suc (suc zero)))) = branches 0 q (link_at L p)
  shaped_as p v q (suc (suc (suc (suc (suc zero))))) = with_read (λ n q₁. saves n q₁ (link_at L p)) (field_read s q 8)
  shaped_as p v q (suc (suc (suc (suc (suc (suc k)))))) = bad

  unfoldable pub instruction_at : ℕ → Fetched
  unfolding shaped_as with_read
  instruction_at p = with_read (λ v q. shaped_as p v q (shape_of v)) (field_read s p 5)

  -- a list is in at most 16 lists; no list begins at place 0, where a template that is not there would stand: a return
  unfoldable pub fetched_at : ℕ → Fetched
  unfolding instruction_at settled
  fetched_at p = cond (eqb p 0) returns (instruction_at (settled s L 17 p))

-- the program that a file, its links and its table are
abbrev pub linked_program : List ℕ → List ℕ → List ℕ → Program
linked_program s L table = record { fetch = fetched_at s L table; start = λ t. slot_at table t 0 }
