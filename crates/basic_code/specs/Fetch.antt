-- What stands at a place of a basic file, found by the file's bits and a run's links: at unless-false the link is the first bit of the second arm, at make-cont
-- that of its rest, at closure the place past its list and the number of its template, at a list's end the instruction with which execution goes on (0: none).
use Prim.Native.Nat.{ℕ, zero, suc, ◌/◌, ◌%◌, ◌<◌, ◌^◌}
use Rattle.std.specs.Prelude.{◌&&◌, List, eqb, Option, Some, None, Result, Ok, Err}
use Rattle.std.proofs.Math.Bool.{cond, not}
use Rattle.fields.specs.Field.{field_read}
use Rattle.files.specs.Codes.{shape_of}
use Rattle.files.specs.Entries.{entry_at}
use Rattle.files.specs.EntriesRead.{entry_told}
use Rattle.links.specs.Links.{link_at}
use Rattle.rules.specs.declared.Plain.TheVariants.{Literal, Closure, Global, SetGlobal}
use Rattle.machines.specs.Fetched.{Fetched, plain, returns, calls, branches, saves, bad, plainly}
use Rattle.machines.specs.Machine.{Program}
use Rattle.machines.specs.Slots.{slot_at, slot_resolve}
use Rattle.basic_code.specs.declared.BasicInstruction.{BasicInstruction}
use Rattle.basic_code.specs.declared.BasicInstruction.TheVariants.{Ready, Return, Call, Branch, Save, Bad}
use Rattle.files.specs.declared.Refusal.{Refusal}
use Rattle.cells.specs.declared.BitPlace.{BitPlace}

-- what the code's own instruction is
unfoldable pub read_as : BasicInstruction → Fetched
read_as (Ready i p) = plain i p.0
read_as Return = returns
read_as (Call n) = calls n
read_as (Branch p q) = branches 0 p.0 q.0
read_as (Save n p q) = saves n p.0 q.0
read_as Bad = bad

-- a saved place fits a frame's cell
unfoldable pub SavedFits : BasicInstruction → Type 0
SavedFits (Ready i p) = Unit
SavedFits Return = Unit
SavedFits (Call n) = Unit
SavedFits (Branch p q) = Unit
SavedFits (Save n p q) = p.0 < 2 ^ 24
SavedFits Bad = Unit

-- ---- an instruction
-- on with a field's value and the place past it
unfoldable pub with_read : (ℕ → ℕ → Fetched) → Option (ℕ × BitPlace) → Fetched
with_read k (Some (v, q)) = k v q.0
with_read k None = bad

-- a literal, by the slot of the entry that stands in it
unfoldable pub literal_by : Result (ℕ × BitPlace) (Refusal BitPlace) → Fetched
literal_by (Ok (x, q)) = plain (Literal x) q.0
literal_by (Err e) = bad

module _ (s L : List ℕ) where
  -- the instruction at p whose code v ends at q, by the code's shape
  unfoldable pub shaped_as : ℕ → ℕ → ℕ → ℕ → Fetched
  unfolding plainly slot_resolve
  shaped_as p v q zero = bad
  shaped_as p v q (suc zero) = cond (eqb v 1) returns (plainly (slot_resolve (λ _. 0) v 0 0) q)
  shaped_as p v q (suc (suc zero)) = with_read (λ a q₁. cond (eqb v 2) (calls a) (plainly (slot_resolve (λ _. 0) v a 0) q₁)) (field_read s q 8)
  shaped_as p v q (suc (suc (suc zero))) =
      with_read (λ a q₁. with_read (λ b q₂. plainly (slot_resolve (λ _. 0) v a b) q₂) (field_read s q₁ 8)) (field_read s q 8)
  shaped_as p v q (suc (suc (suc (suc zero)))) = branches 0 q (link_at L p)
  shaped_as p v q (suc (suc (suc (suc (suc zero))))) = with_read (λ n q₁. saves n q₁ (link_at L p)) (field_read s q 8)
  shaped_as p v q (suc (suc (suc (suc (suc (suc k)))))) = bad

  -- codes 6 to 9 by what they carry
  unfoldable pub code_as : ℕ → ℕ → ℕ → Fetched
  unfolding shaped_as
  code_as p v q =
      cond (eqb v 6) (literal_by (entry_told (entry_at s 0 0 q)))
      (cond (eqb v 7) (plain (Closure (link_at L p % 64)) (link_at L p / 64))
      (cond (eqb v 8) (with_read (λ g r. plain (Global g) r) (field_read s q 8))
      (cond (eqb v 9) (with_read (λ g r. plain (SetGlobal g) r) (field_read s q 8))
      (shaped_as p v q (shape_of v)))))

  unfoldable pub instruction_at : ℕ → Fetched
  unfolding code_as with_read
  instruction_at p = with_read (code_as p) (field_read s p 5)

  -- at a list's end the instruction to which its link leads
  unfoldable pub end_as : ℕ → Fetched
  unfolding instruction_at
  end_as q = cond (eqb q 0) bad (instruction_at q)

  unfoldable pub here_as : ℕ → Option (ℕ × BitPlace) → Fetched
  unfolding code_as end_as
  here_as p (Some (v, q)) = cond (eqb v 0) (end_as (link_at L p)) (code_as p v q.0)
  here_as p None = bad

  -- in template t: template 0 alone has place 0, and a template that is not there would begin with a return
  unfoldable pub fetched_at : ℕ → ℕ → Fetched
  unfolding here_as
  fetched_at t p = cond (eqb p 0 && not (eqb t 0)) returns (here_as p (field_read s p 5))

-- the program that a file, its links and its table are
abbrev pub basic_linked : List ℕ → List ℕ → List ℕ → Program
basic_linked s L table = record { fetch = fetched_at s L; start = λ t. slot_at table t 0 }
