-- What `fetch` answers, by what the fields are read as: one law for each way through it. Assumes nothing.
use Prim.Native.Nat.{ℕ, zero, suc, ◌-◌, ◌≤◌, ◌<◌, ◌^◌}
use native.Mathlib.Omega.{arith}
use Rattle.std.specs.Prelude.{◌≡◌, false, List, length, Some, None}
use Rattle.std.proofs.Math.Path.{refl}
use Rattle.std.proofs.Common.{ap, ◌∙◌, eq-eqb, ne_eqb}
use Rattle.cells.specs.declared.BitPlace.{BitPlace}
use Rattle.fields.specs.Field.{field_read}
use Rattle.fields.specs.laws.Laws.{value_of}
use Rattle.files.specs.Codes.{shape_of}
use Rattle.links.specs.Links.{link_at}
use Rattle.machines.specs.Fetched.{bad}
use Rattle.machines.specs.Instruction.{number, fetched_as}
use Rattle.machines.specs.Slots.{slot_at}
use Rattle.machines.specs.declared.CodePlace.TheVariants.{Tree}
use Rattle.machines.specs.declared.Instruction.TheVariants.{Neutral, Return, Call, Branch, Save, Bad}
use Rattle.tree_code.specs.Fetch.{is_end, settled, with_read, shaped_as, instruction_at, fetched_at}

-- ---- lists' ends
settled_here : (s L : List ℕ) (n p : ℕ) → is_end (field_read s p 5) ≡ false → settled s L n p ≡ p
unfolding settled
settled_here s L zero p e = refl
settled_here s L (suc n) p e = rw e refl

-- ---- fetching
pub nowhere_fetched : (s L table : List ℕ) (t p : ℕ) → p ≡ 0 → fetched_as (slot_at table t) Return ≡ fetched_at s L table t p
unfolding fetched_at fetched_as
nowhere_fetched s L table t p e = rw e refl

-- execution is where it is at q, with n lists left to go out of
module _ (s L : List ℕ) (p n q : ℕ) (same : settled s L 17 p ≡ settled s L n q) where
  module _ (table : List ℕ) (t : ℕ) (away : p ≡ 0 → ⊥) where
    there : settled s L n q ≡ q → instruction_at s L table t q ≡ fetched_at s L table t p
    unfolding fetched_at
    there e = rw (ne_eqb p 0 away, same, e) refl

    pub cut_fetched : field_read s q 5 ≡ None → fetched_as (slot_at table t) Bad ≡ fetched_at s L table t p
    unfolding instruction_at with_read fetched_as is_end
    cut_fetched e = (rw e refl) ∙ there (settled_here s L n q (rw e refl))

    pub code_fetched : (v : ℕ) (r : BitPlace) → field_read s q 5 ≡ Some (v, r) → (v ≡ 0 → ⊥) → instruction_at s L table t q ≡ fetched_at s L table t p
    unfolding is_end
    code_fetched v r e h = there (settled_here s L n q (rw e (ne_eqb v 0 h)))

    pub end_fetched : (v : ℕ) (r : BitPlace) → field_read s q 5 ≡ Some (v, r) → v ≡ 0 → n ≡ 0 → fetched_as (slot_at table t) Bad ≡ fetched_at s L table t p
    unfolding instruction_at with_read fetched_as shaped_as shape_of settled
    end_fetched v r e h z = (rw (e, h) refl) ∙ there (rw z refl)

  pub end_followed : (v : ℕ) (r : BitPlace) → field_read s q 5 ≡ Some (v, r) → v ≡ 0 → (n ≡ 0 → ⊥) → (u : ℕ) → u ≡ link_at L q
      → settled s L 17 p ≡ settled s L (n - 1) u
  unfolding settled is_end
  end_followed v r e h z u i = same ∙ (let m : n ≡ suc (n - 1) = omega arith in rw (ap (λ (k : ℕ). settled s L k q) m, e, h, i) refl)
