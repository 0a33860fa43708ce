-- Resolving a code by its number, one law for each outcome. Assumes nothing.
use Prim.Native.Nat.{ℕ, ◌%◌, ◌<◌}
use mathlib.Core.Path.{◌≡◌, refl}
use mathlib.Core.Bool.{Bool, true, false, cond}
use mathlib.Core.Option.{Option, none, some}
use native.Mathlib.Omega.{arith}
use lib.Dec.{leb, eqb}
use borrow.Author.Tests.{ne_eqb, eqb-true, lt-leb}
use Rattle.cells.specs.laws.Laws.{clash}
use Rattle.cells.specs.Cells.{tag_of}
use Rattle.rules.specs.declared.Plain.{Plain}
use Rattle.rules.specs.declared.Plain.TheVariants.{Closure, Global, SetGlobal}
use Rattle.machines.specs.Fetched.{constant_named, global_named, template_named, none_named, as_literal, as_closure, as_global, rule_of}
use Rattle.machines.specs.Slots.{slot_names, marked_as, slot_resolve, resolved_as}
use Rattle.std.specs.Prelude.{Option as OrNone, None, Some}

-- the answer x to code k
abbrev pub Answers : (ℕ → ℕ) → ℕ → ℕ → ℕ → OrNone Plain → Type 0
Answers slot k a b x = x ≡ resolved_as (slot_resolve slot k a b)

-- the slots of a template without entries
abbrev pub no_entry : ℕ → ℕ
no_entry n = 0

pub coded : (slot : ℕ → ℕ) (op k a b : ℕ) (x : OrNone Plain) → op ≡ k → Answers slot k a b x → Answers slot op a b x
coded slot op k a b x e h = rw e h

-- codes from 10 on, and all that are no codes, look at no slot
pub other_code : (slot : ℕ → ℕ) (op a b : ℕ) → (op ≡ 6 → ⊥) → (op ≡ 7 → ⊥) → (op ≡ 8 → ⊥) → (op ≡ 9 → ⊥)
    → resolved_as (slot_resolve no_entry op a b) ≡ resolved_as (slot_resolve slot op a b)
unfolding slot_resolve rule_of
other_code slot op a b h₁ h₂ h₃ h₄ = rw (ne_eqb op 6 h₁, ne_eqb op 7 h₂, ne_eqb op 8 h₃, ne_eqb op 9 h₄) refl

-- 6 to 9 name no entry where there is none
pub no_code : (op a b : ℕ) → (op ≡ 10 → ⊥) → (op ≡ 11 → ⊥) → (op ≡ 12 → ⊥) → (op ≡ 13 → ⊥) → (op ≡ 15 → ⊥) → (op ≡ 16 → ⊥) → (op ≡ 18 → ⊥) → (op ≡ 19 → ⊥)
    → (op ≡ 20 → ⊥) → (op ≡ 21 → ⊥) → (op ≡ 22 → ⊥) → (op ≡ 23 → ⊥) → (op ≡ 24 → ⊥) → (op ≡ 25 → ⊥) → Answers no_entry op a b None
unfolding slot_resolve rule_of resolved_as slot_names as_literal as_closure as_global
no_code op a b h₁ h₂ h₃ h₄ h₅ h₆ h₇ h₈ h₉ i₁ i₂ i₃ i₄ i₅ =
    rw (
      ne_eqb op 10 h₁,
      ne_eqb op 11 h₂,
      ne_eqb op 12 h₃,
      ne_eqb op 13 h₄,
      ne_eqb op 15 h₅,
      ne_eqb op 16 h₆,
      ne_eqb op 18 h₇,
      ne_eqb op 19 h₈,
      ne_eqb op 20 h₉,
      ne_eqb op 21 i₁,
      ne_eqb op 22 i₂,
      ne_eqb op 23 i₃,
      ne_eqb op 24 i₄,
      ne_eqb op 25 i₅,
    ) (by (eqb op 6) (eqb op 7) (eqb op 8) (eqb op 9))
  where
    by : (c d e f : Bool)
        → None ≡ resolved_as (cond c (as_literal none_named) (cond d (as_closure none_named) (cond e (as_global Global none_named) (cond f (as_global SetGlobal none_named) none))))
    by true d e f = refl
    by false true e f = refl
    by false false true f = refl
    by false false false true = refl
    by false false false false = refl

-- ---- what a slot x names, under the tag that it was looked at for
module _ (x : ℕ) where
  abbrev Under : Option Plain → (ℕ → Plain) → ℕ → Type 0
  Under o f tag = o ≡ cond (eqb (tag_of x) tag) (some (f (x % 256))) none

  pub closure_slot : Under (as_closure (slot_names x)) Closure 12
  unfolding slot_names as_closure
  closure_slot = by (eqb (tag_of x) 12) refl
    where
      other : (a b c : Bool) → as_closure (cond a none_named (cond b (constant_named x) (cond c (global_named (x % 256)) none_named))) ≡ none
      other true b c = refl
      other false true c = refl
      other false false true = refl
      other false false false = refl

      by : (t : Bool) → eqb (tag_of x) 12 ≡ t → as_closure (slot_names x) ≡ cond t (some (Closure (x % 256))) none
      by true e = rw (eqb-true (tag_of x) 12 e)
      by false e = rw e (other (eqb (tag_of x) 0) (leb (tag_of x) 6) (eqb (tag_of x) 11))

  pub global_slot : (f : ℕ → Plain) → Under (as_global f (slot_names x)) f 11
  unfolding slot_names as_global
  global_slot f = by (eqb (tag_of x) 11) refl
    where
      other : (a b c : Bool) → as_global f (cond a none_named (cond b (constant_named x) (cond c (template_named (x % 256)) none_named))) ≡ none
      other true b c = refl
      other false true c = refl
      other false false true = refl
      other false false false = refl

      by : (t : Bool) → eqb (tag_of x) 11 ≡ t → as_global f (slot_names x) ≡ cond t (some (f (x % 256))) none
      by true e = rw (eqb-true (tag_of x) 11 e)
      by false e = rw e (other (eqb (tag_of x) 0) (leb (tag_of x) 6) (eqb (tag_of x) 12))

  -- above tag 6
  pub no_literal : (t : ℕ) → t ≡ tag_of x → 6 < t → None ≡ resolved_as (as_literal (slot_names x))
  unfolding slot_names as_literal resolved_as
  no_literal t e h = rw (ne_eqb (tag_of x) 0 (λ z. omega arith), lt-leb (tag_of x) 6 (omega arith)) (by (eqb (tag_of x) 11) (eqb (tag_of x) 12))
    where
      by : (a b : Bool) → None ≡ resolved_as (as_literal (cond a (global_named (x % 256)) (cond b (template_named (x % 256)) none_named)))
      by true b = refl
      by false true = refl
      by false false = refl

  -- the answer m was given of the tag
  module _ (f : ℕ → Plain) (tag : ℕ) (m : OrNone ℕ) (e : m ≡ marked_as tag x) (o : Option Plain) (u : Under o f tag) where
    pub marked_number : (n : ℕ) → m ≡ Some n → Some (f n) ≡ resolved_as o
    unfolding marked_as resolved_as
    marked_number n k = rw u (by (eqb (tag_of x) tag) e)
      where
        by : (b : Bool) → m ≡ cond b (Some (x % 256)) None → Some (f n) ≡ resolved_as (cond b (some (f (x % 256))) none)
        by true i = let j : n ≡ x % 256 = cc in rw j
        by false i = clash (cc)

    pub marked_other : m ≡ None → None ≡ resolved_as o
    unfolding marked_as resolved_as
    marked_other k = rw u (by (eqb (tag_of x) tag) e)
      where
        by : (b : Bool) → m ≡ cond b (Some (x % 256)) None → None ≡ resolved_as (cond b (some (f (x % 256))) none)
        by true i = clash (cc)
        by false i = refl
