-- What is packed comes back, and what a cell's tag decides. Assumes nothing.
use Rattle.std.specs.Prelude.{◌≡◌, refl, Bool, true, false, ℕ, ◌+◌, ◌-◌, ◌*◌, ◌%◌, ◌<◌, ◌≤◌, ◌^◌, eqb}
use Rattle.std.proofs.Common.{sym, ◌∙◌, arith}
use borrow.Author.Tests.{eq-eqb, ne_eqb, eqb-true, eqb-false, le-leb, lt-leb}
use Rattle.cells.specs.declared.Value.{Value}
use Rattle.cells.specs.declared.Value.TheVariants.{False, True, Null, Unspecified, Integer, Procedure, Pair, NoValue}
use Rattle.cells.specs.Cells.{full, widened}
use Rattle.cells.specs.Cells.{tag_of, int_cell, int_of, closure_cell, closure_template, closure_env, closure_location, pair_cell, pair_first, pair_second}
use Rattle.cells.specs.Cells.{layer_cell, layer_parent, layer_count, frame_cell, frame_count, frame_template, frame_env, frame_place}
use Rattle.cells.specs.Cells.{starting_global, value_of, cell_of, Fits, ValueCell}

-- ---- two cases at once: `clash (cc)`, where the equations in scope say that two constructors are one
pub clash : {A : Type 0} → ◌≡◌ {A = ℕ} 0 1 → A
clash e = absurd (omega arith)

-- ---- fields
-- 32 bits have their place in an integer's
pub widened_low : (x : ℕ) → x < 2 ^ 31 → widened x ≡ x
widened_low x h = omega arith

pub widened_high : (x : ℕ) → 2 ^ 31 ≤ x → x < 2 ^ 32 → widened x ≡ x + (full - 2 ^ 32)
widened_high x l h = omega arith

pub widened_fits : (x : ℕ) → x < 2 ^ 32 → widened x < full
widened_fits x h = omega arith

pub int_back : (x : ℕ) → x < full → (int_of (int_cell x) ≡ x) × (tag_of (int_cell x) ≡ 6)
int_back x h = omega arith

pub pair_back : (a b : ℕ) → a < 2 ^ 16 → b < 2 ^ 16 → (pair_first (pair_cell a b) ≡ a) × (pair_second (pair_cell a b) ≡ b) × (tag_of (pair_cell a b) ≡ 8)
pair_back a b h k = omega arith

pub layer_back : (e n : ℕ) → e < 2 ^ 16 → n < 2 ^ 8 → (layer_parent (layer_cell e n) ≡ e) × (layer_count (layer_cell e n) ≡ n) × (tag_of (layer_cell e n) ≡ 9)
layer_back e n h k = omega arith

pub closure_back : (t e l : ℕ) → t < 2 ^ 8 → e < 2 ^ 16 → l < 2 ^ 16
    → (closure_template (closure_cell t e l) ≡ t) × (closure_env (closure_cell t e l) ≡ e) × (closure_location (closure_cell t e l) ≡ l) ×
    (tag_of (closure_cell t e l) ≡ 7)
closure_back t e l h k j = omega arith

pub frame_back : (n t e p : ℕ) → n < 2 ^ 8 → t < 2 ^ 8 → e < 2 ^ 16 → p < 2 ^ 24
    → (frame_count (frame_cell n t e p) ≡ n) × (frame_template (frame_cell n t e p) ≡ t) × (frame_env (frame_cell n t e p) ≡ e)
    × (frame_place (frame_cell n t e p) ≡ p)
    × (tag_of (frame_cell n t e p) ≡ 10)
frame_back n t e p h k j i = omega arith

-- ---- values
-- the value of a value's cell is the value
pub cell_value : (v : Value) → Fits v → value_of (cell_of v) ≡ v
unfolding value_of cell_of Fits
cell_value False h = refl
cell_value True h = refl
cell_value Null h = refl
cell_value Unspecified h = refl
cell_value (Integer x) h = let k = int_back x h in rw (k.1, k.0)
cell_value (Procedure p) h = let k = closure_back p.template p.env p.location h.0 h.1 h.2 in rw (k.3, k.0, k.1, k.2)
cell_value (Pair a b) h = let k = pair_back a b h.0 h.1 in rw (k.2, k.0, k.1)
cell_value NoValue h = absurd h

-- the cell of a value cell's value is the cell
pub value_back : {c : ℕ} → ValueCell c → cell_of (value_of c) ≡ c
value_back v = rw (v.is, cell_value v.value v.fits)

-- ---- 22 of an integer asks that the 12 bits below it are zero
pub starting_low : (c : ℕ) → tag_of c ≡ 6 → starting_global c ≡ eqb (c % 0x1000) 0
unfolding starting_global
starting_low c t = rw (eq-eqb (tag_of c) 6 t) (go (eqb (c % 0x1000) 0) refl)
  where
    go : (b : Bool) → eqb (c % 0x1000) 0 ≡ b → eqb c (int_cell (int_of c)) ≡ b
    go true e = eq-eqb c (int_cell (int_of c)) (omega (arith, eqb-true (c % 0x1000) 0 e))
    go false e = ne_eqb c (int_cell (int_of c)) (λ k. eqb-false (c % 0x1000) 0 e (omega arith))

-- ---- by the tag t of a cell c, in the shape that the code has it
module _ (c t : ℕ) (tag : t ≡ tag_of c) where
  pub starting_integer : t ≡ 6 → eqb c (int_cell (int_of c)) ≡ starting_global c
  unfolding starting_global
  starting_integer h = simp (eq-eqb (tag_of c) 6 (sym tag ∙ h))

  pub starting_constant : 1 ≤ t → t < 6 → eqb c (t * 0x1000000000000000) ≡ starting_global c
  unfolding starting_global
  starting_constant l h = simp (ne_eqb (tag_of c) 6 (λ e. omega arith), le-leb 1 (tag_of c) (omega arith), le-leb (tag_of c) 5 (omega arith), tag)

  pub starting_none_below : t < 1 → false ≡ starting_global c
  unfolding starting_global
  starting_none_below h = simp (ne_eqb (tag_of c) 6 (λ e. omega arith), lt-leb 1 (tag_of c) (omega arith))

  pub starting_none_above : 6 < t → false ≡ starting_global c
  unfolding starting_global
  starting_none_above h = simp (ne_eqb (tag_of c) 6 (λ e. omega arith), le-leb 1 (tag_of c) (omega arith), lt-leb (tag_of c) 5 (omega arith))

  pub no_value : (t ≡ 1 → ⊥) → (t ≡ 2 → ⊥) → (t ≡ 3 → ⊥) → (t ≡ 4 → ⊥) → (t ≡ 6 → ⊥) → (t ≡ 7 → ⊥) → (t ≡ 8 → ⊥) → NoValue ≡ value_of c
  unfolding value_of
  no_value h₁ h₂ h₃ h₄ h₆ h₇ h₈ = simp (← tag, ne_eqb t 1 h₁, ne_eqb t 2 h₂, ne_eqb t 3 h₃, ne_eqb t 4 h₄, ne_eqb t 6 h₆, ne_eqb t 7 h₇, ne_eqb t 8 h₈)
