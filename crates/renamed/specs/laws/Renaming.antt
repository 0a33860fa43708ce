-- Cells that are the same but for the template's number in a closure, where the numbers correspond one to one. Assumes nothing.
use Rattle.std.specs.Prelude.{◌≡◌, refl, Bool, true, false, ℕ, ◌<◌, ◌^◌, eqb}
use Rattle.std.proofs.Common.{sym, ◌∙◌, arith, eqb-true, eq-eqb, ne_eqb}
use Rattle.std.proofs.lemmas.Bool.{eqb-false}
use Rattle.cells.specs.Cells.{tag_of, closure_cell, closure_template, closure_env}
use Rattle.cells.specs.laws.Laws.{closure_back}
use Rattle.lockstep.specs.laws.Likeness.{Likeness}

-- which number on the first side corresponds to which on the second: each to one at most, both ways
pub record Renaming : Type 1 where
  pub To : ℕ → ℕ → Type 0
  pub fits : {t t' : ℕ} → To t t' → (t < 2 ^ 8) × (t' < 2 ^ 8)
  pub one : {t t' s s' : ℕ} → To t t' → To s s' → t ≡ s → t' ≡ s'
  pub back : {t t' s s' : ℕ} → To t t' → To s s' → t' ≡ s' → t ≡ s

pub eqb_same : (a b c d : ℕ) → (a ≡ b → c ≡ d) → (c ≡ d → a ≡ b) → eqb a b ≡ eqb c d
eqb_same a b c d f g = pick (eqb a b) refl
  where
    pick : (t : Bool) → eqb a b ≡ t → eqb a b ≡ eqb c d
    pick true e = e ∙ sym (eq-eqb c d (f (eqb-true a b e)))
    pick false e = e ∙ sym (ne_eqb c d (λ h. eqb-false a b e (g h)))

module _ (N : Renaming) where
  pub data CellR : ℕ → ℕ → Type 0 where
    same_c : {c : ℕ} → (tag_of c ≡ 7 → ⊥) → CellR c c
    closure_c : {t t' e l : ℕ} → N.To t t' → e < 2 ^ 16 → l < 2 ^ 16 → CellR (closure_cell t e l) (closure_cell t' e l)

  -- what is packed comes back, on both sides
  record Both (t t' e l : ℕ) : Type 0 where
    template₁ : closure_template (closure_cell t e l) ≡ t
    template₂ : closure_template (closure_cell t' e l) ≡ t'
    env₁ : closure_env (closure_cell t e l) ≡ e
    env₂ : closure_env (closure_cell t' e l) ≡ e
    tag₁ : tag_of (closure_cell t e l) ≡ 7
    tag₂ : tag_of (closure_cell t' e l) ≡ 7

  both : {t t' e l : ℕ} → N.To t t' → e < 2 ^ 16 → l < 2 ^ 16 → Both t t' e l
  both {t} {t'} {e} {l} r h k =
      let x = closure_back t e l (N.fits r).0 h k in
      let y = closure_back t' e l (N.fits r).1 h k in
      record { template₁ = x.0; template₂ = y.0; env₁ = x.1; env₂ = y.1; tag₁ = x.3; tag₂ = y.3 }

  pub only : {a b : ℕ} → CellR a b → (tag_of a ≡ 7 → ⊥) → a ≡ b
  only (same_c n) h = refl
  only (closure_c r x y) h = absurd (h (both r x y).tag₁)

  pub tags : {a b : ℕ} → CellR a b → tag_of a ≡ tag_of b
  tags (same_c n) = refl
  tags (closure_c r x y) = (both r x y).tag₁ ∙ sym (both r x y).tag₂

  pub templates : {a b : ℕ} → CellR a b → tag_of a ≡ 7 → N.To (closure_template a) (closure_template b)
  templates (same_c n) h = absurd (n h)
  templates (closure_c r x y) h = rw ((both r x y).template₁, (both r x y).template₂) r

  pub envs : {a b : ℕ} → CellR a b → tag_of a ≡ 7 → closure_env a ≡ closure_env b
  envs (same_c n) h = refl
  envs (closure_c r x y) h = (both r x y).env₁ ∙ sym (both r x y).env₂

  -- closures that are equal have equal parts
  parts : {t t' e l s s' f k : ℕ} → t < 2 ^ 8 → s < 2 ^ 8 → e < 2 ^ 16 → l < 2 ^ 16 → f < 2 ^ 16 → k < 2 ^ 16
      → (t ≡ s → t' ≡ s') → closure_cell t e l ≡ closure_cell s f k → closure_cell t' e l ≡ closure_cell s' f k
  parts {t} {t'} {e} {l} {s} {s'} {f} {k} a b c d g h i j =
      let x : t ≡ s = omega arith in
      let y : e ≡ f = omega arith in
      let z : l ≡ k = omega arith in
      rw (i x, y, z) refl

  pub one_to_one : {a b c d : ℕ} → CellR a b → CellR c d → eqb a c ≡ eqb b d
  one_to_one (same_c n) (same_c m) = refl
  one_to_one (same_c {c = c} n) (closure_c {t = t} {t' = t'} {e = e} {l = l} r x y) =
      let z = both r x y in
      eqb_same c (closure_cell t e l) c (closure_cell t' e l) (λ h. absurd (n (rw h z.tag₁))) (λ h. absurd (n (rw h z.tag₂)))
  one_to_one (closure_c {t = t} {t' = t'} {e = e} {l = l} r x y) (same_c {c = c} n) =
      let z = both r x y in
      eqb_same (closure_cell t e l) c (closure_cell t' e l) c (λ h. absurd (n (rw (← h) z.tag₁))) (λ h. absurd (n (rw (← h) z.tag₂)))
  one_to_one (closure_c {t = t} {t' = t'} {e = e} {l = l} r x y) (closure_c {t = s} {t' = s'} {e = f} {l = k} q z w) =
      eqb_same (closure_cell t e l) (closure_cell s f k) (closure_cell t' e l) (closure_cell s' f k)
      (parts (N.fits r).0 (N.fits q).0 x y z w (N.one r q))
      (parts (N.fits r).1 (N.fits q).1 x y z w (N.back r q))

  pub closed_alike : {t t' : ℕ} (e l : ℕ) → N.To t t' → e < 2 ^ 16 → l < 2 ^ 16 → CellR (closure_cell t e l) (closure_cell t' e l)
  closed_alike e l r x y = closure_c r x y

  -- every global may be read and set
  abbrev pub renamed : Likeness
  renamed = record {
    CR = CellR;
    TR = N.To;
    NR = N.To;
    GR = λ g a b. CellR a b;
    Reads = λ g. Unit;
    Sets = λ g. Unit;
    same = same_c;
    only = only;
    tags = tags;
    closures = closed_alike;
    templates = templates;
    envs = envs;
    one_to_one = one_to_one;
    reads = λ u x. x;
    sets_ok = λ u x. x;
  }
