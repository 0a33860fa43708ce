-- The way back for one list (request 13): it finds the accepted list that flattens to the bytes, and there is at most one. Assumes nothing.
use Rattle.std.specs.Prelude.{ℕ, suc, max, ◌≤◌, ◌≡◌, Bool, false, ◌||◌, List, ◌↔◌, length}
use Rattle.std.proofs.Common.{arith, sym, ap, ◌∙◌}
use Rattle.std.proofs.Math.Bool.{true}
use Rattle.std.proofs.Math.Option.{none, some}
use Rattle.files.specs.Code.{Code}
use Rattle.files.specs.Entries.{Entry}
use Rattle.files.specs.Grammar.{is_empty, is_open, is_closed, indices_fit}
use Rattle.files.specs.Flat.{flat, offsets_fit}
use Rattle.files.specs.Valid.{Bytes, Valid}
use Rattle.tree_file.specs.File.{levels}
use Rattle.back.specs.Unflat.{on, test}
use Rattle.back.specs.laws.Formed.{Formed, loose_is, closed_formed, loose_formed}
use Rattle.back.specs.laws.Good.{Good}
use Rattle.back.specs.laws.GoodLaws.{good, good_formed, good_valid, good_levels, good_offsets, closed_is}
use Rattle.back.proofs.theorems.Inverse.{unflat_flat, one_list}
use Rattle.back.proofs.theorems.Sound.{unflat_sound, on_led, test_led}
use Rattle.back.specs.laws.ListBack.{back, list_back}

-- closed (true), or open or empty (false)
unfoldable pub is_of : Bool → Code → Bool
is_of true c = is_closed c
is_of false c = is_empty c || is_open c

-- a list of that category with at most l levels below it, that can be read and flattened
pub record Fit (l : ℕ) (k : Bool) (c : Code) : Type 0 where
  pub category : is_of k c ≡ true
  pub valid : Valid c
  pub deep : levels c ≤ l
  pub offsets : offsets_fit c ≡ true

fit_formed : (k : Bool) (c : Code) → is_of k c ≡ true → Formed k c
unfolding is_of
fit_formed true c e = closed_formed c e
fit_formed false c e = loose_formed c e

pub fit_good : (l : ℕ) (k : Bool) (c : Code) → Fit l k c → Good l k c
fit_good l k c f = good l (fit_formed k c f.category) f.valid f.deep f.offsets

good_category : {l : ℕ} (k : Bool) {c : Code} → Good l k c → is_of k c ≡ true
unfolding is_of
good_category true g = closed_is g
good_category false g = loose_is (good_formed g)

pub good_fit : (l : ℕ) (k : Bool) (c : Code) → Good l k c → Fit l k c
good_fit l k c g = record { category = good_category k g; valid = good_valid g; deep = good_levels g; offsets = good_offsets g }

module _ (l : ℕ) (k : Bool) where
  -- it finds every list
  pub back_flat : (c : Code) → Fit l k c → back l k (flat c) ≡ some c
  unfolding back
  back_flat c f = unflat_flat (suc (length (flat c))) (fit_good l k c f) (omega arith)

  -- and only what flattens to the bytes
  pub flat_back : (w : List ℕ) (c : Code) → Bytes w → back l k w ≡ some c → (flat c ≡ w) × Fit l k c
  unfolding back
  flat_back w c b e = let s = unflat_sound (suc (length w)) l k w c b e in (s.is, good_fit l k c s.good)

  pub back_iff : (w : List ℕ) (c : Code) → Bytes w → back l k w ≡ some c ↔ ((flat c ≡ w) × Fit l k c)
  back_iff w c b = (flat_back w c b, λ h. ap (back l k) (sym h.0) ∙ back_flat c h.1)

  -- where it finds none there is none
  pub back_none : (w : List ℕ) → back l k w ≡ none → (c : Code) → Fit l k c → flat c ≡ w → ⊥
  back_none w e c f h = let i : back l k w ≡ some c = ap (back l k) (sym h) ∙ back_flat c f in let z : ◌≡◌ {A = ℕ} 0 1 = cc in omega arith

-- no two lists of one category flatten alike, whatever their levels
pub no_two : (k : Bool) (c d : Code) → is_of k c ≡ true → is_of k d ≡ true → Valid c → Valid d → offsets_fit c ≡ true → offsets_fit d ≡ true
    → flat c ≡ flat d → c ≡ d
no_two k c d a b v w f g e =
    let l : ℕ = max (levels c) (levels d) in
    one_list
    (fit_good l k c (record { category = a; valid = v; deep = omega arith; offsets = f }))
    (fit_good l k d (record { category = b; valid = w; deep = omega arith; offsets = g })) e

-- ---- the list of a template with entries es: at level 1 of 16, closed, its indices fit
pub record Accepted (es : List Entry) (c : Code) : Type 0 where
  pub fit : Fit 15 true c
  pub indices : indices_fit es c ≡ true

module _ (es : List Entry) (w : List ℕ) (b : Bytes w) where
  pub list_back_iff : (c : Code) → list_back es w ≡ some c ↔ ((flat c ≡ w) × Accepted es c)
  unfolding list_back on test
  list_back_iff c = (
    λ e. on_led (back 15 true w) _ e
        (λ d found tested.
        let t = test_led (indices_fit es d) (some d) tested in
        let h = flat_back 15 true w d b found in
        let z : d ≡ c = cc in
        rw (← z) (h.0, record { fit = h.1; indices = t.0 })),
    λ h. let i : back 15 true w ≡ some c = (back_iff 15 true w c b).1 (h.0, h.1.fit) in rw (i, h.1.indices),
  )

  pub list_back_none : list_back es w ≡ none → (c : Code) → Accepted es c → flat c ≡ w → ⊥
  list_back_none e c a h = let i : list_back es w ≡ some c = (list_back_iff c).1 (h, a) in let z : ◌≡◌ {A = ℕ} 0 1 = cc in omega arith
