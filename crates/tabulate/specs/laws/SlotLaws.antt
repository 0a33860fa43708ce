-- Slots of a table: finding one, adding one, and that entries that fit are told by theirs. Assumes nothing.
use Prim.Native.Nat.{ℕ, zero, suc, ◌+◌, ◌*◌, ◌≤◌, ◌<◌}
use native.Mathlib.Omega.{arith}
use Rattle.std.specs.Prelude.{◌≡◌, Bool, ◌&&◌, ◌||◌, length, get_or, take, set, eqb}
use Rattle.std.proofs.Math.Path.{refl, sym, ap}
use Rattle.std.proofs.Common.{◌∙◌, length-append, length-set}
use Rattle.std.proofs.Math.Bool.{true, false, cond}
use mathlib.Core.List.{List, [], ◌∷◌, ◌++◌}
use borrow.Author.Tests.{eq-eqb, ne_eqb, eqb-true, eqb-false, lt-ltb, le-ltb, ltb-true, ltb-false}
use Rattle.std.proofs.Math.Dec.{ltb}
use Rattle.files.specs.Entries.{Entry, constant, global, template}
use Rattle.basic.specs.Tabulated.{same_entry, index_of, among, with_entry, with_all}
use Rattle.tabulate.specs.Slots.{slot_of, Fits, AllFit, slots_of, position, placed, Added}
use Rattle.tabulate.specs.laws.WalkLaws.{width_48}

-- ---- finding
module _ (x : ℕ) where
  pub position_at : (l : List ℕ) (count i : ℕ) → ((j : ℕ) → j < i → get_or l j 0 ≡ x → ⊥) → i < count → i < length l → get_or l i 0 ≡ x
      → position x (take count l) ≡ i
  unfolding position
  position_at [] count i f h k e = absurd (omega arith)
  position_at (y ∷ l) zero i f h k e = absurd (omega arith)
  position_at (y ∷ l) (suc count) zero f h k e = rw (eq-eqb y x e) refl
  position_at (y ∷ l) (suc count) (suc i) f h k e =
      rw (ne_eqb y x (f 0 (omega arith)))
      (ap suc (position_at l count i (λ j lt. f (suc j) (omega arith)) (omega arith) (omega arith) e))

  pub position_none : (l : List ℕ) (count : ℕ) → ((j : ℕ) → j < count → get_or l j 0 ≡ x → ⊥) → count ≤ length l → position x (take count l) ≡ count
  unfolding position
  position_none [] zero f h = refl
  position_none [] (suc count) f h = absurd (omega arith)
  position_none (y ∷ l) zero f h = refl
  position_none (y ∷ l) (suc count) f h =
      rw (ne_eqb y x (f 0 (omega arith))) (ap suc (position_none l count (λ j lt. f (suc j) (omega arith)) (omega arith)))

  -- one more that it is not
  pub not_yet : (l : List ℕ) (i : ℕ) → ((j : ℕ) → j < i → get_or l j 0 ≡ x → ⊥) → (get_or l i 0 ≡ x → ⊥) → (j : ℕ) → j < i + 1 → get_or l j 0 ≡ x → ⊥
  not_yet l i f g j lt e = go (eqb j i) refl
    where
      go : (b : Bool) → eqb j i ≡ b → ⊥
      go true k = g (rw (← eqb-true j i k) e)
      go false k = f j (let z = eqb-false j i k in omega arith) e

-- ---- adding
pub take_length : (count : ℕ) (l : List ℕ) → count ≤ length l → length (take count l) ≡ count
take_length zero l h = refl
take_length (suc count) [] h = absurd (omega arith)
take_length (suc count) (y ∷ l) h = ap suc (take_length count l (omega arith))

take_set : (count : ℕ) (l : List ℕ) (x : ℕ) → count < length l → take (suc count) (set l count x) ≡ take count l ++ (x ∷ [])
take_set zero [] x h = absurd (omega arith)
take_set zero (y ∷ l) x h = refl
take_set (suc count) [] x h = absurd (omega arith)
take_set (suc count) (y ∷ l) x h = ap (λ (m : List ℕ). y ∷ m) (take_set count l x (omega arith))

module _ (l : List ℕ) (count x : ℕ) (room : count < length l) where
  there : position x (take count l) < count → take count l ≡ placed (take count l) x
  unfolding placed
  there h = rw (take_length count l (omega arith), lt-ltb (position x (take count l)) count h) refl

  added : count ≤ position x (take count l) → take (count + 1) (set l count x) ≡ placed (take count l) x
  unfolding placed
  added h =
      let k : count + 1 ≡ suc count = omega arith in
      rw (take_length count l (omega arith), le-ltb (position x (take count l)) count h, k) (take_set count l x room)

  pub kept_slots : position x (take count l) < count → Added l l count x count
  kept_slots h = record { put = there h; many = sym (take_length count l (omega arith)) ∙ ap length (there h); long = refl }

  pub more_slots : count ≤ position x (take count l) → Added l (set l count x) count x (count + 1)
  more_slots h =
      record {
        put = added h;
        many = sym (take_length (count + 1) (set l count x) (rw (length-set l count x) (omega arith))) ∙ ap length (added h);
        long = length-set l count x;
      }

-- ---- entries that fit are told by their slots
tagged_same : (t x u y : ℕ) → x < 0x1000000000000 → y < 0x1000000000000 → eqb (t * 0x1000000000000 + x) (u * 0x1000000000000 + y) ≡ (eqb t u && eqb x y)
tagged_same t x u y h k = go (eqb t u) (eqb x y) refl refl
  where
    go : (a b : Bool) → eqb t u ≡ a → eqb x y ≡ b → eqb (t * 0x1000000000000 + x) (u * 0x1000000000000 + y) ≡ (a && b)
    go true true e f = eq-eqb (t * 0x1000000000000 + x) (u * 0x1000000000000 + y) (let i = eqb-true t u e in let j = eqb-true x y f in omega arith)
    go true false e f = ne_eqb (t * 0x1000000000000 + x) (u * 0x1000000000000 + y) (λ z. let i = eqb-true t u e in let j = eqb-false x y f in omega arith)
    go false b e f = ne_eqb (t * 0x1000000000000 + x) (u * 0x1000000000000 + y) (λ z. let i = eqb-false t u e in omega arith)

offset_same : (n g h : ℕ) → eqb (n + g) (n + h) ≡ eqb g h
offset_same n g h = go (eqb g h) refl
  where
    go : (a : Bool) → eqb g h ≡ a → eqb (n + g) (n + h) ≡ a
    go true e = eq-eqb (n + g) (n + h) (let i = eqb-true g h e in omega arith)
    go false e = ne_eqb (n + g) (n + h) (λ z. let i = eqb-false g h e in omega arith)

ltb_suc : (a b : ℕ) → ltb (suc a) (suc b) ≡ ltb a b
ltb_suc a b = go (ltb a b) refl
  where
    go : (t : Bool) → ltb a b ≡ t → ltb (suc a) (suc b) ≡ t
    go true e = lt-ltb (suc a) (suc b) (let h = ltb-true a b e in omega arith)
    go false e = le-ltb (suc a) (suc b) (let h = ltb-false a b e in omega arith)

pub slot_same : (d e : Entry) → Fits d → Fits e → eqb (slot_of d) (slot_of e) ≡ same_entry d e
unfolding slot_of Fits same_entry
slot_same (constant t x) (constant u y) h k = tagged_same t x u y (width_48 t x h.1) (width_48 u y k.1)
slot_same (constant t x) (global g) h k =
    let w = width_48 t x h.1 in
    ne_eqb (t * 0x1000000000000 + x) (0x6000000000000 + g) (λ (z : t * 0x1000000000000 + x ≡ 0x6000000000000 + g). omega arith)
slot_same (constant t x) (template m) h k =
    let w = width_48 t x h.1 in
    ne_eqb (t * 0x1000000000000 + x) (0x7000000000000 + m) (λ (z : t * 0x1000000000000 + x ≡ 0x7000000000000 + m). omega arith)
slot_same (global g) (constant u y) h k =
    let w = width_48 u y k.1 in
    ne_eqb (0x6000000000000 + g) (u * 0x1000000000000 + y) (λ (z : 0x6000000000000 + g ≡ u * 0x1000000000000 + y). omega arith)
slot_same (global g) (global j) h k = offset_same 0x6000000000000 g j
slot_same (global g) (template m) h k = ne_eqb (0x6000000000000 + g) (0x7000000000000 + m) (λ (z : 0x6000000000000 + g ≡ 0x7000000000000 + m). omega arith)
slot_same (template m) (constant u y) h k =
    let w = width_48 u y k.1 in
    ne_eqb (0x7000000000000 + m) (u * 0x1000000000000 + y) (λ (z : 0x7000000000000 + m ≡ u * 0x1000000000000 + y). omega arith)
slot_same (template m) (global g) h k = ne_eqb (0x7000000000000 + m) (0x6000000000000 + g) (λ (z : 0x7000000000000 + m ≡ 0x6000000000000 + g). omega arith)
slot_same (template m) (template j) h k = offset_same 0x7000000000000 m j

pub slots_length : (es : List Entry) → length (slots_of es) ≡ length es
unfolding slots_of
slots_length [] = refl
slots_length (e ∷ es) = ap suc (slots_length es)

slots_append : (es ds : List Entry) → slots_of (es ++ ds) ≡ slots_of es ++ slots_of ds
unfolding slots_of
slots_append [] ds = refl
slots_append (e ∷ es) ds = ap (λ (l : List ℕ). slot_of e ∷ l) (slots_append es ds)

module _ (e : Entry) (fits : Fits e) where
  pub position_index : (es : List Entry) → AllFit es → suc (position (slot_of e) (slots_of es)) ≡ index_of e es
  unfolding AllFit slots_of position index_of
  position_index [] h = refl
  position_index (d ∷ es) h = rw (slot_same d e h.0 fits) (go (same_entry d e) (position_index es h.1))
    where
      go : (b : Bool) → suc (position (slot_of e) (slots_of es)) ≡ index_of e es
          → suc (cond b 0 (suc (position (slot_of e) (slots_of es)))) ≡ cond b 1 (suc (index_of e es))
      go true k = refl
      go false k = ap suc k

  pub position_among : (es : List Entry) → AllFit es → ltb (position (slot_of e) (slots_of es)) (length es) ≡ among e es
  unfolding AllFit slots_of position among
  position_among [] h = le-ltb 0 0 (omega arith)
  position_among (d ∷ es) h = rw (slot_same d e h.0 fits) (go (same_entry d e) (position_among es h.1))
    where
      go : (b : Bool) → ltb (position (slot_of e) (slots_of es)) (length es) ≡ among e es
          → ltb (cond b 0 (suc (position (slot_of e) (slots_of es)))) (suc (length es)) ≡ (b || among e es)
      go true k = lt-ltb 0 (suc (length es)) (omega arith)
      go false k = ltb_suc (position (slot_of e) (slots_of es)) (length es) ∙ k

  pub placed_with : (es : List Entry) → AllFit es → placed (slots_of es) (slot_of e) ≡ slots_of (with_entry es e)
  unfolding placed with_entry slots_of
  placed_with es h = rw (slots_length es, position_among es h) (go (among e es))
    where
      go : (b : Bool) → cond b (slots_of es) (slots_of es ++ (slot_of e ∷ [])) ≡ slots_of (cond b es (es ++ (e ∷ [])))
      go true = refl
      go false = sym (slots_append es (e ∷ []))

  fit_append : (es : List Entry) → AllFit es → AllFit (es ++ (e ∷ []))
  unfolding AllFit
  fit_append [] h = (fits, tt)
  fit_append (d ∷ es) h = (h.0, fit_append es h.1)

  pub fit_with : (es : List Entry) → AllFit es → AllFit (with_entry es e)
  unfolding with_entry
  fit_with es h = go (among e es)
    where
      go : (b : Bool) → AllFit (cond b es (es ++ (e ∷ [])))
      go true = h
      go false = fit_append es h

-- ---- entries only grow
with_longer : (es : List Entry) (e : Entry) → length es ≤ length (with_entry es e)
unfolding with_entry
with_longer es e = go (among e es)
  where
    go : (b : Bool) → length es ≤ length (cond b es (es ++ (e ∷ [])))
    go true = omega arith
    go false = omega (arith, length-append es (e ∷ []))

pub all_longer : (us es : List Entry) → length es ≤ length (with_all es us)
unfolding with_all
all_longer [] es = omega arith
all_longer (e ∷ us) es = omega (arith, with_longer es e, all_longer us (with_entry es e))
