-- What the readers of entries do at each step, by what was read there. Assumes nothing.
use Rattle.std.specs.Prelude.{ℕ, suc, ◌+◌, ◌*◌, ◌-◌, ◌^◌, ◌≤◌, ◌<◌, ◌≡◌, refl, List, [], ◌∷◌, length, set, Option, Some, None, Result, Ok, Err}
use Rattle.std.specs.Option.{ok_or}
use native.Mathlib.Omega.{arith}
use Rattle.std.proofs.Common.{sym, ap, ◌∙◌, add-one}
use borrow.Author.Tests.{lt-ltb, le-ltb}
use Rattle.std.proofs.lemmas.List.Edits.{sets}
use Rattle.cells.specs.laws.Laws.{clash}
use Rattle.cells.specs.declared.BitPlace.{BitPlace}
use Rattle.cells.specs.Cells.{widened, int_cell}
use Rattle.fields.specs.Field.{field_at, field_read}
use Rattle.fields.specs.laws.Laws.{whole, value_of, field_small, read_cases}
use Rattle.files.specs.Reading.{Got, got, refused}
use Rattle.files.specs.Entries.{Entry, then, field_got, field, tag_width, constant_at, kind_at, entry_at, entries_at}
use Rattle.files.specs.laws.EntriesLaws.{width_none, width_narrow, width_wide}
use Rattle.files.specs.EntriesRead.{told, entry_told, past_told, slot_then, slots_at}
use Rattle.files.specs.Table.{constant_cell, slot_of}
use Rattle.files.specs.laws.RefusalLaws.{ok_first, ok_second, err_number, err_place}
use Rattle.files.specs.laws.TableLaws.{plain_cell, narrow_cell, wide_cell}
use Rattle.files.specs.declared.Refusal.{Refusal}
use Rattle.files.specs.Refusal.{refusal}

-- ---- a field, by the answer r that reading it gave
module _ (s : List ℕ) (p w : ℕ) {r : Option (ℕ × BitPlace)} (asked : r ≡ field_read s p w) where
  pub field_cut : r ≡ None → field s p w ≡ refused 2 p
  unfolding field field_got
  field_cut e = rw (← asked, e)

  pub field_read_lem : {v : ℕ} {q : BitPlace} → r ≡ Some (v, q) → field s p w ≡ got v q.0
  unfolding field field_got
  field_read_lem e = rw (← asked, e)

  pub field_below : {v : ℕ} {q : BitPlace} → r ≡ Some (v, q) → v < 2 ^ w
  field_below {v} {q} e = rw (value_of s p w v q (sym asked ∙ e)).0 (field_small s p w)

  pub field_within : {v : ℕ} {q : BitPlace} → r ≡ Some (v, q) → q.0 ≤ 8 * length s
  field_within {v} {q} e = let k = value_of s p w v q (sym asked ∙ e) in omega arith

-- ---- what was told was read
pub told_got : {A : Type 0} (g : Got A) {a : A} {q : BitPlace} → told g ≡ Ok (a, q) → g ≡ got a q.0
unfolding told
told_got {A} (got b z) {a} {q} h =
    let k : ◌≡◌ {A = A × BitPlace} (b, record { 0 = z }) (a, q) = cc in ap (λ (x : A × BitPlace). got x.0 x.1.0) k
told_got (refused n z) h = clash (cc)

pub told_refused : {A : Type 0} (g : Got A) {e : Refusal BitPlace} → told g ≡ Err e → g ≡ refused e.0 e.1.0
unfolding told
told_refused (got b z) h = clash (cc)
told_refused (refused n z) {e} h =
    let k : ◌≡◌ {A = Refusal BitPlace} (refusal n (record { 0 = z })) e = cc in ap (λ (x : Refusal BitPlace). refused x.0 x.1.0) k

-- a field by the answer r that reading it gave
module _ (s : List ℕ) (p w : ℕ) {r : Result (ℕ × BitPlace) (Refusal BitPlace)} (asked : r ≡ told (field s p w)) where
  pub told_field : {v : ℕ} {q : BitPlace} → r ≡ Ok (v, q) → field s p w ≡ got v q.0
  told_field e = told_got (field s p w) (sym asked ∙ e)

  pub told_cut : {e : Refusal BitPlace} → r ≡ Err e → field s p w ≡ refused e.0 e.1.0
  told_cut e = told_refused (field s p w) (sym asked ∙ e)

  -- what is known of a field that was read
  pub told_value : {v : ℕ} {q : BitPlace} → r ≡ Ok (v, q) → (v ≡ field_at s p w) × ((q.0 ≡ p + w) × (p + w ≤ 8 * length s))
  unfolding field field_got
  told_value {v} {q} e = read_cases s p w (λ f. field_got p f ≡ got v q.0 → (v ≡ field_at s p w) × ((q.0 ≡ p + w) × (p + w ≤ 8 * length s)))
      (λ k. clash (cc))
      (λ h k. (cc, (cc, h)))
      (told_field e)

  pub told_below : {v : ℕ} {q : BitPlace} → r ≡ Ok (v, q) → v < 2 ^ w
  told_below e = rw (told_value e).0 (field_small s p w)

  pub told_within : {v : ℕ} {q : BitPlace} → r ≡ Ok (v, q) → q.0 ≤ 8 * length s
  told_within e = let k = told_value e in omega arith

-- what a field that is there, or is not, is told as
pub told_or : (s : List ℕ) (p w : ℕ) {r : Option (ℕ × BitPlace)} → r ≡ field_read s p w → ok_or r (refusal 2 (record { 0 = p })) ≡ told (field s p w)
unfolding told field field_got
told_or s p w {r} asked = rw (← asked) (go r)
  where
    go : (o : Option (ℕ × BitPlace)) → ok_or o (refusal 2 (record { 0 = p })) ≡ told (field_got p o)
    go None = refl
    go (Some (v, q)) = refl

-- what reading a field's bits answered, by what was told
module _ (s : List ℕ) (p w : ℕ) {r : Result (ℕ × BitPlace) (Refusal BitPlace)} (asked : r ≡ told (field s p w)) where
  pub told_some : {v : ℕ} {q : BitPlace} → r ≡ Ok (v, q) → field_read s p w ≡ Some (v, q)
  unfolding told field field_got
  told_some {v} {q} e = read_cases s p w (λ f. told (field_got p f) ≡ Ok (v, q) → f ≡ Some (v, q))
      (λ k. clash (cc))
      (λ h k. (let i : ◌≡◌ {A = ℕ × BitPlace} (field_at s p w, record { 0 = p + w }) (v, q) = cc in ap Some i))
      (sym asked ∙ e)

  pub told_none : {e : Refusal BitPlace} → r ≡ Err e → (field_read s p w ≡ None) × (e ≡ refusal 2 (record { 0 = p }))
  unfolding told field field_got
  told_none {e} h = read_cases s p w (λ f. told (field_got p f) ≡ Err e → (f ≡ None) × (e ≡ refusal 2 (record { 0 = p })))
      (λ k. (refl, cc))
      (λ h k. clash (cc))
      (sym asked ∙ h)

-- no bits are a field too, where the file has not ended
pub no_field : (s : List ℕ) (p : ℕ) → p ≤ 8 * length s → field s p 0 ≡ got 0 p
unfolding field field_got field_at
no_field s p h = let e : p + 0 ≡ p = omega arith in rw (← whole s p 0 (omega arith), e)

-- ---- a constant whose tag t stands at p and ends at q; w bits follow
module _ (s : List ℕ) (p t q w : ℕ) where
  pub bits_cut : {n m : ℕ} → t < 6 → tag_width t ≡ w → field s q w ≡ refused n m → Err (refusal n (record { 0 = m })) ≡ entry_told (constant_at s p t q)
  unfolding constant_at then entry_told
  bits_cut h k e = rw (lt-ltb t 6 h, k, e)

  pub bits_read : {x z y : ℕ} → t < 6 → tag_width t ≡ w → field s q w ≡ got x z → constant_cell t x ≡ y
      → Ok (y, record { 0 = z }) ≡ entry_told (constant_at s p t q)
  unfolding constant_at then entry_told slot_of
  bits_read h k e c = rw (lt-ltb t 6 h, k, e, c)

pub bad_tag : (s : List ℕ) (p t q : ℕ) → 6 ≤ t → Err (refusal 3 (record { 0 = p })) ≡ entry_told (constant_at s p t q)
unfolding constant_at entry_told
bad_tag s p t q h = rw (le-ltb t 6 h)

-- a constant of each tag, in the order in which the code asks
module _ (s : List ℕ) (p t q : ℕ) where
  pub plain_constant : q ≤ 8 * length s → t < 4 → Ok ((t + 1) * 0x1000000000000000, record { 0 = q }) ≡ entry_told (constant_at s p t q)
  plain_constant l h = bits_read s p t q 0 (omega arith) (width_none t (λ e. omega arith) (λ e. omega arith)) (no_field s q l) (plain_cell t 0 h)

  module _ (narrow : t ≡ 4) where
    pub narrow_cut : {n m : ℕ} → field s q 32 ≡ refused n m → Err (refusal n (record { 0 = m })) ≡ entry_told (constant_at s p t q)
    narrow_cut = bits_cut s p t q 32 (omega arith) (width_narrow t narrow)

    pub narrow_read : {x y z : ℕ} → field s q 32 ≡ got x z → y ≡ widened x → Ok (int_cell y, record { 0 = z }) ≡ entry_told (constant_at s p t q)
    narrow_read {x} e f = bits_read s p t q 32 (omega arith) (width_narrow t narrow) e (rw f (narrow_cell t x narrow))

  module _ (wide : t ≡ 5) where
    pub wide_cut : {n m : ℕ} → field s q 48 ≡ refused n m → Err (refusal n (record { 0 = m })) ≡ entry_told (constant_at s p t q)
    wide_cut = bits_cut s p t q 48 (omega arith) (width_wide t wide)

    pub wide_read : {x z : ℕ} → field s q 48 ≡ got x z → Ok (int_cell x, record { 0 = z }) ≡ entry_told (constant_at s p t q)
    wide_read {x} e = bits_read s p t q 48 (omega arith) (width_wide t wide) e (wide_cell t x wide)

-- ---- an entry at p whose kind is k and ends at q
module _ (s : List ℕ) (own T p q k : ℕ) where
  pub constant_cut : {n m : ℕ} → k ≡ 1 → field s q 3 ≡ refused n m → Err (refusal n (record { 0 = m })) ≡ entry_told (kind_at s own T p q k)
  unfolding kind_at then entry_told
  constant_cut h e = rw (h, e)

  pub constant_read : {t z : ℕ} → k ≡ 1 → field s q 3 ≡ got t z → entry_told (constant_at s q t z) ≡ entry_told (kind_at s own T p q k)
  unfolding kind_at then
  constant_read h e = rw (h, e)

  pub global_cut : {n m : ℕ} → k ≡ 2 → field s q 8 ≡ refused n m → Err (refusal n (record { 0 = m })) ≡ entry_told (kind_at s own T p q k)
  unfolding kind_at then entry_told
  global_cut h e = rw (h, e)

  pub global_read : {g z : ℕ} → k ≡ 2 → field s q 8 ≡ got g z → Ok (0xB000000000000000 + g, record { 0 = z }) ≡ entry_told (kind_at s own T p q k)
  unfolding kind_at then entry_told slot_of
  global_read h e = rw (h, e)

  pub template_cut : {n m : ℕ} → k ≡ 3 → field s q 8 ≡ refused n m → Err (refusal n (record { 0 = m })) ≡ entry_told (kind_at s own T p q k)
  unfolding kind_at then entry_told
  template_cut h e = rw (h, e)

  module _ {t z : ℕ} (third : k ≡ 3) (number : field s q 8 ≡ got t z) where
    pub template_low : t ≤ own → Err (refusal 3 (record { 0 = q })) ≡ entry_told (kind_at s own T p q k)
    unfolding kind_at then entry_told
    template_low h = rw (third, number, le-ltb own t h)

    pub template_high : own < t → T ≤ t → Err (refusal 3 (record { 0 = q })) ≡ entry_told (kind_at s own T p q k)
    unfolding kind_at then entry_told
    template_high h i = rw (third, number, lt-ltb own t h, le-ltb t T i)

    pub template_read : own < t → t < T → Ok (0xC000000000000000 + t, record { 0 = z }) ≡ entry_told (kind_at s own T p q k)
    unfolding kind_at then entry_told slot_of
    template_read h i = rw (third, number, lt-ltb own t h, lt-ltb t T i)

  pub bad_kind : k < 4 → (k ≡ 1 → ⊥) → (k ≡ 2 → ⊥) → (k ≡ 3 → ⊥) → Err (refusal 3 (record { 0 = p })) ≡ entry_told (kind_at s own T p q k)
  unfolding kind_at entry_told
  bad_kind h a b c = let e : k ≡ 0 = omega arith in rw e

-- ---- an entry at p
module _ (s : List ℕ) (own T p : ℕ) where
  pub entry_cut : {n m : ℕ} → field s p 2 ≡ refused n m → Err (refusal n (record { 0 = m })) ≡ entry_told (entry_at s own T p)
  unfolding entry_at then entry_told
  entry_cut e = rw e

  pub entry_kind : {k q : ℕ} → field s p 2 ≡ got k q → entry_told (kind_at s own T p q k) ≡ entry_told (entry_at s own T p)
  unfolding entry_at then
  entry_kind e = rw e

-- ---- what was told was read
-- the entry whose slot and place were told
pub record ReadEntry (g : Got Entry) (x : ℕ) (q : BitPlace) : Type 0 where
  pub entry : Entry
  pub is : g ≡ got entry q.0
  pub slot : x ≡ slot_of entry

pub entry_told_lem : (g : Got Entry) {x : ℕ} {q : BitPlace} → entry_told g ≡ Ok (x, q) → ReadEntry g x q
unfolding entry_told
entry_told_lem (got e z) {x} {q} h =
    record { entry = e; is = ap (λ (b : BitPlace). got e b.0) (ok_second h); slot = sym (ok_first h) }
entry_told_lem (refused n z) h = clash (cc)

pub entry_refused : (g : Got Entry) {n : ℕ} {p : BitPlace} → entry_told g ≡ Err (refusal n p) → g ≡ refused n p.0
unfolding entry_told
entry_refused (got e z) h = clash (cc)
entry_refused (refused m z) {n} {p} h = rw (err_number h, ← (err_place h))

-- the entries whose place was told
pub record ReadAll (g : Got (List Entry)) (q : BitPlace) : Type 0 where
  pub entries : List Entry
  pub is : g ≡ got entries q.0

pub entries_told_lem : (g : Got (List Entry)) {q : BitPlace} → past_told g ≡ Ok q → ReadAll g q
unfolding past_told
entries_told_lem (got es z) {q} h = let k : ◌≡◌ {A = BitPlace} (record { 0 = z }) q = cc in record { entries = es; is = ap (λ (b : BitPlace). got es b.0) k }
entries_told_lem (refused n z) h = clash (cc)

pub entries_refused : (g : Got (List Entry)) {n : ℕ} {p : BitPlace} → past_told g ≡ Err (refusal n p) → g ≡ refused n p.0
unfolding past_told
entries_refused (got es z) h = clash (cc)
entries_refused (refused m z) {n} {p} h = rw (err_number h, ← (err_place h))

-- ---- the entries that are left, from slot i to slot l, by the answer r that reading the first gave
told_more : (e : Entry) (g : Got (List Entry)) → past_told (then g (λ es q. got (e ∷ es) q)) ≡ past_told g
unfolding then past_told
told_more e (got es q) = refl
told_more e (refused n p) = refl

pub none_left : (s : List ℕ) (own T l i p : ℕ) → l ≤ i
    → (Ok (record { 0 = p }) ≡ past_told (entries_at s own T (l - i) p)) × (slots_at s own T (l - i) p ≡ [])
unfolding entries_at slots_at past_told
none_left s own T l i p h = let k : l - i ≡ 0 = omega arith in rw k (refl, refl)

module _ (s : List ℕ) (own T l i p : ℕ) {r : Result (ℕ × BitPlace) (Refusal BitPlace)} (less : i < l) (asked : r ≡ entry_told (entry_at s own T p)) where
  one_left : l - i ≡ suc (l - (i + 1))
  one_left = omega arith

  module _ {x : ℕ} {q : BitPlace} (is : r ≡ Ok (x, q)) where
    pub entries_on : past_told (entries_at s own T (l - i) p) ≡ past_told (entries_at s own T (l - (i + 1)) q.0)
    unfolding entries_at then
    entries_on = let e = entry_told_lem (entry_at s own T p) (sym asked ∙ is) in rw (one_left, e.is) (told_more e.entry (entries_at s own T (l - (i + 1)) q.0))

    pub slots_on : (table : List ℕ) → sets table i (slots_at s own T (l - i) p) ≡ sets (set table i x) (i + 1) (slots_at s own T (l - (i + 1)) q.0)
    unfolding slots_at slot_then
    slots_on table = let e = entry_told_lem (entry_at s own T p) (sym asked ∙ is) in rw (one_left, e.is, ← e.slot, add-one)

  module _ {n : ℕ} {q : BitPlace} (is : r ≡ Err (refusal n q)) where
    pub entries_stop : Err (refusal n q) ≡ past_told (entries_at s own T (l - i) p)
    unfolding entries_at then past_told
    entries_stop = rw (one_left, entry_refused (entry_at s own T p) (sym asked ∙ is))

    pub slots_stop : slots_at s own T (l - i) p ≡ []
    unfolding slots_at slot_then
    slots_stop = rw (one_left, entry_refused (entry_at s own T p) (sym asked ∙ is))
