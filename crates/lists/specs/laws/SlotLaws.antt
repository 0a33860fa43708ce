-- Where the table's row of a template has the template's entries, codes 6 to 9 are right by the table as they are by the entries
-- (refusal 7), and closures name the same templates (refusal 24). Assumes nothing.
use Rattle.std.specs.Prelude.{ℕ, zero, suc, ◌+◌, ◌*◌, ◌%◌, ◌^◌, ◌≤◌, ◌<◌, ◌≡◌, Bool, List, [], ◌∷◌, ◌++◌, length}
use Rattle.std.proofs.Common.{arith, sym, ◌∙◌, get_or-append-add}
use Rattle.std.proofs.Math.Path.{refl, ap, ap₂}
use Rattle.std.proofs.Math.Bool.{true, false, cond, ◌&&◌, ◌||◌, or_assoc}
use Rattle.std.proofs.Math.Option.{Option, none, some}
use borrow.Author.Tests.{le-leb, leb-true, eqb-true, eqb-false, ne_eqb}
use Rattle.std.proofs.Math.ListN.{get_or, get_or-append}
use Rattle.std.proofs.Math.Dec.{leb, eqb}
use Rattle.cells.specs.Cells.{tag_of}
use Rattle.cells.specs.laws.Laws.{clash}
use Rattle.files.specs.Codes.{is_neutral}
use Rattle.files.specs.laws.CodesLaws.{neutral_six}
use Rattle.files.specs.Code.{Code, done, neutral, return, call, unless_false, make_cont}
use Rattle.files.specs.Entries.{Entry, constant, global, template}
use Rattle.files.specs.laws.EntriesLaws.{EntriesOk}
use Rattle.files.specs.Grammar.{entry_of, suits, index_fits, each_neutral, indices_fit}
use Rattle.files.specs.Orphans.{is_template, closes}
use Rattle.files.specs.Table.{constant_cell, slot_of, row_of}
use Rattle.files.specs.laws.TableLaws.{slot_or, EntryFits, FoundFits, found_fits, constant_tag, row_length, row_entry}
use Rattle.files.specs.Valid.{Valid}
use Rattle.files.specs.laws.ReadingLaws.{first_byte}
use Rattle.lists.specs.Sets.{unite, has}
use Rattle.lists.specs.laws.SetsLaws.{has_none, has_unite, has_one}
use Rattle.lists.specs.Facts.{slot_fits, slot_named, slots_fit, unite_neutral, slot_closes, slots_close, entry_set, index_closes, indices_close}
use Rattle.lists.specs.laws.Each.{each}

-- the table's row of template own has the entries es
abbrev pub Row : List ℕ → ℕ → List Entry → Type 0
Row table own es = (n : ℕ) → 1 ≤ n → n < 256 → get_or table (256 * own + n) 0 ≡ slot_or (entry_of es n)

-- ---- one slot
six_to_nine : (P : ℕ → Type 0) → P 6 → P 7 → P 8 → P 9 → (op : ℕ) → 6 ≤ op → op ≤ 9 → P op
six_to_nine P a b c d op h i = each P 6 4 (a, (b, (c, (d, tt)))) op h (omega arith)

slot_suits : (op : ℕ) (e : Option Entry) → 6 ≤ op → op ≤ 9 → FoundFits e → slot_fits op (slot_or e) ≡ suits op e
unfolding slot_fits slot_of suits EntryFits
slot_suits op none h i v = six_to_nine (λ op. slot_fits op 0 ≡ false) refl refl refl refl op h i
slot_suits op (some (constant t x)) h i v =
    let z = constant_tag t x v.0 v.1 in
    six_to_nine (λ op. slot_fits op (constant_cell t x) ≡ eqb op 6)
    (rw (le-leb 1 (tag_of (constant_cell t x)) z.0, le-leb (tag_of (constant_cell t x)) 6 z.1) refl)
    (ne_eqb (tag_of (constant_cell t x)) 12 (λ e. omega arith)) (ne_eqb (tag_of (constant_cell t x)) 11 (λ e. omega arith))
    (ne_eqb (tag_of (constant_cell t x)) 11 (λ e. omega arith)) op h i
slot_suits op (some (global g)) h i v =
    let z : tag_of (0xB000000000000000 + g) ≡ 11 = omega arith in
    rw z (six_to_nine (λ op. cond (eqb op 6) false (cond (eqb op 7) false true) ≡ (eqb op 8 || eqb op 9)) refl refl refl refl op h i)
slot_suits op (some (template t)) h i v =
    let z : tag_of (0xC000000000000000 + t) ≡ 12 = omega arith in
    rw z (six_to_nine (λ op. cond (eqb op 6) false (cond (eqb op 7) true false) ≡ eqb op 7) refl refl refl refl op h i)

-- ---- what an index finds
template_low : (own T : ℕ) (es : List Entry) (n t : ℕ) → EntriesOk own T es → entry_of es n ≡ some (template t) → t < 64
unfolding entry_of
template_low own T es zero t h e = clash (cc)
template_low own T [] (suc n) t h e = clash (cc)
template_low own T (constant k x ∷ es) (suc zero) t h e = clash (cc)
template_low own T (global g ∷ es) (suc zero) t h e = clash (cc)
template_low own T (template k ∷ es) (suc zero) t h e = let z : k ≡ t = cc in omega (arith, h.0)
template_low own T (x ∷ es) (suc (suc n)) t h e = template_low own T es (suc n) t h.1 e

found_index : (es : List Entry) (n : ℕ) (x : Entry) → entry_of es n ≡ some x → 1 ≤ n
unfolding entry_of
found_index es zero x e = clash (cc)
found_index es (suc n) x e = omega arith

-- ---- a list
module _ (table : List ℕ) (own T : ℕ) (es : List Entry) (row : Row table own es) (fit : EntriesOk own T es) where
  index_named : (op n : ℕ) → is_neutral op ≡ true → n < 256 → slot_named table own op n ≡ index_fits es op n
  unfolding slot_named index_fits entry_of suits
  index_named op n h b = go (leb op 9) (eqb n 0) refl refl
    where
      go : (x y : Bool) → leb op 9 ≡ x → eqb n 0 ≡ y
          → cond x (cond y false (slot_fits op (get_or table (256 * own + n) 0))) true ≡ cond x (suits op (entry_of es n)) true
      go false y e f = refl
      go true true e f = rw (eqb-true n 0 f) refl
      go true false e f =
          let z = eqb-false n 0 f in
          rw (row n (omega arith) b) (slot_suits op (entry_of es n) (neutral_six op h) (leb-true op 9 e) (found_fits own T es n fit))

  pub slots_named : (c : Code) → Valid c → slots_fit table own c ≡ indices_fit es c
  unfolding slots_fit indices_fit each_neutral Valid
  slots_named done v = refl
  slots_named (neutral op ns r) v = ap₂ ◌&&◌ (index_named op (get_or ns 0 0) v.0 (first_byte ns v.2)) (slots_named r v.3)
  slots_named (return r) v = slots_named r v
  slots_named (call n r) v = slots_named r v.1
  slots_named (unless_false x y r) v = ap₂ ◌&&◌ (ap₂ ◌&&◌ (slots_named x v.0) (slots_named y v.1)) (slots_named r v.2)
  slots_named (make_cont n x r) v = ap₂ ◌&&◌ (slots_named x v.1) (slots_named r v.2)

  -- ---- which templates closures name
  slot_set : (n t : ℕ) → 1 ≤ n → n < 256 → entry_of es n ≡ some (template t) → 2 ^ (get_or table (256 * own + n) 0 % 64) ≡ 2 ^ t
  unfolding slot_of
  slot_set n t h b e =
      let s : get_or table (256 * own + n) 0 ≡ 0xC000000000000000 + t = row n h b ∙ ap slot_or e in
      let k : get_or table (256 * own + n) 0 % 64 ≡ t = omega (arith, template_low own T es n t fit e) in
      rw k refl

  index_closes_lem : (op n : ℕ) → is_neutral op ≡ true → n < 256 → slot_closes table own op n ≡ index_closes es op n
  unfolding slot_closes index_closes index_fits suits entry_set
  index_closes_lem op n h b = by (eqb op 7) refl
    where
      named : (o : Option Entry) → entry_of es n ≡ o → cond (suits 7 o) (2 ^ (get_or table (256 * own + n) 0 % 64)) 0 ≡ entry_set o
      named none e = refl
      named (some (constant t x)) e = refl
      named (some (global g)) e = refl
      named (some (template t)) e = slot_set n t (found_index es n (template t) e) b e

      by : (x : Bool) → eqb op 7 ≡ x
          → cond x (cond (slot_named table own op n) (2 ^ (get_or table (256 * own + n) 0 % 64)) 0) 0 ≡ cond x (entry_set (entry_of es n)) 0
      by false e = refl
      by true e = rw (index_named op n h b, eqb-true op 7 e) (named (entry_of es n) refl)

  pub slots_close_lem : (c : Code) → Valid c → slots_close table own c ≡ indices_close es c
  unfolding slots_close indices_close unite_neutral Valid
  slots_close_lem done v = refl
  slots_close_lem (neutral op ns r) v = ap₂ unite (index_closes_lem op (get_or ns 0 0) v.0 (first_byte ns v.2)) (slots_close_lem r v.3)
  slots_close_lem (return r) v = slots_close_lem r v
  slots_close_lem (call n r) v = slots_close_lem r v.1
  slots_close_lem (unless_false x y r) v = ap₂ unite (ap₂ unite (slots_close_lem x v.0) (slots_close_lem y v.1)) (slots_close_lem r v.2)
  slots_close_lem (make_cont n x r) v = ap₂ unite (slots_close_lem x v.1) (slots_close_lem r v.2)

-- what is in the set is what the closures name
module _ (es : List Entry) (u : ℕ) where
  entry_named : (o : Option Entry) → has (entry_set o) u ≡ is_template u o
  unfolding entry_set is_template
  entry_named none = has_none u
  entry_named (some (constant t x)) = has_none u
  entry_named (some (global g)) = has_none u
  entry_named (some (template t)) = has_one t u

  index_closed : (b : Bool) (o : Option Entry) → has (cond b (entry_set o) 0) u ≡ (b && is_template u o)
  index_closed true o = entry_named o
  index_closed false o = has_none u

  pub closes_has : (c : Code) → has (indices_close es c) u ≡ closes es u c
  unfolding indices_close unite_neutral index_closes closes
  closes_has done = has_none u
  closes_has (neutral op ns r) = has_unite _ _ u ∙ ap₂ ◌||◌ (index_closed (eqb op 7) (entry_of es (get_or ns 0 0))) (closes_has r)
  closes_has (return r) = closes_has r
  closes_has (call n r) = closes_has r
  closes_has (unless_false x y r) =
      has_unite _ _ u ∙ ap₂ ◌||◌ (has_unite _ _ u ∙ ap₂ ◌||◌ (closes_has x) (closes_has y)) (closes_has r) ∙ or_assoc (closes es u x) _ _
  closes_has (make_cont n x r) = has_unite _ _ u ∙ ap₂ ◌||◌ (closes_has x) (closes_has r)

-- ---- a row among others
pub row_among : (front back : List ℕ) (own start : ℕ) (es : List Entry) → length front ≡ 256 * own → length es < 256
    → Row (front ++ (row_of start es ++ back)) own es
row_among front back own start es f l n h i =
    let k : n < length (row_of start es) = omega (arith, row_length start es l) in
    ap (λ (x : ℕ). get_or (front ++ (row_of start es ++ back)) (x + n) 0) (sym f)
    ∙ get_or-append-add front (row_of start es ++ back) n 0
    ∙ get_or-append (row_of start es) back 0 n k
    ∙ row_entry start es n (λ e. omega arith)
