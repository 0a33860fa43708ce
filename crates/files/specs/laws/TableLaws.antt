-- What stands in a slot of a run's table. Assumes nothing.
use Prim.Native.Nat.{ℕ, zero, suc, ◌+◌, ◌*◌, ◌-◌, ◌^◌, ◌≤◌, ◌<◌}
use native.Mathlib.Omega.{arith}
use Rattle.std.specs.Prelude.{◌≡◌, Bool, get_or}
use Rattle.std.proofs.Math.Path.{refl}
use Rattle.std.proofs.Common.{ap, ◌∙◌}
use Rattle.std.proofs.Math.Bool.{true, false}
use mathlib.Core.List.{List, [], ◌∷◌, ◌++◌, map, append_assoc}
use Rattle.std.proofs.Math.Option.{Option, none, some}
use Rattle.std.proofs.Math.ListN.{length, replicate, length-append, get_or-append}
use Rattle.std.proofs.lemmas.List.{length-replicate, length-map}
use Rattle.std.proofs.Math.Seq.{get_or-append-add}
use Rattle.std.proofs.Math.Dec.{ltb, eqb}
use borrow.Author.Tests.{lt-ltb, ltb-true, ltb-false, eqb-true, eqb-false}
use Rattle.cells.specs.Cells.{widened, tag_of, int_cell}
use Rattle.files.specs.Entries.{Entry, constant, global, template, tag_width}
use Rattle.files.specs.laws.EntriesLaws.{EntryOk, EntriesOk}
use Rattle.files.specs.Tree.{Template}
use Rattle.files.specs.Linear.{Linear}
use Rattle.files.specs.Grammar.{entry_of}
use Rattle.files.specs.Table.{constant_cell, slot_of, pad_to, row_of, tree_rows, linear_rows, tree_table, linear_table}

-- ---- a row
pub zeros_at : (k i : ℕ) → ◌≡◌ {A = ℕ} (get_or (replicate k 0) i 0) 0
zeros_at zero i = refl
zeros_at (suc k) zero = refl
zeros_at (suc k) (suc i) = zeros_at k i

pub row_length : (x : ℕ) (es : List Entry) → length es < 256 → length (row_of x es) ≡ 256
unfolding row_of
row_length x es h =
    rw (length-append (x ∷ map slot_of es) (replicate (256 - length (x ∷ map slot_of es)) 0), length-replicate, length-map es slot_of) (omega arith)

-- slot 0
pub row_start : (x : ℕ) (es : List Entry) → get_or (row_of x es) 0 0 ≡ x
unfolding row_of
row_start x es = refl

-- the slot of entry n, 0 where there is none
abbrev pub slot_or : Option Entry → ℕ
slot_or (some e) = slot_of e
slot_or none = 0

-- ---- what can stand in the slot of an entry that was read
unfoldable pub EntryFits : Entry → Type 0
EntryFits (constant t x) = (t < 6) × (x < 2 ^ tag_width t)
EntryFits (global g) = g < 256
EntryFits (template t) = t < 256

abbrev pub FoundFits : Option Entry → Type 0
FoundFits none = Unit
FoundFits (some e) = EntryFits e

ok_fits : (own T : ℕ) (e : Entry) → EntryOk own T e → EntryFits e
unfolding EntryFits
ok_fits own T (constant t x) h = (h.0, h.1)
ok_fits own T (global g) h = h
ok_fits own T (template t) h = omega arith

pub found_fits : (own T : ℕ) (es : List Entry) (n : ℕ) → EntriesOk own T es → FoundFits (entry_of es n)
unfolding entry_of
found_fits own T es zero h = tt
found_fits own T [] (suc n) h = tt
found_fits own T (e ∷ es) (suc zero) h = ok_fits own T e h.0
found_fits own T (e ∷ es) (suc (suc n)) h = found_fits own T es (suc n) h.1

-- ---- the cell of a constant, by its tag
module _ (t x : ℕ) where
  pub plain_cell : t < 4 → constant_cell t x ≡ (t + 1) * 0x1000000000000000
  unfolding constant_cell
  plain_cell h = rw (lt-ltb t 4 h)

  pub narrow_cell : t ≡ 4 → constant_cell t x ≡ int_cell (widened x)
  unfolding constant_cell
  narrow_cell e = rw e

  pub wide_cell : t ≡ 5 → constant_cell t x ≡ int_cell x
  unfolding constant_cell
  wide_cell e = rw e

  -- what holds of the cell for each of them holds of it
  pub by_tag_lem : (P : ℕ → Type 0) → t < 6 → x < 2 ^ tag_width t
      → (t < 4 → P ((t + 1) * 0x1000000000000000)) → (t ≡ 4 → x < 2 ^ 32 → P (int_cell (widened x))) → (t ≡ 5 → x < 2 ^ 48 → P (int_cell x))
      → P (constant_cell t x)
  unfolding tag_width
  by_tag_lem P h k plain narrow wide = go (ltb t 4) (eqb t 4) refl refl
    where
      go : (a b : Bool) → ltb t 4 ≡ a → eqb t 4 ≡ b → P (constant_cell t x)
      go true b i j = let l = ltb-true t 4 i in rw (plain_cell l) (plain l)
      go false true i j = let e = eqb-true t 4 j in rw (narrow_cell e) (narrow e (rw e at k))
      go false false i j = let e : t ≡ 5 = omega (arith, ltb-false t 4 i, eqb-false t 4 j) in rw (wide_cell e) (wide e (rw e at k))

-- it is marked by none of tags 0, 11 and 12
pub constant_tag : (t x : ℕ) → t < 6 → x < 2 ^ tag_width t → (1 ≤ tag_of (constant_cell t x)) × (tag_of (constant_cell t x) ≤ 6)
constant_tag t x h k = by_tag_lem t x (λ c. (1 ≤ tag_of c) × (tag_of c ≤ 6)) h k (λ l. omega arith) (λ e l. omega arith) (λ e l. omega arith)

slots_entry : (k : ℕ) (es : List Entry) (n : ℕ) → get_or (map slot_of es ++ replicate k 0) n 0 ≡ slot_or (entry_of es (suc n))
unfolding entry_of
slots_entry k [] n = zeros_at k n
slots_entry k (e ∷ es) zero = refl
slots_entry k (e ∷ es) (suc n) = slots_entry k es n

pub row_entry : (x : ℕ) (es : List Entry) (n : ℕ) → (n ≡ 0 → ⊥) → get_or (row_of x es) n 0 ≡ slot_or (entry_of es n)
unfolding row_of
row_entry x es zero h = absurd (h refl)
row_entry x es (suc n) h = slots_entry (256 - length (x ∷ map slot_of es)) es n

-- entry n is there from 1 to E
pub entry_at : (es : List Entry) (n : ℕ) (d : Entry) → n < length es → entry_of es (suc n) ≡ some (get_or es n d)
unfolding entry_of
entry_at [] n d h = absurd (omega arith)
entry_at (e ∷ es) zero d h = refl
entry_at (e ∷ es) (suc n) d h = entry_at es n d (omega arith)

pub entry_above : (es : List Entry) (n : ℕ) → length es < n → entry_of es n ≡ none
unfolding entry_of
entry_above es zero h = refl
entry_above [] (suc n) h = refl
entry_above (e ∷ es) (suc zero) h = absurd (omega arith)
entry_above (e ∷ es) (suc (suc n)) h = entry_above es (suc n) (omega arith)

-- ---- rows, of templates with a start and entries
-- no template has more entries than a row has slots for
abbrev pub Few : {A : Type 0} → (A → List Entry) → List A → Type 0
Few entries [] = Unit
Few entries (t ∷ ts) = (length (entries t) < 256) × Few entries ts

module _ {A : Type 0} (start : A → ℕ) (entries : A → List Entry) where
  unfoldable pub rows_of : List A → List ℕ
  rows_of [] = []
  rows_of (t ∷ ts) = row_of (start t) (entries t) ++ rows_of ts

  pub rows_length : (ts : List A) → Few entries ts → length (rows_of ts) ≡ 256 * length ts
  unfolding rows_of
  rows_length [] h = refl
  rows_length (t ∷ ts) h =
      length-append (row_of (start t) (entries t)) (rows_of ts)
      ∙ (let i = rows_length ts h.1 in let j = row_length (start t) (entries t) h.0 in omega arith)

  row_slot : (ts : List A) (d : A) (k t n : ℕ) → Few entries ts → t < length ts → n < 256
      → get_or (rows_of ts ++ replicate k 0) (256 * t + n) 0 ≡ get_or (row_of (start (get_or ts t d)) (entries (get_or ts t d))) n 0
  unfolding rows_of
  row_slot [] d k t n h l m = absurd (omega arith)
  row_slot (x ∷ ts) d k zero n h l m =
      let e : 256 * 0 + n ≡ n = omega arith in
      let i : n < length (row_of (start x) (entries x)) = omega (arith, row_length (start x) (entries x) h.0) in
      rw (append_assoc (row_of (start x) (entries x)) (rows_of ts) (replicate k 0), e)
      (get_or-append (row_of (start x) (entries x)) (rows_of ts ++ replicate k 0) 0 n i)
  row_slot (x ∷ ts) d k (suc t) n h l m =
      let e : 256 * suc t + n ≡ length (row_of (start x) (entries x)) + (256 * t + n) = omega (arith, row_length (start x) (entries x) h.0) in
      rw (
        append_assoc (row_of (start x) (entries x)) (rows_of ts) (replicate k 0),
        e,
        get_or-append-add (row_of (start x) (entries x)) (rows_of ts ++ replicate k 0)
            (256 * t + n) 0,
      ) (row_slot ts d k t n h.1 (omega arith) m)

  slot_beyond : (ts : List A) (k t n : ℕ) → Few entries ts → length ts ≤ t → ◌≡◌ {A = ℕ} (get_or (rows_of ts ++ replicate k 0) (256 * t + n) 0) 0
  slot_beyond ts k t n h l =
      let e : 256 * t + n ≡ length (rows_of ts) + (256 * t + n - length (rows_of ts)) = omega (arith, rows_length ts h) in
      rw (e, get_or-append-add (rows_of ts) (replicate k 0) (256 * t + n - length (rows_of ts)) 0) (zeros_at k (256 * t + n - length (rows_of ts)))

  -- THE LAW of a table: slot n of row t is slot n of the row of template t
  pub table_slot : (size : ℕ) (ts : List A) (d : A) (t n : ℕ) → Few entries ts → t < length ts → n < 256
      → get_or (pad_to size (rows_of ts)) (256 * t + n) 0 ≡ get_or (row_of (start (get_or ts t d)) (entries (get_or ts t d))) n 0
  table_slot size ts d = row_slot ts d (size - length (rows_of ts))

  -- beyond the last template every slot is 0
  pub table_beyond : (size : ℕ) (ts : List A) (t n : ℕ) → Few entries ts → length ts ≤ t → ◌≡◌ {A = ℕ} (get_or (pad_to size (rows_of ts)) (256 * t + n) 0) 0
  table_beyond size ts = slot_beyond ts (size - length (rows_of ts))

-- ---- the table of a tree file
abbrev pub tree_start : Template → ℕ
tree_start t = t.start

abbrev pub tree_entries : Template → List Entry
tree_entries t = t.entries

pub tree_rows_lem : (ts : List Template) → tree_rows ts ≡ rows_of tree_start tree_entries ts
unfolding tree_rows rows_of
tree_rows_lem [] = refl
tree_rows_lem (t ∷ ts) = ap (λ (l : List ℕ). row_of t.start t.entries ++ l) (tree_rows_lem ts)

module _ (size : ℕ) (ts : List Template) (few : Few tree_entries ts) (t n : ℕ) where
  pub tree_slot : (d : Template) → t < length ts → n < 256
      → get_or (tree_table size ts) (256 * t + n) 0 ≡ get_or (row_of (get_or ts t d).start (get_or ts t d).entries) n 0
  unfolding tree_table
  tree_slot d l m = rw (tree_rows_lem ts) (table_slot tree_start tree_entries size ts d t n few l m)

  pub tree_beyond : length ts ≤ t → ◌≡◌ {A = ℕ} (get_or (tree_table size ts) (256 * t + n) 0) 0
  unfolding tree_table
  tree_beyond l = rw (tree_rows_lem ts) (table_beyond tree_start tree_entries size ts t n few l)

-- ---- the table of a linear file
abbrev pub linear_start : Linear → ℕ
linear_start t = t.start + 0x100000000 * length t.code

abbrev pub linear_entries : Linear → List Entry
linear_entries t = t.entries

pub linear_rows_lem : (ts : List Linear) → linear_rows ts ≡ rows_of linear_start linear_entries ts
unfolding linear_rows rows_of
linear_rows_lem [] = refl
linear_rows_lem (t ∷ ts) = ap (λ (l : List ℕ). row_of (linear_start t) t.entries ++ l) (linear_rows_lem ts)

module _ (size : ℕ) (ts : List Linear) (few : Few linear_entries ts) (t n : ℕ) where
  pub linear_slot : (d : Linear) → t < length ts → n < 256
      → get_or (linear_table size ts) (256 * t + n) 0 ≡ get_or (row_of (linear_start (get_or ts t d)) (get_or ts t d).entries) n 0
  unfolding linear_table
  linear_slot d l m = rw (linear_rows_lem ts) (table_slot linear_start linear_entries size ts d t n few l m)

  pub linear_beyond : length ts ≤ t → ◌≡◌ {A = ℕ} (get_or (linear_table size ts) (256 * t + n) 0) 0
  unfolding linear_table
  linear_beyond l = rw (linear_rows_lem ts) (table_beyond linear_start linear_entries size ts t n few l)
