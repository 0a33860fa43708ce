-- Rows of a run's table, filled one after the other. Assumes nothing.
use Rattle.std.specs.Prelude.{ℕ, zero, suc, ◌+◌, ◌*◌, ◌-◌, ◌≤◌, ◌<◌, ◌≡◌, refl, List, [], ◌∷◌, ◌++◌, map, length, take, drop, set, replicate}
use Rattle.std.proofs.Common.{add-one, arith, sym, ap, ◌∙◌, append_assoc, take-append-drop, length-append, length-take, take_at, drop_at}
use Rattle.std.proofs.lemmas.List.{length-map, length-replicate, replicate-append-replicate, set_comm}
use Rattle.std.proofs.lemmas.List.Edits.{sets, sets-eq}
use Rattle.std.proofs.Math.Seq.{drop-append-add}
use Rattle.files.specs.Entries.{Entry}
use Rattle.files.specs.Table.{slot_of, row_of}
use Rattle.files.specs.laws.TableLaws.{row_length}
use Rattle.files.specs.RowFilled.{Unfilled}

-- a store before a run of stores
pub set_sets : (ys o : List ℕ) (i j a : ℕ) → i < j → sets (set o i a) j ys ≡ set (sets o j ys) i a
set_sets [] o i j a h = refl
set_sets (y ∷ ys) o i j a h = ap (λ (x : List ℕ). sets x (suc j) ys) (set_comm o i j a y (omega arith)) ∙ set_sets ys (set o j y) i (suc j) a (omega arith)

drop_replicate : (n k : ℕ) → drop {A = ℕ} n (replicate k 0) ≡ replicate (k - n) 0
drop_replicate zero k = let e : k - 0 ≡ k = omega arith in rw e refl
drop_replicate (suc n) zero = let e : 0 - suc n ≡ 0 = omega arith in rw e refl
drop_replicate (suc n) (suc k) = let e : suc k - suc n ≡ k - n = omega arith in rw e (drop_replicate n k)

-- slots stored into zeros that follow others
stored : (front vs : List ℕ) (i k : ℕ) → length front ≡ i → length vs ≤ k → sets (front ++ replicate k 0) i vs ≡ front ++ (vs ++ replicate (k - length vs) 0)
stored front vs i k f h =
    let l : i + length vs ≤ length (front ++ replicate k 0) = rw (length-append front (replicate k 0), length-replicate {A = ℕ} k 0) (omega arith) in
    sets-eq vs (front ++ replicate k 0) i l
    ∙ rw (
      take_at front (replicate k 0) i f,
      ← f,
      drop-append-add front (replicate k 0) (length vs),
      drop_replicate (length vs) k,
      append_assoc front vs
          (replicate (k - length vs) 0),
    ) refl

-- the slots of a template's entries and then slot 0 make its row
pub row_filled_lem : (front : List ℕ) (own x k : ℕ) (es : List Entry) → length front ≡ 256 * own → length es < 256 → 256 ≤ k
    → set (sets (front ++ replicate k 0) (256 * own + 1) (map slot_of es)) (256 * own) x ≡ front ++ (row_of x es ++ replicate (k - 256) 0)
unfolding row_of
row_filled_lem front own x k es f h i =
    let m = length-map es slot_of in
    let e : 256 - length (x ∷ map slot_of es) + (k - 256) ≡ k - length (x ∷ map slot_of es) = omega arith in
    let st : sets (set (front ++ replicate k 0) (256 * own) x) (256 * own + 1) (map slot_of es) ≡ front ++
    ((x ∷ map slot_of es) ++ replicate (k - length (x ∷ map slot_of es)) 0) = rw add-one (stored front (x ∷ map slot_of es) (256 * own) k f (omega arith)) in
    sym (set_sets (map slot_of es) (front ++ replicate k 0) (256 * own) (256 * own + 1) x (omega arith)) ∙ st
    ∙ rw (
      append_assoc (x ∷ map slot_of es) (replicate (256 - length (x ∷ map slot_of es)) 0) (replicate (k - 256) 0),
      replicate-append-replicate {A = ℕ}
          (256 - length (x ∷ map slot_of es)) (k - 256) 0,
      e,
    ) refl

module _ (T own : ℕ) (table : List ℕ) (own-less : own < T) (unfilled : Unfilled T own table) where
  pub front_length : length (take (256 * own) table) ≡ 256 * own
  front_length = length-take (256 * own) table ∙ omega arith

  pub front_zeros : table ≡ take (256 * own) table ++ replicate (length table - 256 * own) 0
  front_zeros = sym (take-append-drop (256 * own) table) ∙ ap (λ (l : List ℕ). take (256 * own) table ++ l) unfilled.1

  abbrev pub rows_before : ℕ → List Entry → List ℕ
  rows_before x es = take (256 * own) table ++ (row_of x es ++ replicate (length table - 256 * own - 256) 0)

  pub row_table : (x : ℕ) (es : List Entry) → length es < 256 → set (sets table (256 * own + 1) (map slot_of es)) (256 * own) x ≡ rows_before x es
  row_table x es h =
      ap (λ (l : List ℕ). set (sets l (256 * own + 1) (map slot_of es)) (256 * own) x) front_zeros
      ∙ row_filled_lem (take (256 * own) table) own x (length table - 256 * own) es front_length h (omega arith)

  row_still : (x : ℕ) (es : List Entry) → length es < 256 → length (rows_before x es) ≡ length table
  row_still x es h =
      let r = row_length x es h in
      let f = front_length in
      let z = length-replicate {A = ℕ} (length table - 256 * own - 256) 0 in
      rw (
        length-append (take (256 * own) table) (row_of x es ++ replicate (length table - 256 * own - 256) 0),
        length-append (row_of x es)
            (replicate (length table - 256 * own - 256) 0),
      ) (omega arith)

  pub row_unfilled : (x : ℕ) (es : List Entry) → length es < 256 → Unfilled T (own + 1) (rows_before x es)
  row_unfilled x es h =
      let r = row_length x es h in
      let f = front_length in
      let l = row_still x es h in
      let e : 256 * (own + 1) ≡ length (take (256 * own) table) + length (row_of x es) = omega arith in
      let k : length table - 256 * own - 256 ≡ length (rows_before x es) - 256 * (own + 1) = omega arith in (
        omega arith,
        ap (λ (n : ℕ). drop n (rows_before x es)) e
            ∙ drop-append-add (take (256 * own) table) (row_of x es ++ replicate (length table - 256 * own - 256) 0) (length (row_of x es))
            ∙ drop_at (row_of x es) (replicate (length table - 256 * own - 256) 0) (length (row_of x es)) refl
            ∙ ap (λ (n : ℕ). replicate n 0) k,
      )

pub zeros_unfilled : (T n : ℕ) → 256 * T ≤ n → Unfilled T 0 (replicate n 0)
zeros_unfilled T n h =
    let l = length-replicate {A = ℕ} n 0 in
    let e : n ≡ length {A = ℕ} (replicate n 0) - 256 * 0 = omega arith in
    (omega arith, ap (λ (k : ℕ). replicate k 0) e)
