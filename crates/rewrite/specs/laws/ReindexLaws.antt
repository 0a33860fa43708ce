-- The laws of renumbered code: its shape stays, it is as valid and as well indexed, and renumbering twice is renumbering once. Assumes nothing.
use Rattle.std.specs.Prelude.{ℕ, ◌≤◌, ◌<◌, ◌≡◌, Bool, ◌&&◌, get_or}
use Rattle.std.proofs.Common.{arith}
use Rattle.std.proofs.Math.Path.{refl}
use Rattle.std.proofs.Math.Bool.{true, false, cond, and-eq-true_iff}
use mathlib.Core.List.{List, [], ◌∷◌, map}
use Rattle.std.proofs.Math.Option.{none}
use borrow.Author.Tests.{le-leb, leb-true, leb-false}
use Rattle.std.proofs.Math.ListN.{length, length-map}
use Rattle.std.proofs.Math.Dec.{leb}
use Rattle.cells.specs.laws.Laws.{clash}
use Rattle.files.specs.Codes.{is_neutral, operands}
use Rattle.files.specs.Code.{Code, done, neutral, return, call, unless_false, make_cont, bits}
use Rattle.files.specs.Entries.{Entry}
use Rattle.files.specs.Grammar.{is_empty, is_open, is_closed, entry_of, suits, index_fits, each_neutral, indices_fit}
use Rattle.files.specs.Valid.{Bytes, Valid}
use Rattle.files.specs.laws.TableLaws.{entry_above}
use Rattle.tree_file.specs.File.{levels}
use Rattle.tree_file.proofs.theorems.Back.{neutral_shape}
use Rattle.rewrite.specs.Reindex.{reindexed, reindex}
use Rattle.rewrite.specs.laws.TokensLaws.{one_operand}

-- ---- the shape stays
module _ (f : ℕ → ℕ) where
  pub same_length : (op : ℕ) (ns : List ℕ) → length (reindexed f op ns) ≡ length ns
  unfolding reindexed
  same_length op ns = pick (leb op 9)
    where
      pick : (b : Bool) → length (cond b (map f ns) ns) ≡ length ns
      pick true = length-map ns f
      pick false = refl

  pub same_bits : (c : Code) → bits (reindex f c) ≡ bits c
  unfolding reindex bits
  same_bits done = refl
  same_bits (neutral op ns r) = rw (same_length op ns, same_bits r) refl
  same_bits (return r) = rw (same_bits r) refl
  same_bits (call n r) = rw (same_bits r) refl
  same_bits (unless_false x y r) = rw (same_bits x, same_bits y, same_bits r) refl
  same_bits (make_cont n x r) = rw (same_bits x, same_bits r) refl

  pub same_levels : (c : Code) → levels (reindex f c) ≡ levels c
  unfolding reindex levels
  same_levels done = refl
  same_levels (neutral op ns r) = same_levels r
  same_levels (return r) = same_levels r
  same_levels (call n r) = same_levels r
  same_levels (unless_false x y r) = rw (same_levels x, same_levels y, same_levels r) refl
  same_levels (make_cont n x r) = rw (same_levels x, same_levels r) refl

  pub same_empty : (c : Code) → is_empty (reindex f c) ≡ is_empty c
  unfolding reindex is_empty
  same_empty done = refl
  same_empty (neutral op ns r) = refl
  same_empty (return r) = refl
  same_empty (call n r) = refl
  same_empty (unless_false x y r) = refl
  same_empty (make_cont n x r) = refl

  mutual
    unfolding reindex is_open is_closed

    pub same_open : (c : Code) → is_open (reindex f c) ≡ is_open c
    same_open done = refl
    same_open (neutral op ns r) = rw (same_empty r, same_open r) refl
    same_open (return r) = refl
    same_open (call n r) = refl
    same_open (unless_false x y r) = rw (same_open x, same_open y, same_empty r, same_open r) refl
    same_open (make_cont n x r) = rw (same_empty x, same_open x, same_closed r) refl

    pub same_closed : (c : Code) → is_closed (reindex f c) ≡ is_closed c
    same_closed done = refl
    same_closed (neutral op ns r) = same_closed r
    same_closed (return r) = same_empty r
    same_closed (call n r) = same_empty r
    same_closed (unless_false x y r) = rw (same_open x, same_open y, same_closed r, same_empty r, same_closed x, same_closed y) refl
    same_closed (make_cont n x r) = rw (same_closed x, same_closed r) refl

-- ---- twice is once
module _ (f g h : ℕ → ℕ) (both : (i : ℕ) → f (g i) ≡ h i) where
  map_twice : (ns : List ℕ) → map f (map g ns) ≡ map h ns
  map_twice [] = refl
  map_twice (n ∷ ns) = rw (both n, map_twice ns) refl

  operands_twice : (b : Bool) (ns : List ℕ) → cond b (map f (cond b (map g ns) ns)) (cond b (map g ns) ns) ≡ cond b (map h ns) ns
  operands_twice true ns = map_twice ns
  operands_twice false ns = refl

  pub reindex_twice : (c : Code) → reindex f (reindex g c) ≡ reindex h c
  unfolding reindex reindexed
  reindex_twice done = refl
  reindex_twice (neutral op ns r) = rw (operands_twice (leb op 9) ns, reindex_twice r) refl
  reindex_twice (return r) = rw (reindex_twice r) refl
  reindex_twice (call n r) = rw (reindex_twice r) refl
  reindex_twice (unless_false x y r) = rw (reindex_twice x, reindex_twice y, reindex_twice r) refl
  reindex_twice (make_cont n x r) = rw (reindex_twice x, reindex_twice r) refl

-- ---- of code whose indices suit the entries es
-- they are at most E
index_few : (es : List Entry) (op n : ℕ) → op ≤ 9 → index_fits es op n ≡ true → n ≤ length es
unfolding index_fits suits
index_few es op n h e = go (leb n (length es)) refl
  where
    go : (b : Bool) → leb n (length es) ≡ b → n ≤ length es
    go true k = leb-true n (length es) k
    go false k =
        let z : entry_of es n ≡ none = entry_above es n (leb-false n (length es) k) in
        let q : false ≡ true = rw (le-leb op 9 h, z) at e in
        clash (cc)

-- a code up to 9 has one operand
at_most_one : (op : ℕ) (ns : List ℕ) → is_neutral op ≡ true → operands op ≡ length ns → op ≤ 9 → length ns ≤ 1
at_most_one op ns n l h =
    let z = neutral_shape op (length ns) n l in
    omega (arith, z.shape, one_operand (λ i. i) op z.past_five h)

-- two ways to renumber that agree on them give the same list
module _ (f g : ℕ → ℕ) (es : List Entry) (agree : (i : ℕ) → i ≤ length es → f i ≡ g i) where
  all_one : (op : ℕ) (ns : List ℕ) → length ns ≤ 1 → op ≤ 9 → index_fits es op (get_or ns 0 0) ≡ true → map f ns ≡ map g ns
  all_one op [] l h e = refl
  all_one op (n ∷ []) l h e = rw (agree n (index_few es op n h e)) refl
  all_one op (n ∷ m ∷ ns) l h e = absurd (omega arith)

  operands_alike : (op : ℕ) (ns : List ℕ) → is_neutral op ≡ true → operands op ≡ length ns → index_fits es op (get_or ns 0 0) ≡ true
      → reindexed f op ns ≡ reindexed g op ns
  unfolding reindexed
  operands_alike op ns n l e = go (leb op 9) refl
    where
      go : (b : Bool) → leb op 9 ≡ b → cond b (map f ns) ns ≡ cond b (map g ns) ns
      go true k = let h = leb-true op 9 k in all_one op ns (at_most_one op ns n l h) h e
      go false k = refl

  pub same_reindex : (c : Code) → Valid c → indices_fit es c ≡ true → reindex f c ≡ reindex g c
  unfolding reindex indices_fit each_neutral Valid
  same_reindex done v e = refl
  same_reindex (neutral op ns r) v e =
      let a = (and-eq-true_iff (index_fits es op (get_or ns 0 0)) (each_neutral (index_fits es) r)).0 e in
      rw (operands_alike op ns v.0 v.1 a.0, same_reindex r v.3 a.1) refl
  same_reindex (return r) v e = rw (same_reindex r v e) refl
  same_reindex (call n r) v e = rw (same_reindex r v.1 e) refl
  same_reindex (unless_false x y r) v e =
      let a = (and-eq-true_iff (each_neutral (index_fits es) x && each_neutral (index_fits es) y) (each_neutral (index_fits es) r)).0 e in
      let b = (and-eq-true_iff (each_neutral (index_fits es) x) (each_neutral (index_fits es) y)).0 a.0 in
      rw (same_reindex x v.0 b.0, same_reindex y v.1 b.1, same_reindex r v.2 a.1) refl
  same_reindex (make_cont n x r) v e =
      let a = (and-eq-true_iff (each_neutral (index_fits es) x) (each_neutral (index_fits es) r)).0 e in
      rw (same_reindex x v.1 a.0, same_reindex r v.2 a.1) refl

-- ---- indices that stay bytes: the list stays valid
module _ (f : ℕ → ℕ) (es : List Entry) (small : (i : ℕ) → i ≤ length es → f i < 256) where
  one_byte : (op : ℕ) (ns : List ℕ) → length ns ≤ 1 → op ≤ 9 → index_fits es op (get_or ns 0 0) ≡ true → Bytes (map f ns)
  unfolding Bytes
  one_byte op [] l h e = tt
  one_byte op (n ∷ []) l h e = (small n (index_few es op n h e), tt)
  one_byte op (n ∷ m ∷ ns) l h e = absurd (omega arith)

  operands_bytes : (op : ℕ) (ns : List ℕ) → is_neutral op ≡ true → operands op ≡ length ns → Bytes ns → index_fits es op (get_or ns 0 0) ≡ true
      → Bytes (reindexed f op ns)
  unfolding reindexed
  operands_bytes op ns n l b e = go (leb op 9) refl
    where
      go : (t : Bool) → leb op 9 ≡ t → Bytes (cond t (map f ns) ns)
      go true k = let h = leb-true op 9 k in one_byte op ns (at_most_one op ns n l h) h e
      go false k = b

  pub valid_reindex : (c : Code) → Valid c → indices_fit es c ≡ true → Valid (reindex f c)
  unfolding reindex indices_fit each_neutral Valid
  valid_reindex done v e = tt
  valid_reindex (neutral op ns r) v e =
      let a = (and-eq-true_iff (index_fits es op (get_or ns 0 0)) (each_neutral (index_fits es) r)).0 e in
      (v.0, rw (same_length f op ns) v.1, operands_bytes op ns v.0 v.1 v.2 a.0, valid_reindex r v.3 a.1)
  valid_reindex (return r) v e = valid_reindex r v e
  valid_reindex (call n r) v e = (v.0, valid_reindex r v.1 e)
  valid_reindex (unless_false x y r) v e =
      let a = (and-eq-true_iff (each_neutral (index_fits es) x && each_neutral (index_fits es) y) (each_neutral (index_fits es) r)).0 e in
      let b = (and-eq-true_iff (each_neutral (index_fits es) x) (each_neutral (index_fits es) y)).0 a.0 in
      (valid_reindex x v.0 b.0, valid_reindex y v.1 b.1, valid_reindex r v.2 a.1)
  valid_reindex (make_cont n x r) v e =
      let a = (and-eq-true_iff (each_neutral (index_fits es) x) (each_neutral (index_fits es) r)).0 e in
      (v.0, valid_reindex x v.1 a.0, valid_reindex r v.2 a.1)

-- ---- entries ds whose entry f n suits where entry n of es does: the indices suit them
module _ (f : ℕ → ℕ) (es ds : List Entry) (moves : (op n : ℕ) → suits op (entry_of es n) ≡ true → suits op (entry_of ds (f n)) ≡ true) where
  index_moves : (op : ℕ) (ns : List ℕ) → suits op (entry_of es (get_or ns 0 0)) ≡ true → suits op (entry_of ds (get_or (map f ns) 0 0)) ≡ true
  unfolding suits entry_of
  index_moves op [] e = clash (cc)
  index_moves op (n ∷ ns) e = moves op n e

  pub indices_move : (c : Code) → indices_fit es c ≡ true → indices_fit ds (reindex f c) ≡ true
  unfolding reindex reindexed indices_fit index_fits each_neutral
  indices_move done e = refl
  indices_move (neutral op ns r) e =
      let a = (and-eq-true_iff (cond (leb op 9) (suits op (entry_of es (get_or ns 0 0))) true) (each_neutral (index_fits es) r)).0 e in
      rw (go (leb op 9) a.0, indices_move r a.1) refl
    where
      go : (b : Bool) → cond b (suits op (entry_of es (get_or ns 0 0))) true ≡ true
          → cond b (suits op (entry_of ds (get_or (cond b (map f ns) ns) 0 0))) true ≡ true
      go true h = index_moves op ns h
      go false h = refl
  indices_move (return r) e = indices_move r e
  indices_move (call n r) e = indices_move r e
  indices_move (unless_false x y r) e =
      let a = (and-eq-true_iff (each_neutral (index_fits es) x && each_neutral (index_fits es) y) (each_neutral (index_fits es) r)).0 e in
      let b = (and-eq-true_iff (each_neutral (index_fits es) x) (each_neutral (index_fits es) y)).0 a.0 in
      rw (indices_move x b.0, indices_move y b.1, indices_move r a.1) refl
  indices_move (make_cont n x r) e =
      let a = (and-eq-true_iff (each_neutral (index_fits es) x) (each_neutral (index_fits es) r)).0 e in
      rw (indices_move x a.0, indices_move r a.1) refl
