-- Marks: those of the entries that code names, and their numbers. Assumes nothing.
use Prim.Native.Nat.{ℕ, zero, suc, ◌+◌, ◌*◌, ◌-◌, ◌≤◌, ◌<◌}
use Rattle.std.proofs.Common.{zero-add, add-one, arith, sym, ap₂, ◌∙◌, take, drop, length-drop, length-set, get_or-set_same, get_or-set_other}
use Rattle.std.specs.Prelude.{◌≡◌, Bool, ◌&&◌, ◌||◌, eqb, leb, set, replicate}
use Rattle.std.proofs.Math.Path.{refl, ap, subst}
use Rattle.std.proofs.Math.Bool.{true, false, cond, and-eq-true_iff}
use mathlib.Core.List.{List, [], ◌∷◌, ◌++◌}
use borrow.Author.Tests.{eqb-true, eq-eqb, lt-ltb, le-ltb, ltb-false, leb-true, leb-false}
use Rattle.std.proofs.Math.Dec.{ltb}
use Rattle.std.proofs.Math.ListN.{length, get_or, length-append, get_or-append}
use Rattle.std.proofs.lemmas.List.{length-take-le, get_or-take}
use Rattle.fields.specs.Field.{field_at}
use Rattle.files.specs.Codes.{shape_of, is_neutral, operands}
use Rattle.files.specs.Code.{Code, done, neutral, return, call, unless_false, make_cont, bits}
use Rattle.files.specs.Entries.{Entry}
use Rattle.files.specs.Grammar.{entry_of, suits, index_fits, each_neutral, indices_fit}
use Rattle.files.specs.Valid.{Bytes, Valid}
use Rattle.files.specs.laws.TableLaws.{zeros_at}
use Rattle.readback.specs.Bits.{Stands}
use Rattle.readback.specs.laws.Bits.{stands_left, stands_right}
use Rattle.lists.specs.Pass.{operands_at}
use Rattle.rewrite.specs.Tokens.{Token, end, tokens, token_bits, tokens_bits, operand_count, TokenOk, TokensOk, TokensAt}
use Rattle.rewrite.specs.laws.TokensLaws.{token_length, one_operand, tokens_ok, list_at, list_all}
use Rattle.rewrite.specs.laws.Steps.{code_read, operands_are_read}
use Rattle.tree_file.proofs.theorems.Back.{neutral_shape}
use Rattle.trim.specs.declared.Span.{Span}
use Rattle.trim.specs.Kept.{rank}
use Rattle.trim.specs.Trim.{names, new_index}
use Rattle.trim.specs.Standing.{is_marked, Numbered, mark_one, names_marked, RowOf, ListIn, span_of}
use Rattle.trim.specs.laws.KeptLaws.{rank_same, rank_end, rank_most, rank_more}
use Rattle.trim.specs.laws.ReachedLaws.{or_cases, never, not_true, zeros_length}
use Rattle.trim.specs.laws.StandLaws.{list_in}

-- ---- numbers
pub mark_unset : (l : List ℕ) (i : ℕ) → get_or l i 0 < 1 → is_marked l i ≡ false
unfolding is_marked
mark_unset l i h = le-ltb 0 (get_or l i 0) (omega arith)

pub mark_set : (l : List ℕ) (i : ℕ) → 1 ≤ get_or l i 0 → is_marked l i ≡ true
unfolding is_marked
mark_set l i h = lt-ltb 0 (get_or l i 0) (omega arith)

pub mark_none : (l : List ℕ) (i : ℕ) → is_marked l i ≡ false → get_or l i 0 ≡ 0
unfolding is_marked
mark_none l i h = let k = ltb-false 0 (get_or l i 0) h in omega arith

module _ (l : List ℕ) (i count : ℕ) where
  abbrev One : ℕ → List ℕ → Type 0
  One r m = (r ≡ count + cond (is_marked l i) 1 0) × (m ≡ cond (is_marked l i) (set l i (count + 1)) l)

  pub one_unset : get_or l i 0 < 1 → One count l
  one_unset h = rw (mark_unset l i h) (omega arith, refl)

  pub one_set : 1 ≤ get_or l i 0 → One (count + 1) (set l i (count + 1))
  one_set h = rw (mark_set l i h) (refl, refl)

  pub one_fits : 1 ≤ get_or l i 0 → count + cond (is_marked l i) 1 0 ≤ 255 → count + 1 < 256
  one_fits h k = let m : count + 1 ≤ 255 = rw (mark_set l i h) at k in omega arith

-- the first i of the marks are numbered, and there are count of them
pub record Numbering (old : List ℕ) (i count : ℕ) (now : List ℕ) : Type 0 where
  pub same : length now ≡ length old
  pub counted : count ≡ rank (is_marked old) 0 i
  pub below : (j : ℕ) → j < i → get_or now j 0 ≡ cond (is_marked old j) (suc (rank (is_marked old) 0 j)) 0
  pub above : (j : ℕ) → i ≤ j → get_or now j 0 ≡ get_or old j 0

pub numbering_none : (old : List ℕ) → Numbering old 0 0 old
unfolding rank
numbering_none old = record { same = refl; counted = refl; below = λ j h. absurd (omega arith); above = λ j h. refl }

module _ {old now : List ℕ} {i count : ℕ} (r : Numbering old i count now) (lt : i < length old) where
  mark_same : is_marked now i ≡ is_marked old i
  unfolding is_marked
  mark_same = rw (r.above i (omega arith)) refl

  pub numbering_fits : (n : ℕ) → i < n → rank (is_marked old) 0 n ≤ 255 → count + cond (is_marked now i) 1 0 ≤ 255
  numbering_fits n h k =
      let e : suc i + (n - suc i) ≡ n = omega arith in
      let m = rank_more (is_marked old) 0 (suc i) (n - suc i) in
      let q = rank_end (is_marked old) 0 i in
      let z : 0 + i ≡ i = zero-add i in
      sum (rw e at m) (rw z at q)
    where
      sum : rank (is_marked old) 0 (suc i) ≤ rank (is_marked old) 0 n → rank (is_marked old) 0 (suc i) ≡ rank (is_marked old) 0 i + cond (is_marked old i) 1 0
          → count + cond (is_marked now i) 1 0 ≤ 255
      sum m q = rw (r.counted, mark_same) (omega arith)

  pub numbering_on : (count' : ℕ) (now' : List ℕ) → count' ≡ count + cond (is_marked now i) 1 0
      → now' ≡ cond (is_marked now i) (set now i (count + 1)) now → Numbering old (i + 1) count' now'
  numbering_on count' now' e f = go (is_marked old i) refl
    where
      z : 0 + i ≡ i
      z = zero-add i

      go : (b : Bool) → is_marked old i ≡ b → Numbering old (i + 1) count' now'
      go true b =
          let t : is_marked now i ≡ true = mark_same ∙ b in
          let g : now' ≡ set now i (count + 1) = f ∙ rw t refl in
          record {
            same = ap length g ∙ length-set now i (count + 1) ∙ r.same;
            counted = e ∙ rw (t, r.counted, add-one i, rank_end (is_marked old) 0 i, z, b) refl;
            below = λ j h. rw g (by_eq j (eqb j i) refl h);
            above = λ j h. rw g (get_or-set_other now i j (count + 1) 0 (λ q. omega arith)) ∙ r.above j (omega arith);
          }
        where
          by_eq : (j : ℕ) (k : Bool) → eqb j i ≡ k → j < i + 1
              → get_or (set now i (count + 1)) j 0 ≡ cond (is_marked old j) (suc (rank (is_marked old) 0 j)) 0
          by_eq j true k h =
              let q : j ≡ i = eqb-true j i k in
              rw (q, b) (get_or-set_same now i (count + 1) 0 (rw r.same lt) ∙ rw (add-one count, r.counted) refl)
          by_eq j false k h =
              let q : j ≡ i → ⊥ = λ q. never (sym k ∙ eq-eqb j i q) in
              get_or-set_other now i j (count + 1) 0 q ∙ r.below j (less j q h)
            where
              less : (j : ℕ) → (j ≡ i → ⊥) → j < i + 1 → j < i
              less j q h = omega arith
      go false b =
          let t : is_marked now i ≡ false = mark_same ∙ b in
          let g : now' ≡ now = f ∙ rw t refl in
          record {
            same = ap length g ∙ r.same;
            counted = e ∙ rw (t, r.counted, add-one i, rank_end (is_marked old) 0 i, z, b) refl;
            below = λ j h. rw g (by_eq j (eqb j i) refl h);
            above = λ j h. rw g (r.above j (omega arith));
          }
        where
          by_eq : (j : ℕ) (k : Bool) → eqb j i ≡ k → j < i + 1 → get_or now j 0 ≡ cond (is_marked old j) (suc (rank (is_marked old) 0 j)) 0
          by_eq j true k h =
              let q : j ≡ i = eqb-true j i k in
              rw (q, b) (r.above i (omega arith) ∙ mark_none old i b)
          by_eq j false k h =
              let q : j ≡ i → ⊥ = λ q. never (sym k ∙ eq-eqb j i q) in
              r.below j (less j q h)
            where
              less : (j : ℕ) → (j ≡ i → ⊥) → j < i + 1 → j < i
              less j q h = omega arith

pub numbering_all : {old now : List ℕ} {i count n : ℕ} → Numbering old i count now → i ≤ n → n ≤ i → (count ≡ rank (is_marked old) 0 n) × Numbered n old now
numbering_all {i = i} {n = n} r h k =
    let e : i ≡ n = omega arith in (
      r.counted ∙ rw e refl,
      record { same = r.same; each = λ j l. r.below j (omega arith) },
    )

-- the first n of some marks, lent alone
module _ (l : List ℕ) (n : ℕ) (h : n ≤ length l) where
  pub front_length : length (take n l) ≡ n
  front_length = length-take-le n l h

  front_mark : (i : ℕ) → i < n → is_marked (take n l) i ≡ is_marked l i
  unfolding is_marked
  front_mark i k = rw (get_or-take n l i 0 k) refl

  front_below : (i : ℕ) → i ≤ n → rank (is_marked (take n l)) 0 i ≡ rank (is_marked l) 0 i
  front_below i k = rank_same _ _ 0 i (λ j m. let z : 0 + j ≡ j = zero-add j in rw z (front_mark j (omega arith)))

  pub front_rank : rank (is_marked (take n l)) 0 n ≡ rank (is_marked l) 0 n
  front_rank = front_below n (omega arith)

  pub numbering_front : {now : List ℕ} {i count : ℕ} → Numbering (take n l) i count now → n ≤ i → i ≤ n
      → (count ≡ rank (is_marked l) 0 n) × Numbered n l (now ++ drop n l)
  numbering_front {now} {i} {count} r a b =
      let all = numbering_all r b a in
      let same = all.1.same ∙ front_length in (
        all.0 ∙ front_rank,
        record {
          same = simp (length-append, length-drop) (omega (arith, same, h));
          each = λ j k. get_or-append now (drop n l) 0 j (omega (arith, same)) ∙ all.1.each j k ∙ rw (front_mark j k, front_below j (omega arith)) refl;
        },
      )

-- ---- codes that name an entry
module _ (code n : ℕ) (row : List ℕ) where
  pub mark_low : code < 6 → row ≡ mark_one code n row
  unfolding mark_one
  mark_low h = rw (lt-ltb code 6 h) refl

  pub mark_high : 9 < code → row ≡ mark_one code n row
  unfolding mark_one
  mark_high h = rw (le-ltb code 6 (omega arith), lt-ltb 9 code h) refl

  pub mark_index : 6 ≤ code → code ≤ 9 → set row n 1 ≡ mark_one code n row
  unfolding mark_one
  mark_index h k = rw (le-ltb code 6 h, le-ltb 9 code k) refl

pub mark_read : (s row : List ℕ) (p q code n : ℕ) → n ≡ field_at s q 8 → q ≡ p + 5 → 6 ≤ code → code ≤ 9
    → set row n 1 ≡ mark_one code (field_at s (p + 5) 8) row
mark_read s row p q code n e f h k = ap (λ (n : ℕ). set row n 1) (e ∙ ap (λ (x : ℕ). field_at s x 8) f) ∙ mark_index code _ row h k

-- a mark that does not matter
same_mark : (code m n : ℕ) (row : List ℕ) → (6 ≤ code → code ≤ 9 → m ≡ n) → mark_one code m row ≡ mark_one code n row
unfolding mark_one
same_mark code m n row h = go (ltb code 6) (ltb 9 code) refl refl
  where
    go : (a b : Bool) → ltb code 6 ≡ a → ltb 9 code ≡ b → cond a row (cond b row (set row m 1)) ≡ cond a row (cond b row (set row n 1))
    go true b e f = refl
    go false true e f = refl
    go false false e f = rw (h (ltb-false code 6 e) (ltb-false 9 code f)) refl

-- ---- the loop over codes
pub record Marking (s : List ℕ) (all : List Token) (row₀ : List ℕ) (here left : ℕ) (row : List ℕ) : Type 0 where
  pub rest : List Token
  pub good : TokensOk rest
  pub stands : Stands s here (tokens_bits rest)
  pub size : length (tokens_bits rest) ≡ left
  pub same : names_marked rest row ≡ names_marked all row₀

pub marking_all : {s : List ℕ} {p n : ℕ} (w : TokensAt s p n) (row : List ℕ) → Marking s w.all row p n row
marking_all w row = record { rest = w.all; good = w.good; stands = w.here; size = w.size; same = refl }

pub marking_none : {s : List ℕ} {all : List Token} {row₀ row : List ℕ} {here left : ℕ} → Marking s all row₀ here left row → left ≡ 0
    → row ≡ names_marked all row₀
unfolding names_marked tokens_bits
marking_none {row = row} m e = none m.rest (m.size ∙ e) ∙ m.same
  where
    none : (rest : List Token) → length (tokens_bits rest) ≡ 0 → row ≡ names_marked rest row
    none [] h = refl
    none (t ∷ ts) h = absurd (let k = length-append (token_bits t) (tokens_bits ts) in omega (arith, token_length t))

module _ {s : List ℕ} {all : List Token} {row₀ row : List ℕ} {here left : ℕ} (m : Marking s all row₀ here left row) (some : 0 < left) where
  record First : Type 0 where
    pub head : Token
    pub tail : List Token
    pub is : m.rest ≡ head ∷ tail

  first : (rest : List Token) → length (tokens_bits rest) ≡ left → m.rest ≡ rest → First
  unfolding tokens_bits
  first [] e q = absurd (omega arith)
  first (t ∷ ts) e q = record { head = t; tail = ts; is = q }

  the : First
  the = first m.rest m.size refl

  ok : TokenOk the.head × TokensOk the.tail
  unfolding TokensOk
  ok = rw the.is at m.good

  both : Stands s here (token_bits the.head ++ tokens_bits the.tail)
  unfolding tokens_bits
  both = rw the.is at m.stands

  head_stands : Stands s here (token_bits the.head)
  head_stands = stands_left (token_bits the.head) (tokens_bits the.tail) both

  sizes : 5 + 8 * length the.head.operands + length (tokens_bits the.tail) ≡ left
  unfolding tokens_bits
  sizes =
      let e : length (tokens_bits m.rest) ≡ length (token_bits the.head) + length (tokens_bits the.tail) =
      ap (λ (ts : List Token). length (tokens_bits ts)) the.is ∙ length-append (token_bits the.head) (tokens_bits the.tail) in
      omega (arith, token_length the.head, m.size)

  pub marking_code : (5 ≤ left) × (here + left ≤ 8 * length s)
  marking_code = (omega (arith, sizes), let h : here + length (tokens_bits m.rest) ≤ 8 * length s = m.stands.fits in omega (arith, m.size))

  module _ (code count : ℕ) (read : code ≡ field_at s here 5) where
    code_is : code ≡ the.head.code
    code_is = read ∙ code_read s here the.head ok.0 head_stands

    pub marking_small : code < 32
    marking_small = rw code_is ok.0.fits

    module _ (counted : count ≡ operand_count (shape_of code)) where
      count_is : count ≡ length the.head.operands
      count_is = counted ∙ rw code_is (sym ok.0.count)

      pub marking_operands : 5 + 8 * count ≤ left
      marking_operands = omega (arith, sizes, count_is)

      one : 6 ≤ code → code ≤ 9 → count ≡ 1
      unfolding operand_count
      one h k = counted ∙ rw (one_operand (λ n. n) code h k) refl

      pub marking_index : 6 ≤ code → code ≤ 9 → here + 13 ≤ 8 * length s
      marking_index h k = omega (arith, marking_operands, one h k, marking_code)

      operand_is : (ns : List ℕ) → length ns ≡ 1 → operands_at s (here + 5) (length ns) ≡ ns → field_at s (here + 5) 8 ≡ get_or ns 0 0
      unfolding operands_at
      operand_is [] e f = absurd (omega arith)
      operand_is (n ∷ ns) e f = ap (λ (l : List ℕ). get_or l 0 0) f

      pub marking_on : (row' : List ℕ) → row' ≡ mark_one code (field_at s (here + 5) 8) row
          → Marking s all row₀ (here + (5 + 8 * count)) (left - (5 + 8 * count)) row'
      unfolding names_marked
      marking_on row' e =
          let n : length (token_bits the.head) ≡ 5 + 8 * count = token_length the.head ∙ rw count_is refl in
          let k : mark_one code (field_at s (here + 5) 8) row ≡ mark_one the.head.code (get_or the.head.operands 0 0) row =
          same_mark code _ _ row (λ a b. operand_is the.head.operands (sym count_is ∙ one a b) (operands_are_read s here the.head ok.0 head_stands))
          ∙ ap (λ (x : ℕ). mark_one x (get_or the.head.operands 0 0) row) code_is in
          record {
            rest = the.tail;
            good = ok.1;
            stands = rw n at (stands_right (token_bits the.head) (tokens_bits the.tail) both);
            size = omega (arith, sizes, count_is);
            same = ap (names_marked the.tail) (e ∙ k) ∙ ap (λ (ts : List Token). names_marked ts row) (sym the.is) ∙ m.same;
          }

-- ---- which entries are marked
name_one : ℕ → ℕ → ℕ → Bool
name_one n code m = cond (ltb code 6) false (cond (ltb 9 code) false (eqb m n))

named_in : ℕ → List Token → Bool
named_in n [] = false
named_in n (t ∷ ts) = name_one n t.code (get_or t.operands 0 0) || named_in n ts

mark_at_lem : (code m n : ℕ) (row : List ℕ) → m < length row → get_or (mark_one code m row) n 0 ≡ cond (name_one n code m) 1 (get_or row n 0)
unfolding mark_one name_one
mark_at_lem code m n row h = go (ltb code 6) (ltb 9 code) (eqb m n) refl
  where
    go : (a b k : Bool) → eqb m n ≡ k
        → get_or (cond a row (cond b row (set row m 1))) n 0 ≡ cond (cond a false (cond b false k)) 1 (get_or row n 0)
    go true b k e = refl
    go false true k e = refl
    go false false true e = rw (← eqb-true m n e) (get_or-set_same row m 1 0 h)
    go false false false e = get_or-set_other row m n 1 0 (λ z. never (sym e ∙ eq-eqb m n (sym z)))

pub mark_length : (code m : ℕ) (row : List ℕ) → length (mark_one code m row) ≡ length row
unfolding mark_one
mark_length code m row = go (ltb code 6) (ltb 9 code)
  where
    go : (a b : Bool) → length (cond a row (cond b row (set row m 1))) ≡ length row
    go true b = refl
    go false true = refl
    go false false = length-set row m 1

first_small : (ns : List ℕ) → Bytes ns → get_or ns 0 0 < 256
unfolding Bytes
first_small [] b = omega arith
first_small (n ∷ ns) b = b.0

or_cond : (a b : Bool) (x y : ℕ) → cond b x (cond a x y) ≡ cond (a || b) x y
or_cond true true x y = refl
or_cond true false x y = refl
or_cond false b x y = refl

pub names_length : (ts : List Token) (row : List ℕ) → length (names_marked ts row) ≡ length row
unfolding names_marked
names_length [] row = refl
names_length (t ∷ ts) row = names_length ts _ ∙ mark_length t.code (get_or t.operands 0 0) row

tokens_marked : (ts : List Token) (row : List ℕ) (n : ℕ) → TokensOk ts → length row ≡ 256
    → get_or (names_marked ts row) n 0 ≡ cond (named_in n ts) 1 (get_or row n 0)
unfolding names_marked named_in TokensOk
tokens_marked [] row n ok l = refl
tokens_marked (t ∷ ts) row n ok l =
    let b : get_or t.operands 0 0 < 256 = first_small t.operands ok.0.bytes in
    tokens_marked ts (mark_one t.code (get_or t.operands 0 0) row) n ok.1 (mark_length t.code (get_or t.operands 0 0) row ∙ l)
    ∙ ap (λ (x : ℕ). cond (named_in n ts) 1 x) (mark_at_lem t.code (get_or t.operands 0 0) n row (omega arith))
    ∙ or_cond (name_one n t.code (get_or t.operands 0 0)) (named_in n ts) 1 (get_or row n 0)

neutral_name : (op n m : ℕ) → is_neutral op ≡ true → (k : ℕ) → operands op ≡ k → name_one n op m ≡ (leb op 9 && eqb m n)
unfolding name_one
neutral_name op n m e k f = let l = (neutral_shape op k e f).past_five in rw (le-ltb op 6 l) (go (leb op 9) refl)
  where
    go : (b : Bool) → leb op 9 ≡ b → cond (ltb 9 op) false (eqb m n) ≡ (b && eqb m n)
    go true h = rw (le-ltb 9 op (leb-true op 9 h)) refl
    go false h = rw (lt-ltb 9 op (leb-false op 9 h)) refl

or_assoc : (a b c : Bool) → ((a || b) || c) ≡ (a || (b || c))
or_assoc true b c = refl
or_assoc false b c = refl

names_tokens : (n : ℕ) (c : Code) (ts : List Token) → Valid c → named_in n (tokens c ts) ≡ (names n c || named_in n ts)
unfolding named_in tokens names Valid name_one
names_tokens n done ts v = refl
names_tokens n (neutral op ns r) ts v =
    ap₂ ◌||◌ (neutral_name op n (get_or ns 0 0) v.0 (length ns) v.1) (names_tokens n r ts v.3)
    ∙ sym (or_assoc (leb op 9 && eqb (get_or ns 0 0) n) (names n r) (named_in n ts))
names_tokens n (return r) ts v = names_tokens n r ts v
names_tokens n (call m r) ts v = names_tokens n r ts v.1
names_tokens n (unless_false x y r) ts v =
    names_tokens n x (end ∷ tokens y (end ∷ tokens r ts)) v.0
    ∙ ap (λ (b : Bool). names n x || b)
    (names_tokens n y (end ∷ tokens r ts) v.1 ∙ ap (λ (b : Bool). names n y || b) (names_tokens n r ts v.2)
    ∙ sym (or_assoc (names n y) (names n r) (named_in n ts)))
    ∙ sym (or_assoc (names n x) (names n y || names n r) (named_in n ts))
names_tokens n (make_cont m x r) ts v =
    names_tokens n x (end ∷ tokens r ts) v.1
    ∙ ap (λ (b : Bool). names n x || b) (names_tokens n r ts v.2)
    ∙ sym (or_assoc (names n x) (names n r) (named_in n ts))

-- ---- a list's names, from a row of zeros
module _ (c : Code) (v : Valid c) (row : List ℕ) (zeros : row ≡ replicate 256 0) where
  or_false : (b : Bool) → (b || false) ≡ b
  or_false true = refl
  or_false false = refl

  pub names_row : (n : ℕ) → is_marked (names_marked (tokens c (end ∷ [])) row) n ≡ names n c
  unfolding is_marked named_in TokensOk shape_of operand_count Bytes name_one
  names_row n =
      let k : TokensOk (tokens c (end ∷ [])) = tokens_ok c (end ∷ []) v (record { fits = omega arith; count = refl; bytes = tt }, tt) in
      let e : get_or (names_marked (tokens c (end ∷ [])) row) n 0 ≡ cond (names n c) 1 0 =
      tokens_marked (tokens c (end ∷ [])) row n k (zeros_length 256 row zeros)
      ∙ rw (names_tokens n c (end ∷ []) v, or_false (names n c), zeros, zeros_at 256 n) refl in
      rw e (go (names n c))
    where
      go : (b : Bool) → ltb 0 (cond b 1 0) ≡ b
      go true = refl
      go false = refl

-- ---- an index that is named has an entry
suits_within : (es : List Entry) (op n : ℕ) → suits op (entry_of es n) ≡ true → (1 ≤ n) × (n ≤ length es)
unfolding suits entry_of
suits_within es op zero e = never e
suits_within [] op (suc n) e = never e
suits_within (x ∷ es) op (suc zero) e = omega arith
suits_within (x ∷ es) op (suc (suc n)) e = let k = suits_within es op (suc n) e in omega arith

pub names_within : (es : List Entry) (n : ℕ) (c : Code) → indices_fit es c ≡ true → names n c ≡ true → (1 ≤ n) × (n ≤ length es)
unfolding indices_fit each_neutral index_fits names
names_within es n done f e = never e
names_within es n (neutral op ns r) f e =
    let k = (and-eq-true_iff (cond (leb op 9) (suits op (entry_of es (get_or ns 0 0))) true) (indices_fit es r)).0 f in
    or_cases (leb op 9 && eqb (get_or ns 0 0) n) (names n r) e
    (λ h.
    let a = (and-eq-true_iff (leb op 9) (eqb (get_or ns 0 0) n)).0 h in
    rw (eqb-true (get_or ns 0 0) n a.1) at (suits_within es op (get_or ns 0 0) (rw a.0 at k.0)))
    (λ h. names_within es n r k.1 h)
names_within es n (return r) f e = names_within es n r f e
names_within es n (call m r) f e = names_within es n r f e
names_within es n (unless_false x y r) f e =
    let k = (and-eq-true_iff (indices_fit es x && indices_fit es y) (indices_fit es r)).0 f in
    let l = (and-eq-true_iff (indices_fit es x) (indices_fit es y)).0 k.0 in
    or_cases (names n x) (names n y || names n r) e (λ h. names_within es n x l.0 h)
    (λ h. or_cases (names n y) (names n r) h (λ h. names_within es n y l.1 h) (λ h. names_within es n r k.1 h))
names_within es n (make_cont m x r) f e =
    let k = (and-eq-true_iff (indices_fit es x) (indices_fit es r)).0 f in
    or_cases (names n x) (names n r) e (λ h. names_within es n x k.0 h) (λ h. names_within es n r k.1 h)

-- ---- numbered
rank_shift : (k : ℕ → Bool) (n m : ℕ) → rank k (suc n) m ≡ rank (λ j. k (suc j)) n m
unfolding rank
rank_shift k n zero = refl
rank_shift k n (suc m) = rw (rank_shift k (suc n) m) refl

module _ (es : List Entry) (c : Code) (fit : indices_fit es c ≡ true) (marks : List ℕ) (are : (n : ℕ) → is_marked marks n ≡ names n c) where
  none_zero : is_marked marks 0 ≡ false
  none_zero = are 0 ∙ not_true (names 0 c) (λ e. let k = names_within es 0 c fit e in omega arith)

  pub rank_marks : (i : ℕ) → rank (is_marked marks) 0 (suc i) ≡ rank (λ j. names (suc j) c) 0 i
  unfolding rank
  rank_marks i =
      rw none_zero
      (rank_shift (is_marked marks) 0 i ∙ rank_same (λ j. is_marked marks (suc j)) (λ j. names (suc j) c) 0 i (λ j h. are (suc (0 + j))))

  pub row_numbered : (E : ℕ) (row : List ℕ) → Numbered (E + 1) marks row → RowOf c E row
  unfolding new_index
  row_numbered E row d zero h l = absurd (omega arith)
  row_numbered E row d (suc i) h l = d.each (suc i) (omega arith) ∙ rw (are (suc i), rank_marks i) refl

-- ---- a template's names
module _ {s table : List ℕ} {own here count : ℕ} {list : Span} (w : ListIn s table own here list count) where
  pub span_tokens : TokensAt s list.start.0 (list.past.0 - list.start.0)
  unfolding span_of
  span_tokens =
      let x = w.at.template in
      let k = list_at x.code w.at.ok.valid_code (list_in w.at) in
      let a : list.start.0 ≡ x.start = ap (λ (l : Span). l.start.0) w.span_is in
      let b : list.past.0 ≡ x.start + bits x.code = ap (λ (l : Span). l.past.0) w.span_is in
      record {
        all = k.all;
        good = k.good;
        here = subst (λ (p : ℕ). Stands s p (tokens_bits k.all)) (sym a) k.here;
        size = k.size ∙ omega arith;
      }

  pub span_all : span_tokens.all ≡ tokens w.at.template.code (end ∷ [])
  unfolding span_tokens
  span_all = list_all w.at.template.code w.at.ok.valid_code (list_in w.at)

  pub names_marked_lem : (row row₁ : List ℕ) → row ≡ replicate 256 0 → row₁ ≡ names_marked span_tokens.all row → (n : ℕ)
      → is_marked row₁ n ≡ names n w.at.template.code
  names_marked_lem row row₁ e f n =
      ap (λ (l : List ℕ). is_marked l n) (f ∙ ap (λ (ts : List Token). names_marked ts row) span_all)
      ∙ names_row w.at.template.code w.at.ok.valid_code row e n

  pub names_fit : (row row₁ : List ℕ) → row ≡ replicate 256 0 → row₁ ≡ names_marked span_tokens.all row
      → (count + 1 ≤ length row₁) × (rank (is_marked row₁) 0 (count + 1) ≤ 255)
  names_fit row row₁ e f =
      let x = w.at.template in
      let h : length x.entries < 256 = w.at.ok.few in
      let l : length row₁ ≡ 256 = ap length f ∙ names_length span_tokens.all row ∙ zeros_length 256 row e in
      let r = rank_marks x.entries x.code w.at.indexed row₁ (names_marked_lem row row₁ e f) count in
      let m = rank_most (λ j. names (suc j) x.code) 0 count in
      (omega (arith, w.count_is), rw (add-one count, r) (omega (arith, w.count_is)))

  pub names_numbered : (row row₁ row₂ : List ℕ) (left : ℕ) → row ≡ replicate 256 0 → row₁ ≡ names_marked span_tokens.all row
      → left ≡ rank (is_marked row₁) 0 (count + 1) → Numbered (count + 1) row₁ row₂
      → RowOf w.at.template.code count row₂ × (left ≡ rank (λ j. names (suc j) w.at.template.code) 0 count)
  names_numbered row row₁ row₂ left e f g d =
      let x = w.at.template in
      let are = names_marked_lem row row₁ e f in (
        row_numbered x.entries x.code w.at.indexed row₁ are count row₂ d,
        g
            ∙ rw (add-one count, rank_marks x.entries x.code w.at.indexed row₁ are count) refl,
      )
