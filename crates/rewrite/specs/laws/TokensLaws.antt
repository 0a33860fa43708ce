-- The tokens of a list: their bits are the list's, they are as tokens are, and with new indices they are those of the renumbered list. Assumes nothing.
use Rattle.std.specs.Prelude.{ℕ, zero, suc, ◌+◌, ◌-◌, ◌*◌, ◌≤◌, ◌<◌, ◌≡◌, Bool, true, false, cond, leb}
use Rattle.std.proofs.Common.{arith, sym, ◌∙◌}
use Rattle.std.proofs.Math.Path.{refl, ap}
use mathlib.Core.List.{List, [], ◌∷◌, ◌++◌, map, append_assoc, append-nil}
use borrow.Author.Tests.{leb-true, leb-false, lt-ltb, le-ltb}
use Rattle.std.proofs.Math.ListN.{length, length-append}
use Rattle.files.specs.Codes.{shape_of, is_neutral, operands}
use Rattle.files.specs.Code.{Code, done, neutral, return, call, unless_false, make_cont, bits}
use Rattle.files.specs.Valid.{Bytes, Valid}
use Rattle.files.specs.Linear.{bits_of}
use Rattle.lists.specs.laws.Each.{each}
use Rattle.readback.specs.Bits.{Stands}
use Rattle.readback.specs.laws.Bits.{AreBits, length_bits, stands_left}
use Rattle.readback.specs.laws.Lists.{none_are, bits_are, append_are}
use Rattle.tree_file.specs.File.{operands_bits, list_bits}
use Rattle.tree_file.specs.laws.Lengths.{operands_length, operands_are, list_length}
use Rattle.tree_file.proofs.theorems.Back.{Neutral, neutral_shape}
use Rattle.rewrite.specs.Reindex.{reindexed, reindex}
use Rattle.rewrite.specs.Tokens.{Token, token, end, tokens, body_bits, token_bits, tokens_bits, operand_count, TokenOk, TokensOk, TokensAt}
use Rattle.rewrite.specs.Tokens.{new_operand, new_operands, renewed_one, renewed}

-- ---- bits
pub body_end : (c : Code) → list_bits c ≡ body_bits c ++ bits_of 5 0
unfolding list_bits body_bits
body_end done = refl
body_end (neutral op ns r) = rw (body_end r) (sym (append_assoc (bits_of 5 op ++ operands_bits ns) (body_bits r) (bits_of 5 0)))
body_end (return r) = rw (body_end r) (sym (append_assoc (bits_of 5 1) (body_bits r) (bits_of 5 0)))
body_end (call n r) = rw (body_end r) (sym (append_assoc (bits_of 5 2 ++ bits_of 8 n) (body_bits r) (bits_of 5 0)))
body_end (unless_false x y r) =
    ap (λ (l : List ℕ). (bits_of 5 3 ++ (list_bits x ++ list_bits y)) ++ l) (body_end r)
    ∙ sym (append_assoc (bits_of 5 3 ++ (list_bits x ++ list_bits y)) (body_bits r) (bits_of 5 0))
body_end (make_cont n x r) =
    ap (λ (l : List ℕ). (bits_of 5 4 ++ (bits_of 8 n ++ list_bits x)) ++ l) (body_end r)
    ∙ sym (append_assoc (bits_of 5 4 ++ (bits_of 8 n ++ list_bits x)) (body_bits r) (bits_of 5 0))

-- a list that ends, before others
ended : (c : Code) (ts : List Token) → body_bits c ++ tokens_bits (end ∷ ts) ≡ list_bits c ++ tokens_bits ts
unfolding tokens_bits token_bits operands_bits
ended c ts = rw (append-nil (bits_of 5 0), body_end c) (sym (append_assoc (body_bits c) (bits_of 5 0) (tokens_bits ts)))

pub tokens_bits_lem : (c : Code) (ts : List Token) → tokens_bits (tokens c ts) ≡ body_bits c ++ tokens_bits ts
unfolding tokens tokens_bits token_bits body_bits operands_bits
tokens_bits_lem done ts = refl
tokens_bits_lem (neutral op ns r) ts = rw (tokens_bits_lem r ts) (sym (append_assoc (bits_of 5 op ++ operands_bits ns) (body_bits r) (tokens_bits ts)))
tokens_bits_lem (return r) ts = rw (append-nil (bits_of 5 1), tokens_bits_lem r ts) (sym (append_assoc (bits_of 5 1) (body_bits r) (tokens_bits ts)))
tokens_bits_lem (call n r) ts = rw (append-nil (bits_of 8 n), tokens_bits_lem r ts) (sym (append_assoc (bits_of 5 2
    ++ bits_of 8 n) (body_bits r) (tokens_bits ts)))
tokens_bits_lem (unless_false x y r) ts =
    let b = tokens_bits ts in
    let inner : tokens_bits (tokens y (end ∷ tokens r ts)) ≡ list_bits y ++ (body_bits r ++ b) =
    tokens_bits_lem y (end ∷ tokens r ts) ∙ ended y (tokens r ts) ∙ ap (λ (l : List ℕ). list_bits y ++ l) (tokens_bits_lem r ts) in
    let all : tokens_bits (tokens x (end ∷ tokens y (end ∷ tokens r ts))) ≡ list_bits x ++ (list_bits y ++ (body_bits r ++ b)) =
    tokens_bits_lem x (end ∷ tokens y (end ∷ tokens r ts)) ∙ ended x (tokens y (end ∷ tokens r ts)) ∙ ap (λ (l : List ℕ). list_bits x ++ l) inner in
    ap (λ (l : List ℕ). (bits_of 5 3 ++ []) ++ l) all ∙ simp (append_assoc, append-nil)
tokens_bits_lem (make_cont n x r) ts =
    let b = tokens_bits ts in
    let all : tokens_bits (tokens x (end ∷ tokens r ts)) ≡ list_bits x ++ (body_bits r ++ b) =
    tokens_bits_lem x (end ∷ tokens r ts) ∙ ended x (tokens r ts) ∙ ap (λ (l : List ℕ). list_bits x ++ l) (tokens_bits_lem r ts) in
    ap (λ (l : List ℕ). (bits_of 5 4 ++ (bits_of 8 n ++ [])) ++ l) all ∙ simp (append_assoc, append-nil)

pub token_length : (t : Token) → length (token_bits t) ≡ 5 + 8 * length t.operands
unfolding token_bits
token_length t = length-append (bits_of 5 t.code) (operands_bits t.operands) ∙ rw (length_bits 5 t.code, operands_length t.operands) refl

pub token_are : (t : Token) → AreBits (token_bits t)
unfolding token_bits
token_are t = append_are (bits_are 5 t.code) (operands_are t.operands)

pub tokens_are : (ts : List Token) → AreBits (tokens_bits ts)
unfolding tokens_bits
tokens_are [] = none_are
tokens_are (t ∷ ts) = append_are (token_are t) (tokens_are ts)

-- ---- what they are like
count_is : (k n : ℕ) → k ≡ suc n → n ≤ 2 → n ≡ operand_count k
unfolding operand_count
count_is k zero e h = rw e
count_is k (suc zero) e h = rw e
count_is k (suc (suc zero)) e h = rw e
count_is k (suc (suc (suc n))) e h = absurd (omega arith)

pub tokens_ok : (c : Code) (ts : List Token) → Valid c → TokensOk ts → TokensOk (tokens c ts)
unfolding tokens TokensOk Valid Bytes shape_of operand_count
tokens_ok done ts v h = h
tokens_ok (neutral op ns r) ts v h =
    let n = neutral_shape op (length ns) v.0 v.1 in
    (record { fits = n.fits; count = count_is (shape_of op) (length ns) n.shape n.few; bytes = v.2 }, tokens_ok r ts v.3 h)
tokens_ok (return r) ts v h = (record { fits = omega arith; count = refl; bytes = tt }, tokens_ok r ts v h)
tokens_ok (call n r) ts v h = (record { fits = omega arith; count = refl; bytes = (v.0, tt) }, tokens_ok r ts v.1 h)
tokens_ok (unless_false x y r) ts v h =
    let e : TokenOk end = record { fits = omega arith; count = refl; bytes = tt } in (
      record { fits = omega arith; count = refl; bytes = tt },
      tokens_ok x (end ∷ tokens y (end ∷ tokens r ts)) v.0 (e, tokens_ok y (end ∷ tokens r ts) v.1 (e, tokens_ok r ts v.2 h)),
    )
tokens_ok (make_cont n x r) ts v h =
    let e : TokenOk end = record { fits = omega arith; count = refl; bytes = tt } in (
      record { fits = omega arith; count = refl; bytes = (v.0, tt) },
      tokens_ok x (end ∷ tokens r ts) v.1 (e, tokens_ok r ts v.2 h),
    )

-- ---- with new indices
module _ (f : ℕ → ℕ) where
  pub new_length : (op : ℕ) (ns : List ℕ) → length (new_operands f op ns) ≡ length ns
  unfolding new_operands
  new_length op [] = refl
  new_length op (n ∷ ns) = refl

  pub renewed_length : (ts : List Token) → length (tokens_bits (renewed f ts)) ≡ length (tokens_bits ts)
  unfolding renewed renewed_one tokens_bits
  renewed_length [] = refl
  renewed_length (t ∷ ts) =
      let t' = token t.code (new_operands f t.code t.operands) in
      rw (length-append (token_bits t') (tokens_bits (renewed f ts)), length-append (token_bits t) (tokens_bits ts), renewed_length ts)
      (omega (arith, token_length t, token_length t', new_length t.code t.operands))

  kept_operand : (op n : ℕ) → 9 < op → new_operand f op n ≡ n
  unfolding new_operand
  kept_operand op n h = rw (le-ltb op 6 (omega arith), lt-ltb 9 op h)

  index_operand : (op n : ℕ) → 6 ≤ op → op ≤ 9 → new_operand f op n ≡ f n
  unfolding new_operand
  index_operand op n h k = rw (le-ltb op 6 h, le-ltb 9 op k)

  -- codes 6 to 9 have one operand
  pub one_operand : (op : ℕ) → 6 ≤ op → op ≤ 9 → shape_of op ≡ 2
  unfolding shape_of
  one_operand op h k = each (λ op. shape_of op ≡ 2) 6 4 (refl, (refl, (refl, (refl, tt)))) op h (omega arith)

  new_is : (op : ℕ) (ns : List ℕ) → is_neutral op ≡ true → operands op ≡ length ns → new_operands f op ns ≡ reindexed f op ns
  unfolding reindexed new_operands
  new_is op ns e l = pick (leb op 9) refl
    where
      n : Neutral op (length ns)
      n = neutral_shape op (length ns) e l

      all : (ns : List ℕ) → 9 < op → new_operands f op ns ≡ ns
      all [] h = refl
      all (a ∷ ns) h = rw (kept_operand op a h)

      one : (ns : List ℕ) → op ≤ 9 → shape_of op ≡ suc (length ns) → new_operands f op ns ≡ map f ns
      one [] h k = absurd (omega (arith, one_operand op n.past_five h))
      one (a ∷ []) h k = rw (index_operand op a n.past_five h)
      one (a ∷ b ∷ ns) h k = absurd (omega (arith, one_operand op n.past_five h))

      pick : (b : Bool) → leb op 9 ≡ b → new_operands f op ns ≡ cond b (map f ns) ns
      pick true h = one ns (leb-true op 9 h) n.shape
      pick false h = all ns (leb-false op 9 h)

  pub renewed_tokens : (c : Code) (ts : List Token) → Valid c → renewed f (tokens c ts) ≡ tokens (reindex f c) (renewed f ts)
  unfolding renewed renewed_one new_operands new_operand tokens reindex Valid
  renewed_tokens done ts v = refl
  renewed_tokens (neutral op ns r) ts v = rw (new_is op ns v.0 v.1, renewed_tokens r ts v.3)
  renewed_tokens (return r) ts v = rw (renewed_tokens r ts v)
  renewed_tokens (call n r) ts v = rw (renewed_tokens r ts v.1)
  renewed_tokens (unless_false x y r) ts v =
      rw (renewed_tokens x (end ∷ tokens y (end ∷ tokens r ts)) v.0, renewed_tokens y (end ∷ tokens r ts) v.1, renewed_tokens r ts v.2)
  renewed_tokens (make_cont n x r) ts v = rw (renewed_tokens x (end ∷ tokens r ts) v.1, renewed_tokens r ts v.2)

  pub renewed_body : (c : Code) → Valid c → tokens_bits (renewed f (tokens c [])) ≡ body_bits (reindex f c)
  unfolding renewed tokens_bits
  renewed_body c v = rw (renewed_tokens c [] v, tokens_bits_lem (reindex f c) []) (append-nil (body_bits (reindex f c)))

  pub renewed_list : (c : Code) → Valid c → tokens_bits (renewed f (tokens c (end ∷ []))) ≡ list_bits (reindex f c)
  unfolding renewed renewed_one new_operands tokens_bits
  renewed_list c v =
      rw (renewed_tokens c (end ∷ []) v, tokens_bits_lem (reindex f c) (end ∷ [])) (ended (reindex f c) [] ∙ append-nil (list_bits (reindex f c)))

-- ---- the tokens of a list that stands at p, without its code 0 and with it
module _ {s : List ℕ} {p : ℕ} (c : Code) (v : Valid c) (h : Stands s p (list_bits c)) where
  body_is : tokens_bits (tokens c []) ≡ body_bits c
  unfolding tokens_bits
  body_is = tokens_bits_lem c [] ∙ append-nil (body_bits c)

  list_is : tokens_bits (tokens c (end ∷ [])) ≡ list_bits c
  unfolding tokens_bits
  list_is = tokens_bits_lem c (end ∷ []) ∙ ended c [] ∙ append-nil (list_bits c)

  pub body_length : length (body_bits c) ≡ bits c - 5
  body_length =
      let e : length (list_bits c) ≡ length (body_bits c) + 5 =
      ap length (body_end c) ∙ length-append (body_bits c) (bits_of 5 0) ∙ rw (length_bits 5 0) refl in
      omega (arith, list_length c)

  pub body_at : TokensAt s p (bits c - 5)
  unfolding TokensOk
  body_at =
      record {
        all = tokens c [];
        good = tokens_ok c [] v tt;
        here = rw body_is (stands_left (body_bits c) (bits_of 5 0) (rw (body_end c) at h));
        size = ap length body_is ∙ body_length;
      }

  pub body_all : body_at.all ≡ tokens c []
  unfolding body_at
  body_all = refl

  pub list_at : TokensAt s p (bits c)
  unfolding TokensOk shape_of operand_count Bytes
  list_at =
      record {
        all = tokens c (end ∷ []);
        good = tokens_ok c (end ∷ []) v (record { fits = omega arith; count = refl; bytes = tt }, tt);
        here = rw list_is h;
        size = ap length list_is ∙ list_length c;
      }

  pub list_all : list_at.all ≡ tokens c (end ∷ [])
  unfolding list_at
  list_all = refl
