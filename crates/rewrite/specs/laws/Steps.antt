-- What the loop over codes does at each of them. Assumes nothing.
use Rattle.std.specs.Prelude.{ℕ, ◌+◌, ◌*◌, ◌-◌, ◌^◌, ◌≤◌, ◌<◌, ◌≡◌, Bool, ◌||◌}
use native.Mathlib.Omega.{arith}
use Rattle.std.proofs.Math.Path.{refl, sym, ap}
use Rattle.std.proofs.Common.{◌∙◌}
use Rattle.std.proofs.Math.Bool.{true, false, cond}
use mathlib.Core.List.{List, [], ◌∷◌, ◌++◌, append_assoc, append-nil}
use Rattle.std.proofs.Math.ListN.{length, length-append}
use Rattle.std.proofs.Math.Dec.{eqb}
use Rattle.fields.specs.Field.{field_at}
use Rattle.files.specs.Codes.{shape_of}
use Rattle.files.specs.Valid.{Bytes}
use Rattle.files.specs.Linear.{bits_of}
use Rattle.files.specs.laws.AllGot.{field_got_lem}
use Rattle.readback.specs.Bits.{Stands}
use Rattle.readback.specs.laws.Bits.{AreBits, length_bits, stands_left, stands_right, field_stands}
use Rattle.bit_writer.specs.Put.{put_bits}
use Rattle.readback.specs.laws.Lists.{none_are, bits_are, append_are}
use Rattle.bit_writer.proofs.theorems.Laws.{put_next}
use Rattle.tree_file.specs.File.{operands_bits}
use Rattle.lists.specs.Pass.{operands_at}
use Rattle.rewrite.specs.Tokens.{Token, token_bits, tokens_bits, operand_count, TokenOk, TokensOk, TokensAt}
use Rattle.rewrite.specs.Tokens.{new_operand, new_operands, renewed_one, renewed}
use Rattle.rewrite.specs.laws.TokensLaws.{token_length, token_are, new_length}

module _ (s : List ℕ) where
  -- ---- what is read of a token that stands at p
  field_is : (p w v : ℕ) → v < 2 ^ w → Stands s p (bits_of w v) → field_at s p w ≡ v
  field_is p w v lt h = sym (field_got_lem s p w (field_stands s p w v lt h)).0

  operands_read : (p : ℕ) (ns : List ℕ) → Bytes ns → Stands s p (operands_bits ns) → operands_at s p (length ns) ≡ ns
  unfolding operands_at operands_bits Bytes
  operands_read p [] b h = refl
  operands_read p (n ∷ ns) b h =
      let k : Stands s (p + 8) (operands_bits ns) = rw (length_bits 8 n) at (stands_right (bits_of 8 n) (operands_bits ns) h) in
      rw (field_is p 8 n b.0 (stands_left (bits_of 8 n) (operands_bits ns) h), operands_read (p + 8) ns b.1 k)

  module _ (p : ℕ) (t : Token) (ok : TokenOk t) (h : Stands s p (token_bits t)) where
    pub code_read : field_at s p 5 ≡ t.code
    unfolding token_bits
    code_read = field_is p 5 t.code ok.fits (stands_left (bits_of 5 t.code) (operands_bits t.operands) h)

    pub operands_are_read : operands_at s (p + 5) (length t.operands) ≡ t.operands
    unfolding token_bits
    operands_are_read =
        operands_read (p + 5) t.operands ok.bytes
        (rw (length_bits 5 t.code) at (stands_right (bits_of 5 t.code) (operands_bits t.operands) h))

-- ---- what is left of the tokens at a turn of the loop, and the bits b of those that are written
pub record Left (f : ℕ → ℕ) (s o₀ : List ℕ) (at : ℕ) (all : List Token) (here there left : ℕ) (o : List ℕ) : Type 0 where
  pub rest : List Token
  pub good : TokensOk rest
  pub stands : Stands s here (tokens_bits rest)
  pub size : length (tokens_bits rest) ≡ left
  pub written : List ℕ
  pub are : AreBits written
  pub there_is : there ≡ at + length written
  pub is : o ≡ put_bits o₀ at written
  pub same : written ++ tokens_bits (renewed f rest) ≡ tokens_bits (renewed f all)

module _ (f : ℕ → ℕ) (s o₀ : List ℕ) (at : ℕ) where
  pub left_all : {p n : ℕ} (w : TokensAt s p n) → o₀ ≡ put_bits o₀ at [] → Left f s o₀ at w.all p at n o₀
  left_all w e =
      record { rest = w.all; good = w.good; stands = w.here; size = w.size; written = []; are = none_are; there_is = omega arith; is = e; same = refl }

  -- the first of some tokens
  record First (rest : List Token) : Type 0 where
    pub head : Token
    pub tail : List Token
    pub is : rest ≡ head ∷ tail

  first : (rest : List Token) → 0 < length (tokens_bits rest) → First rest
  unfolding tokens_bits
  first [] h = absurd (omega arith)
  first (t ∷ ts) h = record { head = t; tail = ts; is = refl }

  few : (k : ℕ) → operand_count k ≤ 2
  unfolding operand_count
  few k = go (eqb k 2 || eqb k 5) (eqb k 3)
    where
      go : (a b : Bool) → cond a 1 (cond b 2 0) ≤ 2
      go true b = omega arith
      go false true = omega arith
      go false false = omega arith

  module _ {all : List Token} {here there left : ℕ} {o : List ℕ} (l : Left f s o₀ at all here there left o) where
    module _ (some : 0 < left) where
      abbrev this : First l.rest
      this = first l.rest (rw l.size some)

      abbrev now : Token
      now = this.head

      both : Stands s here (token_bits now ++ tokens_bits this.tail)
      unfolding tokens_bits
      both = rw this.is at l.stands

      ok : TokenOk now × TokensOk this.tail
      unfolding TokensOk
      ok = rw this.is at l.good

      here_stands : Stands s here (token_bits now)
      here_stands = stands_left (token_bits now) (tokens_bits this.tail) both

      sizes : 5 + 8 * length now.operands + length (tokens_bits this.tail) ≡ left
      unfolding tokens_bits
      sizes =
          let e : length (tokens_bits l.rest) ≡ length (token_bits now) + length (tokens_bits this.tail) =
          ap (λ (ts : List Token). length (tokens_bits ts)) this.is ∙ length-append (token_bits now) (tokens_bits this.tail) in
          omega (arith, token_length now, l.size)

      -- the code at hand can be read
      pub left_code : (5 ≤ left) × (here + left ≤ 8 * length s)
      left_code = (omega (arith, sizes), let h : here + length (tokens_bits l.rest) ≤ 8 * length s = l.stands.fits in omega (arith, l.size))

      module _ (code count : ℕ) (read : code ≡ field_at s here 5) where
        code_is : code ≡ now.code
        code_is = read ∙ code_read s here now ok.0 here_stands

        pub left_small : code < 32
        left_small = rw code_is ok.0.fits

        module _ (counted : count ≡ operand_count (shape_of code)) where
          count_is : count ≡ length now.operands
          count_is = counted ∙ rw code_is (sym ok.0.count)

          -- and its operands
          pub left_operands : (5 + 8 * count ≤ left) × (count ≤ 2)
          left_operands = (omega (arith, sizes, count_is), rw counted (few (shape_of code)))

          -- one turn
          pub left_next : (o' : List ℕ) (there' : ℕ) → there + left ≤ 8 * length o₀
              → o' ≡ put_bits o there (bits_of 5 code ++ operands_bits (new_operands f code (operands_at s (here + 5) count)))
              → there' ≡ there + (5 + 8 * count)
              → Left f s o₀ at all (here + (5 + 8 * count)) there' (left - (5 + 8 * count)) o'
          unfolding renewed renewed_one tokens_bits token_bits
          left_next o' there' room e q =
              let new = renewed_one f now in
              let ns : operands_at s (here + 5) count ≡ now.operands = rw count_is (operands_are_read s here now ok.0 here_stands) in
              let put : o' ≡ put_bits o there (token_bits new) = e ∙ rw (ns, code_is) refl in
              let n : length (token_bits new) ≡ 5 + 8 * count = token_length new ∙ rw (new_length f now.code now.operands, count_is) refl in
              let m : length (token_bits now) ≡ 5 + 8 * count = token_length now ∙ rw count_is refl in
              let w = l.written in
              record {
                rest = this.tail;
                good = ok.1;
                stands = rw m at (stands_right (token_bits now) (tokens_bits this.tail) both);
                size = omega (arith, sizes, count_is);
                written = w ++ token_bits new;
                are = append_are l.are (token_are new);
                there_is = q ∙ rw (length-append w (token_bits new)) (omega (arith, n, l.there_is));
                is = put_next o₀ o o' at there w (token_bits new) l.are (omega (arith, l.there_is)) l.is l.there_is put;
                same = append_assoc w (token_bits new) (tokens_bits (renewed f this.tail))
                    ∙ ap (λ (ts : List Token). w ++ tokens_bits (renewed f ts)) (sym this.is) ∙ l.same;
              }

    -- the end
    pub left_none : left ≡ 0 → o ≡ put_bits o₀ at (tokens_bits (renewed f all))
    unfolding renewed tokens_bits
    left_none e = l.is ∙ ap (put_bits o₀ at) (sym (append-nil l.written) ∙ none l.rest (l.size ∙ e) ∙ l.same)
      where
        none : (rest : List Token) → length (tokens_bits rest) ≡ 0 → l.written ++ [] ≡ l.written ++ tokens_bits (renewed f rest)
        none [] h = refl
        none (t ∷ ts) h = absurd (let k = length-append (token_bits t) (tokens_bits ts) in omega (arith, token_length t))

-- ---- no bits put at a place: zero bits to the next byte, whatever follows
module _ (o o₁ : List ℕ) (p q : ℕ) (cleared : o₁ ≡ put_bits o p (bits_of 0 0)) (still : q ≡ p + 0) (fits : p ≤ 8 * length o) where
  pub cleared_then : (b o₂ : List ℕ) → o₂ ≡ put_bits o₁ q b → o₂ ≡ put_bits o p b
  unfolding bits_of
  cleared_then b o₂ e = put_next o o₁ o₂ p q [] b none_are (omega arith) cleared still e

  pub cleared_still : o₁ ≡ put_bits o₁ q []
  unfolding bits_of
  cleared_still = cleared ∙ sym (cleared_then [] (put_bits o₁ q []) refl)

-- ---- a code and its operands, as they are put
module _ (f : ℕ → ℕ) (s o o₁ : List ℕ) (h p q code : ℕ) (first : o₁ ≡ put_bits o p (bits_of 5 code)) (next : q ≡ p + 5) where
  abbrev Put : ℕ → List ℕ → Type 0
  Put count o' = o' ≡ put_bits o p (bits_of 5 code ++ operands_bits (new_operands f code (operands_at s (h + 5) count)))

  pub put_none : (count : ℕ) → count ≡ 0 → Put count o₁
  unfolding operands_at new_operands operands_bits
  put_none count e = first ∙ rw (e, append-nil (bits_of 5 code)) refl

  module _ (o₂ : List ℕ) (x : ℕ) (second : o₂ ≡ put_bits o₁ q (bits_of 8 x)) (is : x ≡ new_operand f code (field_at s (h + 5) 8)) where
    two : p + 13 ≤ 8 * length o → o₂ ≡ put_bits o p (bits_of 5 code ++ bits_of 8 x)
    two room =
        put_next o o₁ o₂ p q (bits_of 5 code) (bits_of 8 x) (bits_are 5 code) (omega (arith, length_bits 5 code)) first (rw (length_bits 5 code) next) second

    pub put_one : (count : ℕ) → count ≡ 1 → p + 13 ≤ 8 * length o → Put count o₂
    unfolding operands_at new_operands operands_bits
    put_one count e room = two room ∙ rw (e, ← is, append-nil (bits_of 8 x)) refl

    pub put_two : (o₃ : List ℕ) (r y : ℕ) → o₃ ≡ put_bits o₂ r (bits_of 8 y) → r ≡ q + 8 → y ≡ field_at s (h + 13) 8
        → (count : ℕ) → count ≡ 2 → p + 21 ≤ 8 * length o → Put count o₃
    unfolding operands_at new_operands operands_bits
    put_two o₃ r y third after is₂ count e room =
        let a = bits_of 5 code ++ bits_of 8 x in
        let n : length a ≡ 13 = length-append (bits_of 5 code) (bits_of 8 x) ∙ rw (length_bits 5 code, length_bits 8 x) refl in
        let z : h + 5 + 8 ≡ h + 13 = omega arith in
        put_next o o₂ o₃ p r a (bits_of 8 y) (append_are (bits_are 5 code) (bits_are 8 x)) (omega arith) (two (omega arith)) (omega arith) third
        ∙ rw (e, ← is, z, ← is₂, append-nil (bits_of 8 y), append_assoc (bits_of 5 code) (bits_of 8 x) (bits_of 8 y)) refl
