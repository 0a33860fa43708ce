-- The laws of putting bits: the length stays, bits put one after the other are put at once, and at place 0 they are the bytes. Assumes nothing.
use Rattle.std.specs.Prelude.{ℕ, suc, ◌+◌, ◌*◌, ◌-◌, ◌/◌, ◌%◌, ◌^◌, ◌≤◌, ◌<◌, ◌≡◌, set}
use Rattle.std.proofs.Common.{add-zero, zero-add, suc-mul, mul-le-mul_right, add-one, arith, ◌∙◌, length-append, length-drop, set-set, get_or-drop, ext_get_or, shr-shr, shr_lt, shl_lt, shl_exact, pow-add}
use Rattle.std.proofs.Math.Path.{refl, sym, ap}
use mathlib.Core.List.{List, [], ◌∷◌, ◌++◌, append-nil, append_assoc}
use Rattle.std.proofs.Math.ListN.{length, get_or, take, drop}
use Rattle.std.proofs.lemmas.List.Edits.{sets}
use Rattle.std.proofs.Math.Seq.{sets-eq, length-sets, length-take-le}
use Rattle.std.proofs.Math.Pow.{pow_mono}
use Rattle.fields.specs.Field.{bit_at, field_at}
use Rattle.fields.specs.laws.Laws.{field_small}
use Rattle.files.specs.laws.EntriesLaws.{bytes_length}
use Rattle.files.specs.Linear.{bits_of, byte_of, bytes_from, bytes_of}
use Rattle.readback.specs.Bits.{Stands}
use Rattle.readback.specs.laws.Bits.{Holds, AreBits, stands_right, bits_at, length_bits, bytes_stand}
use Rattle.readback.specs.Lists.{bits_from}
use Rattle.readback.specs.laws.Lists.{bits_are, append_are, bits_join, byte_is, field_bits, from_length, from_append, from_are}
use Rattle.bit_writer.specs.Put.{kept, put_bits}
use Rattle.bit_writer.specs.laws.Lists.{in_two, bytes_first, whole_length, bytes_split}
use Rattle.bit_writer.specs.laws.Wrote.{Wrote}

-- ---- runs of stores
sets_append : (l : List ℕ) (i : ℕ) (u v : List ℕ) → sets l i (u ++ v) ≡ sets (sets l i u) (i + length u) v
sets_append l i [] v = rw add-zero refl
sets_append l i (a ∷ u) v = let e : i + suc (length u) ≡ suc i + length u = omega arith in rw e (sets_append (set l i a) (suc i) u v)

-- bits that are fewer than a byte, stored, and stored again with more after them
sets_over : (l : List ℕ) (i : ℕ) (y b : List ℕ) → length y < 8 → sets (sets l i (bytes_of y)) i (bytes_of (y ++ b)) ≡ sets l i (bytes_of (y ++ b))
unfolding bytes_of bytes_from
sets_over l i [] b h = refl
sets_over l i (x ∷ y) b h =
    let e : (length (x ∷ y) + 7) / 8 ≡ 1 = omega arith in
    rw (bytes_first ((x ∷ y) ++ b) (simp length-append (omega arith)), e)
    (ap (λ (l : List ℕ). sets l (suc i) (bytes_of (drop 8 ((x ∷ y) ++ b)))) (set-set l i _ _))

-- n whole bytes, stored with the rest, and the rest stored again with more after it
sets_on : (o : List ℕ) (i n : ℕ) (x b : List ℕ) → 8 * n ≤ length x → length x < 8 * n + 8
    → sets (sets o i (bytes_of x)) (i + n) (bytes_of (drop (8 * n) x ++ b)) ≡ sets o i (bytes_of (x ++ b))
sets_on o i n x b h k =
    let y = drop (8 * n) x in
    let u = bytes_from n x in
    let l : i + length u ≡ i + n = ap (λ (m : ℕ). i + m) (whole_length n x) in
    let e : bytes_of x ≡ u ++ bytes_of y = rw (append-nil x, append-nil y) at (bytes_split n x [] h) in
    let f : sets o i (bytes_of x) ≡ sets (sets o i u) (i + n) (bytes_of y) = ap (sets o i) e ∙ sets_append o i u (bytes_of y) ∙ rw l refl in
    let g : sets o i (bytes_of (x ++ b)) ≡ sets (sets o i u) (i + n) (bytes_of (y ++ b)) =
    ap (sets o i) (bytes_split n x b h) ∙ sets_append o i u (bytes_of (y ++ b)) ∙ rw l refl in
    ap (λ (l : List ℕ). sets l (i + n) (bytes_of (y ++ b))) f ∙ sets_over (sets o i u) (i + n) y b (simp length-drop (omega arith)) ∙ sym g

-- ---- the bits before a place
kept_length : (o : List ℕ) (p : ℕ) → length (kept o p) ≡ p % 8
unfolding kept
kept_length o p = length_bits (p % 8) _

kept_bit : (o : List ℕ) (p i : ℕ) → i < p % 8 → get_or (kept o p) i 0 ≡ bit_at o (8 * (p / 8) + i)
unfolding kept bit_at
kept_bit o p i lt =
    let e₁ : (8 * (p / 8) + i) / 8 ≡ p / 8 = omega arith in
    let e₂ : 7 - (8 * (p / 8) + i) % 8 ≡ 8 - p % 8 + (p % 8 - suc i) = omega arith in
    bits_at (p % 8) _ i lt ∙ rw (e₁, e₂, shr-shr) refl

kept_are : (o : List ℕ) (p : ℕ) → AreBits (kept o p)
unfolding kept
kept_are o p = bits_are (p % 8) _

-- ---- the laws
pub put_is : (o : List ℕ) (p : ℕ) (b : List ℕ) → put_bits o p b ≡ sets o (p / 8) (bytes_of (kept o p ++ b))
unfolding put_bits
put_is o p b = refl

pub put_length : (o : List ℕ) (p : ℕ) (b : List ℕ) → length (put_bits o p b) ≡ length o
unfolding put_bits
put_length o p b = length-sets o (p / 8) (bytes_of (kept o p ++ b))

-- at the start
pub put_start : (o b : List ℕ) → put_bits o 0 b ≡ sets o 0 (bytes_of b)
unfolding put_bits kept bits_of
put_start o b = refl

pub put_file : (o b : List ℕ) → length b ≤ 8 * length o → put_bits o 0 b ≡ bytes_of b ++ drop (length (bytes_of b)) o
put_file o b h = put_start o b ∙ sets-eq (bytes_of b) o 0 (omega (arith, bytes_length b)) ∙ ap (λ (n : ℕ). bytes_of b ++ drop n o) (zero-add (length (bytes_of b)))

module _ (o : List ℕ) (p : ℕ) (a : List ℕ) (are : AreBits a) (fits : p + length a ≤ 8 * length o) where
  -- the bits of the first byte that stay, and those that are put
  abbrev all : List ℕ
  all = kept o p ++ a

  all_length : length all ≡ p % 8 + length a
  all_length = length-append (kept o p) a ∙ rw (kept_length o p) refl

  put_holds : Holds (put_bits o p a) (p / 8) (bytes_of all)
  unfolding put_bits
  put_holds =
      let f : p / 8 + length (bytes_of all) ≤ length o = omega (arith, bytes_length all, all_length) in
      record {
        pre = take (p / 8) o;
        post = drop (p / 8 + length (bytes_of all)) o;
        is = sets-eq (bytes_of all) o (p / 8) f ∙ simp append_assoc;
        at = length-take-le (p / 8) o (omega arith);
      }

  all_stands : Stands (put_bits o p a) (8 * (p / 8)) all
  all_stands = bytes_stand all (append_are (kept_are o p) are) put_holds

  -- what is put stands there
  pub put_stands : Stands (put_bits o p a) p a
  put_stands =
      let e : 8 * (p / 8) + length (kept o p) ≡ p = omega (arith, kept_length o p) in
      rw e at (stands_right (kept o p) a all_stands)

  -- the bits before the next place are the last of those that were put
  abbrev full : ℕ
  full = (p % 8 + length a) / 8

  kept_next : kept (put_bits o p a) (p + length a) ≡ drop (8 * full) all
  kept_next =
      let l : length (kept (put_bits o p a) (p + length a)) ≡ (p + length a) % 8 = kept_length _ _ in
      ext_get_or 0 (kept (put_bits o p a) (p + length a)) (drop (8 * full) all) (simp length-drop (omega (arith, all_length)))
      (λ i lt.
      let j : i < (p + length a) % 8 = omega arith in
      let e : 8 * ((p + length a) / 8) + i ≡ 8 * (p / 8) + (8 * full + i) = omega arith in
      kept_bit (put_bits o p a) (p + length a) i j ∙ ap (bit_at (put_bits o p a)) e ∙ all_stands.each (8 * full + i) (omega (arith, all_length))
      ∙ sym (get_or-drop (8 * full) all i 0))

  -- bits put one after the other are put at once
  pub put_append : (b : List ℕ) → put_bits (put_bits o p a) (p + length a) b ≡ put_bits o p (a ++ b)
  put_append b =
      let e : (p + length a) / 8 ≡ p / 8 + full = omega arith in
      put_is (put_bits o p a) (p + length a) b
      ∙ rw (kept_next, e, put_is o p a, put_is o p (a ++ b), ← append_assoc (kept o p) a b)
      (sets_on o (p / 8) full all b (omega (arith, all_length)) (omega (arith, all_length)))

join_small : (r w k v : ℕ) → k < 2 ^ r → v < 2 ^ w → k * 2 ^ w + v < 2 ^ (r + w)
join_small r w k v h l = rw (pow-add 2 r w) (omega (arith, mul-le-mul_right (2 ^ w) h, suc-mul k (2 ^ w)))

-- ---- one field
module _ (o : List ℕ) (p w v : ℕ) where
  abbrev all_bits : List ℕ
  all_bits = kept o p ++ bits_of w v

  length_all : length all_bits ≡ p % 8 + w
  length_all = length-append (kept o p) (bits_of w v) ∙ rw (kept_length o p, length_bits w v) refl

  some_bytes : (n : ℕ) → (p % 8 + w + 7) / 8 ≡ n → put_bits o p (bits_of w v) ≡ sets o (p / 8) (bytes_from n all_bits)
  unfolding bytes_of
  some_bytes n e = put_is o p (bits_of w v) ∙ rw (length_all, e) refl

  pub put_none : p % 8 + w ≡ 0 → o ≡ put_bits o p (bits_of w v)
  unfolding bytes_from
  put_none e = sym (some_bytes 0 (omega arith))

-- the bits before it in its byte and its own are a number of at most 15 bits, which lie in two bytes
module _ (o : List ℕ) (p w v : ℕ) (byte : get_or o (p / 8) 0 < 256) (few : w ≤ 8) (small : v < 2 ^ w) where
  abbrev pub before : ℕ
  before = get_or o (p / 8) 0 / 2 ^ (8 - p % 8)

  -- as the code has it
  abbrev pub two : ℕ
  two = (before * 2 ^ w % 2 ^ 32 + v) * 2 ^ (16 - (p % 8 + w)) % 2 ^ 32

  before_small : before < 2 ^ (p % 8)
  before_small = let e : p % 8 + (8 - p % 8) ≡ 8 = omega arith in shr_lt (p % 8) (8 - p % 8) (rw e byte)

  joined : ℕ
  joined = before * 2 ^ w + v

  joined_small : joined < 2 ^ (p % 8 + w)
  unfolding joined
  joined_small = join_small (p % 8) w before v before_small small

  first_shift : before * 2 ^ w % 2 ^ 32 ≡ before * 2 ^ w
  first_shift = shl_exact (p % 8) w 32 before_small (omega arith)

  -- the sum fits
  pub sum_fits : before * 2 ^ w % 2 ^ 32 + v < 2 ^ 32
  unfolding joined
  sum_fits =
      let l : 2 ^ (p % 8 + w) ≤ 2 ^ 32 = pow_mono {j = 32} (omega arith) in
      rw first_shift (omega (arith, joined_small))

  two_is : two ≡ joined * 2 ^ (16 - (p % 8 + w))
  unfolding joined
  two_is = rw first_shift (shl_exact (p % 8 + w) (16 - (p % 8 + w)) 32 joined_small (omega arith))

  -- two bytes hold it
  pub two_small : two < 65536
  two_small =
      let e : p % 8 + w + (16 - (p % 8 + w)) ≡ 16 = omega arith in
      let l : joined * 2 ^ (16 - (p % 8 + w)) < 2 ^ 16 = rw e at (shl_lt (p % 8 + w) (16 - (p % 8 + w)) joined_small) in
      rw two_is l

  in_bytes : bytes_from 2 (all_bits o p w v) ≡ two / 256 ∷ two % 256 ∷ []
  unfolding kept joined
  in_bytes = ap (bytes_from 2) (sym (bits_join (p % 8) w before v small)) ∙ in_two (p % 8 + w) joined (omega arith) joined_small ∙ rw (← two_is) refl

  pub put_one : 0 < p % 8 + w → p % 8 + w ≤ 8 → set o (p / 8) (two / 256) ≡ put_bits o p (bits_of w v)
  unfolding bytes_from
  put_one h k =
      let e : byte_of (all_bits o p w v) ≡ two / 256 = ap (λ (l : List ℕ). get_or l 0 0) in_bytes in
      sym (some_bytes o p w v 1 (omega arith) ∙ ap (set o (p / 8)) e)

  pub put_two : 8 < p % 8 + w → set (set o (p / 8) (two / 256)) (p / 8 + 1) (two % 256) ≡ put_bits o p (bits_of w v)
  put_two h = sym (some_bytes o p w v 2 (omega arith) ∙ ap (sets o (p / 8)) in_bytes ∙ rw (add-one (p / 8)) refl)

-- ---- one after the other, as functions leave them
pub put_next : (o o₁ o₂ : List ℕ) (p q : ℕ) (a b : List ℕ) → AreBits a → p + length a ≤ 8 * length o → o₁ ≡ put_bits o p a → q ≡ p + length a
    → o₂ ≡ put_bits o₁ q b → o₂ ≡ put_bits o p (a ++ b)
put_next o o₁ o₂ p q a b are fits e f g = g ∙ rw (e, f) (put_append o p a are fits b)

module _ {o₀ o b : List ℕ} {at : ℕ} (w : Wrote o₀ o b at) where
  pub wrote_length : length o ≡ length o₀
  wrote_length = ap length w.is ∙ put_length o₀ 0 b

  -- the bits a are put at the place
  pub wrote_on : (o' a : List ℕ) (at' : ℕ) → AreBits a → at ≤ 8 * length o₀ → o' ≡ put_bits o at a → at' ≡ at + length a → Wrote o₀ o' (b ++ a) at'
  wrote_on o' a at' are fits e f =
      let l : at ≡ 0 + length b = omega (arith, w.at_is) in
      record {
        is = put_next o₀ o o' 0 at b a w.are (omega (arith, w.at_is)) w.is l e;
        at_is = simp length-append (omega (arith, w.at_is));
        are = append_are w.are are;
      }

-- ---- fields one after the other
pub put_then : (o : List ℕ) (p w v : ℕ) (b : List ℕ) → p + w ≤ 8 * length o → put_bits (put_bits o p (bits_of w v)) (p + w) b ≡ put_bits o p (bits_of w v ++ b)
put_then o p w v b h =
    let l : length (bits_of w v) ≡ w = length_bits w v in
    rw l at (put_append o p (bits_of w v) (bits_are w v) (omega arith) b)

-- a number of 32 bits in four bytes
pub word_bits : (v : ℕ) → v < 2 ^ 32 → bits_of 8 (v / 16777216) ++ (bits_of 8 (v / 65536 % 256) ++ (bits_of 8 (v / 256 % 256) ++ bits_of 8 (v % 256))) ≡ bits_of 32 v
word_bits v h =
    let e₁ : v / 256 % 256 * 2 ^ 8 + v % 256 ≡ v % 65536 = omega arith in
    let e₂ : v / 65536 % 256 * 2 ^ 16 + v % 65536 ≡ v % 16777216 = omega arith in
    let e₃ : v / 16777216 * 2 ^ 24 + v % 16777216 ≡ v = omega arith in
    rw (
      ← bits_join 8 8 (v / 256 % 256) (v % 256) (omega arith),
      e₁,
      ← bits_join 8 16 (v / 65536 % 256) (v % 65536) (omega arith),
      e₂,
      ← bits_join 8 24
          (v / 16777216) (v % 16777216) (omega arith),
      e₃,
    ) refl

pub put_four : (o o₁ o₂ o₃ o₄ : List ℕ) (p p₁ p₂ p₃ v : ℕ) → v < 2 ^ 32 → p + 32 ≤ 8 * length o
    → o₁ ≡ put_bits o p (bits_of 8 (v / 16777216)) → p₁ ≡ p + 8
    → o₂ ≡ put_bits o₁ p₁ (bits_of 8 (v / 65536 % 256)) → p₂ ≡ p₁ + 8
    → o₃ ≡ put_bits o₂ p₂ (bits_of 8 (v / 256 % 256)) → p₃ ≡ p₂ + 8
    → o₄ ≡ put_bits o₃ p₃ (bits_of 8 (v % 256)) → o₄ ≡ put_bits o p (bits_of 32 v)
put_four o o₁ o₂ o₃ o₄ p p₁ p₂ p₃ v small fits e₁ q₁ e₂ q₂ e₃ q₃ e₄ =
    let l₁ : length o₁ ≡ length o = ap length e₁ ∙ put_length _ _ _ in
    let l₂ : length o₂ ≡ length o = ap length e₂ ∙ put_length _ _ _ ∙ l₁ in
    let s₃ : o₄ ≡ put_bits o₂ p₂ (bits_of 8 (v / 256 % 256) ++ bits_of 8 (v % 256)) = e₄ ∙ rw (e₃, q₃) (put_then o₂ p₂ 8 _ _ (omega arith)) in
    let s₂ : o₄ ≡ put_bits o₁ p₁ (bits_of 8 (v / 65536 % 256) ++ (bits_of 8 (v / 256 % 256) ++ bits_of 8 (v % 256))) =
    s₃ ∙ rw (e₂, q₂) (put_then o₁ p₁ 8 _ _ (omega arith)) in
    s₂ ∙ rw (e₁, q₁) (put_then o p 8 _ _ (omega arith)) ∙ ap (put_bits o p) (word_bits v small)

-- a number of 48 bits in two bytes and a word
pub wide_bits : (v : ℕ) → v < 2 ^ 48 → bits_of 8 (v / 0x10000000000) ++ (bits_of 8 (v / 0x100000000 % 256) ++ bits_of 32 (v % 0x100000000)) ≡ bits_of 48 v
wide_bits v h =
    let e₁ : v / 0x100000000 % 256 * 2 ^ 32 + v % 0x100000000 ≡ v % 0x10000000000 = omega arith in
    let e₂ : v / 0x10000000000 * 2 ^ 40 + v % 0x10000000000 ≡ v = omega arith in
    rw (
      ← bits_join 8 32 (v / 0x100000000 % 256) (v % 0x100000000) (omega arith),
      e₁,
      ← bits_join 8 40 (v / 0x10000000000) (v % 0x10000000000) (omega arith),
      e₂,
    ) refl

pub put_three : (o o₁ o₂ o₃ : List ℕ) (p p₁ p₂ v : ℕ) → v < 2 ^ 48 → p + 48 ≤ 8 * length o
    → o₁ ≡ put_bits o p (bits_of 8 (v / 0x10000000000)) → p₁ ≡ p + 8
    → o₂ ≡ put_bits o₁ p₁ (bits_of 8 (v / 0x100000000 % 256)) → p₂ ≡ p₁ + 8
    → o₃ ≡ put_bits o₂ p₂ (bits_of 32 (v % 0x100000000)) → o₃ ≡ put_bits o p (bits_of 48 v)
put_three o o₁ o₂ o₃ p p₁ p₂ v small fits e₁ q₁ e₂ q₂ e₃ =
    let l₁ : length o₁ ≡ length o = ap length e₁ ∙ put_length _ _ _ in
    let s₂ : o₃ ≡ put_bits o₁ p₁ (bits_of 8 (v / 0x100000000 % 256) ++ bits_of 32 (v % 0x100000000)) = e₃ ∙ rw (e₂, q₂) (put_then o₁ p₁ 8 _ _ (omega arith)) in
    s₂ ∙ rw (e₁, q₁) (put_then o p 8 _ _ (omega arith)) ∙ ap (put_bits o p) (wide_bits v small)

-- bits that are copied in two parts
pub copy_parts : (s o : List ℕ) (h p m n : ℕ) → m ≤ n → p + m ≤ 8 * length o
    → put_bits o p (bits_from s h n) ≡ put_bits (put_bits o p (bits_from s h m)) (p + m) (bits_from s (h + m) (n - m))
copy_parts s o h p m n l f =
    let e : n ≡ m + (n - m) = omega arith in
    let k : length (bits_from s h m) ≡ m = from_length s h m in
    sym (rw k at (put_append o p (bits_from s h m) (from_are s h m) (omega arith) (bits_from s (h + m) (n - m))) ∙ ap (put_bits o p)
    (sym (from_append s h m (n - m)) ∙ ap (bits_from s h) (sym e)))

-- ---- whole bytes
-- nothing is kept where a byte begins
kept_none : (o : List ℕ) (p : ℕ) → p % 8 ≡ 0 → kept o p ≡ []
unfolding kept bits_of
kept_none o p e = rw e refl

one_byte : (x : ℕ) → x < 256 → bytes_of (bits_of 8 x) ≡ x ∷ []
unfolding bytes_of bytes_from
one_byte x h = rw (length_bits 8 x) (ap (λ (y : ℕ). y ∷ []) (ap byte_of (sym (append-nil (bits_of 8 x))) ∙ byte_is x [] h))

put_byte : (o : List ℕ) (f x : ℕ) → x < 256 → set o f x ≡ put_bits o (8 * f) (bits_of 8 x)
put_byte o f x h =
    let e : 8 * f / 8 ≡ f = omega arith in
    sym (put_is o (8 * f) (bits_of 8 x) ∙ rw (kept_none o (8 * f) (omega arith), e, one_byte x h) refl)

put_empty : (o : List ℕ) (f : ℕ) → o ≡ put_bits o (8 * f) []
unfolding bytes_of bytes_from
put_empty o f = sym (put_is o (8 * f) [] ∙ rw (kept_none o (8 * f) (omega arith)) refl)

-- one byte, and then the rest of count
pub bytes_on : (s o : List ℕ) (h f i count x : ℕ) → i < count → f + count ≤ length o → x ≡ field_at s (h + 8 * i) 8
    → put_bits o (8 * (f + i)) (bits_from s (h + 8 * i) (8 * (count - i))) ≡ put_bits (set o (f + i) x) (8 * (f + (i + 1)))
    (bits_from s (h + 8 * (i + 1)) (8 * (count - (i + 1))))
bytes_on s o h f i count x lt fits e =
    let small : x < 256 = rw e (field_small s (h + 8 * i) 8) in
    let e₁ : 8 * (f + (i + 1)) ≡ 8 * (f + i) + 8 = omega arith in
    let e₂ : h + 8 * (i + 1) ≡ h + 8 * i + 8 = omega arith in
    let e₃ : 8 * (count - (i + 1)) ≡ 8 * (count - i) - 8 = omega arith in
    copy_parts s o (h + 8 * i) (8 * (f + i)) 8 (8 * (count - i)) (omega arith) (omega arith)
    ∙ rw (e₁, e₂, e₃, put_byte o (f + i) x small, e, field_bits s 8 (h + 8 * i)) refl

pub bytes_done : (s o : List ℕ) (h f i count : ℕ) → count ≤ i → o ≡ put_bits o (8 * (f + i)) (bits_from s (h + 8 * i) (8 * (count - i)))
unfolding bits_from
bytes_done s o h f i count l = let e : 8 * (count - i) ≡ 0 = omega arith in rw e (put_empty o (f + i))

pub bytes_all : (s o : List ℕ) (h f count : ℕ)
    → put_bits o (8 * f) (bits_from s h (8 * count)) ≡ put_bits o (8 * (f + 0)) (bits_from s (h + 8 * 0) (8 * (count - 0)))
bytes_all s o h f count =
    let e₁ : f + 0 ≡ f = omega arith in
    let e₂ : h + 8 * 0 ≡ h = omega arith in
    let e₃ : count - 0 ≡ count = omega arith in
    rw (e₁, e₂, e₃) refl

-- ---- up to the next byte, then whole bytes, then the rest
pub copy_three : (s o o₁ o₂ o₃ : List ℕ) (h p n gap count x y : ℕ) → gap ≡ (8 - p % 8) % 8 → gap + 8 * count ≤ n → p + n ≤ 8 * length o
    → o₁ ≡ put_bits o p (bits_of gap x) → x ≡ field_at s h gap
    → o₂ ≡ put_bits o₁ (8 * ((p + gap) / 8)) (bits_from s (h + gap) (8 * count))
    → o₃ ≡ put_bits o₂ (p + (gap + 8 * count)) (bits_of (n - (gap + 8 * count)) y) → y ≡ field_at s (h + (gap + 8 * count)) (n - (gap + 8 * count))
    → o₃ ≡ put_bits o p (bits_from s h n)
copy_three s o o₁ o₂ o₃ h p n gap count x y g le fits e₁ ex e₂ e₃ ey =
    let done = gap + 8 * count in
    let d : done - gap ≡ 8 * count = omega arith in
    let q : 8 * ((p + gap) / 8) ≡ p + gap = omega arith in
    let b₁ : o₁ ≡ put_bits o p (bits_from s h gap) = e₁ ∙ rw (ex, field_bits s gap h) refl in
    let b₂ : o₂ ≡ put_bits o p (bits_from s h done) = e₂ ∙ rw (b₁, q) (sym (rw d at (copy_parts s o h p gap done (omega arith) (omega arith)))) in
    e₃ ∙ rw (b₂, ey, field_bits s (n - done) (h + done)) (sym (copy_parts s o h p done n le (omega arith)))
