-- Bits that stand at a bit place of a file, and bytes that stand at a byte place, are read back. Assumes nothing.
use Rattle.std.specs.Prelude.{ℕ, zero, suc, ◌+◌, ◌*◌, ◌-◌, ◌/◌, ◌%◌, ◌^◌, ◌≤◌, ◌<◌, ◌≡◌, Bool, true, false, List, [], ◌∷◌, ◌++◌, length, get_or, take, drop}
use Rattle.std.specs.Prelude.{leb}
use Rattle.std.proofs.Common.{add-zero, add_assoc, mod-eq_of_lt, sym, ap, ◌∙◌, append_assoc, leb-true, leb-false, eq-eqb, length-append, get_or-append-add}
use Rattle.std.proofs.Common.{get_or-drop, take_at, drop_at}
use native.Mathlib.Omega.{arith}
use Rattle.std.proofs.Math.Path.{refl}
use Rattle.std.proofs.Math.ListN.{get_or-append, get_or-eq_default}
use Rattle.std.proofs.lemmas.Nat.{mod-pow-add}
use Rattle.fields.specs.Field.{bit_at, field_at}
use Rattle.fields.specs.laws.Laws.{whole, field_split}
use Rattle.files.specs.Reading.{Got, got}
use Rattle.files.specs.Entries.{field, field_got, to_byte, zero_bits}
use Rattle.files.specs.laws.EntriesLaws.{bits_length, bytes_length}
use Rattle.files.specs.Linear.{bits_of, byte_of, bytes_from, bytes_of, three_bytes}
use Rattle.readback.specs.Bits.{Stands}

-- the bytes m stand at byte k of the bytes s
pub record Holds (s : List ℕ) (k : ℕ) (m : List ℕ) : Type 0 where
  pub pre : List ℕ
  pub post : List ℕ
  pub is : s ≡ pre ++ (m ++ post)
  pub at : length pre ≡ k

-- ---- parts
module _ {s : List ℕ} {p : ℕ} (a b : List ℕ) (h : Stands s p (a ++ b)) where
  pub stands_left : Stands s p a
  stands_left =
      let l : length (a ++ b) ≡ length a + length b = length-append a b in
      let f : p + length (a ++ b) ≤ 8 * length s = h.fits in
      record { each = λ i lt. h.each i (omega arith) ∙ get_or-append a b 0 i lt; fits = omega arith }

  pub stands_right : Stands s (p + length a) b
  stands_right =
      let l : length (a ++ b) ≡ length a + length b = length-append a b in
      let f : p + length (a ++ b) ≤ 8 * length s = h.fits in
      record {
        each = λ i lt. rw (add_assoc p (length a) i) (h.each (length a + i) (omega arith) ∙ get_or-append-add a b i 0);
        fits = omega arith;
      }

module _ {s : List ℕ} {k : ℕ} (a b : List ℕ) (h : Holds s k (a ++ b)) where
  pub holds_left : Holds s k a
  holds_left = record { pre = h.pre; post = b ++ h.post; is = h.is ∙ simp append_assoc; at = h.at }

  pub holds_right : Holds s (k + length a) b
  holds_right = record {
    pre = h.pre ++ a;
    post = h.post;
    is = h.is ∙ simp append_assoc;
    at = length-append h.pre a ∙ ap (λ (n : ℕ). n + length a) h.at;
  }

-- ---- bytes
module _ {s : List ℕ} {k : ℕ} {m : List ℕ} (h : Holds s k m) where
  pub holds_fits : k + length m ≤ length s
  holds_fits =
      let e : length s ≡ length h.pre + (length m + length h.post) = ap length h.is ∙ simp length-append in
      let f : length h.pre ≡ k = h.at in
      omega arith

  pub holds_at : (i : ℕ) → i < length m → get_or s (k + i) 0 ≡ get_or m i 0
  holds_at i lt =
      ap (λ (l : List ℕ). get_or l (k + i) 0) h.is
      ∙ rw (← h.at) (get_or-append-add h.pre (m ++ h.post) i 0 ∙ get_or-append m h.post 0 i lt)

  pub holds_code : take (length m) (drop k s) ≡ m
  holds_code = rw (h.is, drop_at h.pre (m ++ h.post) k h.at) (take_at m h.post (length m) refl)

  holds_bit : (i : ℕ) → i < 8 * length m → bit_at s (8 * k + i) ≡ bit_at m i
  unfolding bit_at
  holds_bit i lt =
      let e₁ : (8 * k + i) / 8 ≡ k + i / 8 = omega arith in
      let e₂ : (8 * k + i) % 8 ≡ i % 8 = omega arith in
      rw (e₁, e₂, holds_at (i / 8) (omega arith)) refl

-- ---- a field
-- the same at the same place
pub here : {A : Type 0} {a b : A} {p q : ℕ} → a ≡ b → p ≡ q → ◌≡◌ {A = Got A} (got a p) (got b q)
here e f = cc

field_mod : (s : List ℕ) (w v p : ℕ) → Stands s p (bits_of w v) → field_at s p w ≡ v % 2 ^ w
unfolding field_at bits_of
field_mod s zero v p h = omega arith
field_mod s (suc w) v p h =
    let one : suc w ≡ 1 + w = omega arith in
    let bit : bit_at s (p + 0) ≡ v / 2 ^ w % 2 = h.each 0 (omega arith) in
    let rest : field_at s (p + 1) w ≡ v % 2 ^ w = field_mod s w v (p + 1) (stands_right (v / 2 ^ w % 2 ∷ []) (bits_of w v) h) in
    let first : field_at s p 1 ≡ v / 2 ^ w % 2 = omega arith in
    ap (field_at s p) one ∙ field_split s p 1 w ∙ rw (first, rest) (sym (mod-pow-add v 1 w)) ∙ ap (λ (n : ℕ). v % 2 ^ n) (sym one)

field_here : (s : List ℕ) (p w : ℕ) → p + w ≤ 8 * length s → field s p w ≡ got (field_at s p w) (p + w)
unfolding field field_got
field_here s p w h = rw (← whole s p w h) refl

pub length_bits : (w v : ℕ) → length (bits_of w v) ≡ w
length_bits = bits_length

-- the bits of a number are read back
pub field_stands : (s : List ℕ) (p w v : ℕ) → v < 2 ^ w → Stands s p (bits_of w v) → field s p w ≡ got v (p + w)
field_stands s p w v lt h =
    let f : p + length (bits_of w v) ≤ 8 * length s = h.fits in
    field_here s p w (omega (arith, length_bits w v)) ∙ here (field_mod s w v p h ∙ mod-eq_of_lt lt) refl

pub bits_at : (w v i : ℕ) → i < w → get_or (bits_of w v) i 0 ≡ v / 2 ^ (w - suc i) % 2
unfolding bits_of
bits_at zero v i lt = absurd (omega arith)
bits_at (suc w) v zero lt = ap (λ (n : ℕ). v / 2 ^ n % 2) (omega arith)
bits_at (suc w) v (suc i) lt = bits_at w v i (omega arith) ∙ ap (λ (n : ℕ). v / 2 ^ n % 2) (omega arith)

-- a byte is its eight bits
pub byte_stands : (s : List ℕ) (k : ℕ) → k < length s → Stands s (8 * k) (bits_of 8 (get_or s k 0))
unfolding bit_at
byte_stands s k lt = record { each = each; fits = omega (arith, length_bits 8 (get_or s k 0)) }
  where
    each : (i : ℕ) → i < length (bits_of 8 (get_or s k 0)) → bit_at s (8 * k + i) ≡ get_or (bits_of 8 (get_or s k 0)) i 0
    each i h =
        let j : i < 8 = omega (arith, length_bits 8 (get_or s k 0)) in
        let e₁ : (8 * k + i) / 8 ≡ k = omega arith in
        let e₂ : 7 - (8 * k + i) % 8 ≡ 8 - suc i = omega arith in
        rw (e₁, e₂) (sym (bits_at 8 (get_or s k 0) i j))

module _ {s : List ℕ} {k : ℕ} where
  byte_value : (m : List ℕ) (i : ℕ) → Holds s k m → i < length m → get_or m i 0 < 256 → field_at s (8 * (k + i)) 8 ≡ get_or m i 0
  byte_value m i h lt small =
      let f : k + length m ≤ length s = holds_fits h in
      field_mod s 8 (get_or s (k + i) 0) (8 * (k + i)) (byte_stands s (k + i) (omega arith)) ∙ rw (holds_at h i lt) (mod-eq_of_lt small)

  -- a byte is read back
  pub byte_field : (x : ℕ) → x < 256 → Holds s k (x ∷ []) → field s (8 * k) 8 ≡ got x (8 * (k + 1))
  byte_field x small h =
      let f : k + 1 ≤ length s = holds_fits h in
      let e : field_at s (8 * k) 8 ≡ x = ap (λ (n : ℕ). field_at s (8 * n) 8) (sym (add-zero k)) ∙ byte_value (x ∷ []) 0 h (omega arith) small in
      field_here s (8 * k) 8 (omega arith) ∙ here e (omega arith)

  -- and a length in three bytes
  pub length_field : (n : ℕ) → n < 2 ^ 24 → Holds s k (three_bytes n) → field s (8 * k) 24 ≡ got n (8 * (k + 3))
  length_field n small h =
      let f : k + 3 ≤ length s = holds_fits h in
      let b : (i : ℕ) → i < 3 → get_or (three_bytes n) i 0 < 256 → field_at s (8 * (k + i)) 8 ≡ get_or (three_bytes n) i 0 =
      λ i lt lt'. byte_value (three_bytes n) i h lt lt' in
      let e₀ : field_at s (8 * k) 8 ≡ n / 65536 = ap (λ (x : ℕ). field_at s x 8) (omega arith) ∙ b 0 (omega arith) (omega arith) in
      let e₁ : field_at s (8 * k + 8) 8 ≡ n / 256 % 256 = ap (λ (x : ℕ). field_at s x 8) (omega arith) ∙ b 1 (omega arith) (omega arith) in
      let e₂ : field_at s (8 * k + 8 + 8) 8 ≡ n % 256 = ap (λ (x : ℕ). field_at s x 8) (omega arith) ∙ b 2 (omega arith) (omega arith) in
      field_here s (8 * k) 24 (omega arith) ∙ here (field_split s (8 * k) 8 16 ∙ rw (field_split s (8 * k + 8) 8 8, e₀, e₁, e₂) (omega arith)) (omega arith)

-- ---- bits as bytes
-- every number of b is 0 or 1
pub record AreBits (b : List ℕ) : Type 0 where
  pub small : (i : ℕ) → get_or b i 0 ≤ 1

byte_bit : (b : List ℕ) → AreBits b → (i : ℕ) → i < 8 → byte_of b / 2 ^ (7 - i) % 2 ≡ get_or b i 0
unfolding byte_of
byte_bit b h i lt = go (h.small 0) (h.small 1) (h.small 2) (h.small 3) (h.small 4) (h.small 5) (h.small 6) (h.small 7) i lt
  where
    go : get_or b 0 0 ≤ 1 → get_or b 1 0 ≤ 1 → get_or b 2 0 ≤ 1 → get_or b 3 0 ≤ 1 → get_or b 4 0 ≤ 1 → get_or b 5 0 ≤ 1 → get_or b 6 0 ≤ 1 → get_or b 7 0 ≤ 1
        → (i : ℕ) → i < 8 → byte_of b / 2 ^ (7 - i) % 2 ≡ get_or b i 0
    go h₀ h₁ h₂ h₃ h₄ h₅ h₆ h₇ zero lt = omega arith
    go h₀ h₁ h₂ h₃ h₄ h₅ h₆ h₇ (suc zero) lt = omega arith
    go h₀ h₁ h₂ h₃ h₄ h₅ h₆ h₇ (suc (suc zero)) lt = omega arith
    go h₀ h₁ h₂ h₃ h₄ h₅ h₆ h₇ (suc (suc (suc zero))) lt = omega arith
    go h₀ h₁ h₂ h₃ h₄ h₅ h₆ h₇ (suc (suc (suc (suc zero)))) lt = omega arith
    go h₀ h₁ h₂ h₃ h₄ h₅ h₆ h₇ (suc (suc (suc (suc (suc zero))))) lt = omega arith
    go h₀ h₁ h₂ h₃ h₄ h₅ h₆ h₇ (suc (suc (suc (suc (suc (suc zero)))))) lt = omega arith
    go h₀ h₁ h₂ h₃ h₄ h₅ h₆ h₇ (suc (suc (suc (suc (suc (suc (suc zero))))))) lt = omega arith
    go h₀ h₁ h₂ h₃ h₄ h₅ h₆ h₇ (suc (suc (suc (suc (suc (suc (suc (suc i)))))))) lt = absurd (omega arith)

bytes_bit : (n : ℕ) (b : List ℕ) → AreBits b → (i : ℕ) → i < 8 * n → bit_at (bytes_from n b) i ≡ get_or b i 0
unfolding bytes_from bit_at
bytes_bit zero b h i lt = absurd (omega arith)
bytes_bit (suc n) b h i lt = go (bytes_bit n (drop 8 b) (record { small = λ j. rw (get_or-drop 8 b j 0) (h.small (8 + j)) })) (leb 8 i) refl
  where
    go : ((j : ℕ) → j < 8 * n → bit_at (bytes_from n (drop 8 b)) j ≡ get_or (drop 8 b) j 0)
        → (t : Bool) → leb 8 i ≡ t → get_or (byte_of b ∷ bytes_from n (drop 8 b)) (i / 8) 0 / 2 ^ (7 - i % 8) % 2 ≡ get_or b i 0
    go more true e =
        let le : 8 ≤ i = leb-true 8 i e in
        let e₁ : i / 8 ≡ suc ((i - 8) / 8) = omega arith in
        let e₂ : i % 8 ≡ (i - 8) % 8 = omega arith in
        let e₃ : 8 + (i - 8) ≡ i = omega arith in
        rw (e₁, e₂) (more (i - 8) (omega arith)) ∙ get_or-drop 8 b (i - 8) 0 ∙ ap (λ (x : ℕ). get_or b x 0) e₃
    go more false e =
        let le : i < 8 = leb-false 8 i e in
        let e₁ : i / 8 ≡ 0 = omega arith in
        let e₂ : i % 8 ≡ i = omega arith in
        rw (e₁, e₂) (byte_bit b h i le)

zeros : {A : Type 0} (s : List ℕ) (n p : ℕ) (a : A) → ((i : ℕ) → i < n → bit_at s (p + i) ≡ 0) → zero_bits s n p a ≡ got a (p + n)
unfolding zero_bits
zeros s zero p a h = ap (got a) (sym (add-zero p))
zeros s (suc n) p a h =
    let e : bit_at s p ≡ 0 = ap (bit_at s) (sym (add-zero p)) ∙ h 0 (omega arith) in
    rw (eq-eqb (bit_at s p) 0 e)
    (zeros s n (p + 1) a (λ i lt. ap (bit_at s) (add_assoc p 1 i) ∙ h (1 + i) (omega arith)) ∙ ap (got a) (omega arith))

module _ {s : List ℕ} {k : ℕ} (b : List ℕ) (are : AreBits b) (h : Holds s k (bytes_of b)) where
  bytes_of_bit : (i : ℕ) → i < 8 * ((length b + 7) / 8) → bit_at s (8 * k + i) ≡ get_or b i 0
  unfolding bytes_of
  bytes_of_bit i lt = holds_bit h i (omega (arith, bytes_length b)) ∙ bytes_bit ((length b + 7) / 8) b are i lt

  -- bits written as bytes stand there
  pub bytes_stand : Stands s (8 * k) b
  bytes_stand =
      let f : k + length (bytes_of b) ≤ length s = holds_fits h in
      record { each = λ i lt. bytes_of_bit i (omega arith); fits = omega (arith, bytes_length b) }

  -- and zero bits to the next byte
  pub padding_zero : {A : Type 0} (a : A) → zero_bits s (to_byte (8 * k + length b)) (8 * k + length b) a ≡ got a (8 * (k + length (bytes_of b)))
  padding_zero a =
      zeros s (to_byte (8 * k + length b)) (8 * k + length b) a
      (λ i lt. ap (bit_at s) (add_assoc (8 * k) (length b) i) ∙ bytes_of_bit (length b + i) (omega arith) ∙ get_or-eq_default b 0 (omega arith))
      ∙ ap (got a) (omega (arith, bytes_length b))
