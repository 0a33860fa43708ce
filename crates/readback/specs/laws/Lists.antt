-- Lists of bits: those of a number, those of a file from a place on, and the bytes that they are. Assumes nothing.
use Rattle.std.specs.Prelude.{ℕ, zero, suc, ◌+◌, ◌*◌, ◌-◌, ◌/◌, ◌%◌, ◌^◌, ◌≤◌, ◌<◌, ◌≡◌, refl, Bool, true, false, List, [], ◌∷◌, ◌++◌, length, get_or, take}
use Rattle.std.specs.Prelude.{drop, leb}
use Rattle.std.proofs.Common.{add-zero, add_comm, suc-add, mul_assoc, mul_comm, pow-suc, arith, sym, ap, ◌∙◌, append-nil, leb-true, leb-false}
use Rattle.std.proofs.Common.{length-append, get_or-append-add, get_or-drop, drop-cons, ext_get_or, pow-add, pow_pos}
use Rattle.std.proofs.Math.Nat.{mul-add-div_right, div-div-eq-div-mul}
use Rattle.std.proofs.Math.ListN.{get_or-append, get_or-eq_default}
use Rattle.std.proofs.Math.Pow.{high}
use Rattle.fields.specs.Field.{bit_at, field_at}
use Rattle.fields.specs.laws.Laws.{field_split, field_small}
use Rattle.files.specs.laws.PaddingSteps.{bit_field}
use Rattle.files.specs.Linear.{bits_of, byte_of, bytes_from}
use Rattle.readback.specs.Bits.{Stands}
use Rattle.readback.specs.laws.Bits.{AreBits, byte_stands, length_bits}
use Rattle.readback.specs.Lists.{bits_from}

-- ---- bits are 0 or 1
pub none_are : AreBits []
none_are = record { small = λ i. omega arith }

pub bits_are : (w v : ℕ) → AreBits (bits_of w v)
unfolding bits_of
bits_are zero v = none_are
bits_are (suc w) v = record { small = elim [ zero ↦ omega arith | suc i ↦ (bits_are w v).small i ] }

pub append_are : {a b : List ℕ} → AreBits a → AreBits b → AreBits (a ++ b)
append_are {a} {b} h k = record { small = go a h.small }
  where
    go : (a : List ℕ) → ((i : ℕ) → get_or a i 0 ≤ 1) → (i : ℕ) → get_or (a ++ b) i 0 ≤ 1
    go [] h i = k.small i
    go (x ∷ a) h zero = h 0
    go (x ∷ a) h (suc i) = go a (λ j. h (suc j)) i

-- ---- the bits of a number
-- of a number of two parts
bits_low : (m n a b : ℕ) → b < 2 ^ n → (a * 2 ^ n + b) / 2 ^ (m + n) ≡ a / 2 ^ m
bits_low m n a b h =
    rw (add_comm m n, pow-add 2 n m, ← div-div-eq-div-mul, high a n h) refl

low_bits : (n a b : ℕ) → bits_of n (a * 2 ^ n + b) ≡ bits_of n b
unfolding bits_of
low_bits zero a b = refl
low_bits (suc n) a b =
    let e : a * 2 ^ suc n + b ≡ a * 2 * 2 ^ n + b = rw (pow-suc 2 n, mul_comm (2 ^ n) 2, ← mul_assoc) refl in
    let d : (a * 2 * 2 ^ n + b) / 2 ^ n ≡ a * 2 + b / 2 ^ n = mul-add-div_right (pow_pos n) (a * 2) b in
    let f : (a * 2 * 2 ^ n + b) / 2 ^ n % 2 ≡ b / 2 ^ n % 2 = rw d (omega arith) in
    rw (e, f, low_bits n (a * 2) b) refl

pub bits_join : (m n a b : ℕ) → b < 2 ^ n → bits_of (m + n) (a * 2 ^ n + b) ≡ bits_of m a ++ bits_of n b
unfolding bits_of
bits_join zero n a b h = let e : 0 + n ≡ n = omega arith in rw e (low_bits n a b)
bits_join (suc m) n a b h = rw (suc-add m n, bits_low m n a b h, bits_join m n a b h) refl

-- ---- a byte
-- the first byte by its bits
pub byte_same : (a b : List ℕ) → ((i : ℕ) → i < 8 → get_or a i 0 ≡ get_or b i 0) → byte_of a ≡ byte_of b
unfolding byte_of
byte_same a b h =
    rw (
      h 0 (omega arith),
      h 1 (omega arith),
      h 2 (omega arith),
      h 3 (omega arith),
      h 4 (omega arith),
      h 5 (omega arith),
      h 6 (omega arith),
      h 7
          (omega arith),
    ) refl

-- a byte is its eight bits
halves : (x : ℕ) → x < 256
    → 128 * (x / 128 % 2) + 64 * (x / 64 % 2) + 32 * (x / 32 % 2) + 16 * (x / 16 % 2) + 8 * (x / 8 % 2) + 4 * (x / 4 % 2) + 2 * (x / 2 % 2) + x / 1 % 2 ≡ x
halves x h =
    let h₁ : x ≡ 2 * (x / 2) + x / 1 % 2 = omega arith in
    let h₂ : x / 2 ≡ 2 * (x / 4) + x / 2 % 2 = omega arith in
    let h₃ : x / 4 ≡ 2 * (x / 8) + x / 4 % 2 = omega arith in
    let h₄ : x / 8 ≡ 2 * (x / 16) + x / 8 % 2 = omega arith in
    let h₅ : x / 16 ≡ 2 * (x / 32) + x / 16 % 2 = omega arith in
    let h₆ : x / 32 ≡ 2 * (x / 64) + x / 32 % 2 = omega arith in
    let h₇ : x / 64 ≡ 2 * (x / 128) + x / 64 % 2 = omega arith in
    let h₈ : x / 128 ≡ x / 128 % 2 = omega arith in
    add_up (x / 2) (x / 4) (x / 8) (x / 16) (x / 32) (x / 64) (x / 128) _ _ _ _ _ _ _ _ h₁ h₂ h₃ h₄ h₅ h₆ h₇ h₈
  where
    add_up : (x₁ x₂ x₃ x₄ x₅ x₆ x₇ b₀ b₁ b₂ b₃ b₄ b₅ b₆ b₇ : ℕ) → x ≡ 2 * x₁ + b₀ → x₁ ≡ 2 * x₂ + b₁ → x₂ ≡ 2 * x₃ + b₂ → x₃ ≡ 2 * x₄ + b₃ → x₄ ≡ 2 * x₅ + b₄
        → x₅ ≡ 2 * x₆ + b₅ → x₆ ≡ 2 * x₇ + b₆ → x₇ ≡ b₇
        → 128 * b₇ + 64 * b₆ + 32 * b₅ + 16 * b₄ + 8 * b₃ + 4 * b₂ + 2 * b₁ + b₀ ≡ x
    add_up x₁ x₂ x₃ x₄ x₅ x₆ x₇ b₀ b₁ b₂ b₃ b₄ b₅ b₆ b₇ h₁ h₂ h₃ h₄ h₅ h₆ h₇ h₈ = omega arith

pub byte_is : (x : ℕ) (b : List ℕ) → x < 256 → byte_of (bits_of 8 x ++ b) ≡ x
unfolding byte_of bits_of
byte_is x b h = halves x h

-- ---- the n bits at p
pub from_length : (s : List ℕ) (p n : ℕ) → length (bits_from s p n) ≡ n
unfolding bits_from
from_length s p zero = refl
from_length s p (suc n) = ap suc (from_length s (p + 1) n)

pub from_append : (s : List ℕ) (p m n : ℕ) → bits_from s p (m + n) ≡ bits_from s p m ++ bits_from s (p + m) n
unfolding bits_from
from_append s p zero n = let e : 0 + n ≡ n = omega arith in rw (e, add-zero) refl
from_append s p (suc m) n = let e : p + suc m ≡ p + 1 + m = omega arith in rw (suc-add, e) (ap (λ (l : List ℕ). bit_at s p ∷ l) (from_append s (p + 1) m n))

pub from_bit : (s : List ℕ) (p n i : ℕ) → i < n → get_or (bits_from s p n) i 0 ≡ bit_at s (p + i)
unfolding bits_from
from_bit s p zero i h = absurd (omega arith)
from_bit s p (suc n) zero h = rw add-zero refl
from_bit s p (suc n) (suc i) h = from_bit s (p + 1) n i (omega arith) ∙ ap (bit_at s) (omega arith)

bit_small : (s : List ℕ) (p : ℕ) → bit_at s p / 1 % 2 ≡ bit_at s p
unfolding bit_at
bit_small s p = omega arith

-- they are the bits of the field
pub field_bits : (s : List ℕ) (w p : ℕ) → bits_of w (field_at s p w) ≡ bits_from s p w
unfolding bits_of bits_from
field_bits s zero p = refl
field_bits s (suc w) p =
    let one : suc w ≡ 1 + w = omega arith in
    let v : field_at s p (suc w) ≡ bit_at s p * 2 ^ w + field_at s (p + 1) w = ap (field_at s p) one ∙ field_split s p 1 w ∙ rw (bit_field s p) refl in
    let j : bits_of (suc w) (bit_at s p * 2 ^ w + field_at s (p + 1) w) ≡ bit_at s p / 1 % 2 ∷ bits_of w (field_at s (p + 1) w) =
    ap (λ (k : ℕ). bits_of k (bit_at s p * 2 ^ w + field_at s (p + 1) w)) one ∙ bits_join 1 w (bit_at s p) (field_at s (p + 1) w) (field_small s (p + 1) w) in
    ap (bits_of (suc w)) v ∙ j ∙ rw (field_bits s w (p + 1)) (ap (λ (b : ℕ). b ∷ bits_from s (p + 1) w) (bit_small s p))

pub from_are : (s : List ℕ) (p n : ℕ) → AreBits (bits_from s p n)
from_are s p n = rw (← field_bits s n p) (bits_are n (field_at s p n))

-- what stands at p are the bits there
pub stands_from : {s : List ℕ} {p : ℕ} (b : List ℕ) → Stands s p b → bits_from s p (length b) ≡ b
stands_from {s} {p} b h =
    ext_get_or 0 (bits_from s p (length b)) b (from_length s p (length b))
    (λ i lt. let l : i < length b = omega (arith, from_length s p (length b)) in from_bit s p (length b) i l ∙ h.each i l)

pub from_stands : (s : List ℕ) (p n : ℕ) → p + n ≤ 8 * length s → Stands s p (bits_from s p n)
from_stands s p n h = record { each = λ i lt. sym (from_bit s p n i (omega (arith, from_length s p n))); fits = omega (arith, from_length s p n) }

pub stands_append : {s : List ℕ} {p : ℕ} (a b : List ℕ) → Stands s p a → Stands s (p + length a) b → Stands s p (a ++ b)
stands_append {s} {p} a b h k =
    let f : p + length a + length b ≤ 8 * length s = k.fits in
    record { each = λ i lt. go i (leb (length a) i) refl (omega (arith, length-append a b)); fits = omega (arith, length-append a b) }
  where
    go : (i : ℕ) (t : Bool) → leb (length a) i ≡ t → i < length a + length b → bit_at s (p + i) ≡ get_or (a ++ b) i 0
    go i true e lt =
        let le : length a ≤ i = leb-true (length a) i e in
        let j : length a + (i - length a) ≡ i = omega arith in
        let m : p + length a + (i - length a) ≡ p + i = omega arith in
        ap (bit_at s) (sym m) ∙ k.each (i - length a) (omega arith) ∙ sym (get_or-append-add a b (i - length a) 0) ∙ ap (λ (x : ℕ). get_or (a ++ b) x 0) j
    go i false e lt = let l : i < length a = leb-false (length a) i e in h.each i l ∙ sym (get_or-append a b 0 i l)

-- ---- bits that stand there, and zero bits after them
pub padded : {s : List ℕ} {p : ℕ} (b : List ℕ) (n : ℕ) → Stands s p b → ((i : ℕ) → length b ≤ i → i < n → bit_at s (p + i) ≡ 0)
    → (i : ℕ) → i < n → get_or b i 0 ≡ bit_at s (p + i)
padded {s} {p} b n h zeros i lt = go (leb (length b) i) refl
  where
    go : (t : Bool) → leb (length b) i ≡ t → get_or b i 0 ≡ bit_at s (p + i)
    go true e = let le : length b ≤ i = leb-true (length b) i e in get_or-eq_default b 0 le ∙ sym (zeros i le lt)
    go false e = sym (h.each i (leb-false (length b) i e))

-- n bytes from byte k on, by their bits
pub bytes_slice : (z : List ℕ) → ((i : ℕ) → get_or z i 0 < 256) → (n k : ℕ) (b : List ℕ) → k + n ≤ length z
    → ((i : ℕ) → i < 8 * n → get_or b i 0 ≡ bit_at z (8 * k + i))
    → bytes_from n b ≡ take n (drop k z)
unfolding bytes_from
bytes_slice z small zero k b h e = refl
bytes_slice z small (suc n) k b h e =
    let x : ℕ = get_or z k 0 in
    let l : length (bits_of 8 x) ≡ 8 = length_bits 8 x in
    let first : byte_of b ≡ x =
    byte_same b (bits_of 8 x ++ []) (λ i lt. e i (omega arith) ∙ (byte_stands z k (omega arith)).each i (omega arith) ∙ rw (append-nil (bits_of 8 x)) refl)
    ∙ byte_is x [] (small k) in
    let rest : bytes_from n (drop 8 b) ≡ take n (drop (suc k) z) =
    bytes_slice z small n (suc k) (drop 8 b) (omega arith) (λ i lt. get_or-drop 8 b i 0 ∙ e (8 + i) (omega arith) ∙ ap (bit_at z) (omega arith)) in
    rw (first, rest, drop-cons z k 0 (omega arith))
