-- Lists of bits: their bytes, of which each is stored once. Assumes nothing.
use Rattle.std.specs.Prelude.{ℕ, zero, suc, ◌+◌, ◌*◌, ◌-◌, ◌/◌, ◌%◌, ◌^◌, ◌≤◌, ◌<◌, ◌≡◌, refl, List, [], ◌∷◌, ◌++◌, length, get_or, drop}
use Rattle.std.proofs.Common.{add-zero, arith, sym, ap, ◌∙◌, append-nil, length-append, length-drop, get_or-drop, drop-drop, drop_at, pow_pos, shl_lt}
use Rattle.std.proofs.Math.Nat.{zero-div}
use Rattle.std.proofs.Math.ListN.{get_or-append}
use Rattle.std.proofs.lemmas.List.{drop-append-le}
use Rattle.files.specs.Linear.{bits_of, byte_of, bytes_from, bytes_of}
use Rattle.readback.specs.laws.Bits.{length_bits}
use Rattle.readback.specs.laws.Lists.{bits_join, byte_same, byte_is}

-- zero bits at the end change no byte
zero_bit : (k i : ℕ) → get_or (bits_of k 0) i 0 ≡ 0
unfolding bits_of
zero_bit zero i = refl
zero_bit (suc k) zero = rw (zero-div (2 ^ k)) refl
zero_bit (suc k) (suc i) = zero_bit k i

zeros_end : (b : List ℕ) (k i : ℕ) → get_or (b ++ bits_of k 0) i 0 ≡ get_or b i 0
zeros_end [] k i = zero_bit k i
zeros_end (x ∷ b) k zero = refl
zeros_end (x ∷ b) k (suc i) = zeros_end b k i

pub bytes_same : (n : ℕ) (a b : List ℕ) → ((i : ℕ) → get_or a i 0 ≡ get_or b i 0) → bytes_from n a ≡ bytes_from n b
unfolding bytes_from
bytes_same zero a b h = refl
bytes_same (suc n) a b h =
    rw (byte_same a b (λ i lt. h i), bytes_same n (drop 8 a) (drop 8 b) (λ i. get_or-drop 8 a i 0 ∙ h (8 + i) ∙ sym (get_or-drop 8 b i 0))) refl

-- a number of 16 bits is two bytes
two_bytes : (y : ℕ) → y < 65536 → bytes_from 2 (bits_of 16 y) ≡ y / 256 ∷ y % 256 ∷ []
unfolding bytes_from
two_bytes y h =
    let x = y / 256 in
    let z = y % 256 in
    let e : x * 2 ^ 8 + z ≡ y = omega arith in
    let j : bits_of 16 y ≡ bits_of 8 x ++ bits_of 8 z = rw e at (bits_join 8 8 x z (omega arith)) in
    rw (
      j,
      byte_is x (bits_of 8 z) (omega arith),
      drop_at (bits_of 8 x) (bits_of 8 z) 8 (length_bits 8 x),
      ← append-nil (bits_of 8 z),
      byte_is z []
          (omega arith),
    ) refl

-- the bits of x, n of them and at most 16, in the two bytes that they lie in
pub in_two : (n x : ℕ) → n ≤ 16 → x < 2 ^ n → bytes_from 2 (bits_of n x) ≡ x * 2 ^ (16 - n) / 256 ∷ x * 2 ^ (16 - n) % 256 ∷ []
in_two n x h small =
    let e : n + (16 - n) ≡ 16 = omega arith in
    let y : x * 2 ^ (16 - n) < 2 ^ 16 = rw e at (shl_lt n (16 - n) small) in
    let z : x * 2 ^ (16 - n) + 0 ≡ x * 2 ^ (16 - n) = add-zero _ in
    let j : bits_of 16 (x * 2 ^ (16 - n)) ≡ bits_of n x ++ bits_of (16 - n) 0 = rw (e, z) at (bits_join n (16 - n) x 0 (pow_pos (16 - n))) in
    bytes_same 2 (bits_of n x) (bits_of 16 (x * 2 ^ (16 - n))) (λ i. rw j (sym (zeros_end (bits_of n x) (16 - n) i))) ∙ two_bytes _ y

pub bytes_first : (a : List ℕ) → 1 ≤ length a → bytes_of a ≡ byte_of a ∷ bytes_of (drop 8 a)
unfolding bytes_of bytes_from
bytes_first a h =
    let k : (length a + 7) / 8 ≡ suc ((length a - 8 + 7) / 8) = omega arith in
    rw (length-drop 8 a, k) refl

pub whole_length : (n : ℕ) (b : List ℕ) → length (bytes_from n b) ≡ n
unfolding bytes_from
whole_length zero b = refl
whole_length (suc n) b = ap suc (whole_length n (drop 8 b))

-- whole bytes, and the rest
pub bytes_split : (n : ℕ) (x b : List ℕ) → 8 * n ≤ length x → bytes_of (x ++ b) ≡ bytes_from n x ++ bytes_of (drop (8 * n) x ++ b)
unfolding bytes_from
bytes_split zero x b h = refl
bytes_split (suc n) x b h =
    let e : 8 * suc n ≡ 8 + 8 * n = omega arith in
    let l : 8 ≤ length x = omega arith in
    rw (
      bytes_first (x ++ b) (simp length-append (omega arith)),
      drop-append-le 8 x b l,
      bytes_split n (drop 8 x) b (simp length-drop (omega arith)),
      drop-drop
          (8 * n) 8 x,
      ← e,
    )
    (ap (λ (k : ℕ). k ∷ (bytes_from n (drop 8 x) ++ bytes_of (drop (8 * suc n) x ++ b))) (byte_same (x ++ b) x (λ i lt. get_or-append x b 0 i (omega arith))))
