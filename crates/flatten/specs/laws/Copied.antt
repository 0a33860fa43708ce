-- The bits of a file as bytes. Assumes nothing.
use Rattle.std.specs.Prelude.{ℕ, zero, suc, ◌+◌, ◌*◌, ◌-◌, ◌/◌, ◌%◌, ◌^◌, ◌≤◌, ◌<◌, ◌≡◌, refl, List, [], length, get_or, take, drop, set}
use Rattle.std.proofs.lemmas.List.{append-nil, append_assoc, drop-drop, length-drop, length-take-le}
use Rattle.std.proofs.Common.{zero-add, add-zero, add-suc, mul_assoc, pow-suc, add-one, arith, sym, ◌∙◌, shl_lt, shl_exact}
use Rattle.std.proofs.lemmas.List.Edits.{sets, sets-eq}
use Rattle.std.proofs.Math.ListN.{drop_of_length-le}
use borrow.Rule.Slice.PartMut.{put_mid}
use Rattle.files.specs.laws.EntriesLaws.{bytes_length}
use Rattle.fields.specs.Field.{field_at}
use Rattle.fields.specs.laws.Laws.{field_small}
use Rattle.files.specs.Linear.{byte_of, bytes_from, bytes_of}
use Rattle.readback.specs.Lists.{bits_from}
use Rattle.readback.specs.laws.Lists.{from_length, from_bit}

-- the number that the first w of the bits b are
value_of : List ℕ → ℕ → ℕ
value_of b zero = 0
value_of b (suc w) = 2 * value_of b w + get_or b w 0

byte_value : (b : List ℕ) → byte_of b ≡ value_of b 8
unfolding byte_of value_of
byte_value b = omega arith

bit_out : (s : List ℕ) (p n i : ℕ) → n ≤ i → get_or (bits_from s p n) i 0 ≡ 0
unfolding bits_from
bit_out s p zero i h = refl
bit_out s p (suc n) zero h = absurd (omega arith)
bit_out s p (suc n) (suc i) h = bit_out s (p + 1) n i (omega arith)

value_in : (s : List ℕ) (p n w : ℕ) → w ≤ n → value_of (bits_from s p n) w ≡ field_at s p w
unfolding value_of field_at
value_in s p n zero h = refl
value_in s p n (suc w) h = rw (value_in s p n w (omega arith), from_bit s p n w (omega arith)) refl

value_out : (s : List ℕ) (p n k : ℕ) → value_of (bits_from s p n) (n + k) ≡ field_at s p n * 2 ^ k
unfolding value_of
value_out s p n zero = rw add-zero (value_in s p n n (omega arith) ∙ omega arith)
value_out s p n (suc k) = rw (add-suc, value_out s p n k, bit_out s p n (n + k) (omega arith), pow-suc, ← mul_assoc) (omega arith)

-- the first byte, whole or not
pub byte_whole : (s : List ℕ) (p n : ℕ) → 8 ≤ n → field_at s p 8 ≡ byte_of (bits_from s p n)
byte_whole s p n h = sym (byte_value (bits_from s p n) ∙ value_in s p n 8 h)

pub byte_part : (s : List ℕ) (p n : ℕ) → n < 8 → field_at s p n * 2 ^ (8 - n) ≡ byte_of (bits_from s p n)
byte_part s p n h = let e : n + (8 - n) ≡ 8 = omega arith in sym (byte_value (bits_from s p n) ∙ (rw e at (value_out s p n (8 - n))))

drop_bits : (s : List ℕ) (k p n : ℕ) → drop k (bits_from s p n) ≡ bits_from s (p + k) (n - k)
unfolding bits_from
drop_bits s zero p n = let e : n - 0 ≡ n = omega arith in rw (add-zero, e) refl
drop_bits s (suc k) p zero = let e : 0 - suc k ≡ 0 = omega arith in rw e refl
drop_bits s (suc k) p (suc n) =
    let e : suc n - suc k ≡ n - k = omega arith in let f : p + suc k ≡ p + 1 + k = omega arith in rw (e, f) (drop_bits s k (p + 1) n)

-- ---- the bytes that are left, from p to the end
pub bytes_none : (s : List ℕ) (p end : ℕ) → end ≤ p → bytes_of (bits_from s p (end - p)) ≡ []
unfolding bytes_of bytes_from bits_from
bytes_none s p end h = let e : end - p ≡ 0 = omega arith in rw e refl

pub bytes_on : (s : List ℕ) (p end f x : ℕ) (o : List ℕ) → p < end → x ≡ byte_of (bits_from s p (end - p))
    → sets o f (bytes_of (bits_from s p (end - p))) ≡ sets (set o f x) (f + 1) (bytes_of (bits_from s (p + 8) (end - (p + 8))))
unfolding bytes_of bytes_from
bytes_on s p end f x o h e =
    let k : (end - p + 7) / 8 ≡ suc ((end - (p + 8) + 7) / 8) = omega arith in
    let d : end - p - 8 ≡ end - (p + 8) = omega arith in
    rw (from_length s p (end - p), from_length s (p + 8) (end - (p + 8)), k, ← e, drop_bits s 8 p (end - p), d, add-one) refl

pub bytes_count : (s : List ℕ) (p n : ℕ) → length (bytes_of (bits_from s p n)) ≡ (n + 7) / 8
bytes_count s p n = bytes_length (bits_from s p n) ∙ rw (from_length s p n) refl

-- a part of a list, written whole
pub part_set : (o bytes part : List ℕ) (front n : ℕ) → front + n ≤ length o → length bytes ≡ n → sets (take n (drop front o)) 0 bytes ≡ part
    → put_mid front n o part ≡ sets o front bytes
part_set o bytes part front n h l e =
    let m : length (take n (drop front o)) ≡ n = length-take-le n (drop front o) (omega (arith, length-drop front o)) in
    let z : drop (length bytes) (take n (drop front o)) ≡ [] = drop_of_length-le (take n (drop front o)) (omega (arith, m, l)) in
    let q : sets (take n (drop front o)) 0 bytes ≡ bytes =
    sets-eq bytes (take n (drop front o)) 0 (omega (arith, m, l)) ∙ rw (zero-add, z) (append-nil bytes) in
    let p : part ≡ bytes = sym e ∙ q in
    rw (p, sets-eq bytes o front (omega (arith, h, l)), l, append_assoc, drop-drop n front o) refl

-- bits that are fewer than a byte, shifted up
pub shifted : (s : List ℕ) (p n x : ℕ) → n < 8 → x ≡ field_at s p n → (x * 2 ^ (8 - n) % 2 ^ 32 < 256) × (x * 2 ^ (8 - n) % 2 ^ 32 ≡ byte_of (bits_from s p n))
shifted s p n x h e =
    let small : x < 2 ^ n = rw e (field_small s p n) in
    let k : n + (8 - n) ≡ 8 = omega arith in
    let l : x * 2 ^ (8 - n) < 2 ^ 8 = rw k at (shl_lt n (8 - n) small) in
    rw (shl_exact n (8 - n) 32 small (omega arith)) (l, rw e (byte_part s p n h))
