-- What the proofs use of `field_read`. Assumes nothing.
use Prim.Native.Nat.{ℕ, zero, suc, ◌+◌, ◌*◌, ◌-◌, ◌/◌, ◌%◌, ◌^◌, ◌≤◌, ◌<◌}
use Rattle.std.proofs.Common.{mul_assoc, add-mul, add-zero, add-suc, add_assoc, pow-suc, one-mul, mod-eq_of_lt, add-one, sym, ap, ◌∙◌, pow-add, pow_mono}
use Rattle.std.proofs.Math.Nat.{div-div-eq-div-mul, mod-one}
use native.Mathlib.Omega.{arith}
use Rattle.std.specs.Prelude.{◌≡◌, List, Bool}
use Rattle.std.proofs.Math.Path.{refl}
use Rattle.std.proofs.Math.Bool.{true, false}
use borrow.Author.Tests.{le-leb, lt-leb, leb-true, leb-false}
use Rattle.std.proofs.Math.ListN.{length, get_or}
use Rattle.std.proofs.Math.Dec.{leb}
use Rattle.std.proofs.Math.Pow.{pow-lt, high as high_part, low as low_part}
use Rattle.std.proofs.lemmas.Nat.{mod-pow-add}
use Rattle.cells.specs.laws.Laws.{clash}
use Rattle.cells.specs.declared.BitPlace.{BitPlace}
use Rattle.std.specs.Prelude.{Option, Some, None}
use Rattle.fields.specs.Field.{bit_at, field_at, pick_field, field_read}

module _ (s : List ℕ) (p w : ℕ) where
  -- a field that runs past the end
  pub cut : 8 * length s < p + w → None ≡ field_read s p w
  unfolding field_read pick_field
  cut h = rw (lt-leb (p + w) (8 * length s) h) refl

  -- a field that does not
  pub whole : p + w ≤ 8 * length s → Some (field_at s p w, record { 0 = p + w }) ≡ field_read s p w
  unfolding field_read pick_field
  whole h = rw (le-leb (p + w) (8 * length s) h) refl

  -- by the answer b to whether it lies within the file
  module _ {b : Bool} (asked : b ≡ leb (p + w) (8 * length s)) where
    pub lies : b ≡ true → p + w ≤ 8 * length s
    lies e = leb-true (p + w) (8 * length s) (sym asked ∙ e)

    pub cut_by : b ≡ false → None ≡ field_read s p w
    unfolding field_read pick_field
    cut_by e = rw (sym asked ∙ e) refl

    pub whole_by : b ≡ true → {v : ℕ} {q : BitPlace} → v ≡ field_at s p w → q.0 ≡ p + w → Some (v, q) ≡ field_read s p w
    unfolding field_read pick_field
    whole_by e {v} {q} f g = rw (sym asked ∙ e, f) (ap (λ (x : ℕ). Some (field_at s p w, record { 0 = x })) g)

  -- what holds of both holds of what is read
  pub read_cases : (P : Option (ℕ × BitPlace) → Type 0) → P None → (p + w ≤ 8 * length s → P (Some (field_at s p w, record { 0 = p + w })))
      → P (field_read s p w)
  unfolding field_read pick_field
  read_cases P ends fits = go (leb (p + w) (8 * length s)) refl
    where
      go : (b : Bool) → leb (p + w) (8 * length s) ≡ b → P (pick_field b (Some (field_at s p w, record { 0 = p + w })))
      go true e = fits (leb-true (p + w) (8 * length s) e)
      go false e = ends

  -- what is known of a value that was read
  pub value_of : (v : ℕ) (q : BitPlace) → field_read s p w ≡ Some (v, q) → (v ≡ field_at s p w) × ((q.0 ≡ p + w) × (p + w ≤ 8 * length s))
  value_of v q e = read_cases (λ f. f ≡ Some (v, q) → (v ≡ field_at s p w) × ((q.0 ≡ p + w) × (p + w ≤ 8 * length s)))
      (λ e. clash (cc))
      (λ h e. let all : ◌≡◌ {A = ℕ × BitPlace} (field_at s p w, record { 0 = p + w }) (v, q) = cc in
      (sym (ap (λ (x : ℕ × BitPlace). x.0) all), (sym (ap (λ (x : ℕ × BitPlace). x.1.0) all), h))) e

-- a field of w bits is below 2 ^ w
pub field_small : (s : List ℕ) (p w : ℕ) → field_at s p w < 2 ^ w
unfolding field_at bit_at
field_small s p zero = omega arith
field_small s p (suc w) = let h : field_at s p w < 2 ^ w = field_small s p w in omega (arith, pow-suc 2 w)

-- a field of two parts
pub field_split : (s : List ℕ) (p w v : ℕ) → field_at s p (w + v) ≡ field_at s p w * 2 ^ v + field_at s (p + w) v
unfolding field_at
field_split s p w zero = simp add-zero (omega arith)
field_split s p w (suc v) = rw (add-suc w v, field_split s p w v, pow-suc 2 v, ← mul_assoc (field_at s p w) (2 ^ v) 2, ← add_assoc p w v) (omega arith)

-- a field that is read in two parts, x and y
module _ (s : List ℕ) (p w v x y : ℕ) (first : x ≡ field_at s p w) (second : y ≡ field_at s (p + w) v) where
  pub joined : x * 2 ^ v + y ≡ field_at s p (w + v)
  joined = rw (first, second) (sym (field_split s p w v))

  pub read_joined : p + (w + v) ≤ 8 * length s → Some (x * 2 ^ v + y, record { 0 = p + (w + v) }) ≡ field_read s p (w + v)
  read_joined h = rw joined (whole s p (w + v) h)

-- A field of at most 8 bits lies in two bytes, a and b.
high : (a b m : ℕ) → b < 256 → (a * 256 + b) / 2 ^ (8 + m) ≡ a / 2 ^ m
high a b m h = rw (pow-add 2 8 m, ← div-div-eq-div-mul) (ap (λ (x : ℕ). x / 2 ^ m) (omega arith))

low : (a b k : ℕ) → k < 8 → (a * 256 + b) / 2 ^ k % 2 ≡ b / 2 ^ k % 2
low a b zero h = omega arith
low a b (suc zero) h = omega arith
low a b (suc (suc zero)) h = omega arith
low a b (suc (suc (suc zero))) h = omega arith
low a b (suc (suc (suc (suc zero)))) h = omega arith
low a b (suc (suc (suc (suc (suc zero))))) h = omega arith
low a b (suc (suc (suc (suc (suc (suc zero)))))) h = omega arith
low a b (suc (suc (suc (suc (suc (suc (suc zero))))))) h = omega arith
low a b (suc (suc (suc (suc (suc (suc (suc (suc k)))))))) h = absurd (omega arith)

-- one bit more at the end
one_more : (x k w f b : ℕ) → x / 2 ^ suc k % 2 ^ w ≡ f → x / 2 ^ k % 2 ≡ b → x / 2 ^ k % 2 ^ suc w ≡ 2 * f + b
one_more x k w f b h i =
    let d : x / 2 ^ k / 2 ^ 1 ≡ x / 2 ^ suc k = div-div-eq-div-mul x (2 ^ k) 2 ∙ ap (λ (y : ℕ). x / y) (sym (pow-suc 2 k)) in
    ap (λ (n : ℕ). x / 2 ^ k % 2 ^ n) (sym (add-one w)) ∙ mod-pow-add (x / 2 ^ k) w 1 ∙ rw (d, h, i) (omega arith)

module _ (s : List ℕ) (p : ℕ) (small : get_or s (p / 8 + 1) 0 < 256) where
  two_bit : (w : ℕ) → w < 8 → (get_or s (p / 8) 0 * 256 + get_or s (p / 8 + 1) 0) / 2 ^ (15 - p % 8 - w) % 2 ≡ bit_at s (p + w)
  unfolding bit_at
  two_bit w h = go (leb 8 (p % 8 + w)) refl
    where
      go : (t : Bool) → leb 8 (p % 8 + w) ≡ t
          → (get_or s (p / 8) 0 * 256 + get_or s (p / 8 + 1) 0) / 2 ^ (15 - p % 8 - w) % 2 ≡ get_or s ((p + w) / 8) 0 / 2 ^ (7 - (p + w) % 8) % 2
      go true e =
          let i : 8 ≤ p % 8 + w = leb-true 8 (p % 8 + w) e in
          let e₁ : (p + w) / 8 ≡ p / 8 + 1 = omega arith in
          let e₂ : 7 - (p + w) % 8 ≡ 15 - p % 8 - w = omega arith in
          rw (e₁, e₂) (low (get_or s (p / 8) 0) (get_or s (p / 8 + 1) 0) (15 - p % 8 - w) (omega arith))
      go false e =
          let i : p % 8 + w < 8 = leb-false 8 (p % 8 + w) e in
          let e₁ : (p + w) / 8 ≡ p / 8 = omega arith in
          let e₂ : 7 - (p + w) % 8 ≡ 7 - p % 8 - w = omega arith in
          let e₃ : 15 - p % 8 - w ≡ 8 + (7 - p % 8 - w) = omega arith in
          rw (e₁, e₂, e₃) (ap (λ (x : ℕ). x % 2) (high (get_or s (p / 8) 0) (get_or s (p / 8 + 1) 0) (7 - p % 8 - w) small))

  pub window : (w : ℕ) → w ≤ 8 → (get_or s (p / 8) 0 * 256 + get_or s (p / 8 + 1) 0) / 2 ^ (16 - p % 8 - w) % 2 ^ w ≡ field_at s p w
  unfolding field_at
  window zero h = mod-one _
  window (suc w) h =
      let e₁ : 16 - p % 8 - suc w ≡ 15 - p % 8 - w = omega arith in
      let e₂ : 16 - p % 8 - w ≡ suc (15 - p % 8 - w) = omega arith in
      rw e₁ (one_more _ (15 - p % 8 - w) w _ _ (rw (← e₂) (window w (omega arith))) (two_bit w (omega arith)))

-- 1 << w is 2 ^ w, in n bits
pub shl_one : (n w : ℕ) → w < n → 1 * 2 ^ w % 2 ^ n ≡ 2 ^ w
shl_one n w h = rw one-mul (mod-eq_of_lt (pow-lt h))

-- the two bytes, shifted and cut
pub shifted : (s : List ℕ) (p w a b : ℕ) → a ≡ get_or s (p / 8) 0 → b ≡ get_or s (p / 8 + 1) 0 → b < 256 → w ≤ 8
    → ((a * 256 + b) / 2 ^ (16 - p % 8 - w) % (1 * 2 ^ w % 2 ^ 32) ≡ field_at s p w) × ((a * 256 + b) / 2 ^ (16 - p % 8 - w) % (1 * 2 ^ w % 2 ^ 32) < 256)
shifted s p w a b ea eb small h =
    let l : 2 ^ w ≤ 2 ^ 8 = pow_mono h in
    rw (ea, eb, shl_one 32 w (omega arith), window s p (rw eb at small) w h) (refl, omega (arith, field_small s p w))

-- ---- four bytes
module _ (s : List ℕ) (bytes : (k : ℕ) → get_or s k 0 < 256) where
  byte_field : (i : ℕ) → get_or s i 0 ≡ field_at s (8 * i) 8
  byte_field i =
      let e : 8 * i / 8 ≡ i = omega arith in
      let m : 8 * i % 8 ≡ 0 = omega arith in
      let k : (get_or s i 0 * 256 + get_or s (i + 1) 0) / 256 % 256 ≡ get_or s i 0 = omega (arith, bytes i, bytes (i + 1)) in
      sym k ∙ (rw (e, m) at (window s (8 * i) (bytes (8 * i / 8 + 1)) 8 (omega arith)))

  two_field : (i : ℕ) → get_or s i 0 * 256 + get_or s (i + 1) 0 ≡ field_at s (8 * i) 16
  two_field i = let e : 8 * i + 8 ≡ 8 * (i + 1) = omega arith in joined s (8 * i) 8 8 _ _ (byte_field i) (rw e (byte_field (i + 1)))

  pub four_field : (i a b : ℕ) → a ≡ get_or s i 0 * 256 + get_or s (i + 1) 0 → b ≡ get_or s (i + 2) 0 * 256 + get_or s (i + 3) 0
      → a * 65536 + b ≡ field_at s (8 * i) 32
  four_field i a b h k =
      let e : 8 * i + 16 ≡ 8 * (i + 2) = omega arith in
      let n : i + 2 + 1 ≡ i + 3 = omega arith in
      joined s (8 * i) 16 16 a b (h ∙ two_field i) (k ∙ rw e (rw n at (two_field (i + 2))))

-- 21 bits of a field, r bits from its first
pub line_in : (s : List ℕ) (q r p n k : ℕ) → n ≡ r + (21 + k) → q + r ≡ p → field_at s q n / 2 ^ k % 2 ^ 21 ≡ field_at s p 21
line_in s q r p n k all at =
    let first : field_at s q n ≡ field_at s q r * 2 ^ (21 + k) + field_at s p (21 + k) =
    ap (field_at s q) all ∙ field_split s q r (21 + k) ∙ ap (λ (x : ℕ). field_at s q r * 2 ^ (21 + k) + field_at s x (21 + k)) at
    in
    cut_out (field_at s q r) k _ (field_small s p 21) (field_small s (p + 21) k)
    (first ∙ ap (λ (x : ℕ). field_at s q r * 2 ^ (21 + k) + x) (field_split s p 21 k))
  where
    cut_out : (a k n : ℕ) {f g : ℕ} → f < 2 ^ 21 → g < 2 ^ k → n ≡ a * 2 ^ (21 + k) + (f * 2 ^ k + g) → n / 2 ^ k % 2 ^ 21 ≡ f
    cut_out a k n {f} {g} small less e =
        let d : a * 2 ^ (21 + k) + (f * 2 ^ k + g) ≡ (a * 2 ^ 21 + f) * 2 ^ k + g =
        let h = a * 2 ^ 21 * 2 ^ k in
        rw (pow-add 2 21 k, ← mul_assoc a (2 ^ 21) (2 ^ k)) (sym (add_assoc h (f * 2 ^ k) g) ∙ ap (λ (x : ℕ). x + g) (sym (add-mul (a * 2 ^ 21) f (2 ^ k))))
        in
        rw (e ∙ d, high_part (a * 2 ^ 21 + f) k less) (low_part a 21 small)

-- the four bytes x of byte b, shifted by bit r
pub line_at : (s : List ℕ) (p x b r : ℕ) → x ≡ field_at s (8 * b) 32 → b ≡ p / 8 → r ≡ p % 8
    → (x / 2 ^ (11 - r) % 2 ^ 21 ≡ field_at s p 21) × (x / 2 ^ (11 - r) % 2 ^ 21 < 2 ^ 21)
line_at s p x b r h k m =
    rw (h, k, m, line_in s (8 * (p / 8)) (p % 8) p 32 (11 - p % 8) (omega arith) (omega arith)) (refl, field_small s p 21)

-- the parts of a line of 21 bits: a code and what may be two operands
module _ (s : List ℕ) (p line : ℕ) (is : line ≡ field_at s p 21) where
  parts : line ≡ field_at s p 5 * 65536 + (field_at s (p + 5) 8 * 256 + field_at s (p + 13) 8)
  parts =
      let e : p + 5 + 8 ≡ p + 13 = omega arith in
      is ∙ field_split s p 5 16 ∙ ap (λ (x : ℕ). field_at s p 5 * 65536 + x) (field_split s (p + 5) 8 8 ∙ rw e refl)

  pub line_code : line / 65536 ≡ field_at s p 5
  line_code = omega (arith, parts, field_small s (p + 5) 8, field_small s (p + 13) 8)

  pub line_first : line / 256 % 256 ≡ field_at s (p + 5) 8
  line_first = omega (arith, parts, field_small s (p + 5) 8, field_small s (p + 13) 8)

  pub line_second : line % 256 ≡ field_at s (p + 13) 8
  line_second = omega (arith, parts, field_small s (p + 5) 8, field_small s (p + 13) 8)
