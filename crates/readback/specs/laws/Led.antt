-- What led to what was read: the tests that were passed, and the bits that were zero. Assumes nothing.
use Prim.Native.Nat.{ℕ, zero, suc, ◌+◌, ◌*◌, ◌/◌, ◌≤◌, ◌<◌}
use Rattle.std.proofs.Common.{arith, ◌∙◌}
use Rattle.std.specs.Prelude.{◌≡◌, Bool, cond, List, eqb}
use Rattle.std.proofs.Math.Path.{refl, ap}
use Rattle.std.proofs.Math.Bool.{true, false}
use borrow.Author.Tests.{leb-true, leb-false, eqb-true}
use Rattle.std.proofs.Math.ListN.{length}
use Rattle.std.proofs.Math.Dec.{leb}
use Rattle.fields.specs.Field.{bit_at}
use Rattle.files.specs.Reading.{Got, got, refused}
use Rattle.files.specs.Entries.{valid, to_byte, zero_bits, nothing_more}
use Rattle.files.specs.laws.AllGot.{refused_got, got_value, then_led}
use Rattle.files.specs.Tree.{padded_end}

-- ---- a test that a refusal hangs on was passed
pub cond_led : {A : Type 0} (b : Bool) (g : Got A) (n p : ℕ) {a : A} {q : ℕ} → cond b g (refused n p) ≡ got a q → (b ≡ true) × (g ≡ got a q)
cond_led true g n p e = (refl, e)
cond_led false g n p e = refused_got e

pub valid_led : {A : Type 0} (p : ℕ) (b : Bool) (g : Got A) {a : A} {q : ℕ} → valid p b g ≡ got a q → (b ≡ true) × (g ≡ got a q)
valid_led p true g e = (refl, e)
valid_led p false g e = refused_got e

module _ (s : List ℕ) where
  -- ---- n zero bits from p to q
  pub record Zeros {A : Type 0} (n p : ℕ) (a b : A) (q : ℕ) : Type 0 where
    pub same : a ≡ b
    pub past : q ≡ p + n
    pub zero_at : (i : ℕ) → p ≤ i → i < p + n → bit_at s i ≡ 0

  pub zeros_led : {A : Type 0} (n p : ℕ) (a : A) {b : A} {q : ℕ} → zero_bits s n p a ≡ got b q → Zeros n p a b q
  unfolding zero_bits
  zeros_led zero p a e = let v = got_value e in record { same = v.0; past = omega (arith, v.1); zero_at = λ i l m. absurd (omega arith) }
  zeros_led (suc n) p a e =
      let c = cond_led (eqb (bit_at s p) 0) (zero_bits s n (p + 1) a) 5 p e in
      let z = zeros_led n (p + 1) a c.1 in
      record { same = z.same; past = omega (arith, z.past); zero_at = λ i l m. first i l (λ k. z.zero_at i k (omega arith)) (eqb-true (bit_at s p) 0 c.0) }
    where
      first : (i : ℕ) → p ≤ i → (p + 1 ≤ i → bit_at s i ≡ 0) → bit_at s p ≡ 0 → bit_at s i ≡ 0
      first i l f e = go (leb i p) refl
        where
          go : (t : Bool) → leb i p ≡ t → bit_at s i ≡ 0
          go true h = let k : i ≡ p = omega (arith, leb-true i p h) in ap (bit_at s) k ∙ e
          go false h = f (omega (arith, leb-false i p h))

  -- ---- the file ends less than a byte after p, in zero bits
  pub record Padded {A : Type 0} (p : ℕ) (a b : A) : Type 0 where
    pub same : a ≡ b
    pub whole : (p + 7) / 8 ≡ length s
    pub zero_at : (i : ℕ) → p ≤ i → i < 8 * length s → bit_at s i ≡ 0

  pub padded_led : {A : Type 0} (a : A) (p : ℕ) {b : A} {q : ℕ} → padded_end s a p ≡ got b q → Padded p a b
  unfolding padded_end nothing_more
  padded_led a p {b} {q} e =
      then_led (zero_bits s (to_byte p) p a) _ e
      (λ c r first on.
      let f = cond_led (eqb r (8 * length s)) (got c r) 5 r on in
      let z = zeros_led (to_byte p) p a first in
      let n : r ≡ 8 * length s = eqb-true r (8 * length s) f.0 in
      let m : r ≡ p + to_byte p = z.past in
      record { same = z.same ∙ (got_value f.1).0; whole = omega arith; zero_at = λ i l k. z.zero_at i l (omega arith) })
