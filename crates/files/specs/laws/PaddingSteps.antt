-- What the readers of padding do at each step, and what their answers say of what was read. Assumes nothing.
use Prim.Native.Nat.{ℕ, zero, suc, ◌+◌, ◌*◌, ◌-◌, ◌≤◌, ◌<◌}
use Rattle.std.proofs.Common.{add-zero, ap, ◌∙◌}
use native.Mathlib.Omega.{arith}
use Rattle.std.specs.Prelude.{◌≡◌, Bool, List, eqb, Result, Ok, Err}
use Rattle.std.proofs.Math.Path.{sym}
use Rattle.std.proofs.Math.Bool.{true, false, cond}
use borrow.Author.Tests.{eq-eqb, ne_eqb}
use Rattle.std.proofs.Math.ListN.{length}
use Rattle.cells.specs.laws.Laws.{clash}
use Rattle.cells.specs.declared.BitPlace.{BitPlace}
use Rattle.fields.specs.Field.{bit_at, field_at}
use Rattle.files.specs.Reading.{Got, got, refused}
use Rattle.files.specs.Entries.{zero_bits, nothing_more}
use Rattle.files.specs.EntriesRead.{past_told}
use Rattle.files.specs.declared.Refusal.{Refusal}
use Rattle.files.specs.Refusal.{refusal}

-- ---- the bits that are left, from i to l, by the number b that the first is
pub bit_field : (s : List ℕ) (p : ℕ) → field_at s p 1 ≡ bit_at s p
unfolding field_at
bit_field s p = rw add-zero (omega arith)

pub no_bits : (s : List ℕ) (l i : ℕ) → l ≤ i → Ok (record { 0 = i }) ≡ past_told (zero_bits s (l - i) i (tt {0}))
unfolding zero_bits past_told
no_bits s l i h = let k : l - i ≡ 0 = omega arith in rw k

module _ (s : List ℕ) (l i b : ℕ) (less : i < l) (asked : b ≡ field_at s i 1) where
  one_left : l - i ≡ suc (l - (i + 1))
  one_left = omega arith

  pub bits_on : b ≡ 0 → past_told (zero_bits s (l - i) i (tt {0})) ≡ past_told (zero_bits s (l - (i + 1)) (i + 1) (tt {0}))
  unfolding zero_bits
  bits_on e = rw (one_left, sym (bit_field s i) ∙ sym asked ∙ e)

  pub bits_stop : (b ≡ 0 → ⊥) → Err (refusal 5 (record { 0 = i })) ≡ past_told (zero_bits s (l - i) i (tt {0}))
  unfolding zero_bits past_told
  bits_stop e = rw (one_left, ne_eqb (bit_at s i) 0 (λ k. e (asked ∙ bit_field s i ∙ k)))

-- ---- what was told was read
module _ {A : Type 0} (a : A) where
  -- what was told of a read that gives a, or refuses 5
  pub record Padded (g : Got A) (r : Result BitPlace (Refusal BitPlace)) : Type 0 where
    pub zero_read : {q : BitPlace} → r ≡ Ok q → g ≡ got a q.0
    pub set_read : {e : Refusal BitPlace} → r ≡ Err e → g ≡ refused e.0 e.1.0

  good : (p : ℕ) → Padded (got a p) (Ok (record { 0 = p }))
  good p =
      record {
        zero_read = λ {q} h. (let k : ◌≡◌ {A = BitPlace} (record { 0 = p }) q = cc in ap (λ (b : BitPlace). got a b.0) k);
        set_read = λ h. (clash (cc));
      }

  pub bad : (n p : ℕ) → Padded (refused n p) (Err (refusal n (record { 0 = p })))
  bad n p =
      record {
        zero_read = λ h. (clash (cc));
        set_read = λ {e} h. (let k : ◌≡◌ {A = Refusal BitPlace} (refusal n (record { 0 = p })) e = cc in ap (λ (b : Refusal BitPlace). refused b.0 b.1.0) k);
      }

  pub zero_told : (s : List ℕ) (n p : ℕ) → Padded (zero_bits s n p a) (past_told (zero_bits s n p (tt {0})))
  unfolding zero_bits past_told
  zero_told s zero p = good p
  zero_told s (suc n) p = go (eqb (bit_at s p) 0) (zero_told s n (p + 1))
    where
      go : (b : Bool) → Padded (zero_bits s n (p + 1) a) (past_told (zero_bits s n (p + 1) (tt {0})))
          → Padded (cond b (zero_bits s n (p + 1) a) (refused 5 p)) (past_told (cond b (zero_bits s n (p + 1) (tt {0})) (refused 5 p)))
      go true h = h
      go false h = bad 5 p

  pub nothing_told : (s : List ℕ) (p : ℕ) → Padded (nothing_more s p a) (past_told (nothing_more s p (tt {0})))
  unfolding nothing_more past_told
  nothing_told s p = go (eqb p (8 * length s))
    where
      go : (b : Bool) → Padded (cond b (got a p) (refused 5 p)) (past_told (cond b (got (tt {0}) p) (refused 5 p)))
      go true = good p
      go false = bad 5 p

  -- zero bits end n bits on
  pub zero_past : (s : List ℕ) (n p : ℕ) {b : A} {q : ℕ} → zero_bits s n p a ≡ got b q → q ≡ p + n
  unfolding zero_bits
  zero_past s zero p {b} {q} e = let k : p ≡ q = cc in omega arith
  zero_past s (suc n) p {b} {q} e = go (eqb (bit_at s p) 0) (λ h. zero_past s n (p + 1) h) e
    where
      go : (t : Bool) → (zero_bits s n (p + 1) a ≡ got b q → q ≡ p + 1 + n) → cond t (zero_bits s n (p + 1) a) (refused 5 p) ≡ got b q → q ≡ p + suc n
      go true f h = let k = f h in omega arith
      go false f h = clash (cc)

-- ---- the file's end
module _ (s : List ℕ) (p : ℕ) where
  pub at_end : p ≡ 8 * length s → Ok (record { 0 = p }) ≡ past_told (nothing_more s p (tt {0}))
  unfolding nothing_more past_told
  at_end e = rw (eq-eqb p (8 * length s) e)

  pub not_at_end : (p ≡ 8 * length s → ⊥) → Err (refusal 5 (record { 0 = p })) ≡ past_told (nothing_more s p (tt {0}))
  unfolding nothing_more past_told
  not_at_end e = rw (ne_eqb p (8 * length s) e)
