-- What reading gives: entries as document 01 has them, so many of them, and the place past their bits. Assumes nothing.
use Prim.Native.Nat.{ℕ, zero, suc, ◌+◌, ◌*◌, ◌/◌, ◌^◌, ◌≤◌, ◌<◌}
use native.Mathlib.Omega.{arith}
use Rattle.std.specs.Prelude.{◌≡◌, Bool, ◌&&◌, List, [], ◌∷◌, length, drop, ltb}
use Rattle.std.proofs.Math.Path.{refl, ap}
use Rattle.std.proofs.Math.Bool.{true, false}
use borrow.Author.Tests.{ltb-true, ne_eqb}
use Rattle.std.proofs.Math.ListN.{length-append}
use Rattle.fields.specs.Field.{field_at}
use Rattle.fields.specs.laws.Laws.{read_cases, field_small}
use Rattle.files.specs.Reading.{Got, got, refused}
use Rattle.files.specs.Entries.{Entry, constant, global, template, then, field_got, field, valid, tag_width, constant_at, kind_at, entry_at, entries_at}
use Rattle.files.specs.Linear.{bits_of, entry_bits, entries_bits, bytes_from, bytes_of}

-- ---- the statements
-- an entry of template own of T
abbrev pub EntryOk : ℕ → ℕ → Entry → Type 0
EntryOk own T (constant t x) = (t < 6) × (x < 2 ^ tag_width t)
EntryOk own T (global g) = g < 256
EntryOk own T (template t) = (own < t) × (t < T) × (T ≤ 64)

abbrev pub EntriesOk : ℕ → ℕ → List Entry → Type 0
EntriesOk own T [] = Unit
EntriesOk own T (e ∷ es) = EntryOk own T e × EntriesOk own T es

-- ---- the bits after a constant's tag
module _ (t : ℕ) where
  pub width_none : (t ≡ 4 → ⊥) → (t ≡ 5 → ⊥) → tag_width t ≡ 0
  unfolding tag_width
  width_none h k = rw (ne_eqb t 4 h, ne_eqb t 5 k)

  pub width_narrow : t ≡ 4 → tag_width t ≡ 32
  unfolding tag_width
  width_narrow e = rw e

  pub width_wide : t ≡ 5 → tag_width t ≡ 48
  unfolding tag_width
  width_wide e = rw e

-- ---- a field
pub bits_length : (w v : ℕ) → length (bits_of w v) ≡ w
unfolding bits_of
bits_length zero v = refl
bits_length (suc w) v = ap suc (bits_length w v)

-- what holds of every refusal, and of what follows the field where it does not run past the end, holds
pub then_field : {B : Type 0} (P : Got B → Type 0) (s : List ℕ) (p w : ℕ) (f : ℕ → ℕ → Got B) → P (refused 2 p)
    → (p + w ≤ 8 * length s → P (f (field_at s p w) (p + w))) → P (then (field s p w) f)
unfolding then field field_got
then_field P s p w f ends fits = read_cases s p w (λ x. P (then (field_got p x) f)) ends fits

-- ---- one entry at p
module _ (s : List ℕ) (own T p : ℕ) (few : T ≤ 64) where
  -- what is known of the entry that is read
  abbrev pub EntryGood : Got Entry → Type 0
  EntryGood (got e q) = EntryOk own T e × (q ≡ p + length (entry_bits e)) × (q ≤ 8 * length s)
  EntryGood (refused n x) = Unit

  constant_good : (x t q : ℕ) → q ≡ p + 5 → (b : Bool) → ltb t 6 ≡ b → EntryGood (valid x b (then (field s q (tag_width t)) (λ x r. got (constant t x) r)))
  unfolding entry_bits
  constant_good x t q e true i =
      then_field EntryGood s q (tag_width t) _ tt
      (λ h. ((ltb-true t 6 i, field_small s q (tag_width t)), omega (arith, bits_length (tag_width t) (field_at s q (tag_width t))), h))
  constant_good x t q e false i = tt

  template_good : (x t q : ℕ) → q ≡ p + 10 → q ≤ 8 * length s → (a b : Bool) → ltb own t ≡ a → ltb t T ≡ b → EntryGood (valid x (a && b) (got (template t) q))
  unfolding entry_bits
  template_good x t q e h true true i j = ((ltb-true own t i, ltb-true t T j, few), e, h)
  template_good x t q e h true false i j = tt
  template_good x t q e h false b i j = tt

  kind_good : (q k : ℕ) → q ≡ p + 2 → EntryGood (kind_at s own T p q k)
  unfolding kind_at constant_at entry_bits
  kind_good q zero e = tt
  kind_good q (suc zero) e = then_field EntryGood s q 3 _ tt (λ h. constant_good q (field_at s q 3) (q + 3) (omega arith) (ltb (field_at s q 3) 6) refl)
  kind_good q (suc (suc zero)) e = then_field EntryGood s q 8 _ tt (λ h. (field_small s q 8, omega arith, h))
  kind_good q (suc (suc (suc k))) e =
      then_field EntryGood s q 8 _ tt (λ h. template_good q (field_at s q 8) (q + 8) (omega arith) h (ltb own (field_at s q 8))
      (ltb (field_at s q 8) T) refl refl)

  pub entry_good : EntryGood (entry_at s own T p)
  unfolding entry_at
  entry_good = then_field EntryGood s p 2 _ tt (λ h. kind_good (p + 2) (field_at s p 2) refl)

-- ---- n entries from p on
-- what is known of the entries that are read
pub record EntriesGood (s : List ℕ) (own T n p : ℕ) (es : List Entry) (q : ℕ) : Type 0 where
  pub ok : EntriesOk own T es
  pub count : length es ≡ n
  pub past : q ≡ p + length (entries_bits es)
  pub within : p ≤ 8 * length s → q ≤ 8 * length s

module _ (s : List ℕ) (own T : ℕ) (few : T ≤ 64) where
  abbrev Good : ℕ → ℕ → Got (List Entry) → Type 0
  Good n p (got es q) = EntriesGood s own T n p es q
  Good n p (refused m x) = Unit

  more_good : (n p q : ℕ) (e : Entry) (g : Got (List Entry)) → EntryGood s own T p few (got e q) → Good n q g → Good (suc n) p (then g (λ es r. got (e ∷ es) r))
  unfolding then entries_bits
  more_good n p q e (got es r) h i =
      record {
        ok = (h.0, i.ok);
        count = ap suc i.count;
        past = omega (arith, length-append (entry_bits e) (entries_bits es));
        within = λ k. i.within h.2;
      }
  more_good n p q e (refused m x) h i = tt

  first_good : (n p : ℕ) (g : Got Entry) → EntryGood s own T p few g → ((q : ℕ) → Good n q (entries_at s own T n q))
      → Good (suc n) p (then g (λ e q. then (entries_at s own T n q) (λ es r. got (e ∷ es) r)))
  unfolding then
  first_good n p (got e q) h f = more_good n p q e (entries_at s own T n q) h (f q)
  first_good n p (refused m x) h f = tt

  entries_good : (n p : ℕ) → Good n p (entries_at s own T n p)
  unfolding entries_at entries_bits
  entries_good zero p = record { ok = tt; count = refl; past = omega arith; within = λ k. k }
  entries_good (suc n) p = first_good n p (entry_at s own T p) (entry_good s own T p few) (entries_good n)

  -- THE LAW: what entries are read, and where they end
  pub entries_read : (n p : ℕ) {es : List Entry} {q : ℕ} → entries_at s own T n p ≡ got es q → EntriesGood s own T n p es q
  entries_read n p e = rw e at (entries_good n p)

-- ---- how many bytes bits take
bytes_from_length : (n : ℕ) (b : List ℕ) → length (bytes_from n b) ≡ n
unfolding bytes_from
bytes_from_length zero b = refl
bytes_from_length (suc n) b = ap suc (bytes_from_length n (drop 8 b))

pub bytes_length : (b : List ℕ) → length (bytes_of b) ≡ (length b + 7) / 8
unfolding bytes_of
bytes_length b = bytes_from_length ((length b + 7) / 8) b
