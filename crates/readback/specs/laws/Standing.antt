-- The bits of a field and of entries that are read stand where they were read. Assumes nothing.
use Prim.Native.Nat.{ℕ, zero, suc, ◌+◌, ◌*◌, ◌-◌, ◌≤◌, ◌<◌}
use native.Mathlib.Omega.{arith}
use Rattle.std.specs.Prelude.{◌≡◌, Bool, ◌&&◌, List, [], ◌++◌, ltb}
use Rattle.std.proofs.Math.Path.{refl, ap}
use Rattle.std.proofs.Math.Bool.{true, false}
use Rattle.std.proofs.Math.ListN.{length, length-append}
use Rattle.fields.specs.Field.{field_at}
use Rattle.fields.specs.laws.Laws.{field_small}
use Rattle.files.specs.Reading.{Got, got, refused}
use Rattle.files.specs.Entries.{Entry, constant, template, then, field, valid, tag_width, constant_at, kind_at, entry_at, entries_at}
use Rattle.files.specs.laws.EntriesLaws.{then_field}
use Rattle.files.specs.laws.AllGot.{got_value, then_led}
use Rattle.files.specs.Linear.{bits_of, entry_bits, entries_bits}
use Rattle.readback.specs.Bits.{Stands}
use Rattle.readback.specs.laws.Bits.{length_bits}
use Rattle.readback.specs.Lists.{bits_from}
use Rattle.readback.specs.laws.Lists.{field_bits, from_stands, stands_append, stands_from}

module _ (s : List ℕ) where
  -- ---- fields
  pub stands_field : (p w v : ℕ) → p + w ≤ 8 * length s → v ≡ field_at s p w → Stands s p (bits_of w v)
  stands_field p w v h e = rw (e, field_bits s w p) (from_stands s p w h)

  pub field_then : (p w v : ℕ) (b : List ℕ) → v ≡ field_at s p w → Stands s (p + w) b → Stands s p (bits_of w v ++ b)
  field_then p w v b e h =
      let f : p + w + length b ≤ 8 * length s = h.fits in
      stands_append (bits_of w v) b (stands_field p w v (omega arith) e) (rw (length_bits w v) h)

  pub none_stands : (p : ℕ) → p ≤ 8 * length s → Stands s p []
  none_stands p h = record { each = λ i lt. absurd (omega arith); fits = omega arith }

  -- ---- an entry at p
  module _ (own T p : ℕ) where
    abbrev Entered : Got Entry → Type 0
    Entered (got e q) = (q ≡ p + length (entry_bits e)) × Stands s p (entry_bits e)
    Entered (refused n x) = Unit

    constant_stands : (t x : ℕ) → 1 ≡ field_at s p 2 → t ≡ field_at s (p + 2) 3 → (b : Bool)
        → Entered (valid x b (then (field s (p + 2 + 3) (tag_width t)) (λ x r. got (constant t x) r)))
    unfolding entry_bits
    constant_stands t x k e true =
        then_field Entered s (p + 2 + 3) (tag_width t) _ tt
        (λ h. (
          omega (arith, length_bits (tag_width t) (field_at s (p + 2 + 3) (tag_width t))),
          field_then p 2 1 _ k (field_then (p + 2) 3 t _ e (stands_field (p + 2 + 3) (tag_width t) _ h refl)),
        ))
    constant_stands t x k e false = tt

    kind_stands : (k : ℕ) → k < 4 → k ≡ field_at s p 2 → Entered (kind_at s own T p (p + 2) k)
    unfolding kind_at constant_at entry_bits
    kind_stands zero l e = tt
    kind_stands (suc zero) l e =
        then_field Entered s (p + 2) 3 _ tt (λ h. constant_stands (field_at s (p + 2) 3) (p + 2) e refl (ltb (field_at s (p + 2) 3) 6))
    kind_stands (suc (suc zero)) l e = then_field Entered s (p + 2) 8 _ tt (λ h. (omega arith, field_then p 2 2 _ e (stands_field (p + 2) 8 _ h refl)))
    kind_stands (suc (suc (suc zero))) l e = then_field Entered s (p + 2) 8 _ tt (λ h. go h (ltb own (field_at s (p + 2) 8)) (ltb (field_at s (p + 2) 8) T))
      where
        go : p + 2 + 8 ≤ 8 * length s → (a b : Bool) → Entered (valid (p + 2) (a && b) (got (template (field_at s (p + 2) 8)) (p + 2 + 8)))
        go h true true = (omega arith, field_then p 2 3 _ e (stands_field (p + 2) 8 _ h refl))
        go h true false = tt
        go h false b = tt
    kind_stands (suc (suc (suc (suc k)))) l e = absurd (omega arith)

    entry_stands : Entered (entry_at s own T p)
    unfolding entry_at
    entry_stands = then_field Entered s p 2 _ tt (λ h. kind_stands (field_at s p 2) (field_small s p 2) refl)

  -- ---- entries
  -- what is known of the n entries es that are read from p to q
  pub record EntriesStand (n p : ℕ) (es : List Entry) (q : ℕ) : Type 0 where
    pub count : length es ≡ n
    pub past : q ≡ p + length (entries_bits es)
    pub here : Stands s p (entries_bits es)

  pub entries_stand : (own T n p : ℕ) {es : List Entry} {q : ℕ} → p ≤ 8 * length s → entries_at s own T n p ≡ got es q → EntriesStand n p es q
  unfolding entries_at entries_bits
  entries_stand own T zero p {es} {q} h e = let v = got_value e in rw (← v.0, ← v.1) (record { count = refl; past = omega arith; here = none_stands p h })
  entries_stand own T (suc n) p {es} {q} h e =
      then_led (entry_at s own T p) _ e
      (λ x r first on.
      then_led (entries_at s own T n r) _ on
      (λ xs u rest end.
      let v = got_value end in
      let a = rw first at (entry_stands own T p) in
      let f : p + length (entry_bits x) ≤ 8 * length s = a.1.fits in
      let b = entries_stand own T n r (omega (arith, a.0)) rest in
      rw (← v.0, ← v.1)
      (record {
        count = ap suc b.count;
        past = simp length-append (omega (arith, a.0, b.past));
        here = stands_append (entry_bits x) (entries_bits xs) a.1 (rw a.0 at b.here);
      })))

  -- so what is copied from there are the entries' bits
  pub entries_copied_lem : (own T n p : ℕ) {es : List Entry} {q : ℕ} → p ≤ 8 * length s → entries_at s own T n p ≡ got es q
      → bits_from s p (q - p) ≡ entries_bits es
  entries_copied_lem own T n p {es} {q} h e =
      let k = entries_stand own T n p h e in
      let d : q - p ≡ length (entries_bits es) = omega (arith, k.past) in
      rw d (stands_from (entries_bits es) k.here)
