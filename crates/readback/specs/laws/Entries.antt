-- Entries that stand at a bit place are read back. Assumes nothing.
use Rattle.std.specs.Prelude.{ℕ, ◌+◌, ◌^◌, ◌<◌, ◌≡◌, List, [], ◌∷◌, ◌++◌, length}
use Rattle.std.proofs.Common.{arith, length-append}
use Rattle.std.proofs.Math.Path.{refl}
use borrow.Author.Tests.{lt-ltb}
use Rattle.files.specs.Reading.{got}
use Rattle.files.specs.Entries.{Entry, constant, global, template, then, field, tag_width, constant_at, kind_at, entry_at, entries_at}
use Rattle.files.specs.laws.EntriesLaws.{EntryOk, EntriesOk}
use Rattle.files.specs.Linear.{bits_of, entry_bits, entries_bits}
use Rattle.readback.specs.Bits.{Stands}
use Rattle.readback.specs.laws.Bits.{stands_left, stands_right, here, field_stands, length_bits, AreBits}
use Rattle.readback.specs.laws.Lists.{none_are, bits_are, append_are}

-- a field before the bits b: its value, and where b stands
module _ (s : List ℕ) (p w v : ℕ) (b : List ℕ) (h : Stands s p (bits_of w v ++ b)) where
  field_first : v < 2 ^ w → field s p w ≡ got v (p + w)
  field_first lt = field_stands s p w v lt (stands_left (bits_of w v) b h)

  field_after : Stands s (p + w) b
  field_after = rw (length_bits w v) at (stands_right (bits_of w v) b h)

constant_bits : (t x : ℕ) → entry_bits (constant t x) ≡ bits_of 2 1 ++ (bits_of 3 t ++ bits_of (tag_width t) x)
unfolding entry_bits
constant_bits t x = refl

global_bits : (g : ℕ) → entry_bits (global g) ≡ bits_of 2 2 ++ bits_of 8 g
unfolding entry_bits
global_bits g = refl

template_bits_lem : (t : ℕ) → entry_bits (template t) ≡ bits_of 2 3 ++ bits_of 8 t
unfolding entry_bits
template_bits_lem t = refl

module _ (s : List ℕ) (own T : ℕ) where
  constant_back : (p t x : ℕ) → EntryOk own T (constant t x) → Stands s p (bits_of 3 t ++ bits_of (tag_width t) x)
      → then (field s p 3) (λ t r. constant_at s p t r) ≡ got (constant t x) (p + length (bits_of 3 t ++ bits_of (tag_width t) x))
  unfolding then constant_at
  constant_back p t x ok h =
      rw (
        field_first s p 3 t _ h (omega (arith, ok.0)),
        lt-ltb t 6 ok.0,
        field_stands s (p + 3) (tag_width t) x ok.1 (field_after s p 3 t _ h),
      )
      (here refl (simp (length-append, length_bits) (omega arith)))

  entry_back : (p : ℕ) (e : Entry) → EntryOk own T e → Stands s p (entry_bits e) → entry_at s own T p ≡ got e (p + length (entry_bits e))
  unfolding entry_at kind_at then
  entry_back p (constant t x) ok h =
      let k = rw (constant_bits t x) at h in
      rw (field_first s p 2 1 _ k (omega arith), constant_back (p + 2) t x ok (field_after s p 2 1 _ k), constant_bits t x)
      (here refl (simp (length-append, length_bits) (omega arith)))
  entry_back p (global g) ok h =
      let k = rw (global_bits g) at h in
      rw (field_first s p 2 2 _ k (omega arith), field_stands s (p + 2) 8 g ok (field_after s p 2 2 _ k), global_bits g)
      (here refl (simp (length-append, length_bits) (omega arith)))
  entry_back p (template t) ok h =
      let k = rw (template_bits_lem t) at h in
      rw (
        field_first s p 2 3 _ k (omega arith),
        field_stands s (p + 2) 8 t (omega arith) (field_after s p 2 3 _ k),
        lt-ltb own t ok.0,
        lt-ltb t T ok.1,
        template_bits_lem t,
      )
      (here refl (simp (length-append, length_bits) (omega arith)))

-- entries whose bits stand at p are read back
pub entries_back : (s : List ℕ) (own T : ℕ) (es : List Entry) (p : ℕ) → EntriesOk own T es → Stands s p (entries_bits es)
    → entries_at s own T (length es) p ≡ got es (p + length (entries_bits es))
unfolding entries_at entries_bits then
entries_back s own T [] p ok h = here refl (omega arith)
entries_back s own T (e ∷ es) p ok h =
    rw (
      entry_back s own T p e ok.0 (stands_left (entry_bits e) (entries_bits es) h),
      entries_back s own T es (p + length (entry_bits e)) ok.1 (stands_right (entry_bits e) (entries_bits es) h),
    )
    (here refl (simp length-append (omega arith)))

-- ---- the bits of entries are 0 or 1
entry_are : (e : Entry) → AreBits (entry_bits e)
entry_are (constant t x) = rw (constant_bits t x) (append_are (bits_are 2 1) (append_are (bits_are 3 t) (bits_are (tag_width t) x)))
entry_are (global g) = rw (global_bits g) (append_are (bits_are 2 2) (bits_are 8 g))
entry_are (template t) = rw (template_bits_lem t) (append_are (bits_are 2 3) (bits_are 8 t))

pub entries_are : (es : List Entry) → AreBits (entries_bits es)
unfolding entries_bits
entries_are [] = none_are
entries_are (e ∷ es) = append_are (entry_are e) (entries_are es)
