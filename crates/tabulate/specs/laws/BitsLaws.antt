-- How many bits entries have, by their slots. Assumes nothing.
use Rattle.std.specs.Prelude.{ℕ, zero, suc, ◌+◌, ◌*◌, ◌/◌, ◌≤◌, ◌<◌, ◌≡◌, refl, Bool, true, false, cond, List, [], ◌∷◌, length, get_or, take, eqb}
use Rattle.std.proofs.Common.{arith, sym, ◌∙◌, ne_eqb, length-append}
use Rattle.files.specs.Entries.{Entry, constant, global, template, tag_width}
use Rattle.files.specs.Linear.{entry_bits, entries_bits}
use Rattle.tree_file.proofs.theorems.Written.{constant_length}
use Rattle.tabulate.specs.Slots.{slot_of, Fits, AllFit, slots_of}
use Rattle.tabulate.specs.Collect.{slot_bits, slots_bits}
use Rattle.tabulate.specs.laws.WalkLaws.{width_48}

pub bits_none : (table : List ℕ) → 0 ≡ slots_bits (take 0 table)
unfolding slots_bits
bits_none table = refl

taken : (l : List ℕ) (i : ℕ) → i < length l → slots_bits (take (suc i) l) ≡ slots_bits (take i l) + slot_bits (get_or l i 0)
unfolding slots_bits
taken [] i h = absurd (omega arith)
taken (x ∷ l) zero h = omega arith
taken (x ∷ l) (suc i) h = omega (arith, taken l i (omega arith))

take_on : (table : List ℕ) (i : ℕ) → i < length table → slots_bits (take (i + 1) table) ≡ slots_bits (take i table) + slot_bits (get_or table i 0)
take_on table i h = let k : i + 1 ≡ suc i = omega arith in rw k (taken table i h)

pub bits_on : (table : List ℕ) (i b r : ℕ) → b ≡ slots_bits (take i table) → i < length table → r ≡ slot_bits (get_or table i 0)
    → b + r ≡ slots_bits (take (i + 1) table)
bits_on table i b r e h f = rw (e, f) (sym (take_on table i h))

pub bits_bound : (slot r : ℕ) → r ≡ slot_bits slot → r ≤ 53
unfolding slot_bits
bits_bound slot r e =
    rw e (go (eqb (slot / 0x1000000000000) 4) (eqb (slot / 0x1000000000000) 5) (eqb (slot / 0x1000000000000) 6) (eqb (slot / 0x1000000000000) 7))
  where
    go : (a b c d : Bool) → cond a 37 (cond b 53 (cond c 10 (cond d 10 5))) ≤ 53
    go true b c d = omega arith
    go false true c d = omega arith
    go false false true d = omega arith
    go false false false true = omega arith
    go false false false false = omega arith

-- ---- the bits of the entries that slots tell
numbered_global : (g : ℕ) → 10 ≡ length (entry_bits (global g))
unfolding entry_bits
numbered_global g = refl

numbered_template : (m : ℕ) → 10 ≡ length (entry_bits (template m))
unfolding entry_bits
numbered_template m = refl

kind_bits : (t x : ℕ) → x < 0x1000000000000
    → slot_bits (t * 0x1000000000000 + x) ≡ cond (eqb t 4) 37 (cond (eqb t 5) 53 (cond (eqb t 6) 10 (cond (eqb t 7) 10 5)))
unfolding slot_bits
kind_bits t x h = let k : (t * 0x1000000000000 + x) / 0x1000000000000 ≡ t = omega arith in rw k refl

pub tag_bits : (t : ℕ) → t < 6 → cond (eqb t 4) 37 (cond (eqb t 5) 53 (cond (eqb t 6) 10 (cond (eqb t 7) 10 5))) ≡ 5 + tag_width t
unfolding tag_width
tag_bits t h = rw (ne_eqb t 6 (λ (e : t ≡ 6). omega arith), ne_eqb t 7 (λ (e : t ≡ 7). omega arith)) (go (eqb t 4) (eqb t 5))
  where
    go : (a b : Bool) → cond a 37 (cond b 53 5) ≡ 5 + cond a 32 (cond b 48 0)
    go true b = refl
    go false true = refl
    go false false = refl

pub slot_bits_lem : (e : Entry) → Fits e → slot_bits (slot_of e) ≡ length (entry_bits e)
unfolding slot_of Fits
slot_bits_lem (constant t x) h = kind_bits t x (width_48 t x h.1) ∙ tag_bits t h.0 ∙ sym (constant_length t x)
slot_bits_lem (global g) h = let k : 0x6000000000000 + g ≡ 6 * 0x1000000000000 + g = omega arith in rw k (kind_bits 6 g (omega arith)) ∙ numbered_global g
slot_bits_lem (template m) h = let k : 0x7000000000000 + m ≡ 7 * 0x1000000000000 + m = omega arith in rw k (kind_bits 7 m (omega arith)) ∙ numbered_template m

pub slots_bits_lem : (es : List Entry) → AllFit es → slots_bits (slots_of es) ≡ length (entries_bits es)
unfolding slots_bits slots_of AllFit entries_bits
slots_bits_lem [] h = refl
slots_bits_lem (e ∷ es) h = omega (arith, slot_bits_lem e h.0, slots_bits_lem es h.1, length-append (entry_bits e) (entries_bits es))
