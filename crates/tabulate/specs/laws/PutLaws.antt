-- Writing templates, bit after bit. Assumes nothing.
use Rattle.std.specs.Prelude.{ℕ, zero, suc, ◌+◌, ◌*◌, ◌-◌, ◌/◌, ◌%◌, ◌^◌, ◌≤◌, ◌<◌, ◌≡◌, refl, List, [], ◌∷◌, ◌++◌, get_or, take, drop}
use native.Mathlib.Omega.{arith}
use Rattle.std.proofs.Common.{sym, ◌∙◌, append-nil}
use Rattle.std.proofs.Math.Path.{ap}
use Rattle.std.proofs.Math.ListN.{length, length-append}
use Rattle.cells.specs.laws.Laws.{clash}
use Rattle.files.specs.Entries.{Entry, constant, global, template, tag_width}
use Rattle.files.specs.Linear.{bits_of, entry_bits, entries_bits}
use Rattle.readback.specs.laws.Bits.{AreBits, length_bits}
use Rattle.readback.specs.laws.Entries.{entries_are}
use Rattle.readback.specs.laws.Lists.{bits_are}
use Rattle.tree_file.proofs.theorems.Written.{constant_length}
use Rattle.bit_writer.specs.Put.{put_bits}
use Rattle.bit_writer.proofs.theorems.Laws.{put_length, put_next}
use Rattle.tabulate.specs.Slots.{slot_of, Fits, AllFit, slots_of}
use Rattle.tabulate.specs.Collect.{SlotAt, slot_bits}
use Rattle.std.proofs.lemmas.List.{take_all}
use Rattle.tabulate.specs.Put.{PutAt, EntriesIn, Putting}
use Rattle.tabulate.specs.laws.WalkLaws.{width_48}
use Rattle.tabulate.specs.laws.BitsLaws.{slot_bits_lem, tag_bits}

-- ---- bits, and then the rest
pub put_begin : {o : List ℕ} {a : ℕ} (all : List ℕ) → a + length all ≤ 8 * length o → o ≡ put_bits o a [] → Putting o a all o a all
put_begin all h s = record { long = refl; same = refl; place = refl; room = h; settled = s }

module _ {o₀ : List ℕ} {a₀ : ℕ} {all o : List ℕ} {a : ℕ} where
  pub put_on : (b rest : List ℕ) → Putting o₀ a₀ all o a (b ++ rest) → AreBits b → {a' : ℕ} {o' : List ℕ} → PutAt o a b a' o' → Putting o₀ a₀ all o' a' rest
  put_on b rest k are {a'} {o'} p =
      let l = length-append b rest in
      let m : length o' ≡ length o = ap length p.is ∙ put_length o a b in
      let fits : a + length b ≤ 8 * length o = omega (arith, k.room, l) in
      let on : (c : List ℕ) → put_bits o' a' c ≡ put_bits o a (b ++ c) = λ c. put_next o o' (put_bits o' a' c) a a' b c are fits p.is p.past refl in
      record {
        long = m ∙ k.long;
        same = k.same ∙ sym (on rest);
        place = omega (arith, k.place, l, p.past);
        room = omega (arith, k.room, l, p.past, m);
        settled = p.is ∙ sym (on [] ∙ ap (put_bits o a) (append-nil b));
      }

  pub put_done : (rest : List ℕ) → rest ≡ [] → Putting o₀ a₀ all o a rest → PutAt o₀ a₀ all a o
  put_done rest e k = record { past = omega (arith, k.place, ap length e); is = sym (k.same ∙ ap (put_bits o a) e ∙ sym k.settled) }

-- ---- what a slot tells
module _ (slot : ℕ) where
  global_of : (x : Entry) → slot ≡ slot_of x → Fits x → slot / 0x1000000000000 ≡ 6 → (x ≡ global (slot % 0x1000000000000)) × (slot % 0x1000000000000 < 256)
  unfolding slot_of Fits
  global_of (constant t x) i f e = let w = width_48 t x f.1 in absurd (omega (arith, f.0))
  global_of (global g) i f e = (ap global (omega arith), omega arith)
  global_of (template m) i f e = absurd (omega arith)

  template_of_lem : (x : Entry) → slot ≡ slot_of x → Fits x → slot / 0x1000000000000 ≡ 7
      → (x ≡ template (slot % 0x1000000000000)) × (slot % 0x1000000000000 < 256)
  unfolding slot_of Fits
  template_of_lem (constant t x) i f e = let w = width_48 t x f.1 in absurd (omega (arith, f.0))
  template_of_lem (global g) i f e = absurd (omega arith)
  template_of_lem (template m) i f e = (ap template (omega arith), omega arith)

  abbrev Constant : Entry → Type 0
  Constant x =
      (x ≡ constant (slot / 0x1000000000000) (slot % 0x1000000000000)) × (slot / 0x1000000000000 < 6)
      × (slot % 0x1000000000000 < 2 ^ tag_width (slot / 0x1000000000000))

  constant_of : (x : Entry) → slot ≡ slot_of x → Fits x → (slot / 0x1000000000000 ≡ 6 → ⊥) → (slot / 0x1000000000000 ≡ 7 → ⊥) → Constant x
  unfolding slot_of Fits
  constant_of (constant t x) i f h₆ h₇ =
      let w = width_48 t x f.1 in
      let q : slot / 0x1000000000000 ≡ t = omega arith in
      let r : slot % 0x1000000000000 ≡ x = omega arith in
      rw (q, r) (refl, f.0, f.1)
  constant_of (global g) i f h₆ h₇ = absurd (h₆ (omega arith))
  constant_of (template m) i f h₆ h₇ = absurd (h₇ (omega arith))

  module _ (w : SlotAt slot) where
    pub slot_global : slot / 0x1000000000000 ≡ 6 → (w.entry ≡ global (slot % 0x1000000000000)) × (slot % 0x1000000000000 < 256)
    slot_global e = global_of w.entry w.is w.fits e

    pub slot_template : slot / 0x1000000000000 ≡ 7 → (w.entry ≡ template (slot % 0x1000000000000)) × (slot % 0x1000000000000 < 256)
    slot_template e = template_of_lem w.entry w.is w.fits e

    pub slot_constant : (slot / 0x1000000000000 ≡ 6 → ⊥) → (slot / 0x1000000000000 ≡ 7 → ⊥) → Constant w.entry
    slot_constant h₆ h₇ = constant_of w.entry w.is w.fits h₆ h₇

    pub entry_length : length (entry_bits w.entry) ≡ slot_bits slot
    entry_length = sym (slot_bits_lem w.entry w.fits) ∙ ap slot_bits (sym w.is)

pub bits_of_6 : (slot : ℕ) → slot / 0x1000000000000 ≡ 6 → slot_bits slot ≡ 10
unfolding slot_bits
bits_of_6 slot e = rw e refl

pub bits_of_7 : (slot : ℕ) → slot / 0x1000000000000 ≡ 7 → slot_bits slot ≡ 10
unfolding slot_bits
bits_of_7 slot e = rw e refl

pub bits_of_tag : (slot : ℕ) → slot / 0x1000000000000 < 6 → slot_bits slot ≡ 5 + tag_width (slot / 0x1000000000000)
unfolding slot_bits
bits_of_tag slot h = tag_bits (slot / 0x1000000000000) h

pub put_global : {o o' : List ℕ} {a a' : ℕ} (g : ℕ) (x : Entry) → x ≡ global g → a' ≡ a + 10 → o' ≡ put_bits o a (bits_of 2 2 ++ bits_of 8 g)
    → PutAt o a (entry_bits x) a' o'
unfolding entry_bits
put_global g x e h i = rw e (record { past = h; is = i })

pub put_template : {o o' : List ℕ} {a a' : ℕ} (g : ℕ) (x : Entry) → x ≡ template g → a' ≡ a + 10 → o' ≡ put_bits o a (bits_of 2 3 ++ bits_of 8 g)
    → PutAt o a (entry_bits x) a' o'
unfolding entry_bits
put_template g x e h i = rw e (record { past = h; is = i })

pub put_const : {o o' : List ℕ} {a a' : ℕ} (t n : ℕ) (x : Entry) → x ≡ constant t n → a' ≡ a + (5 + tag_width t) → o' ≡ put_bits o a (entry_bits (constant t n))
    → PutAt o a (entry_bits x) a' o'
put_const {a = a} t n x e h i = rw e (record { past = h ∙ ap (λ (k : ℕ). a + k) (sym (constant_length t n)); is = i })

-- ---- entries one after the other
dropped : (l : List ℕ) (i : ℕ) → i < length l → drop i l ≡ get_or l i 0 ∷ drop (suc i) l
dropped [] i h = absurd (omega arith)
dropped (x ∷ l) zero h = refl
dropped (x ∷ l) (suc i) h = dropped l i (omega arith)

drop_cons : (l : List ℕ) (i : ℕ) → i < length l → drop i l ≡ get_or l i 0 ∷ drop (i + 1) l
drop_cons l i h = let k : i + 1 ≡ suc i = omega arith in rw k (dropped l i h)

pub record Listing (table : List ℕ) (count i : ℕ) (o₀ : List ℕ) (a₀ : ℕ) (es : List Entry) (o : List ℕ) (a : ℕ) : Type 0 where
  pub left : List Entry
  pub held : take (count - i) (drop i table) ≡ slots_of left
  pub fit : AllFit left
  pub put : Putting o₀ a₀ (entries_bits es) o a (entries_bits left)

pub listing_begin : {table : List ℕ} {count : ℕ} {o : List ℕ} {a : ℕ} (w : EntriesIn table count o a) → Listing table count 0 o a w.entries o a
listing_begin {table} {count} w =
    let z : count - 0 ≡ count = omega arith in
    record {
      left = w.entries;
      held = ap (λ (n : ℕ). take n table) z ∙ w.held;
      fit = w.fit;
      put = put_begin (entries_bits w.entries) w.room w.settled;
    }

-- the first slots alone
abbrev pub in_first : {table : List ℕ} {count : ℕ} {o : List ℕ} {a : ℕ} → EntriesIn table count o a
    → EntriesIn (take count table) (length (take count table)) o a
in_first {table} {count} w =
    record {
      entries = w.entries;
      held = take_all (length (take count table)) (take count table) (omega arith) ∙ w.held;
      fit = w.fit;
      room = w.room;
      settled = w.settled;
    }

no_slots : (l : List Entry) → [] ≡ slots_of l → l ≡ []
unfolding slots_of
no_slots [] e = refl
no_slots (x ∷ l) e = clash (cc)

-- the first of some entries, by their slots
record First (x : ℕ) (m : List ℕ) (l : List Entry) : Type 0 where
  head : Entry
  tail : List Entry
  is_cons : l ≡ head ∷ tail
  slot_is : x ≡ slot_of head
  fits : Fits head
  rest_held : m ≡ slots_of tail
  rest_fit : AllFit tail

first_of : (x : ℕ) (m : List ℕ) (l : List Entry) → AllFit l → (x ∷ m) ≡ slots_of l → First x m l
unfolding slots_of AllFit
first_of x m [] f h = clash (cc)
first_of x m (e ∷ l) f h = record { head = e; tail = l; is_cons = refl; slot_is = cc; fits = f.0; rest_held = cc; rest_fit = f.1 }

entry_are : (e : Entry) → AreBits (entry_bits e)
unfolding entries_bits
entry_are e = rw (append-nil (entry_bits e)) at (entries_are (e ∷ []))

entries_cons : (e : Entry) (l : List Entry) → entries_bits (e ∷ l) ≡ entry_bits e ++ entries_bits l
unfolding entries_bits
entries_cons e l = refl

module _ {table : List ℕ} {count i : ℕ} {o₀ : List ℕ} {a₀ : ℕ} {es : List Entry} {o : List ℕ} {a : ℕ} (k : Listing table count i o₀ a₀ es o a)
    (less : i < count) (room : count ≤ length table) where
  first_left : First (get_or table i 0) (take (count - (i + 1)) (drop (i + 1) table)) k.left
  first_left =
      let m : count - i ≡ suc (count - (i + 1)) = omega arith in
      first_of (get_or table i 0) (take (count - (i + 1)) (drop (i + 1) table)) k.left k.fit
      (sym (ap (λ (n : ℕ). take n (drop i table)) m ∙ ap (take (suc (count - (i + 1)))) (drop_cons table i (omega arith))) ∙ k.held)

  pub slot_next : SlotAt (get_or table i 0)
  slot_next = let f = first_left in record { entry = f.head; is = f.slot_is; fits = f.fits }

  left_is : entries_bits k.left ≡ entry_bits first_left.head ++ entries_bits first_left.tail
  left_is = ap entries_bits first_left.is_cons ∙ entries_cons first_left.head first_left.tail

  pub listing_room : a + slot_bits (get_or table i 0) ≤ 8 * length o
  unfolding slot_next
  listing_room =
      let n = entry_length (get_or table i 0) slot_next in
      omega (arith, k.put.room, ap length left_is, length-append (entry_bits first_left.head) (entries_bits first_left.tail), n)

  pub listing_on : {o' : List ℕ} {a' : ℕ} → ((w : SlotAt (get_or table i 0)) → PutAt o a (entry_bits w.entry) a' o')
      → Listing table count (i + 1) o₀ a₀ es o' a'
  unfolding slot_next
  listing_on p =
      let q : Putting o₀ a₀ (entries_bits es) o a (entry_bits first_left.head ++ entries_bits first_left.tail) = rw left_is at k.put in
      record {
        left = first_left.tail;
        held = first_left.rest_held;
        fit = first_left.rest_fit;
        put = put_on (entry_bits first_left.head) (entries_bits first_left.tail) q (entry_are first_left.head) (p slot_next);
      }

pub listing_end : {table : List ℕ} {count i : ℕ} {o₀ : List ℕ} {a₀ : ℕ} {es : List Entry} {o : List ℕ} {a : ℕ} → Listing table count i o₀ a₀ es o a → count ≤ i
    → PutAt o₀ a₀ (entries_bits es) a o
unfolding entries_bits
listing_end {table} {count} {i} k h =
    let z : count - i ≡ 0 = omega arith in
    let e : [] ≡ slots_of k.left = sym (ap (λ (n : ℕ). take n (drop i table)) z) ∙ k.held in
    put_done (entries_bits k.left) (ap entries_bits (no_slots k.left e)) k.put

-- ---- a code and an index
pub put_code_index : (o o₁ o₂ : List ℕ) (a a₁ a₂ v i i' : ℕ) → i' ≡ i → a + 13 ≤ 8 * length o → a₁ ≡ a + 5 → o₁ ≡ put_bits o a (bits_of 5 v) → a₂ ≡ a₁ + 8
    → o₂ ≡ put_bits o₁ a₁ (bits_of 8 i') → PutAt o a (bits_of 5 v ++ bits_of 8 i) a₂ o₂
put_code_index o o₁ o₂ a a₁ a₂ v i i' d h e f g j =
    let l = length-append (bits_of 5 v) (bits_of 8 i) in
    let m = length_bits 5 v in
    let n = length_bits 8 i in
    record {
      past = omega (arith, l, m, n);
      is = put_next o o₁ o₂ a a₁ (bits_of 5 v) (bits_of 8 i) (bits_are 5 v) (omega (arith, m)) f (omega (arith, m))
          (j ∙ ap (λ (x : ℕ). put_bits o₁ a₁ (bits_of 8 x)) d);
    }
