-- Writing a template's own list, code by code. Assumes nothing.
use Prim.Native.Nat.{ℕ, suc, ◌+◌, ◌*◌, ◌-◌, ◌≤◌, ◌<◌}
use Rattle.std.proofs.Common.{arith, sym, ◌∙◌, append-nil, ltb-true, length-append}
use Rattle.std.specs.Prelude.{◌≡◌, true, List, [], ◌∷◌, ◌++◌, length, take}
use Rattle.std.proofs.Math.Path.{ap}
use Rattle.cells.specs.declared.BitPlace.{BitPlace}
use Rattle.files.specs.Entries.{Entry, template}
use Rattle.files.specs.Linear.{bits_of}
use Rattle.files.specs.laws.AllGot.{got_value}
use Rattle.readback.specs.Lists.{bits_from}
use Rattle.readback.specs.laws.Bits.{length_bits}
use Rattle.readback.specs.laws.Lists.{bits_are, append_are, from_are, from_length}
use Rattle.bit_writer.specs.Put.{put_bits}
use Rattle.tree_file.specs.File.{list_bits}
use Rattle.tree_file.specs.laws.Lengths.{list_length}
use Rattle.basic.specs.declared.Facts.{Facts}
use Rattle.basic.specs.Basic.{Basic}
use Rattle.basic.specs.Valid.{TokenOk, CarriesOk, literal_ok, global_ok, set_global_ok}
use Rattle.basic.specs.Tabulated.{inside, uses, index_of, among, indexed}
use Rattle.basic.specs.Forest.{Lists, no_lists, next_list, inside_all, uses_all, code_all, own_bits}
use Rattle.basic.specs.laws.ReadLaws.{list_facts}
use Rattle.basic.specs.laws.StepLaws.{ListIs}
use Rattle.basic.specs.laws.ForestLaws.{none_left, lists_end}
use Rattle.tabulate.specs.declared.Step.TheVariants.{Copy, Entry as EntryStep, Closure}
use Rattle.tabulate.specs.Slots.{slot_of, Fits, slots_of, position}
use Rattle.tabulate.specs.Walk.{StepIs, is_copy, is_entry, is_closure}
use Rattle.basic.specs.laws.AllIn.{AllIn}
use Rattle.tabulate.specs.Put.{PutAt, Putting, Held, CodeIn, Coding}
use Rattle.tabulate.specs.laws.SlotLaws.{position_index, position_among}
use Rattle.tabulate.specs.laws.CollectLaws.{carried_fits}
use Rattle.tabulate.specs.laws.JudgeLaws.{own_length}
use Rattle.tabulate.specs.laws.PutLaws.{put_begin, put_on, put_done}

pub coding_begin : {s table : List ℕ} {p e n count : ℕ} {o : List ℕ} {a : ℕ} (w : CodeIn s table p e n count o a)
    → Coding s e w.entries w.own.list n o a p n o a
unfolding uses_all inside_all code_all
coding_begin {s} {table} {p} {e} {n} {count} {o} {a} w =
    let c = w.own.list in
    let es = w.entries in
    let b = list_bits (indexed es n c) in
    let l : length b ≡ own_bits c = list_length (indexed es n c) ∙ own_length c (list_facts s 15 p w.own.read).2 es n in
    record {
      left = c ∷ [];
      stand = next_list e w.own.read no_lists;
      all = rw (append-nil (uses n c)) w.all;
      numbers = omega arith;
      put = rw (append-nil b) (put_begin b (omega (arith, w.room, l)) w.settled);
    }

code_small : (v : ℕ) (x : Entry) → CarriesOk v x → v < 32
code_small v x (literal_ok h k) = omega arith
code_small v x (global_ok h) = omega arith
code_small v x (set_global_ok h) = omega arith

-- where a slot stands that is among the entries of the table
module _ {table : List ℕ} {count : ℕ} {es : List Entry} (t : Held table count es) (x : Entry)
    (fits : Fits x) (here : among x es ≡ true) (slot : ℕ) (is : slot ≡ slot_of x) where
  pub position_in : position slot (take count table) < count
  position_in =
      rw (t.slots, is)
      (let h = ltb-true (position (slot_of x) (slots_of es)) (length es) (position_among x fits es t.fit ∙ here) in omega (arith, t.counted))

  pub index_in_lem : suc (position slot (take count table)) ≡ index_of x es
  index_in_lem = rw (t.slots, is) (position_index x fits es t.fit)

module _ {s : List ℕ} {e : ℕ} {es : List Entry} {c : Basic} {n : ℕ} {o₀ : List ℕ} {a₀ p next : ℕ} {o : List ℕ} {a : ℕ}
    (k : Coding s e es c n o₀ a₀ p next o a) where
  pub code_copy_room : (q : BitPlace) → StepIs s e p k.left (Copy q) → (a + (q.0 - p) ≤ 8 * length o) × (p + 5 ≤ q.0) × (q.0 ≤ e)
  code_copy_room q (is_copy q' x) = (
    omega (arith, k.put.room, ap length (x.code es next), length-append (bits_from s p (q.0 - p)) (code_all es next x.left), from_length s p (q.0 - p)),
    x.far,
    lists_end s e q.0 x.left x.lists,
  )

  pub code_copy : (q : BitPlace) (m : ℕ) {a' : ℕ} {o' : List ℕ} → StepIs s e p k.left (Copy q) → m ≡ q.0 - p → a' ≡ a + m
      → o' ≡ put_bits o a (bits_from s p m)
      → Coding s e es c n o₀ a₀ q.0 next o' a'
  code_copy q m {a'} {o'} (is_copy q' x) h i j =
      let b = bits_from s p (q.0 - p) in
      let u : Putting o₀ a₀ (list_bits (indexed es n c)) o a (b ++ code_all es next x.left) = rw (x.code es next) at k.put in
      record {
        left = x.left;
        stand = x.lists;
        all = rw (x.uses next) at k.all;
        numbers = omega (arith, k.numbers, x.count);
        put = put_on b (code_all es next x.left) u (from_are s p (q.0 - p))
            (record { past = omega (arith, from_length s p (q.0 - p)); is = j ∙ ap (λ (y : ℕ). put_bits o a (bits_from s p y)) h });
      }

  index_put : (v : ℕ) (i : ℕ) (q next' : ℕ) (left : List Basic) {a' : ℕ} {o' : List ℕ} → Lists s e q left → AllIn es (uses_all next' left)
      → next + inside_all k.left ≡ next' + inside_all left → code_all es next k.left ≡ (bits_of 5 v ++ bits_of 8 i) ++ code_all es next' left
      → PutAt o a (bits_of 5 v ++ bits_of 8 i) a' o' → Coding s e es c n o₀ a₀ q next' o' a'
  index_put v i q next' left w al nu co p =
      let b = bits_of 5 v ++ bits_of 8 i in
      let u : Putting o₀ a₀ (list_bits (indexed es n c)) o a (b ++ code_all es next' left) = rw co at k.put in
      record {
        left = left;
        stand = w;
        all = al;
        numbers = omega (arith, k.numbers);
        put = put_on b (code_all es next' left) u (append_are (bits_are 5 v) (bits_are 8 i)) p;
      }

  index_room : (v i next' : ℕ) (left : List Basic) → code_all es next k.left ≡ (bits_of 5 v ++ bits_of 8 i) ++ code_all es next' left → a + 13 ≤ 8 * length o
  index_room v i next' left co =
      omega (
        arith,
        k.put.room,
        ap length co,
        length-append (bits_of 5 v ++ bits_of 8 i) (code_all es next' left),
        length-append (bits_of 5 v) (bits_of 8 i),
        length_bits 5 v,
        length_bits 8 i,
      )

  module _ {table : List ℕ} {count : ℕ} (t : Held table count es) where
    module _ (v slot : ℕ) (q : BitPlace) where
      pub entry_ready : StepIs s e p k.left (EntryStep v slot q) → (position slot (take count table) < count) × (v < 32) × (a + 13 ≤ 8 * length o)
      unfolding TokenOk AllIn
      entry_ready (is_entry q' v' x slot' i y) =
          let al = rw (y.uses next) at k.all in (
            position_in t x (carried_fits v x y.good) al.0 slot i,
            code_small v x y.good,
            index_room v (index_of x es) next y.left (y.code es next),
          )

      pub code_entry : {a' : ℕ} {o' : List ℕ} → StepIs s e p k.left (EntryStep v slot q)
          → PutAt o a (bits_of 5 v ++ bits_of 8 (suc (position slot (take count table)))) a' o' → Coding s e es c n o₀ a₀ q.0 next o' a'
      unfolding TokenOk AllIn
      code_entry (is_entry q' v' x slot' i y) p =
          let al = rw (y.uses next) at k.all in
          let j = index_in_lem t x (carried_fits v x y.good) al.0 slot i in
          index_put v (index_of x es) q.0 next y.left y.lists al.1 (omega (arith, y.count)) (y.code es next) (rw j at p)

    module _ (q z : BitPlace) (x : Facts) (few : n + inside c ≤ 256) (slot : ℕ) (is : slot ≡ 0x7000000000000 + next) where
      pub closure_ready : StepIs s e p k.left (Closure q) → (position slot (take count table) < count) × (a + 13 ≤ 8 * length o) × (next < 256)
      unfolding AllIn slot_of Fits
      closure_ready (is_closure q' y) =
          let al = rw (y.uses next) at k.all in
          let m : next < 256 = omega (arith, k.numbers, y.count) in (
            position_in t (template next) m al.0 slot is,
            index_room 7 (index_of (template next) es) (suc next + inside y.list) y.left (y.code es next),
            m,
          )

      pub closure_past : ListIs s 15 q.0 z x → StepIs s e p k.left (Closure q) → (p + 5 ≤ z.0) × (z.0 ≤ e) × (x.inside ≤ 256)
      closure_past told (is_closure q' y) =
          let v = got_value (sym told.read ∙ y.read) in
          let f = list_facts s 15 q.0 told.read in (
            omega (arith, y.far, f.0),
            omega (arith, v.1, lists_end s e y.past y.left y.lists),
            omega (arith, k.numbers, y.count, told.count, ap inside v.0),
          )

      pub code_closure : (next' : ℕ) {a' : ℕ} {o' : List ℕ} → ListIs s 15 q.0 z x → StepIs s e p k.left (Closure q)
          → PutAt o a (bits_of 5 7 ++ bits_of 8 (suc (position slot (take count table)))) a' o' → next' ≡ next + 1 + x.inside
          → Coding s e es c n o₀ a₀ z.0 next' o' a'
      unfolding AllIn slot_of Fits
      code_closure next' told (is_closure q' y) p h =
          let al = rw (y.uses next) at k.all in
          let m : next < 256 = omega (arith, k.numbers, y.count) in
          let j = index_in_lem t (template next) m al.0 slot is in
          let v = got_value (sym told.read ∙ y.read) in
          let i : suc next + inside y.list ≡ next' = omega (arith, told.count, ap inside v.0) in
          let w : Lists s e z.0 y.left = rw v.1 y.lists in
          index_put 7 (index_of (template next) es) z.0 next' y.left w (rw i at al.1) (omega (arith, y.count, i))
          (y.code es next ∙ ap (λ (u : ℕ). (bits_of 5 7 ++ bits_of 8 (index_of (template next) es)) ++ code_all es u y.left) i) (rw j at p)

  pub coding_end : e ≤ p → PutAt o₀ a₀ (list_bits (indexed es n c)) a o
  unfolding code_all
  coding_end h = put_done (code_all es next k.left) (ap (code_all es next) (none_left s e k.left p h k.stand)) k.put
