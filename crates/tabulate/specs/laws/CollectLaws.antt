-- Collecting the entries of one template, code by code. Assumes nothing.
use Prim.Native.Nat.{ℕ, suc, ◌+◌, ◌*◌, ◌-◌, ◌≤◌, ◌<◌}
use Rattle.std.proofs.Common.{arith, sym, ◌∙◌}
use Rattle.std.specs.Prelude.{◌≡◌, refl, take, Some}
use Rattle.std.proofs.Math.Path.{ap}
use mathlib.Core.List.{List, [], ◌∷◌, append-nil}
use Rattle.std.proofs.Math.ListN.{length}
use Rattle.cells.specs.declared.BitPlace.{BitPlace}
use Rattle.files.specs.Reading.{got}
use Rattle.files.specs.Entries.{Entry, constant, global, template}
use Rattle.files.specs.laws.AllGot.{got_value}
use Rattle.basic.specs.declared.Facts.{Facts}
use Rattle.basic.specs.Basic.{Basic, ended, plain, carries, closure, branch, save, bits, carried_bits}
use Rattle.basic.specs.Reading.{list_at}
use Rattle.basic.specs.Tabulated.{inside, uses, with_entry, with_all, entries_of}
use Rattle.basic.specs.Valid.{CarriesOk, literal_ok, global_ok, set_global_ok, TokenOk}
use Rattle.basic.specs.Forest.{Lists, no_lists, next_list, inside_all, uses_all, own_bits, own_all}
use Rattle.basic.specs.laws.ReadLaws.{list_facts, list_least}
use Rattle.basic.specs.laws.StepLaws.{ListIs}
use Rattle.basic.specs.laws.ForestLaws.{none_left, lists_end}
use Rattle.tabulate.specs.declared.Step.TheVariants.{Copy, Entry as EntryStep, Closure}
use Rattle.tabulate.specs.Slots.{slot_of, Fits, AllFit, slots_of, placed, Added}
use Rattle.tabulate.specs.Walk.{StepIs, is_copy, is_entry, is_closure}
use Rattle.tabulate.specs.Collect.{OwnList, CollectedIs, few_entries, Collecting}
use Rattle.tabulate.specs.laws.SlotLaws.{slots_length, placed_with, fit_with, all_longer}

-- ---- bounds
pub own_bound : (c : Basic) → own_bits c ≤ 2 * bits c
unfolding own_bits bits carried_bits
own_bound ended = omega arith
own_bound (plain v ns r) = omega (arith, own_bound r)
own_bound (carries v (constant t x) r) = omega (arith, own_bound r)
own_bound (carries v (global g) r) = omega (arith, own_bound r)
own_bound (carries v (template t) r) = omega (arith, own_bound r)
own_bound (closure x r) = omega (arith, own_bound r, list_least [] x)
own_bound (branch x y r) = omega (arith, own_bound x, own_bound y, own_bound r)
own_bound (save n x r) = omega (arith, own_bound x, own_bound r)

pub own_list_bound : {s : List ℕ} {p e n : ℕ} → length s ≤ 65536 → (w : OwnList s p e n) → (own_bits w.list ≤ 1048576) × (e ≤ 524288)
own_list_bound {s} {p} h w = let f = list_facts s 15 p w.read in (omega (arith, own_bound w.list, f.0, f.1), omega (arith, f.1))

pub carried_fits : (v : ℕ) (x : Entry) → CarriesOk v x → Fits x
unfolding Fits
carried_fits v x (literal_ok h k) = (h, k)
carried_fits v x (global_ok h) = h
carried_fits v x (set_global_ok h) = h

module _ {s : List ℕ} {e : ℕ} {c : Basic} {n : ℕ} where
  pub collect_begin : (p : ℕ) (table : List ℕ) → list_at s 15 p ≡ got c e → Collecting s e c n p n 0 0 table
  unfolding entries_of uses_all own_all inside_all slots_of AllFit
  collect_begin p table r =
      record {
        left = c ∷ [];
        stand = next_list e r no_lists;
        so_far = [];
        rest = ap (with_all []) (sym (append-nil (uses n c)));
        held = refl;
        counted = refl;
        fit = tt;
        own = omega arith;
        numbers = omega arith;
      }

  module _ {p next count size : ℕ} {table : List ℕ} (k : Collecting s e c n p next count size table) where
    pub collect_size : size ≤ own_bits c
    collect_size = omega (arith, k.own)

    pub collect_copy : (q : BitPlace) (m : ℕ) → StepIs s e p k.left (Copy q) → m ≡ size + (q.0 - p) → Collecting s e c n q.0 next count m table
    collect_copy q m (is_copy q' x) h =
        record {
          left = x.left;
          stand = x.lists;
          so_far = k.so_far;
          rest = k.rest ∙ ap (with_all k.so_far) (x.uses next);
          held = k.held;
          counted = k.counted;
          fit = k.fit;
          own = omega (arith, k.own, x.size);
          numbers = omega (arith, k.numbers, x.count);
        }

    -- the entry x put into the table
    module _ (x : Entry) (fits : Fits x) (count' : ℕ) (table' : List ℕ) (slot : ℕ) (is : slot ≡ slot_of x)
        (put : take count' table' ≡ placed (take count table) slot) (many : count' ≡ length (placed (take count table) slot)) where
      placed_is : placed (take count table) slot ≡ slots_of (with_entry k.so_far x)
      placed_is = rw (k.held, is) (placed_with x fits k.so_far k.fit)

      counted_is : count' ≡ length (with_entry k.so_far x)
      counted_is = many ∙ ap length placed_is ∙ slots_length (with_entry k.so_far x)

      with_entry_lem : (q next' size' : ℕ) (left : List Basic) → Lists s e q left → uses_all next k.left ≡ x ∷ uses_all next' left
          → own_all k.left + size ≡ size' + own_all left → next + inside_all k.left ≡ next' + inside_all left
          → Collecting s e c n q next' count' size' table'
      unfolding with_all
      with_entry_lem q next' size' left w u a b =
          record {
            left = left;
            stand = w;
            so_far = with_entry k.so_far x;
            rest = k.rest ∙ ap (with_all k.so_far) u;
            held = put ∙ placed_is;
            counted = counted_is;
            fit = fit_with x fits k.so_far k.fit;
            own = omega (arith, k.own);
            numbers = omega (arith, k.numbers);
          }

      pub too_many : (next' : ℕ) (left : List Basic) → uses_all next k.left ≡ x ∷ uses_all next' left → 255 < count' → 255 < length (entries_of n c)
      unfolding with_all
      too_many next' left u h =
          let r : entries_of n c ≡ with_all (with_entry k.so_far x) (uses_all next' left) = k.rest ∙ ap (with_all k.so_far) u in
          rw r (omega (arith, counted_is, all_longer (uses_all next' left) (with_entry k.so_far x)))

    module _ (v slot : ℕ) (q : BitPlace) {count' : ℕ} {table' : List ℕ} (d : Added table table' count slot count') where
      pub collect_entry : (size' : ℕ) → StepIs s e p k.left (EntryStep v slot q) → size' ≡ size + 13 → Collecting s e c n q.0 next count' size' table'
      unfolding TokenOk
      collect_entry size' (is_entry q' v' x slot' i y) h =
          with_entry_lem x (carried_fits v x y.good) count' table' slot i d.put d.many q.0 next size' y.left y.lists (y.uses next)
          (omega (arith, y.size)) (omega (arith, y.count))

      pub entry_many : StepIs s e p k.left (EntryStep v slot q) → 255 < count' → 255 < length (entries_of n c)
      unfolding TokenOk
      entry_many (is_entry q' v' x slot' i y) h =
          too_many x (carried_fits v x y.good) count' table' slot i d.put d.many next y.left (y.uses next) h

    -- a closure whose list was told of
    module _ (q z : BitPlace) (x : Facts) (few : n + inside c ≤ 256) (st : StepIs s e p k.left (Closure q)) (told : ListIs s 15 q.0 z x) where
      pub closure_number : next < 256
      closure_number = go st
        where
          go : StepIs s e p k.left (Closure q) → next < 256
          go (is_closure q' y) = omega (arith, k.numbers, y.count)

      pub closure_far : (p + 5 ≤ z.0) × (z.0 ≤ e) × (x.inside ≤ 256)
      closure_far = go st
        where
          go : StepIs s e p k.left (Closure q) → (p + 5 ≤ z.0) × (z.0 ≤ e) × (x.inside ≤ 256)
          go (is_closure q' y) =
              let v = got_value (sym told.read ∙ y.read) in
              let f = list_facts s 15 q.0 told.read in (
                omega (arith, y.far, f.0),
                omega (arith, v.1, lists_end s e y.past y.left y.lists),
                omega (arith, k.numbers, y.count, told.count, ap inside v.0),
              )

      module _ (slot : ℕ) (is : slot ≡ 0x7000000000000 + next) {count' : ℕ} {table' : List ℕ} (d : Added table table' count slot count') where
        pub closure_many : 255 < count' → 255 < length (entries_of n c)
        unfolding slot_of Fits
        closure_many h = go st
          where
            go : StepIs s e p k.left (Closure q) → 255 < length (entries_of n c)
            go (is_closure q' y) =
                too_many (template next) closure_number count' table' slot is d.put d.many (suc next + inside y.list) y.left (y.uses next) h

        pub collect_closure : (next' size' : ℕ) → next' ≡ next + 1 + x.inside → size' ≡ size + 13 → Collecting s e c n z.0 next' count' size' table'
        unfolding slot_of Fits
        collect_closure next' size' a b = go st
          where
            go : StepIs s e p k.left (Closure q) → Collecting s e c n z.0 next' count' size' table'
            go (is_closure q' y) =
                let v = got_value (sym told.read ∙ y.read) in
                let m : suc next + inside y.list ≡ next' = omega (arith, told.count, ap inside v.0) in
                with_entry_lem (template next) closure_number count' table' slot is d.put d.many z.0 next' size' y.left
                (rw v.1 y.lists) (y.uses next ∙ ap (λ (i : ℕ). template next ∷ uses_all i y.left) m) (omega (arith, y.size)) (omega (arith, y.count))

    pub collect_end : e ≤ p → count ≤ 255 → CollectedIs (entries_of n c) (own_bits c) table (Some (count, size))
    unfolding uses_all with_all own_all
    collect_end h few =
        let z = none_left s e k.left p h k.stand in
        let u : entries_of n c ≡ k.so_far = k.rest ∙ ap (λ (l : List Basic). with_all k.so_far (uses_all next l)) z in
        let o : own_all k.left ≡ 0 = ap own_all z in
        rw u (few_entries count size (omega (arith, k.counted)) k.counted (omega (arith, k.own)) k.held k.fit)
