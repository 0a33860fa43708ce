-- What the answers of the readers say of what was read: of a list inside an instruction, of an instruction without lists, and of one turn
-- of the loop over a list. Assumes nothing.
use Rattle.std.specs.Prelude.{ℕ, ◌+◌, ◌*◌, ◌-◌, ◌/◌, ◌%◌, ◌≤◌, ◌<◌, ◌^◌, Bool, ◌&&◌, ◌||◌, get_or, Some, None, Ok, Err}
use native.Mathlib.Omega.{arith}
use Rattle.std.proofs.Math.Path.{◌≡◌, refl, ap}
use Rattle.std.proofs.Common.{sym, ◌∙◌, subst}
use Rattle.std.proofs.Math.Bool.{true, false, cond, not}
use mathlib.Core.List.{List, [], ◌∷◌}
use borrow.Author.Tests.{eqb-true, eqb-false, ne_eqb, leb-true, leb-false, lt-leb, ltb-true, ltb-false, lt-ltb, le-ltb}
use Rattle.std.proofs.Math.ListN.{length}
use Rattle.std.proofs.Math.Dec.{leb, ltb, eqb}
use Rattle.cells.specs.declared.BitPlace.{BitPlace}
use Rattle.cells.specs.laws.Laws.{clash}
use Rattle.fields.specs.Field.{field_at, field_read}
use Rattle.fields.specs.laws.Laws.{value_of, field_small, cut, whole, line_code, line_first}
use Rattle.files.specs.Codes.{shape_of}
use Rattle.files.specs.Code.{Code, done, Instr, neutral_i, return_i, call_i, put, simple, bits}
use Rattle.files.specs.Reading.{Got, got, refused, Head, stop, item, bad, Deep, bottom, below, with_deep, shaped, head_at, before, after, deep_of, list_at}
use Rattle.files.specs.Flat.{flat}
use Rattle.files.specs.laws.Heads.{one_cut, one_read, first_cut, second_cut, two_read, last_level, deep_down}
use Rattle.files.specs.laws.ReadingLaws.{bits_i, bits_put, some_bits, past_five, Past, head_past, deep_past, list_step, list_bits_lem, flat_bits, flat_bits_end}
use Rattle.lists.specs.declared.Facts.{Facts}
use Rattle.lists.specs.declared.Added.{Added}
use Rattle.lists.specs.declared.State.{State}
use Rattle.lists.specs.Facts.{facts_of, listed, slot_fits, slot_named, slot_closes}
use Rattle.lists.specs.Pass.{simple_added, added_by, state_after, finish, run, listed_from, itemed, simple_at, deep_at}
use Rattle.lists.specs.laws.PassLaws.{run_put, put_size}
use Rattle.lists.specs.laws.Each.{each}
use Rattle.files.specs.Refusal.{refusal}
use Rattle.files.specs.laws.RefusalLaws.{ok_first, ok_second, err_number, err_place}
use Rattle.lists.specs.declared.Item.TheVariants.{End, More}

-- a field that was read is below 2 ^ its width
pub read_below : (s : List ℕ) (p w v : ℕ) (q : BitPlace) → field_read s p w ≡ Some (v, q) → v < 2 ^ w
read_below s p w v q e = rw (value_of s p w v q e).0 (field_small s p w)

-- An instruction is read alike wherever its code stands: without lists, however many levels there are; with lists, by the levels below
-- them, and at the last level it is refused 4.
pub simple_anywhere : (s : List ℕ) (deep : Deep) (p v q k : ℕ) → 1 ≤ k → k ≤ 3 → shaped s deep p v q k ≡ simple_at s v q k
unfolding shaped
simple_anywhere s deep p v q k h i = each (λ k. shaped s deep p v q k ≡ simple_at s v q k) 1 3 (refl, (refl, (refl, tt))) k h (omega arith)

pub deep_anywhere : (s : List ℕ) (l p v q k : ℕ) → (l ≡ 0 → ⊥) → 4 ≤ k → k ≤ 5 → shaped s (deep_of s l) p v q k ≡ deep_at s (l - 1) q k
unfolding shaped with_deep
deep_anywhere s l p v q k z h i =
    rw (deep_down s l z) (each (λ k. shaped s (below (list_at s (l - 1))) p v q k ≡ deep_at s (l - 1) q k) 4 2 (refl, (refl, tt)) k h (omega arith))

pub deep_last : (s : List ℕ) (l p v q k : ℕ) → l ≡ 0 → 4 ≤ k → k ≤ 5 → shaped s (deep_of s l) p v q k ≡ bad 4 p
unfolding shaped with_deep
deep_last s l p v q k z h i = rw (last_level s l z) (each (λ k. shaped s bottom p v q k ≡ bad 4 p) 4 2 (refl, (refl, tt)) k h (omega arith))

-- the code of a line is read, and q is the place past it
pub line_read : (s : List ℕ) (p line : ℕ) → line ≡ field_at s p 21 → p + 5 ≤ 8 * length s → (q : BitPlace) → q.0 ≡ p + 5
    → field_read s p 5 ≡ Some (line / 65536, q)
line_read s p line is h q e =
    sym (whole s p 5 h) ∙ ap (λ (u : ℕ). Some (u, record { 0 = p + 5 })) (sym (line_code s p line is))
    ∙ ap (λ (x : ℕ). Some (line / 65536, record { 0 = x })) (sym e)

-- A slot is looked at whether its code names one or not.
module _ (table : List ℕ) (own op n : ℕ) where
  pub named_any : (f : Bool) → 6 ≤ op → ((6 ≤ op) × (op ≤ 9) → f ≡ slot_fits op (get_or table (256 * own + n) 0))
      → (ltb 9 op || not (eqb n 0) && f) ≡ slot_named table own op n
  unfolding slot_named
  named_any f g is = go (leb op 9) (eqb n 0) refl refl
    where
      go : (x y : Bool) → leb op 9 ≡ x → eqb n 0 ≡ y → (ltb 9 op || not (eqb n 0) && f) ≡ slot_named table own op n
      go true true h k = rw (le-ltb 9 op (leb-true op 9 h), h, k) refl
      go true false h k = rw (le-ltb 9 op (leb-true op 9 h), h, k) (is (g, leb-true op 9 h))
      go false y h k = rw (lt-ltb 9 op (leb-false op 9 h), h) refl

  pub closes_any : {x : Bool} → (eqb op 7 && slot_named table own op n) ≡ x → cond x (2 ^ (get_or table (256 * own + n) 0 % 64)) 0 ≡ slot_closes table own op n
  unfolding slot_closes
  closes_any h = rw (← h) (go (eqb op 7))
    where
      go : (a : Bool) → cond (a && slot_named table own op n) (2 ^ (get_or table (256 * own + n) 0 % 64)) 0
          ≡ cond a (cond (slot_named table own op n) (2 ^ (get_or table (256 * own + n) 0 % 64)) 0) 0
      go true = refl
      go false = refl

module _ (table : List ℕ) (own : ℕ) where
  -- ---- a list inside an instruction
  pub listed_done : (x : Got Code) (q : BitPlace) (f : Facts) → listed table own x ≡ Ok (q, f) → (c : Code) × (x ≡ got c q.0) × (facts_of table own c ≡ f)
  unfolding listed
  listed_done (got c r) q f e =
      (c, ap (λ (y : BitPlace). got c y.0) (ok_first e), ok_second e)
  listed_done (refused n p) q f e = clash (cc)

  pub listed_refused : (x : Got Code) (n : ℕ) (q : BitPlace) → listed table own x ≡ Err (refusal n q) → x ≡ refused n q.0
  unfolding listed
  listed_refused (got c r) n q e = clash (cc)
  listed_refused (refused m p) n q e =
      rw (err_number e, ap (λ (y : BitPlace). y.0) (err_place e)) refl

  pub listed_size : (s : List ℕ) (l p : ℕ) (q : BitPlace) (f : Facts) → length s ≤ 65536 → listed table own (list_at s l p) ≡ Ok (q, f) → f.size ≤ 1048576
  unfolding facts_of
  listed_size s l p q f h e =
      let x = listed_done (list_at s l p) q f e in
      let k : length (flat x.0) ≡ f.size = ap (λ (y : Facts). y.size) x.2 in
      omega (arith, list_bits_lem s l p x.0 q.0 x.1, flat_bits x.0)

  -- ---- an instruction without lists
  pub simple_added_lem : (v : ℕ) (ns : List ℕ) → shape_of v ≡ 1 + length ns → length ns ≤ 2
      → added_by table own (simple v ns) ≡ simple_added table own v (length ns) (get_or ns 0 0)
  unfolding simple added_by simple_added shape_of
  simple_added_lem v ns e h = go (eqb v 1) (eqb v 2) refl refl
    where
      go : (x y : Bool) → eqb v 1 ≡ x → eqb v 2 ≡ y
          → added_by table own (cond x return_i (cond y (call_i (get_or ns 0 0)) (neutral_i v ns))) ≡ simple_added table own v (length ns) (get_or ns 0 0)
      go true y k l =
          let z : 1 ≡ 1 + length ns = ap shape_of (sym (eqb-true v 1 k)) ∙ e in
          let n : length ns ≡ 0 = omega arith in
          rw (eqb-true v 1 k, n) refl
      go false true k l =
          let z : 2 ≡ 1 + length ns = ap shape_of (sym (eqb-true v 2 l)) ∙ e in
          let n : length ns ≡ 1 = omega arith in
          rw (eqb-true v 2 l, n) refl
      go false false k l = rw (le-ltb v 6 (past_five v (omega arith) (omega arith) (eqb-false v 1 k) (eqb-false v 2 l))) refl

  module _ (s : List ℕ) (v k : ℕ) (at : BitPlace) (e : shape_of v ≡ k) where
    no_operand : (o : Added) → k ≡ 1 → o ≡ simple_added table own v 0 0 → Ok (More at o) ≡ itemed table own (simple_at s v at.0 k)
    unfolding shaped itemed
    no_operand o z h = rw (z, h, ← simple_added_lem v [] (e ∙ z) (omega arith)) refl

    operand_cut : 2 ≤ k → k ≤ 3 → field_read s at.0 8 ≡ None → Err (refusal 2 at) ≡ itemed table own (simple_at s v at.0 k)
    unfolding itemed
    operand_cut i j f =
        each (λ k. Err (refusal 2 at) ≡ itemed table own (simple_at s v at.0 k)) 2 2
        (rw (one_cut s bottom 0 v at.0 f) refl, (rw (first_cut s bottom 0 v at.0 f) refl, tt)) k i (omega arith)

    module _ (n : ℕ) (mid : BitPlace) (f : field_read s at.0 8 ≡ Some (n, mid)) where
      one_operand : (o : Added) → k ≡ 2 → o ≡ simple_added table own v 1 n → Ok (More mid o) ≡ itemed table own (simple_at s v at.0 k)
      unfolding itemed
      one_operand o z h = rw (z, one_read s bottom 0 v at.0 n mid f, h, ← simple_added_lem v (n ∷ []) (e ∙ z) (omega arith)) refl

      operand_cut_2 : k ≡ 3 → field_read s mid.0 8 ≡ None → Err (refusal 2 mid) ≡ itemed table own (simple_at s v at.0 k)
      unfolding itemed
      operand_cut_2 z g = rw (z, second_cut s bottom 0 v at.0 n mid f g) refl

      two_operands : (m : ℕ) (last : BitPlace) (o : Added) → k ≡ 3 → field_read s mid.0 8 ≡ Some (m, last) → o ≡ simple_added table own v 2 n
          → Ok (More last o) ≡ itemed table own (simple_at s v at.0 k)
      unfolding itemed
      two_operands m last o z g h = rw (z, two_read s bottom 0 v at.0 n mid m last f g, h, ← simple_added_lem v (n ∷ m ∷ []) (e ∙ z) (omega arith)) refl

    -- its line has its first operand, if it has one
    none_named : (n : ℕ) → k ≡ 1 → simple_added table own v 0 0 ≡ simple_added table own v 0 n
    unfolding simple_added slot_named slot_closes shape_of
    none_named n z = go (ltb v 6) (ltb v 10) refl refl
      where
        go : (x y : Bool) → ltb v 6 ≡ x → ltb v 10 ≡ y → simple_added table own v 0 0 ≡ simple_added table own v 0 n
        go true y h l = rw h refl
        go false true h l =
            let a : 6 ≤ v = ltb-false v 6 h in
            let b : v < 10 = ltb-true v 10 l in
            absurd
            (each (λ u. shape_of u ≡ 1 → ⊥) 6 4 (λ x. omega arith, (λ x. omega arith, (λ x. omega arith, (λ x. omega arith, tt)))) v a (omega arith) (e ∙ z))
        go false false h l =
            let b : 10 ≤ v = ltb-false v 10 l in
            rw (h, lt-leb v 9 (omega arith), ne_eqb v 7 (λ x. omega arith)) refl

  module _ (s : List ℕ) (p line k : ℕ) (is : line ≡ field_at s p 21) (e : shape_of (line / 65536) ≡ k) where
    abbrev v : ℕ
    v = line / 65536

    first_is : p + 13 ≤ 8 * length s → field_read s (p + 5) 8 ≡ Some (line / 256 % 256, record { 0 = p + 5 + 8 })
    first_is h = sym (whole s (p + 5) 8 (omega arith)) ∙ ap (λ (a : ℕ). Some (a, record { 0 = p + 5 + 8 })) (sym (line_first s p line is))

    pub line_first_cut : (q : BitPlace) → q.0 ≡ p + 5 → 2 ≤ k → k ≤ 3 → 8 * length s < p + 13 → Err (refusal 2 q) ≡ itemed table own (simple_at s v (p + 5) k)
    line_first_cut q at i j h =
        subst (λ (x : ℕ). Err (refusal 2 (record { 0 = x })) ≡ itemed table own (simple_at s v (p + 5) k)) (sym at)
        (operand_cut s v k (record { 0 = p + 5 }) e i j (sym (cut s (p + 5) 8 (omega arith))))

    pub line_second_cut : (q : BitPlace) → q.0 ≡ p + 13 → k ≡ 3 → p + 13 ≤ 8 * length s → 8 * length s < p + 21
        → Err (refusal 2 q) ≡ itemed table own (simple_at s v (p + 5) k)
    line_second_cut q at z h l =
        let m : q.0 ≡ p + 5 + 8 = omega arith in
        subst (λ (x : ℕ). Err (refusal 2 (record { 0 = x })) ≡ itemed table own (simple_at s v (p + 5) k)) (sym m)
        (operand_cut_2 s v k (record { 0 = p + 5 }) e _ _ (first_is h) z (sym (cut s (p + 5 + 8) 8 (omega arith))))

    pub line_whole : (q : BitPlace) → q.0 ≡ p + (5 + 8 * (k - 1)) → 1 ≤ k → k ≤ 3 → p + (5 + 8 * (k - 1)) ≤ 8 * length s → (o : Added)
        → o ≡ simple_added table own v (k - 1) (line / 256 % 256) → Ok (More q o) ≡ itemed table own (simple_at s v (p + 5) k)
    line_whole q at i j h o d =
        go (eqb k 1) (eqb k 2) refl refl
      where
        moved : (x : ℕ) → q.0 ≡ x → Ok (More (record { 0 = x }) o) ≡ itemed table own (simple_at s v (p + 5) k)
            → Ok (More q o) ≡ itemed table own (simple_at s v (p + 5) k)
        moved x f = subst (λ (y : ℕ). Ok (More (record { 0 = y }) o) ≡ itemed table own (simple_at s v (p + 5) k)) (sym f)

        one : k ≡ 1 → Ok (More q o) ≡ itemed table own (simple_at s v (p + 5) k)
        one z =
            let c : k - 1 ≡ 0 = omega arith in
            moved (p + 5) (omega arith) (no_operand s v k (record { 0 = p + 5 }) e o z ((rw c at d) ∙ sym (none_named s v k (record { 0 = p + 5 }) e _ z)))

        two : k ≡ 2 → Ok (More q o) ≡ itemed table own (simple_at s v (p + 5) k)
        two z =
            let c : k - 1 ≡ 1 = omega arith in
            moved (p + 5 + 8) (omega arith) (one_operand s v k (record { 0 = p + 5 }) e _ _ (first_is (omega arith)) o z (rw c at d))

        three : k ≡ 3 → Ok (More q o) ≡ itemed table own (simple_at s v (p + 5) k)
        three z =
            let c : k - 1 ≡ 2 = omega arith in
            moved (p + 5 + 8 + 8) (omega arith)
            (two_operands s v k (record { 0 = p + 5 }) e _ _ (first_is (omega arith)) _ _ o z (sym (whole s (p + 5 + 8) 8 (omega arith))) (rw c at d))

        go : (x y : Bool) → eqb k 1 ≡ x → eqb k 2 ≡ y → Ok (More q o) ≡ itemed table own (simple_at s v (p + 5) k)
        go true y f g = one (eqb-true k 1 f)
        go false true f g = two (eqb-true k 2 g)
        go false false f g =
            let a : k ≡ 1 → ⊥ = eqb-false k 1 f in
            let b : k ≡ 2 → ⊥ = eqb-false k 2 g in
            three (omega arith)

  -- ---- one turn
  added_bits : (i : Instr) → 5 * (added_by table own i).size ≤ 2 * bits_i i
  unfolding bits flat
  added_bits i = omega (arith, put_size table own i done, flat_bits_end (put i done), bits_put i done)

  listed_before : (i : Instr) (x : Got Code) (st : State)
      → listed_from table own st (before i x) ≡ listed_from table own (state_after st (added_by table own i)) x
  unfolding before listed_from
  listed_before i (got c q) st = rw (run_put table own i c st) refl
  listed_before i (refused n p) st = refl

  module _ (s : List ℕ) (l p : ℕ) where
    pub turn_end : (st : State) (q : BitPlace) → itemed table own (head_at s (deep_of s l) p) ≡ Ok (End q)
        → listed_from table own st (list_at s l p) ≡ Ok (q, finish st)
    unfolding after itemed listed_from run
    turn_end st q e = ap (listed_from table own st) (list_step s l p) ∙ go (head_at s (deep_of s l) p) e
      where
        go : (h : Head) → itemed table own h ≡ Ok (End q) → listed_from table own st (after (list_at s l) h) ≡ Ok (q, finish st)
        go (stop x) e = cc
        go (item k x) e = cc
        go (bad m x) e = cc

    pub turn_more : (st : State) (q : BitPlace) (o : Added) → itemed table own (head_at s (deep_of s l) p) ≡ Ok (More q o)
        → listed_from table own st (list_at s l p) ≡ listed_from table own (state_after st o) (list_at s l q.0)
    unfolding after itemed
    turn_more st q o e = ap (listed_from table own st) (list_step s l p) ∙ go (head_at s (deep_of s l) p) e
      where
        go : (h : Head) → itemed table own h ≡ Ok (More q o)
            → listed_from table own st (after (list_at s l) h) ≡ listed_from table own (state_after st o) (list_at s l q.0)
        go (stop x) e = cc
        go (item k x) e =
            let f : ◌≡◌ {A = BitPlace} (record { 0 = x }) q = cc in
            let g : added_by table own k ≡ o = cc in
            listed_before k (list_at s l x) st ∙ rw (g, ap (λ (y : BitPlace). y.0) f) refl
        go (bad m x) e = cc

    pub turn_bad : (st : State) (n : ℕ) (q : BitPlace) → itemed table own (head_at s (deep_of s l) p) ≡ Err (refusal n q)
        → listed_from table own st (list_at s l p) ≡ Err (refusal n q)
    unfolding after itemed listed_from
    turn_bad st n q e = ap (listed_from table own st) (list_step s l p) ∙ go (head_at s (deep_of s l) p) e
      where
        go : (h : Head) → itemed table own h ≡ Err (refusal n q) → listed_from table own st (after (list_at s l) h) ≡ Err (refusal n q)
        go (stop x) e = cc
        go (item k x) e = cc
        go (bad m x) e = cc

    -- a turn goes on, within the file, and adds few bytes for its bits
    pub turn_bits : (q : BitPlace) (o : Added) → itemed table own (head_at s (deep_of s l) p) ≡ Ok (More q o)
        → (p < q.0) × (q.0 ≤ 8 * length s) × (5 * o.size + 2 * p ≤ 2 * q.0)
    unfolding itemed
    turn_bits q o e = go (head_at s (deep_of s l) p) (head_past s (deep_of s l) (deep_past s l) p) e
      where
        go : (h : Head) → Past (8 * length s) p h → itemed table own h ≡ Ok (More q o) → (p < q.0) × (q.0 ≤ 8 * length s) × (5 * o.size + 2 * p ≤ 2 * q.0)
        go (stop x) w e = clash (cc)
        go (item k x) w e =
            let f : ◌≡◌ {A = BitPlace} (record { 0 = x }) q = cc in
            let g : added_by table own k ≡ o = cc in
            rw (← ap (λ (y : BitPlace). y.0) f, ← g) (omega (arith, some_bits k, added_bits k))
        go (bad m x) w e = clash (cc)

-- what comes after the first make-cont is no more than all
pub tail_size : (st : State) (o : Added) → st.tail ≤ st.size
    → ((state_after st o).tail ≤ (state_after st o).size) × ((state_after st o).size ≡ st.size + o.size)
unfolding state_after
tail_size st o h = (go st.seen, refl)
  where
    go : (b : Bool) → cond b (st.tail + o.size) st.tail ≤ st.size + o.size
    go true = omega arith
    go false = omega arith
