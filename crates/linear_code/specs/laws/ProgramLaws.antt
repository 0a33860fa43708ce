-- The bytes of a linear file that is accepted, and its table, are the program that its templates are. Assumes nothing.
use Prim.Native.Nat.{ℕ, zero, suc, ◌+◌, ◌*◌, ◌/◌, ◌<◌, ◌≤◌}
use Rattle.std.specs.Prelude.{◌≡◌, refl, Bool, true, false, ◌&&◌, leb, take, drop}
use Rattle.std.proofs.Common.{sym, ap, ◌∙◌, arith, length-take, length-drop, get_or-drop}
use Rattle.std.proofs.Math.Path.{fun_ext}
use mathlib.Core.List.{List, [], ◌∷◌}
use Rattle.std.proofs.Math.ListN.{length, get_or, get_or-eq_default}
use borrow.Author.Tests.{leb-true, ne_eqb}
use Rattle.files.specs.Reading.{got, refused}
use Rattle.files.specs.Entries.{Entry, then, field, valid, entries_at, to_byte, zero_bits, nothing_more}
use Rattle.files.specs.laws.EntriesLaws.{EntriesOk, then_field, entries_read}
use Rattle.files.specs.Grammar.{entry_of}
use Rattle.files.specs.Linear.{Linear, code_at, linear_template_at, linear_templates_at, linear_read}
use Rattle.files.specs.Table.{row_of, linear_table}
use Rattle.files.specs.laws.TableLaws.{Few, row_start, linear_start, linear_entries, linear_slot, linear_beyond}
use Rattle.files.specs.laws.AllGot.{AllGot, got_all, then_all, cond_all, nothing_all, zero_all, linear_read_lem}
use Rattle.rules.specs.laws.Lists.{by_lt}
use Rattle.machines.specs.Fetched.{Fetched, no_linear, linear_at}
use Rattle.machines.specs.Machine.{linear_program}
use Rattle.machines.specs.Slots.{slot_at}
use Rattle.machines.specs.laws.Slots.{SlotStands, RowStands, row_stands}
use Rattle.linear_code.specs.Bytes.{code_from, fetch_bytes, code_start, code_length, bytes_program, Within, AllWithin, AllBytes}
use Rattle.linear_code.specs.laws.BytesLaws.{decode_bytes_lem}

-- ---- what is known of a template that was read
pub record GoodLinear (s : List ℕ) (t : Linear) : Type 0 where
  own : ℕ
  count : ℕ
  entries_ok : EntriesOk own count t.entries
  begins : 1 ≤ t.start
  ends : t.start + length t.code ≤ length s
  code_is : t.code ≡ take (length t.code) (drop t.start s)

abbrev AllGood : List ℕ → List Linear → Type 0
AllGood s [] = Unit
AllGood s (t ∷ ts) = GoodLinear s t × AllGood s ts

good_at : (s : List ℕ) (ts : List Linear) (t : ℕ) (d : Linear) → AllGood s ts → t < length ts → GoodLinear s (get_or ts t d)
good_at s [] t d h l = absurd (omega arith)
good_at s (x ∷ ts) zero d h l = h.0
good_at s (x ∷ ts) (suc t) d h l = good_at s ts t d h.1 (omega arith)

module _ (s : List ℕ) (T : ℕ) (few : T ≤ 64) where
  code_good : (own n p : ℕ) (es : List Entry) → EntriesOk own T es → 8 ≤ p → AllGot (GoodLinear s) (code_at s es n p)
  unfolding code_at
  code_good own n p es h l =
      cond_all (GoodLinear s) (leb (p + 8 * n) (8 * length s)) _ _
      (λ e.
      let i : p + 8 * n ≤ 8 * length s = leb-true _ _ e in
      let k : length (take n (drop (p / 8) s)) ≡ n = rw (length-take, length-drop) (omega arith) in
      record { own = own; count = T; entries_ok = h; begins = omega arith; ends = rw k (omega arith); code_is = rw k })
      (λ e. tt)

  linear_good : (own p : ℕ) → AllGot (GoodLinear s) (linear_template_at s own T p)
  unfolding linear_template_at
  linear_good own p =
      then_all (GoodLinear s) (field s p 8) _
      (λ n q e. then_all (GoodLinear s) (entries_at s own T n q) _
      (λ es r e₂. then_all (GoodLinear s) (zero_bits s (to_byte r) r es) _
      (λ fs u e₃. then_field (AllGot (GoodLinear s)) s u 24 _ tt
      (λ i. code_good own _ (u + 24) fs (got_all (EntriesOk own T) (zero_all (EntriesOk own T) s (to_byte r) r es (entries_read s own T few n q e₂).ok) e₃)
      (omega arith)))))

  linears_good : (n own p : ℕ) → AllGot (AllGood s) (linear_templates_at s T own n p)
  unfolding linear_templates_at
  linears_good zero own p = tt
  linears_good (suc n) own p =
      then_all (AllGood s) (linear_template_at s own T p) _
      (λ t q e. then_all (AllGood s) (linear_templates_at s T (own + 1) n q) _
      (λ ts r e₂. (got_all (GoodLinear s) (linear_good own p) e, got_all (AllGood s) (linears_good n (own + 1) q) e₂)))

abbrev Accepted : List ℕ → List Linear → Type 0
Accepted s ts = (length s ≤ 262144) × AllGood s ts

accepted : (s : List ℕ) {ts : List Linear} {q : ℕ} → linear_read s ≡ got ts q → Accepted s ts
unfolding linear_read
accepted s e =
    got_all (Accepted s)
    (cond_all (Accepted s) (leb (length s) 262144) _ (refused 1 0)
    (λ i. then_all (Accepted s) (field s 0 8) _
    (λ T p e₂. counted T p (leb-true _ _ i) (leb 1 T) (leb T 64) refl))
    (λ i. tt)) e
  where
    counted : (T p : ℕ) → length s ≤ 262144 → (a b : Bool) → leb T 64 ≡ b
        → AllGot (Accepted s) (valid 0 (a && b) (then (linear_templates_at s T 0 T p) (λ ts q. nothing_more s q ts)))
    counted T p i true true b =
        then_all (Accepted s) (linear_templates_at s T 0 T p) _
        (λ ts q e. nothing_all (Accepted s) s q ts (i, got_all (AllGood s) (linears_good s T (leb-true T 64 b) T 0 p) e))
    counted T p i true false b = tt
    counted T p i false y b = tt

drop_bytes : (n : ℕ) (w : List ℕ) → AllBytes w → AllBytes (drop n w)
drop_bytes n w h i = rw (get_or-drop n w i 0) (h (n + i))

take_bytes : (n : ℕ) (w : List ℕ) → AllBytes w → AllBytes (take n w)
take_bytes zero w h i = omega arith
take_bytes (suc n) [] h i = omega arith
take_bytes (suc n) (x ∷ w) h zero = h 0
take_bytes (suc n) (x ∷ w) h (suc i) = take_bytes n w (λ j. h (suc j)) i

-- ---- an accepted file s with templates ts, and its table of `size` numbers
module _ (s : List ℕ) (size : ℕ) (ts : List Linear) (short : length s ≤ 262144) (good : AllGood s ts) (few : Few linear_entries ts) where
  abbrev table : List ℕ
  table = linear_table size ts

  -- a template that is there
  module _ (t : ℕ) (l : t < length ts) where
    abbrev this : Linear
    this = get_or ts t no_linear

    slot_is : (n : ℕ) → n < 256 → slot_at table t n ≡ get_or (row_of (linear_start this) this.entries) n 0
    unfolding slot_at
    slot_is n m = linear_slot size ts few t n no_linear l m

    there_start : (code_start table t ≡ this.start) × (code_length table t ≡ length this.code)
    unfolding code_start code_length
    there_start =
        let g = good_at s ts t no_linear good l in
        let e : slot_at table t 0 ≡ linear_start this = slot_is 0 (omega arith) ∙ row_start (linear_start this) this.entries in
        rw e (omega (arith, g.ends, g.begins))

    there_row : RowStands (slot_at table t) this.entries
    there_row =
        let g = good_at s ts t no_linear good l in
        row_stands g.own g.count (linear_start this) this.entries (slot_at table t) g.entries_ok (omega (arith, g.ends)) slot_is

    there_within : Within s (code_start table t) (code_length table t)
    there_within =
        let g = good_at s ts t no_linear good l in
        let k = there_start in
        record { inside = omega (arith, g.ends); there = λ e. absurd (omega (arith, g.begins)) }

    there_code : code_from s (code_start table t) (code_length table t) ≡ this.code
    unfolding code_from
    there_code =
        let g = good_at s ts t no_linear good l in
        let k = there_start in
        rw (k.0, k.1, ne_eqb this.start 0 (λ e. omega (arith, g.begins))) (sym g.code_is)

  -- one that is not
  module _ (t : ℕ) (l : length ts ≤ t) where
    nowhere_slot : (n : ℕ) → ◌≡◌ {A = ℕ} (slot_at table t n) 0
    unfolding slot_at
    nowhere_slot n = linear_beyond size ts few t n l

    nowhere_start : (code_start table t ≡ 0) × (code_length table t ≡ 0)
    unfolding code_start code_length
    nowhere_start = rw (nowhere_slot 0) (refl, refl)

  all_within : AllWithin s table
  all_within =
      record {
        short = short;
        within = λ t. by_lt t (length ts) (there_within t) (λ l. (let k = nowhere_start t l in record { inside = omega arith; there = λ e. k.1 }));
      }

  module _ (bytes : AllBytes s) (t q : ℕ) where
    abbrev Same : Type 0
    Same = fetch_bytes s table t (code_start table t) (code_length table t) q ≡ linear_at ts t q

    there_same : t < length ts → Same
    unfolding fetch_bytes linear_at
    there_same l =
        let g = good_at s ts t no_linear good l in
        let x : Linear = get_or ts t no_linear in
        let b : AllBytes x.code = rw g.code_is (take_bytes (length x.code) (drop x.start s) (drop_bytes x.start s bytes)) in
        rw (there_code t l) (decode_bytes_lem (slot_at table t) x.entries (there_row t l) q (drop q x.code) (drop_bytes q x.code b))

    nowhere_same : length ts ≤ t → Same
    unfolding fetch_bytes linear_at code_from SlotStands entry_of
    nowhere_same l =
        let k = nowhere_start t l in
        rw (k.0, get_or-eq_default ts no_linear l)
        (decode_bytes_lem (slot_at table t) [] (λ n m. nowhere_stands n) q (drop q (1 ∷ [])) (drop_bytes q (1 ∷ []) single))
      where
        nowhere_stands : (n : ℕ) → SlotStands (slot_at table t n) (entry_of [] n)
        nowhere_stands zero = rw (nowhere_slot t l zero)
        nowhere_stands (suc n) = rw (nowhere_slot t l (suc n))

        single : AllBytes (1 ∷ [])
        single zero = omega arith
        single (suc i) = omega arith

    same : Same
    same = by_lt t (length ts) there_same nowhere_same

-- ---- THE LAWS of a linear file that is accepted
module _ (s : List ℕ) (size : ℕ) {ts : List Linear} {q : ℕ} (e : linear_read s ≡ got ts q) where
  pub table_within : AllWithin s (linear_table size ts)
  table_within = let a = accepted s e in all_within s size ts a.0 a.1 (linear_read_lem s e).1.1

  pub program_is : AllBytes s → bytes_program s (linear_table size ts) ≡ linear_program ts
  program_is bytes =
      let a = accepted s e in
      ap (λ (f : ℕ → ℕ → Fetched). record { fetch = f; start = λ t. 0 })
      (fun_ext (λ t. fun_ext (λ q. same s size ts a.0 a.1 (linear_read_lem s e).1.1 bytes t q)))
