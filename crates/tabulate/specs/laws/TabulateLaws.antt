-- The tabulator: 9, the file, and what the output holds. Assumes nothing.
use Rattle.std.specs.Prelude.{ℕ, ◌+◌, ◌*◌, ◌/◌, ◌≤◌, ◌<◌, ◌≡◌, Bool, true, false, cond, ◌&&◌, List, [], ◌++◌, take, drop, leb, Result, Ok, Err}
use Rattle.std.proofs.Common.{arith, sym, ◌∙◌, append-nil, drop_of_length-le, length-take-le}
use Rattle.std.proofs.Math.Path.{refl, ap}
use Rattle.std.proofs.Math.Option.{Option, none, some}
use borrow.Author.Tests.{le-leb, lt-leb}
use Rattle.std.proofs.Math.ListN.{length}
use Rattle.cells.specs.declared.BitPlace.{BitPlace}
use Rattle.cells.specs.laws.Laws.{clash}
use Rattle.files.specs.Reading.{Got, got, refused}
use Rattle.files.specs.Entries.{then}
use Rattle.files.specs.Grammar.{lowest, closed_template}
use Rattle.files.specs.Accepted.{or_lowest}
use Rattle.files.specs.Linear.{bits_of}
use Rattle.files.specs.laws.AllGot.{then_led, got_value, refused_got}
use Rattle.readback.specs.laws.Bits.{length_bits}
use Rattle.readback.specs.laws.Lists.{bits_are}
use Rattle.bit_writer.specs.Put.{put_bits}
use Rattle.bit_writer.proofs.theorems.Laws.{put_length, put_next}
use Rattle.tree_file.specs.File.{templates_bits, file_bits, tree_file}
use Rattle.tree_file.proofs.theorems.Written.{file_length, put_tree}
use Rattle.basic.specs.Basic.{Basic}
use Rattle.basic.specs.Reading.{list_at, basic_read}
use Rattle.basic.specs.Tabulated.{tabulated}
use Rattle.basic.specs.Checked.{entries_fit, within_limits, limited, basic_checked, tabulated_file}
use Rattle.files.specs.Outcome.{into_bytes, answered, written}
use Rattle.tabulate.specs.Judge.{CheckedIs, accepted, refused_file}
use Rattle.tabulate.specs.Put.{PutAt, TemplatesIn, WholeIn}
use Rattle.tabulate.specs.laws.CheckLaws.{file_bits_lem}
use Rattle.basic.proofs.theorems.WrittenLaws.{tabulated_length}
use Rattle.files.specs.declared.Refusal.{Refusal}
use Rattle.files.specs.Refusal.{refusal}

-- ---- what was checked fits
limits_led : (b c d : Bool) → (b && (c && d)) ≡ true → c ≡ true
limits_led true true d e = refl
limits_led true false d e = e
limits_led false c d e = clash (cc)

cond_led : {A : Type 0} (b : Bool) (a a' : A) (q q' n p : ℕ) → cond b (got a q) (refused n p) ≡ got a' q' → (b ≡ true) × (a ≡ a')
cond_led true a a' q q' n p e = (refl, (got_value e).0)
cond_led false a a' q q' n p e = refused_got e

lowest_led : (o : Option ℕ) (g : Got Basic) (c : Basic) (z : ℕ) → or_lowest 6 o g ≡ got c z → g ≡ got c z
unfolding or_lowest
lowest_led none g c z e = e
lowest_led (some t) g c z e = refused_got e

pub checked_fits : (s : List ℕ) (c : Basic) (z : ℕ) → basic_checked s ≡ got c z → entries_fit (tabulated c) ≡ true
unfolding basic_checked limited within_limits
checked_fits s c z e =
    then_led (basic_read s) _ e
    (λ d q i on.
    let k = cond_led (within_limits (tabulated d)) d c q z 26 0 (lowest_led (lowest closed_template 0 (tabulated d)) _ c z on) in
    let f = limits_led (leb (length (tabulated d)) 64) (entries_fit (tabulated d)) (leb (length (tree_file (tabulated d))) 65536) k.0 in
    ap (λ (x : Basic). entries_fit (tabulated x)) (sym k.1) ∙ f)

-- ---- the file
module _ {s : List ℕ} {e count : ℕ} {o : List ℕ} (w : WholeIn s e count o) where
  whole_room : 8 + length (templates_bits (tabulated w.few.whole.list)) ≤ 8 * length o
  whole_room = omega (arith, w.exact, file_length (tabulated w.few.whole.list), file_bits_lem w.few.whole.list)

  pub count_fits : (count ≤ 64) × (8 ≤ 8 * length o)
  count_fits = (omega (arith, w.number, tabulated_length w.few.whole.list, w.few.few), omega (arith, whole_room))

  module _ (o₁ : List ℕ) (a₁ : ℕ) (at₁ : a₁ ≡ 8) (is₁ : o₁ ≡ put_bits o 0 (bits_of 8 count)) where
    after_count : (c : List ℕ) → put_bits o₁ a₁ c ≡ put_bits o 0 (bits_of 8 count ++ c)
    after_count c =
        put_next o o₁ (put_bits o₁ a₁ c) 0 a₁ (bits_of 8 count) c (bits_are 8 count) (omega (arith, length_bits 8 count, count_fits.1)) is₁
        (omega (arith, length_bits 8 count)) refl

    pub templates_in : TemplatesIn s e o₁ a₁
    templates_in =
        record {
          few = w.few;
          fit = w.fit;
          room = omega (arith, whole_room, ap length is₁ ∙ put_length o 0 (bits_of 8 count));
          settled = is₁ ∙ sym (after_count [] ∙ ap (put_bits o 0) (append-nil (bits_of 8 count)));
        }

    pub file_put : (o₂ : List ℕ) (a₂ : ℕ) → ((v : TemplatesIn s e o₁ a₁) → PutAt o₁ a₁ (templates_bits (tabulated v.few.whole.list)) a₂ o₂)
        → o₂ ≡ tree_file (tabulated w.few.whole.list)
    unfolding templates_in file_bits
    file_put o₂ a₂ f =
        let ts = tabulated w.few.whole.list in
        let x : o₂ ≡ put_bits o 0 (file_bits ts) =
        (f templates_in).is ∙ after_count (templates_bits ts) ∙ ap (λ (k : ℕ). put_bits o 0 (bits_of 8 k ++ templates_bits ts)) w.number in
        x ∙ put_tree o ts (omega (arith, w.exact))
        ∙ rw (drop_of_length-le o {i = length (tree_file ts)} (omega (arith, w.exact))) (append-nil (tree_file ts))

-- ---- what was checked, tabulated
record Checked (s : List ℕ) (e count size : ℕ) : Type 0 where
  list : Basic
  past : ℕ
  short : length s ≤ 65536
  checked : basic_checked s ≡ got list past
  read : list_at s 15 0 ≡ got list e
  number : count ≡ length (tabulated list)
  few : count ≤ 64
  bits : size ≡ length (file_bits (tabulated list))
  small : size ≤ 524288

checked_is : {s : List ℕ} {q : BitPlace} {count size : ℕ} → CheckedIs s (Ok (q, count, size)) → Checked s q.0 count size
checked_is (accepted q count size c z a b d e f g h) =
    record { list = c; past = z; short = a; checked = b; read = d; number = e; few = f; bits = g; small = h }

module _ {s : List ℕ} {q : BitPlace} {count size : ℕ} (k : CheckedIs s (Ok (q, count, size))) where
  pub checked_short : (length s ≤ 65536) × (size ≤ 524288)
  checked_short = ((checked_is k).short, (checked_is k).small)

  size_is : length (tree_file (tabulated (checked_is k).list)) ≡ (size + 7) / 8
  size_is = file_length (tabulated (checked_is k).list) ∙ ap (λ (n : ℕ). (n + 7) / 8) (sym (checked_is k).bits)

  file_is : (n : ℕ) → tabulated_file s n ≡ into_bytes n (tree_file (tabulated (checked_is k).list)) (8 * length (tree_file (tabulated (checked_is k).list)))
  unfolding tabulated_file then
  file_is n = rw (checked_is k).checked refl

  pub whole_in : (o : List ℕ) → length o ≡ (size + 7) / 8 → WholeIn s q.0 count o
  whole_in o h =
      let c = checked_is k in
      record {
        few = record { whole = record { list = c.list; read = c.read }; few = omega (arith, c.number, c.few, tabulated_length c.list) };
        fit = checked_fits s c.list c.past c.checked;
        number = c.number;
        exact = size_is ∙ sym h;
      }

  module _ (old : List ℕ) where
    pub short_output_lem : length old < (size + 7) / 8
        → (Err (refusal 9 ((size + 7) / 8)) ≡ answered (tabulated_file s (length old))) × (old ≡ written old (tabulated_file s (length old)))
    unfolding into_bytes answered written
    short_output_lem h =
        rw (file_is (length old), lt-leb (length (tree_file (tabulated (checked_is k).list))) (length old) (omega (arith, size_is)), size_is) (refl, refl)

    pub file_written : (size + 7) / 8 ≤ length old → (o o' : List ℕ)
        → ((w : WholeIn s q.0 count (take ((size + 7) / 8) old)) → o ≡ tree_file (tabulated w.few.whole.list)) → o' ≡ o ++ drop ((size + 7) / 8) old
        → (Ok ((size + 7) / 8) ≡ answered (tabulated_file s (length old))) × (o' ≡ written old (tabulated_file s (length old)))
    unfolding into_bytes answered written whole_in
    file_written h o o' f e =
        let w = whole_in (take ((size + 7) / 8) old) (length-take-le ((size + 7) / 8) old h) in
        let d : o ≡ tree_file (tabulated (checked_is k).list) = f w in
        rw (file_is (length old), le-leb (length (tree_file (tabulated (checked_is k).list))) (length old) (omega (arith, size_is)))
        (sym (ap Ok size_is), e ∙ rw (d, size_is) refl)

pub refused_checked : {s : List ℕ} {x : Refusal ℕ} (old : List ℕ) → CheckedIs s (Err x)
    → (Err x ≡ answered (tabulated_file s (length old))) × (old ≡ written old (tabulated_file s (length old)))
unfolding tabulated_file then answered written
refused_checked old (refused_file n p h) = rw h (refl, refl)

pub checked_as : {s : List ℕ} {r r' : Result (BitPlace × ℕ × ℕ) (Refusal ℕ)} → r ≡ r' → CheckedIs s r → CheckedIs s r'
checked_as e x = rw (← e) x
