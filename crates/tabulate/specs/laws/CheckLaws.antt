-- Checking a basic file: each test leads to its refusal. Assumes nothing.
use Rattle.std.specs.Prelude.{ℕ, ◌+◌, ◌≤◌, ◌<◌, ◌≡◌, true, cond, List, length, leb, Option, Some, None, Result, Ok, Err}
use Rattle.std.proofs.Common.{arith, sym, ◌∙◌, length-append}
use Rattle.std.proofs.Math.Path.{refl, ap}
use borrow.Author.Tests.{le-leb, lt-leb}
use Rattle.cells.specs.declared.BitPlace.{BitPlace}
use Rattle.files.specs.Reading.{got, refused}
use Rattle.files.specs.Entries.{then}
use Rattle.files.specs.Accepted.{or_lowest}
use Rattle.files.specs.Linear.{bits_of}
use Rattle.tree_file.specs.File.{templates_bits, file_bits, tree_file}
use Rattle.tree_file.proofs.theorems.Written.{file_length}
use Rattle.basic.specs.Basic.{Basic}
use Rattle.basic.specs.Reading.{list_at, basic_read}
use Rattle.basic.specs.Tabulated.{tabulated}
use Rattle.basic.specs.Checked.{entries_fit, within_limits, limited, basic_checked}
use Rattle.basic.specs.Told.{FileRead, file_read, file_refused}
use Rattle.tabulate.specs.Judge.{ListIn, FewIn, ClosedIs, all_closed, but_one, MeasuredIs, too_large, measured, JudgedIn, CheckedIs, accepted}
use Rattle.tabulate.specs.Judge.{refused_file}
use Rattle.basic.proofs.theorems.WrittenLaws.{tabulated_length}
use Rattle.files.specs.declared.Refusal.{Refusal}
use Rattle.files.specs.Refusal.{refusal}

pub file_bits_lem : (c : Basic) → length (file_bits (tabulated c)) ≡ 8 + length (templates_bits (tabulated c))
unfolding file_bits templates_bits bits_of
file_bits_lem c = length-append (bits_of 8 (length (tabulated c))) (templates_bits (tabulated c))

module _ {s : List ℕ} {e count : ℕ} (w : JudgedIn s e count) where
  checked_by : basic_checked s ≡ cond (within_limits (tabulated w.whole.list)) (got w.whole.list w.past) (refused 26 0)
  unfolding basic_checked then limited or_lowest
  checked_by = rw (w.read, w.closed) refl

  pub many_templates : 64 < count → CheckedIs s (Err (refusal 26 0))
  unfolding within_limits
  many_templates h =
      refused_file 26 0 (checked_by ∙ rw (lt-leb (length (tabulated w.whole.list)) 64 (omega (arith, w.number, tabulated_length w.whole.list))) refl)

  unfoldable pub few_in : count ≤ 64 → FewIn s e
  few_in h = record { whole = w.whole; few = omega (arith, w.number) }

  module _ (few : count ≤ 64) where
    few_leb : leb (length (tabulated w.whole.list)) 64 ≡ true
    few_leb = le-leb (length (tabulated w.whole.list)) 64 (omega (arith, w.number, tabulated_length w.whole.list))

    pub many_in_one : MeasuredIs (tabulated w.whole.list) None → CheckedIs s (Err (refusal 26 0))
    unfolding within_limits
    many_in_one (too_large h) = refused_file 26 0 (checked_by ∙ rw (few_leb, h) refl)

    module _ (b : ℕ) (m : MeasuredIs (tabulated w.whole.list) (Some b)) where
      bits_are : (entries_fit (tabulated w.whole.list) ≡ true) × (8 + b ≡ length (file_bits (tabulated w.whole.list)))
      bits_are = go m
        where
          go : MeasuredIs (tabulated w.whole.list) (Some b)
              → (entries_fit (tabulated w.whole.list) ≡ true) × (8 + b ≡ length (file_bits (tabulated w.whole.list)))
          go (measured b' h k i) = (h, omega (arith, k, file_bits_lem w.whole.list))

      pub bits_small : b ≤ 134217728
      bits_small = go m
        where
          go : MeasuredIs (tabulated w.whole.list) (Some b) → b ≤ 134217728
          go (measured b' h k i) = i

      pub long_file : 524288 < 8 + b → CheckedIs s (Err (refusal 26 0))
      unfolding within_limits
      long_file h =
          let k = bits_are in
          refused_file 26 0
          (checked_by ∙ rw (
            few_leb,
            k.0,
            lt-leb (length (tree_file (tabulated w.whole.list))) 65536
                (omega (arith, file_length (tabulated w.whole.list), k.1)),
          ) refl)

      pub accepted_file : length s ≤ 65536 → (q : BitPlace) → q.0 ≡ e → 8 + b ≤ 524288 → CheckedIs s (Ok (q, count, 8 + b))
      unfolding within_limits
      accepted_file short q i h =
          let k = bits_are in
          accepted q count (8 + b) w.whole.list w.past short
          (checked_by ∙ rw (
            few_leb,
            k.0,
            le-leb (length (tree_file (tabulated w.whole.list))) 65536
                (omega (arith, file_length (tabulated w.whole.list), k.1)),
          ) refl)
          (w.whole.read ∙ ap (got w.whole.list) (sym i)) (omega (arith, w.number, tabulated_length w.whole.list)) few k.1 h

-- ---- by what reading the file told
module _ (s : List ℕ) where
  unread : (n p : ℕ) → basic_read s ≡ refused n p → basic_checked s ≡ refused n p
  unfolding basic_checked then
  unread n p e = rw e refl

  open_list : (c : Basic) (z t : ℕ) → basic_read s ≡ got c z → ClosedIs c (Err t) → basic_checked s ≡ refused 6 t
  unfolding basic_checked then limited or_lowest
  open_list c z t e (but_one t' h) = rw (e, h) refl

  all_in : (c : Basic) (z q n : ℕ) → basic_read s ≡ got c z → list_at s 15 0 ≡ got c q → ClosedIs c (Ok n) → JudgedIn s q n
  all_in c z q n e f (all_closed n' h k) = record { whole = record { list = c; read = f }; past = z; read = e; closed = h; number = k }

module _ {s : List ℕ} where
  pub file_unread : (x : Refusal BitPlace) (r : Result BitPlace (Refusal BitPlace)) → r ≡ Err x → FileRead s r → CheckedIs s (Err (refusal x.0 x.1.0))
  file_unread x r e f = go (rw e at f)
    where
      go : FileRead s (Err x) → CheckedIs s (Err (refusal x.0 x.1.0))
      go (file_refused x' h) = refused_file x.0 x.1.0 (unread s x.0 x.1.0 h)

  pub list_in : (q : BitPlace) (r : Result BitPlace (Refusal BitPlace)) → r ≡ Ok q → FileRead s r → (w : ListIn s q.0) × (length s ≤ 65536)
  list_in q r e f = go (rw e at f)
    where
      go : FileRead s (Ok q) → (w : ListIn s q.0) × (length s ≤ 65536)
      go (file_read q' c z h i j) = (record { list = c; read = j }, h)

  pub not_closed_lem : (q : BitPlace) (r : Result BitPlace (Refusal BitPlace)) → r ≡ Ok q → FileRead s r → (t : ℕ) (k : Result ℕ ℕ) → k ≡ Err t
      → ((w : ListIn s q.0) → ClosedIs w.list k)
      → CheckedIs s (Err (refusal 6 t))
  not_closed_lem q r e f t k g h = go (rw e at f) (λ w. rw (← g) (h w))
    where
      go : FileRead s (Ok q) → ((w : ListIn s q.0) → ClosedIs w.list (Err t)) → CheckedIs s (Err (refusal 6 t))
      go (file_read q' c z a b d) l = refused_file 6 t (open_list s c z t b (l (record { list = c; read = d })))

  pub judged_in : (q : BitPlace) (r : Result BitPlace (Refusal BitPlace)) → r ≡ Ok q → FileRead s r → (n : ℕ) (k : Result ℕ ℕ) → k ≡ Ok n
      → ((w : ListIn s q.0) → ClosedIs w.list k) → JudgedIn s q.0 n
  judged_in q r e f n k g h = go (rw e at f) (λ w. rw (← g) (h w))
    where
      go : FileRead s (Ok q) → ((w : ListIn s q.0) → ClosedIs w.list (Ok n)) → JudgedIn s q.0 n
      go (file_read q' c z a b d) l = all_in s c z q.0 n b d (l (record { list = c; read = d }))

pub measured_as : {s : List ℕ} {e count : ℕ} (w : JudgedIn s e count) (few : count ≤ 64) {r : Option ℕ} (r' : Option ℕ) → r ≡ r'
    → ((f : FewIn s e) → MeasuredIs (tabulated f.whole.list) r) → MeasuredIs (tabulated w.whole.list) r'
unfolding few_in
measured_as w few r' e h = rw (← e) (h (few_in w few))
