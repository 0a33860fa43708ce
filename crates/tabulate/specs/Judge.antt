-- Judging and measuring all templates, in the order of their numbers.
use Rattle.std.specs.Prelude.{ℕ, suc, ◌+◌, ◌≤◌, ◌<◌, ◌≡◌, true, false, List, ◌∷◌, length, Option, Some, None, Result, Ok, Err}
use Rattle.std.proofs.Math.Option.{none, some}
use Rattle.cells.specs.declared.BitPlace.{BitPlace}
use Rattle.files.specs.Reading.{got, refused}
use Rattle.files.specs.Tree.{Template}
use Rattle.files.specs.Grammar.{lowest, closed_template}
use Rattle.tree_file.specs.File.{templates_bits, file_bits}
use Rattle.basic.specs.Basic.{Basic}
use Rattle.basic.specs.Reading.{list_at, basic_read}
use Rattle.basic.specs.Tabulated.{inside, template_of, tabulated}
use Rattle.basic.specs.Checked.{entries_fit, basic_checked}
use Rattle.basic.specs.Forest.{Lists, inside_all, closures_all}
use Rattle.files.specs.declared.Refusal.{Refusal}
use Rattle.files.specs.Refusal.{refusal}

-- a file's list, which ends at e
pub record ListIn (s : List ℕ) (e : ℕ) : Type 0 where
  pub list : Basic
  pub read : list_at s 15 0 ≡ got list e

-- with at most 64 templates
pub record FewIn (s : List ℕ) (e : ℕ) : Type 0 where
  pub whole : ListIn s e
  pub few : inside whole.list < 64

pub data ClosedIs (c : Basic) : Result ℕ ℕ → Type 0 where
  all_closed : (n : ℕ) → lowest closed_template 0 (tabulated c) ≡ none → n ≡ suc (inside c) → ClosedIs c (Ok n)
  but_one : (t : ℕ) → lowest closed_template 0 (tabulated c) ≡ some t → ClosedIs c (Err t)

pub data MeasuredIs (ts : List Template) : Option ℕ → Type 0 where
  too_large : entries_fit ts ≡ false → MeasuredIs ts None
  measured : (b : ℕ) → entries_fit ts ≡ true → b ≡ length (templates_bits ts) → b ≤ 134217728 → MeasuredIs ts (Some b)

-- the templates from number own on, the list of which begins at p; m in all have a higher number than 0
pub record From (s : List ℕ) (e own p m : ℕ) : Type 0 where
  pub first : Basic
  pub others : List Basic
  pub stand : Lists s e p (first ∷ others)
  pub number : m ≡ own + inside_all (first ∷ others)

abbrev pub templates_from : {s : List ℕ} {e own p m : ℕ} → From s e own p m → List Template
templates_from {own = own} f = template_of (own + 1) f.first ∷ closures_all (own + 1) (f.first ∷ f.others)

-- a file that was read, whose lists are closed, with so many templates
pub record JudgedIn (s : List ℕ) (e count : ℕ) : Type 0 where
  pub whole : ListIn s e
  pub past : ℕ
  pub read : basic_read s ≡ got whole.list past
  pub closed : lowest closed_template 0 (tabulated whole.list) ≡ none
  pub number : count ≡ suc (inside whole.list)

-- 1 to 6 and 26
pub data CheckedIs (s : List ℕ) : Result (BitPlace × ℕ × ℕ) (Refusal ℕ) → Type 0 where
  accepted : (q : BitPlace) (count size : ℕ) (c : Basic) (z : ℕ) → length s ≤ 65536 → basic_checked s ≡ got c z → list_at s 15 0 ≡ got c q.0
      → count ≡ length (tabulated c) → count ≤ 64 → size ≡ length (file_bits (tabulated c)) → size ≤ 524288 → CheckedIs s (Ok (q, count, size))
  refused_file : (n p : ℕ) → basic_checked s ≡ refused n p → CheckedIs s (Err (refusal n p))
