-- What the readers of a tree file tell of what is read.
use Rattle.std.specs.Prelude.{ℕ, zero, suc, ◌+◌, ◌/◌, ◌%◌, Bool, cond, List, [], ◌∷◌, length, ltb, eqb, Result, Ok, Err}
use Rattle.std.proofs.Math.Option.{Option, none, some}
use Rattle.lists.specs.declared.Facts.{Facts}
use Rattle.lists.specs.Sets.{unite}
use Rattle.lists.specs.Facts.{says_closed, indices_close}
use Rattle.files.specs.Reading.{Got, got, refused}
use Rattle.files.specs.Tree.{Template}
use Rattle.files.specs.Grammar.{lowest, closed_template, indexed_template}
use Rattle.files.specs.Flat.{offset_template}
use Rattle.files.specs.Linear.{template_bytes, linear_file}
use Rattle.tree.specs.declared.Report.{Report}
use Rattle.tree.specs.declared.Summary.{Summary}
use Rattle.files.specs.declared.Refusal.{Refusal}
use Rattle.files.specs.Refusal.{refusal}
use Rattle.cells.specs.declared.BitPlace.{BitPlace}

-- ---- a template
unfoldable pub report_of : Template → Report
report_of t =
    record {
      closed = closed_template t;
      named = indexed_template t;
      fits = offset_template t;
      size = length (template_bytes t);
      closes = indices_close t.entries t.code;
    }

-- by the facts of its list and the bits of its entries
unfoldable pub report_by : Facts → ℕ → Report
report_by f bits =
    record { closed = says_closed f.class; named = f.named; fits = f.fits; size = 1 + (bits + 7) / 8 + (3 + f.size); closes = f.closes }

unfoldable pub template_told : Got Template → Result (BitPlace × Report) (Refusal BitPlace)
template_told (got t q) = Ok (record { 0 = q }, report_of t)
template_told (refused n p) = Err (refusal n (record { 0 = p }))

-- ---- the templates
-- a template's number, or 64 for none
unfoldable pub number_or64 : Option ℕ → ℕ
number_or64 (some t) = t
number_or64 none = 64

-- the set of the templates that closures name
unfoldable pub closes_of : List Template → ℕ
closes_of [] = 0
closes_of (t ∷ ts) = unite (indices_close t.entries t.code) (closes_of ts)

unfoldable pub summary_of : List Template → Summary
summary_of ts =
    record {
      count = length ts;
      unclosed = number_or64 (lowest closed_template 0 ts);
      misnamed = number_or64 (lowest indexed_template 0 ts);
      far = number_or64 (lowest offset_template 0 ts);
      size = length (linear_file ts);
      closes = closes_of ts;
    }

unfoldable pub templates_told : Got (List Template) → Result (BitPlace × Summary) (Refusal BitPlace)
templates_told (got ts q) = Ok (record { 0 = q }, summary_of ts)
templates_told (refused n p) = Err (refusal n (record { 0 = p }))

-- ---- one template after the other
-- the lowest that a test refuses, where it is low up to template own
unfoldable pub lower : Bool → ℕ → ℕ → ℕ
lower ok own low = cond ok low (cond (ltb low 64) low own)

unfoldable pub summary_after : ℕ → Report → Summary → Summary
summary_after own r m =
    record {
      count = m.count;
      unclosed = lower r.closed own m.unclosed;
      misnamed = lower r.named own m.misnamed;
      far = lower r.fits own m.far;
      size = m.size + r.size;
      closes = unite m.closes r.closes;
    }

-- the summary of a file of T templates, of which none is read yet
unfoldable pub begun : ℕ → Summary
begun T = record { count = T; unclosed = 64; misnamed = 64; far = 64; size = 1; closes = 0 }

-- after the templates from number own on
unfoldable pub summary_from : ℕ → Summary → List Template → Summary
summary_from own m [] = m
summary_from own m (t ∷ ts) = summary_from (own + 1) (summary_after own (report_of t) m) ts

unfoldable pub told_from : ℕ → Summary → Got (List Template) → Result (BitPlace × Summary) (Refusal BitPlace)
told_from own m (got ts q) = Ok (record { 0 = q }, summary_from own m ts)
told_from own m (refused n p) = Err (refusal n (record { 0 = p }))

-- ---- the file
unfoldable pub tree_told : Got (List Template) → Result Summary (Refusal BitPlace)
tree_told (got ts q) = Ok (summary_of ts)
tree_told (refused n p) = Err (refusal n (record { 0 = p }))

-- the lowest of n numbers from u on that is not in a set, whose lowest digit is for u (64: none)
unfoldable pub lowest_missing : ℕ → ℕ → ℕ → ℕ
lowest_missing set u zero = 64
lowest_missing set u (suc n) = cond (eqb (set % 2) 1) (lowest_missing (set / 2) (u + 1) n) u

unfoldable pub judged_told : Got (List Template) → Result Summary (Refusal ℕ)
judged_told (got ts q) = Ok (summary_of ts)
judged_told (refused n p) = Err (refusal n p)

unfoldable pub checked_told : Got (List Template) → Result (Unit {0}) (Refusal ℕ)
checked_told (got ts q) = Ok (tt {0})
checked_told (refused n p) = Err (refusal n p)
