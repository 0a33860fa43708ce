-- The summary of the templates, one after the other, is the summary of all. Assumes nothing.
use Rattle.std.specs.Prelude.{ℕ, ◌+◌, ◌/◌, ◌≤◌, ◌<◌, ◌≡◌, refl, Bool, true, false, cond, List, [], ◌∷◌, ◌++◌, length}
use Rattle.std.proofs.Common.{add-zero, add_assoc, arith, ap, ◌∙◌, lt-ltb, length-append}
use Rattle.std.proofs.Math.Option.{some}
use Rattle.files.specs.laws.EntriesLaws.{bytes_length}
use Rattle.files.specs.Tree.{Template}
use Rattle.files.specs.Flat.{flat, offset_template}
use Rattle.files.specs.Grammar.{lowest, closed_template, indexed_template}
use Rattle.files.specs.Linear.{entries_bits, bytes_of, three_bytes, template_bytes, templates_bytes, linear_file}
use Rattle.lists.specs.Sets.{unite}
use Rattle.lists.specs.laws.SetsLaws.{unite_zero, unite_assoc}
use Rattle.tree.specs.declared.Summary.{Summary}
use Rattle.tree.specs.Summary.{report_of, number_or64, closes_of, summary_of, lower, summary_after, begun, summary_from}

-- ---- how many bytes a template takes
pub template_length : (t : Template) → length (template_bytes t) ≡ 1 + (length (entries_bits t.entries) + 7) / 8 + (3 + length (flat t.code))
unfolding template_bytes
template_length t =
    length-append (length t.entries ∷ bytes_of (entries_bits t.entries)) (three_bytes (length (flat t.code)) ++ flat t.code)
    ∙ (let k = bytes_length (entries_bits t.entries) in omega arith)

-- ---- the lowest template that a test refuses
low_from : (Template → Bool) → ℕ → ℕ → List Template → ℕ
low_from ok own low [] = low
low_from ok own low (t ∷ ts) = low_from ok (own + 1) (lower (ok t) own low) ts

low_kept : (ok : Template → Bool) (own low : ℕ) (ts : List Template) → low < 64 → low_from ok own low ts ≡ low
unfolding lower low_from
low_kept ok own low [] h = refl
low_kept ok own low (t ∷ ts) h = ap (λ (x : ℕ). low_from ok (own + 1) x ts) (kept (ok t)) ∙ low_kept ok (own + 1) low ts h
  where
    kept : (b : Bool) → lower b own low ≡ low
    kept true = refl
    kept false = rw (lt-ltb low 64 h)

low_none : (ok : Template → Bool) (own : ℕ) (ts : List Template) → own + length ts ≤ 64 → low_from ok own 64 ts ≡ number_or64 (lowest ok own ts)
unfolding lower low_from lowest number_or64
low_none ok own [] h = refl
low_none ok own (t ∷ ts) h = go (ok t) (low_none ok (own + 1) ts (omega arith))
  where
    go : (b : Bool) → low_from ok (own + 1) 64 ts ≡ number_or64 (lowest ok (own + 1) ts)
        → low_from ok (own + 1) (lower b own 64) ts ≡ number_or64 (cond b (lowest ok (own + 1) ts) (some own))
    go true e = e
    go false e = low_kept ok (own + 1) own ts (omega arith)

-- ---- the summary
summary_from_lem : (own : ℕ) (m : Summary) (ts : List Template) → summary_from own m ts ≡ record {
  count = m.count;
  unclosed = low_from closed_template own m.unclosed ts;
  misnamed = low_from indexed_template own m.misnamed ts;
  far = low_from offset_template own m.far ts;
  size = m.size + length (templates_bytes ts);
  closes = unite m.closes (closes_of ts);
}
unfolding summary_from summary_after report_of templates_bytes low_from closes_of
summary_from_lem own m [] = rw (add-zero, unite_zero m.closes) refl
summary_from_lem own m (t ∷ ts) = summary_from_lem (own + 1) (summary_after own (report_of t) m) ts ∙ simp (length-append, add_assoc, unite_assoc)

pub summary_all : (ts : List Template) → length ts ≤ 64 → summary_from 0 (begun (length ts)) ts ≡ summary_of ts
unfolding begun summary_of linear_file unite
summary_all ts h =
    summary_from_lem 0 (begun (length ts)) ts
    ∙ rw (low_none closed_template 0 ts (omega arith), low_none indexed_template 0 ts (omega arith), low_none offset_template 0 ts (omega arith))
    (λ i. record {
      count = length ts;
      unclosed = number_or64 (lowest closed_template 0 ts);
      misnamed = number_or64 (lowest indexed_template 0 ts);
      far = number_or64 (lowest offset_template 0 ts);
      size = one i;
      closes = closes_of ts;
    })
  where
    one : 1 + length (templates_bytes ts) ≡ length (length ts ∷ templates_bytes ts)
    one = omega arith
