-- What the readers of a tree file leave in the marks at each step, by what is read there. Assumes nothing.
use Prim.Native.Nat.{ℕ, suc, ◌+◌, ◌-◌, ◌≤◌, ◌<◌}
use Rattle.std.proofs.Math.Nat.{sub-zero}
use native.Mathlib.Omega.{arith}
use Rattle.std.specs.Prelude.{◌≡◌, Err}
use Rattle.std.proofs.Math.Path.{refl, sym, ap}
use Rattle.std.proofs.Common.{◌∙◌}
use mathlib.Core.List.{List, []}
use Rattle.cells.specs.laws.Laws.{clash}
use Rattle.cells.specs.declared.BitPlace.{BitPlace}
use Rattle.files.specs.Code.{Code}
use Rattle.files.specs.Reading.{Got, got, refused, list_at}
use Rattle.files.specs.Entries.{Entry, then, field, entries_at}
use Rattle.files.specs.laws.AllGot.{got_value}
use Rattle.files.specs.Tree.{Template, template_at, templates_at, tree_read}
use Rattle.lists.specs.declared.Keep.{Keep}
use Rattle.lists.specs.Marks.{marked, list_marked}
use Rattle.tree.specs.Summary.{template_told, templates_told, tree_told}
use Rattle.tree.specs.Marked.{marked_all, template_marked, templates_marked}
use Rattle.tree.specs.laws.Parts.{templates_parts, tree_parts}
use Rattle.files.specs.Refusal.{refusal}

-- one promise more, also by the first
pub also : {A B C : Type 0} → A × B → C → A × (B × C)
also d m = (d.0, (d.1, m))

pub also_by : {A B C : Type 0} → A × B → (A → C) → A × (B × C)
also_by d f = (d.0, (d.1, f d.0))

module _ (k : Keep) (M M' : List ℕ) where
  -- ---- where reading refuses
  pub template_unmarked : (g : Got Template) {n : ℕ} {x : BitPlace} → Err (refusal n x) ≡ template_told g → template_marked k M M' g
  unfolding template_told template_marked
  template_unmarked (got t q) e = clash (cc)
  template_unmarked (refused n x) e = tt

  pub templates_unmarked : (g : Got (List Template)) {n : ℕ} {x : BitPlace} → Err (refusal n x) ≡ templates_told g → templates_marked k M M' g
  unfolding templates_told templates_marked
  templates_unmarked (got ts q) e = clash (cc)
  templates_unmarked (refused n x) e = tt

  pub tree_unmarked : (g : Got (List Template)) {n : ℕ} {x : BitPlace} → Err (refusal n x) ≡ tree_told g → templates_marked k M M' g
  unfolding tree_told templates_marked
  tree_unmarked (got ts q) e = clash (cc)
  tree_unmarked (refused n x) e = tt

  -- ---- a template
  pub template_marked_lem : (s : List ℕ) (own T p : ℕ) {n q r z : ℕ} {es : List Entry} {c : Code} → field s p 8 ≡ got n q → entries_at s own T n q ≡ got es r
      → list_at s 15 r ≡ got c z → list_marked k M M' r (list_at s 15 r) → template_marked k M M' (template_at s own T p)
  unfolding template_at then template_marked list_marked
  template_marked_lem s own T p e f g m = rw (e, f, g) (rw g at m)

  -- ---- the file, by its templates
  pub tree_marked : (s : List ℕ) {T p : ℕ} → field s 0 8 ≡ got T p → templates_marked k M M' (templates_at s T 0 T p) → templates_marked k M M' (tree_read s)
  unfolding templates_marked
  tree_marked s {T} {p} counted m = go (tree_read s) refl
    where
      go : (g : Got (List Template)) → tree_read s ≡ g → templates_marked k M M' g
      go (got ts q) e =
          let a = tree_parts s e in
          let v = got_value (sym counted ∙ a.counted) in
          let r : templates_at s T 0 T p ≡ got ts a.past = rw (← v.0, ← v.1) at a.read in
          rw r at m
      go (refused n x) e = tt

-- ---- one template after the other
-- what is left of the templates us, where the marks were M₀ and past them is q, when the reader is at p and the marks are M
pub record RestTemplates (k : Keep) (s : List ℕ) (T : ℕ) (M₀ M : List ℕ) (own p : ℕ) (us : List Template) (q : ℕ) : Type 0 where
  pub rest : List Template
  pub read : templates_at s T own (T - own) p ≡ got rest q
  pub same : marked_all k M₀ us ≡ marked_all k M rest

module _ (k : Keep) (s : List ℕ) (T : ℕ) (M₀ : List ℕ) (p₀ : ℕ) where
  abbrev pub Marking : List ℕ → ℕ → ℕ → Type 0
  Marking M own p = (us : List Template) (q : ℕ) → templates_at s T 0 T p₀ ≡ got us q → RestTemplates k s T M₀ M own p us q

  pub marking_begun : Marking M₀ 0 p₀
  marking_begun us q e = record { rest = us; read = rw sub-zero e; same = refl }

  module _ {M : List ℕ} {own p : ℕ} (going : Marking M own p) where
    pub marking_more : (M' : List ℕ) {t : Template} {z : ℕ} → own < T → template_at s own T p ≡ got t z → template_marked k M M' (template_at s own T p)
        → Marking M' (own + 1) z
    unfolding template_marked marked_all
    marking_more M' {t} {z} less e m us q r =
        let g = going us q r in
        let n : T - own ≡ suc (T - (own + 1)) = omega arith in
        let a = templates_parts s T own (T - (own + 1)) p (rw n at g.read) in
        let v = got_value (sym a.first ∙ e) in
        let w : M' ≡ marked k M t.start t.code = rw e at m in
        record {
          rest = a.tail;
          read = rw (← v.1) a.rest;
          same = g.same ∙ ap (marked_all k M) a.are ∙ rw (w, v.0) refl;
        }

    pub marking_done : T ≤ own → templates_marked k M₀ M (templates_at s T 0 T p₀)
    unfolding templates_marked templates_at marked_all
    marking_done h = go (templates_at s T 0 T p₀) refl
      where
        go : (g : Got (List Template)) → templates_at s T 0 T p₀ ≡ g → templates_marked k M₀ M g
        go (got us q) e =
            let g = going us q e in
            let n : T - own ≡ 0 = omega arith in
            let r : [] ≡ g.rest = (got_value (rw n at g.read)).0 in
            sym (g.same ∙ ap (marked_all k M) (sym r))
        go (refused n x) e = tt
