-- The templates of a tree file that is read: their lists stand in it one after the other, so each keeps its marks. Assumes nothing.
use Prim.Native.Nat.{ℕ, zero, suc, ◌+◌, ◌*◌, ◌≤◌, ◌<◌}
use Rattle.std.proofs.Common.{add-zero, zero-add, arith, sym, ap, ◌∙◌}
use Rattle.std.specs.Prelude.{◌≡◌, refl, List, [], ◌∷◌, length, get_or}
use Rattle.files.specs.Code.{bits}
use Rattle.files.specs.laws.EntriesLaws.{EntriesOk, entries_read}
use Rattle.files.specs.Reading.{got, list_at}
use Rattle.files.specs.laws.ReadingLaws.{list_bits_lem}
use Rattle.files.specs.laws.AllGot.{got_value, field_got_lem}
use Rattle.files.specs.Tree.{Template, template_at, templates_at, tree_read}
use Rattle.lists.specs.declared.Keep.{Keep}
use Rattle.lists.specs.Marks.{marked, Has}
use Rattle.lists.specs.laws.MarksLaws.{marked_long, marked_kept, still_has, marked_holds}
use Rattle.tree.specs.Marked.{marked_all}
use Rattle.tree.specs.laws.Parts.{template_parts, templates_parts, templates_count, FileParts, tree_parts}

-- ---- one template after the other
-- template own of T, read from p on
pub record TemplateLaid (s : List ℕ) (T own p : ℕ) (t : Template) : Type 0 where
  pub begins : p + 8 ≤ t.start
  pub list : list_at s 15 t.start ≡ got t.code (t.start + bits t.code)
  pub within : t.start + bits t.code ≤ 8 * length s
  pub entries_ok : EntriesOk own T t.entries

unfoldable pub Laid : List ℕ → ℕ → ℕ → ℕ → List Template → Type 0
Laid s T own p [] = Unit
Laid s T own p (t ∷ ts) = TemplateLaid s T own p t × Laid s T (own + 1) (t.start + bits t.code) ts

module _ (s : List ℕ) (T : ℕ) (few : T ≤ 64) where
  template_laid : (own p : ℕ) {t : Template} {q : ℕ} → template_at s own T p ≡ got t q → TemplateLaid s T own p t × (q ≡ t.start + bits t.code)
  template_laid own p {t} {q} e =
      let a = template_parts s own T p e in
      let g = entries_read s own T few a.count a.first a.entries in
      let f : a.first ≡ p + 8 = (field_got_lem s p 8 a.counted).1 in
      let b = list_bits_lem s 15 t.start t.code q a.list in
      (record { begins = omega (arith, g.past); list = a.list ∙ ap (got t.code) b.0; within = omega arith; entries_ok = g.ok }, b.0)

  templates_laid : (n own p : ℕ) {ts : List Template} {q : ℕ} → templates_at s T own n p ≡ got ts q → Laid s T own p ts
  unfolding templates_at Laid
  templates_laid zero own p e = rw (← (got_value e).0) tt
  templates_laid (suc n) own p e =
      let a = templates_parts s T own n p e in
      let f = template_laid own p a.first in
      rw a.are (f.0, rw f.1 at (templates_laid n (own + 1) a.next a.rest))

-- what is known of template i, and where it begins
laid_at : (s : List ℕ) (T own p : ℕ) (ts : List Template) (i : ℕ) (d : Template) → Laid s T own p ts → i < length ts
    → (q : ℕ) × (p ≤ q) × TemplateLaid s T (own + i) q (get_or ts i d)
unfolding Laid
laid_at s T own p [] i d h l = absurd (omega arith)
laid_at s T own p (t ∷ ts) zero d h l = (p, omega arith, rw (add-zero own) h.0)
laid_at s T own p (t ∷ ts) (suc i) d h l =
    let e : own + suc i ≡ own + 1 + i = omega arith in
    let k = laid_at s T (own + 1) _ ts i d h.1 (omega arith) in
    (k.0, omega (arith, h.0.begins), rw e k.2)

same_laid : {s : List ℕ} {T T' own own' p : ℕ} {t : Template} → T ≡ T' → own ≡ own' → TemplateLaid s T own p t → TemplateLaid s T' own' p t
same_laid e f h = rw (← e, ← f) h

-- a template's list ends before the next one's begins
laid_order : (s : List ℕ) (T own p : ℕ) (ts : List Template) (i j : ℕ) (d : Template) → Laid s T own p ts → i < j → j < length ts
    → (get_or ts i d).start + bits (get_or ts i d).code ≤ (get_or ts j d).start
unfolding Laid
laid_order s T own p [] i j d h l m = absurd (omega arith)
laid_order s T own p (t ∷ ts) i zero d h l m = absurd (omega arith)
laid_order s T own p (t ∷ ts) zero (suc j) d h l m =
    let k = laid_at s T (own + 1) _ ts j d h.1 (omega arith) in
    omega (arith, k.2.begins)
laid_order s T own p (t ∷ ts) (suc i) (suc j) d h l m = laid_order s T (own + 1) _ ts i j d h.1 (omega arith) (omega arith)

-- ---- marks
-- those before p stay
laid_kept : (k : Keep) (s M : List ℕ) (T own p : ℕ) (ts : List Template) → Laid s T own p ts → (i : ℕ) → 5 * i + 5 ≤ p
    → get_or (marked_all k M ts) i 0 ≡ get_or M i 0
unfolding Laid marked_all
laid_kept k s M T own p [] h i b = refl
laid_kept k s M T own p (t ∷ ts) h i b =
    laid_kept k s (marked k M t.start t.code) T _ _ ts h.1 i (omega (arith, h.0.begins)) ∙ marked_kept k M t.start t.code i (λ x y. omega (arith, h.0.begins))

laid_marked : (k : Keep) (s M : List ℕ) (T own p : ℕ) (ts : List Template) (i : ℕ) (d : Template) → 8 * length s ≤ 5 * length M → Laid s T own p ts
    → i < length ts → Has k (marked_all k M ts) (get_or ts i d).start (get_or ts i d).code
unfolding Laid marked_all
laid_marked k s M T own p [] i d long h l = absurd (omega arith)
laid_marked k s M T own p (t ∷ ts) zero d long h l =
    let M₁ = marked k M t.start t.code in
    still_has k M₁ (marked_all k M₁ ts) t.start t.code (λ i a b. laid_kept k s M₁ T _ _ ts h.1 i b)
    (marked_holds k M t.start t.code (omega (arith, h.0.within)))
laid_marked k s M T own p (t ∷ ts) (suc i) d long h l =
    let M₁ = marked k M t.start t.code in
    let m : length M₁ ≡ length M = marked_long k M t.start t.code in
    laid_marked k s M₁ T _ _ ts i d (omega arith) h.1 (omega arith)

-- ---- the file
module _ (s : List ℕ) {ts : List Template} {q : ℕ} (read : tree_read s ≡ got ts q) where
  pub parts : FileParts s ts q
  parts = tree_parts s read

  pub laid : Laid s parts.count 0 parts.first ts
  laid = templates_laid s parts.count parts.few parts.count 0 parts.first parts.read

  pub short : length s ≤ 65536
  short = parts.short

  counted : length ts ≡ parts.count
  counted = templates_count s parts.count parts.count 0 parts.first parts.read

  pub template_order : (i j : ℕ) (d : Template) → i < j → j < length ts → (get_or ts i d).start + bits (get_or ts i d).code ≤ (get_or ts j d).start
  template_order i j d = laid_order s parts.count 0 parts.first ts i j d laid

  module _ (i : ℕ) (d : Template) (h : i < length ts) where
    -- what is known of template i
    pub template_there : (p : ℕ) × (8 ≤ p) × TemplateLaid s (length ts) i p (get_or ts i d)
    template_there =
        let a = laid_at s parts.count 0 parts.first ts i d laid h in
        (a.0, omega (arith, field_got_lem s 0 8 parts.counted), same_laid (sym counted) (zero-add i) a.2)

    -- THE LAW: its list and the lists inside have their marks
    pub template_has : (k : Keep) (M : List ℕ) → 8 * length s ≤ 5 * length M → Has k (marked_all k M ts) (get_or ts i d).start (get_or ts i d).code
    template_has k M long = laid_marked k s M parts.count 0 parts.first ts i d long laid h
