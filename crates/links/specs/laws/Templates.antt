-- The templates of a tree file that is read: their lists stand in it one after the other, so each keeps its links. Assumes nothing.
use Rattle.std.specs.Prelude.{ℕ, zero, suc, ◌*◌, ◌≤◌, ◌<◌, ◌≡◌, refl, List, [], ◌∷◌, length, get_or}
use Rattle.std.proofs.Common.{arith, ◌∙◌}
use Rattle.files.specs.Reading.{got}
use Rattle.files.specs.Tree.{Template, tree_read}
use Rattle.tree.specs.laws.Laid.{Laid, parts, laid, template_there}
use Rattle.links.specs.Links.{linked, linked_all}
use Rattle.links.specs.laws.LinksLaws.{Linked, linked_length, Kept, linked_kept, still_linked, linked_holds}
use Rattle.links.specs.laws.Stands.{ListStands, list_stands_there}

-- ---- links
laid_kept : (s L : List ℕ) (T own p : ℕ) (ts : List Template) → Laid s T own p ts → Kept p L (linked_all L ts)
unfolding Laid linked_all
laid_kept s L T own p [] h i b = refl
laid_kept s L T own p (t ∷ ts) h i b =
    laid_kept s (linked L t.start 0 0 t.code) T _ _ ts h.1 i (omega (arith, h.0.begins)) ∙ linked_kept L t.start 0 0 t.code i (omega (arith, h.0.begins))

laid_linked : (s L : List ℕ) (T own p : ℕ) (ts : List Template) (i : ℕ) (d : Template) → 8 * length s ≤ 5 * length L → Laid s T own p ts → i < length ts
    → Linked (linked_all L ts) (get_or ts i d).start 0 0 (get_or ts i d).code
unfolding Laid linked_all
laid_linked s L T own p [] i d long h l = absurd (omega arith)
laid_linked s L T own p (t ∷ ts) zero d long h l =
    let L₁ = linked L t.start 0 0 t.code in
    still_linked L₁ (linked_all L₁ ts) t.start 0 0 t.code (laid_kept s L₁ T _ _ ts h.1)
    (linked_holds L t.start 0 0 t.code (omega (arith, h.0.within)))
laid_linked s L T own p (t ∷ ts) (suc i) d long h l =
    let L₁ = linked L t.start 0 0 t.code in
    let m : length L₁ ≡ length L = linked_length L t.start 0 0 t.code in
    laid_linked s L₁ T _ _ ts i d (omega arith) h.1 (omega arith)

-- ---- the file
module _ (s : List ℕ) {ts : List Template} {q : ℕ} (read : tree_read s ≡ got ts q) (i : ℕ) (d : Template) (h : i < length ts) where
  pub template_stands : ListStands s 15 (get_or ts i d).start (get_or ts i d).code
  template_stands = list_stands_there s 15 _ _ _ (template_there s read i d h).2.list

  -- THE LAW: its links are there
  pub template_links : (L : List ℕ) → 8 * length s ≤ 5 * length L → Linked (linked_all L ts) (get_or ts i d).start 0 0 (get_or ts i d).code
  template_links L long = laid_linked s L (parts s read).count 0 (parts s read).first ts i d long (laid s read) h
