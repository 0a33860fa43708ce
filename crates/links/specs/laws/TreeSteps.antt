-- The links of a whole tree file, template by template. Assumes nothing.
use Rattle.std.specs.Prelude.{ℕ, zero, suc, ◌+◌, ◌*◌, ◌≤◌, ◌<◌, ◌≡◌, List, [], ◌∷◌, length}
use Rattle.std.proofs.Math.Numerals.{add-one}
use Rattle.std.proofs.Math.Nat.{add-zero}
use Rattle.std.proofs.Common.{arith, sym, ap, ◌∙◌, drop-cons}
use Rattle.std.proofs.Math.Path.{refl}
use Rattle.std.proofs.Math.ListN.{get_or}
use Rattle.std.proofs.Math.Seq.{drop-length}
use Rattle.files.specs.Code.{done, bits}
use Rattle.files.specs.Reading.{Got, got, list_at}
use Rattle.files.specs.laws.AllGot.{got_value, tree_read_lem}
use Rattle.files.specs.laws.TableLaws.{row_start, tree_slot}
use Rattle.files.specs.Tree.{Template, tree_read}
use Rattle.links.specs.Links.{linked, linked_all}
use Rattle.lists.specs.declared.Keep.TheVariants.{Pasts}
use Rattle.lists.specs.laws.MarksLaws.{still_in}
use Rattle.tree.specs.laws.Laid.{short, template_there, template_order}
use Rattle.links.specs.Parts.{ToLink, linked_got}
use Rattle.links.specs.laws.LinksLaws.{linked_other}
use Rattle.links.specs.TreeSteps.{linked_from, FileReady, HasPasts}

-- within a list what is put where nothing stands does not matter
get_d_any : {A : Type 0} (xs : List A) (i : ℕ) (d e : A) → i < length xs → get_or xs i d ≡ get_or xs i e
get_d_any [] i d e h = absurd (omega arith)
get_d_any (x ∷ xs) zero d e h = refl
get_d_any (x ∷ xs) (suc i) d e h = get_d_any xs i d e (omega arith)

module _ {s table : List ℕ} {count : ℕ} (r : FileReady s table count) where
  pub ready_short : length s ≤ 65536
  ready_short = short s r.read

  pub at_most_64 : count ≤ 64
  at_most_64 = omega (arith, tree_read_lem s r.read, r.counted)

  -- nothing is left when all are linked
  pub linked_all_lem : (L : List ℕ) (n : ℕ) → n ≡ count → linked_from L n (tree_read s) ≡ L
  unfolding linked_from linked_all
  linked_all_lem L n e = rw (r.read, e, r.counted) (ap (linked_all L) (drop-length r.templates))

  -- the file's templates are the ones that were read
  pub templates_same : (L : List ℕ) (n : ℕ) → HasPasts L n r.templates → (ts : List Template) (q : ℕ) → tree_read s ≡ got ts q → HasPasts L n ts
  templates_same L n h ts q e = rw (← (got_value (sym r.read ∙ e)).0) h

  abbrev none : Template
  none = record { entries = []; start = 0; code = done }

  module _ (own : ℕ) (lt : own < count) where
    template : Template
    template = get_or r.templates own none

    within : own < length r.templates
    within = omega (arith, r.counted)

    slot_start : get_or table (256 * own) 0 ≡ template.start
    unfolding template
    slot_start =
        let e = tree_slot r.size r.templates (tree_read_lem s r.read).1.1 own 0 none within (omega arith) in
        rw r.tabled (rw add-zero at e ∙ row_start _ _)

    list_is : list_at s 15 (get_or table (256 * own) 0) ≡ got template.code (template.start + bits template.code)
    unfolding template
    list_is = rw slot_start (template_there s r.read own none within).2.list

    module _ (L : List ℕ) (has : HasPasts L own r.templates) where
      pub list_to_link : ToLink s L 15 (get_or table (256 * own) 0)
      unfolding template
      list_to_link =
          record {
            code = template.code;
            past = template.start + bits template.code;
            read = list_is;
            has = rw slot_start (has own none (omega arith) within);
          }

      -- the lists of the templates after it keep what they have
      pub next_has : {L' : List ℕ} → L' ≡ linked_got L (get_or table (256 * own) 0) 0 0 (list_at s 15 (get_or table (256 * own) 0))
          → HasPasts L' (own + 1) r.templates
      unfolding linked_got template
      next_has {L'} e i d h l =
          let is : L' ≡ linked L template.start 0 0 template.code = e ∙ rw (list_is, slot_start) refl in
          let order = template_order s r.read own i d (omega arith) l in
          let same : get_or r.templates own d ≡ template = get_d_any r.templates own d none within in
          rw is (still_in Pasts L _ _ _ (λ j a b. linked_other L template.start 0 0 template.code j (λ a' b'. omega (arith, rw same at order)))
          (has i d (omega arith) l))

    -- one template more
    pub template_linked : (L : List ℕ)
        → linked_from L own (tree_read s) ≡ linked_from (linked_got L (get_or table (256 * own) 0) 0 0 (list_at s 15 (get_or table (256 * own) 0))) (own + 1)
        (tree_read s)
    unfolding linked_from linked_all linked_got template
    template_linked L = rw (list_is, r.read, slot_start, add-one own) (ap (linked_all L) (drop-cons r.templates own none within))

pub linked_on : {goal A L : List ℕ} (n : ℕ) (g : Got (List Template)) → goal ≡ linked_from A n g → L ≡ A → goal ≡ linked_from L n g
linked_on n g h k = rw k h
