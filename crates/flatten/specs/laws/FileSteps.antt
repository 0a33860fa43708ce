-- What the writer of the templates does at each step, and the flattener by what was read. Assumes nothing.
use Rattle.std.specs.Prelude.{ℕ, suc, ◌+◌, ◌*◌, ◌-◌, ◌≤◌, ◌<◌, ◌≡◌, true, get_or, set, Result, Ok, Err}
use Rattle.std.proofs.Common.{add-zero, ◌∙◌, subst}
use Rattle.std.proofs.Math.Nat.{zero-add, sub-zero}
use native.Mathlib.Omega.{arith}
use Rattle.std.proofs.Math.Path.{refl, sym, ap}
use mathlib.Core.List.{List, [], ◌∷◌, ◌++◌, append_assoc}
use Rattle.std.proofs.Math.Option.{none}
use borrow.Author.Tests.{le-leb, lt-leb}
use Rattle.std.proofs.Math.ListN.{length, length-append}
use Rattle.std.proofs.Math.Seq.{sets, get_or-append_seam}
use Rattle.std.proofs.lemmas.List.Edits.{sets-eq}
use Rattle.files.specs.Reading.{got, refused}
use Rattle.files.specs.Entries.{then}
use Rattle.files.specs.Grammar.{lowest}
use Rattle.files.specs.Flat.{offset_template}
use Rattle.files.specs.laws.AcceptedLaws.{accepted_checked, checked_read}
use Rattle.files.specs.Accepted.{or_lowest, tree_accepted, flat_accepted}
use Rattle.files.specs.Linear.{template_bytes, templates_bytes, linear_file}
use Rattle.files.specs.Tree.{Template, templates_at, tree_read}
use Rattle.files.specs.Table.{tree_table}
use Rattle.files.specs.Room.{ZerosFor}
use Rattle.files.specs.laws.TableLaws.{Few, tree_entries, row_start, tree_slot}
use Rattle.files.specs.laws.AllGot.{got_value, field_got_lem, tree_read_lem}
use Rattle.files.specs.laws.AcceptedLaws.{lowest_none}
use Rattle.tree.specs.declared.Summary.{Summary}
use Rattle.tree.specs.Summary.{number_or64, summary_of, judged_told}
use Rattle.tree.specs.Filled.{tree_filled}
use Rattle.tree.specs.laws.FilledLaws.{tree_tabled, tree_rows_there}
use Rattle.tree.specs.laws.Parts.{TemplatesParts, templates_parts, templates_count, FileParts, tree_parts}
use Rattle.tree.specs.laws.Judged.{ReadAs, judged_told_lem, number_some, number_none}
use Rattle.cells.specs.laws.Lists.{sets_append}
use Rattle.lists.specs.declared.Keep.TheVariants.{Sizes}
use Rattle.lists.specs.Marks.{Has}
use Rattle.tree.specs.Marked.{marked_all, templates_marked}
use Rattle.tree.specs.laws.Laid.{template_has}
use Rattle.flatten.specs.declared.Past.{Past}
use Rattle.files.specs.Outcome.{into_bytes, answered, written}
use Rattle.flatten.specs.Flatten.{flattened}
use Rattle.flatten.specs.ToFlatten.{TemplateToWrite, TemplateDone, Flattenable, TemplatesToWrite}
use Rattle.files.specs.declared.Refusal.{Refusal}
use Rattle.files.specs.Refusal.{refusal}

-- ---- the templates that are left, own to T, which stand at p and go into o from f on
pub record Left (s table M : List ℕ) (T room own p f : ℕ) (o₀ o : List ℕ) : Type 0 where
  pub now : TemplatesToWrite s table M T own p f room
  pub same : (w : TemplatesToWrite s table M T 0 8 1 room) → sets o₀ 1 (templates_bytes w.templates) ≡ sets o f (templates_bytes now.templates)

module _ (s table M : List ℕ) (T room : ℕ) (o₀ : List ℕ) where
  pub left_all : TemplatesToWrite s table M T 0 8 1 room → Left s table M T room 0 8 1 o₀ o₀
  left_all v = record { now = v; same = λ w. ap (λ (ts : List Template). sets o₀ 1 (templates_bytes ts)) (got_value (sym w.read ∙ v.read)).0 }

  module _ (own p f : ℕ) (o : List ℕ) (left : Left s table M T room own p f o₀ o) where
    pub left_none : T ≤ own → (w : TemplatesToWrite s table M T 0 8 1 room) → o ≡ sets o₀ 1 (templates_bytes w.templates)
    unfolding templates_at templates_bytes
    left_none h w =
        let k : T - own ≡ 0 = omega arith in
        let e : [] ≡ left.now.templates = (got_value (rw k at left.now.read)).0 in
        sym (left.same w ∙ ap (λ (ts : List Template). sets o f (templates_bytes ts)) (sym e))

    module _ (less : own < T) where
      pub this : TemplatesParts s T own (T - (own + 1)) p left.now.templates left.now.past
      this = let k : T - own ≡ suc (T - (own + 1)) = omega arith in templates_parts s T own (T - (own + 1)) p (rw k at left.now.read)

      pub this_good : (get_or table (256 * own) 0 ≡ this.head.start) × (offset_template this.head ≡ true) × Has Sizes M this.head.start this.head.code
          × Flattenable table M (own + 1) this.tail
      unfolding Flattenable
      this_good = rw this.are at left.now.good

      pub these_bytes : length (templates_bytes left.now.templates) ≡ length (template_bytes this.head) + length (templates_bytes this.tail)
      unfolding templates_bytes
      these_bytes =
          ap (λ (ts : List Template). length (templates_bytes ts)) this.are ∙ length-append (template_bytes this.head) (templates_bytes this.tail)

      module _ (bytes : ℕ) (enough : room ≤ bytes) where
        abbrev pub left_template : TemplateToWrite s table M own p f bytes
        left_template =
            record {
              count = T;
              template = this.head;
              past = this.next;
              few = left.now.few;
              read = this.first;
              start = this_good.0;
              fits = this_good.1;
              has = this_good.2;
              fit_room = omega (arith, these_bytes, left.now.fit_room);
            }

        pub left_next : {r : Past} {o' : List ℕ} → TemplateDone left_template r o o' → Left s table M T room (own + 1) r.next.0 r.front o₀ o'
        unfolding templates_bytes
        left_next {r} {o'} done =
            let e₁ : r.next.0 ≡ this.next = ap (λ (x : Past). x.next.0) done.0 in
            let e₂ : r.front ≡ f + length (template_bytes this.head) = ap (λ (x : Past). x.front) done.0 in
            record {
              now = record {
                templates = this.tail;
                past = left.now.past;
                few = left.now.few;
                read = ap (templates_at s T (own + 1) (T - (own + 1))) e₁ ∙ this.rest;
                good = this_good.3;
                fit_room = omega (arith, these_bytes, left.now.fit_room);
              };
              same =
                  λ w. left.same w ∙ ap (λ (ts : List Template). sets o f (templates_bytes ts)) this.are
                  ∙ sets_append (template_bytes this.head) (templates_bytes this.tail) o f ∙ rw (e₂, done.1) refl;
            }

-- ---- the templates of a file that was read
all_flattenable : (size : ℕ) (all : List Template) (M : List ℕ) → Few tree_entries all
    → ((i : ℕ) (d : Template) → i < length all → Has Sizes M (get_or all i d).start (get_or all i d).code)
    → (front ts : List Template) (own : ℕ) → all ≡ front ++ ts → length front ≡ own → lowest offset_template own ts ≡ none
    → Flattenable (tree_table size all) M own ts
unfolding Flattenable
all_flattenable size all M few has front [] own e l h = tt
all_flattenable size all M few has front (t ∷ ts) own e l h =
    let n : length all ≡ length front + suc (length ts) = ap length e ∙ length-append front (t ∷ ts) in
    let at : get_or all own t ≡ t = rw (e, ← l) (get_or-append_seam front t ts t) in
    let z : 256 * own + 0 ≡ 256 * own = add-zero (256 * own) in
    let slot : get_or (tree_table size all) (256 * own) 0 ≡ t.start = (rw z at (tree_slot size all few own 0 t (omega arith) (omega arith)))
    ∙ row_start (get_or all own t).start (get_or all own t).entries ∙ ap (λ (x : Template). x.start) at in
    let k = lowest_none offset_template own t ts h in
    let a : all ≡ (front ++ (t ∷ [])) ++ ts = e ∙ sym (append_assoc front (t ∷ []) ts) in
    let b : length (front ++ (t ∷ [])) ≡ own + 1 = length-append front (t ∷ []) ∙ omega arith in
    let has-this : Has Sizes M t.start t.code = subst (λ (x : Template). Has Sizes M x.start x.code) at (has own t (omega arith)) in
    (slot, k.0, has-this, all_flattenable size all M few has (front ++ (t ∷ [])) ts (own + 1) a b k.1)

-- ---- the flattener
module _ (s old : List ℕ) where
  -- the answer r and the output o
  abbrev pub FlattenDone : Result ℕ (Refusal ℕ) → List ℕ → Type 0
  FlattenDone r o = (r ≡ answered (flattened s (length old))) × (o ≡ written old (flattened s (length old)))

  flat_refused : {n p : ℕ} → flat_accepted s ≡ refused n p → FlattenDone (Err (refusal n p)) old
  unfolding flattened then answered written
  flat_refused e = rw e (refl, refl)

  -- what the tree machine refuses the flattener refuses
  pub flatten_refused : {n p : ℕ} → tree_accepted s ≡ refused n p → FlattenDone (Err (refusal n p)) old
  unfolding flat_accepted then
  flatten_refused e = flat_refused (rw e refl)

  module _ {ts : List Template} {q : ℕ} (accepted : flat_accepted s ≡ got ts q) where
    accepted_short : length old < length (linear_file ts) → FlattenDone (Err (refusal 9 (length (linear_file ts)))) old
    unfolding flattened then into_bytes answered written
    accepted_short h = rw (accepted, lt-leb (length (linear_file ts)) (length old) h) (refl, refl)

    accepted_written : length (linear_file ts) ≤ length old → {o : List ℕ} → o ≡ sets old 0 (linear_file ts) → FlattenDone (Ok (length (linear_file ts))) o
    unfolding flattened then into_bytes answered written
    accepted_written h e =
        let z : 0 + length (linear_file ts) ≡ length (linear_file ts) = zero-add (length (linear_file ts)) in
        rw (accepted, le-leb (length (linear_file ts)) (length old) h) (refl, e ∙ (rw z at (sets-eq (linear_file ts) old 0 (rw z h))))

  module _ {m : Summary} (told : judged_told (tree_accepted s) ≡ Ok m) where
    file : ReadAs (tree_accepted s) m
    file = judged_told_lem (tree_accepted s) told

    abbrev templates : List Template
    templates = file.templates

    read : tree_read s ≡ got templates file.past
    read = checked_read s templates file.past (accepted_checked s templates file.past file.is)

    far_is : number_or64 (lowest offset_template 0 templates) ≡ m.far
    unfolding summary_of
    far_is = ap (λ (x : Summary). x.far) file.summary

    -- 8
    pub flatten_far : m.far < 64 → FlattenDone (Err (refusal 8 m.far)) old
    unfolding flat_accepted then or_lowest
    flatten_far h = flat_refused (rw (file.is, number_some (lowest offset_template 0 templates) (rw far_is h), far_is) refl)

    near : 64 ≤ m.far → lowest offset_template 0 templates ≡ none
    near h = number_none offset_template 0 templates (omega (arith, tree_read_lem s read)) (rw far_is h)

    flat : 64 ≤ m.far → flat_accepted s ≡ got templates file.past
    unfolding flat_accepted then or_lowest
    flat h = rw (file.is, near h) refl

    size_is : m.size ≡ length (linear_file templates)
    unfolding summary_of
    size_is = ap (λ (x : Summary). x.size) (sym file.summary)

    count_is : m.count ≡ length templates
    unfolding summary_of
    count_is = ap (λ (x : Summary). x.count) (sym file.summary)

    pub flatten_short : 64 ≤ m.far → length old < m.size → FlattenDone (Err (refusal 9 m.size)) old
    flatten_short k h = let d = accepted_short (flat k) (omega (arith, size_is)) in (ap (λ (n : ℕ). Err (refusal 9 n)) size_is ∙ d.0, d.1)

    pub some_bytes : 1 ≤ m.size
    unfolding linear_file
    some_bytes = omega (arith, size_is)

    parts : FileParts s templates file.past
    parts = tree_parts s (read)

    pub file_short : length s ≤ 65536
    file_short = parts.short

    counts : m.count ≡ parts.count
    counts = count_is ∙ templates_count s parts.count parts.count 0 parts.first parts.read

    pub file_rows_lem : {table : List ℕ} → ZerosFor s table → (1 ≤ m.count) × (256 * m.count ≤ length table)
    file_rows_lem z = (omega (arith, counts, parts.some), rw count_is (tree_rows_there s read z))

    module _ (close : 64 ≤ m.far) {table₀ table : List ℕ} (zeros : ZerosFor s table₀) (filled : table ≡ tree_filled s table₀)
        (M M' : List ℕ) (marks : templates_marked Sizes M M' (tree_read s))
        (long : length s ≤ 65536 → 8 * length s ≤ 5 * length M) (bytes : ℕ) (enough : m.size ≤ bytes) where
      all_marked : M' ≡ marked_all Sizes M templates
      unfolding templates_marked
      all_marked = rw read at marks

      all_has : (i : ℕ) (d : Template) → i < length templates → Has Sizes M' (get_or templates i d).start (get_or templates i d).code
      all_has i d h = rw all_marked (template_has s read i d h Sizes M (long file_short))

      pub file_to_write : TemplatesToWrite s table M' m.count 0 8 1 bytes
      unfolding linear_file
      file_to_write =
          let first : 8 ≡ parts.first = sym (field_got_lem s 0 8 parts.counted).1 in
          record {
            templates = templates;
            past = parts.past;
            few = omega (arith, counts, parts.few);
            read =
                ap (λ (n : ℕ). templates_at s n 0 (n - 0) 8) counts ∙ ap (λ (n : ℕ). templates_at s parts.count 0 n 8) (sub-zero parts.count)
                ∙ ap (templates_at s parts.count 0 parts.count) first ∙ parts.read;
            good = rw (tree_tabled s read zeros filled)
                (all_flattenable zeros.size templates M' (tree_read_lem s (read)).1.1 all_has [] templates 0 refl refl (near close));
            fit_room = omega (arith, size_is);
          }

      pub flatten_written : bytes ≡ length old → {o : List ℕ}
          → ((w : TemplatesToWrite s table M' m.count 0 8 1 bytes) → o ≡ sets (set old 0 m.count) 1 (templates_bytes w.templates))
          → FlattenDone (Ok m.size) o
      unfolding file_to_write linear_file
      flatten_written h e =
          let d = accepted_written (flat close) (omega (arith, size_is))
          (e file_to_write ∙ ap (λ (n : ℕ). sets (set old 0 n) 1 (templates_bytes templates)) count_is) in
          (ap Ok size_is ∙ d.0, d.1)
