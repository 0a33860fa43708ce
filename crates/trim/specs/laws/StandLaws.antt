-- Where the parts of a template stand, and the templates of a file one after the other. Assumes nothing.
use Prim.Native.Nat.{ℕ, suc, ◌+◌, ◌*◌, ◌≤◌, ◌<◌}
use Rattle.std.proofs.Common.{add-zero, arith, ◌∙◌}
use Rattle.std.proofs.Math.Nat.{zero-add}
use Rattle.std.specs.Prelude.{◌≡◌, refl, true, get_or, Ok, Err}
use Rattle.std.proofs.Math.Path.{sym, ap, subst}
use mathlib.Core.List.{List, [], ◌∷◌, ◌++◌}
use Rattle.std.proofs.Math.Option.{none}
use Rattle.std.proofs.Math.ListN.{length}
use Rattle.cells.specs.declared.BitPlace.{BitPlace}
use Rattle.fields.specs.Field.{field_at}
use Rattle.files.specs.Code.{bits}
use Rattle.files.specs.Reading.{got, list_at}
use Rattle.files.specs.Grammar.{lowest, indexed_template, indices_fit}
use Rattle.files.specs.Linear.{bits_of, entries_bits}
use Rattle.files.specs.Tree.{Template, tree_read}
use Rattle.files.specs.laws.AcceptedLaws.{checked, checked_read, lowest_none}
use Rattle.files.specs.laws.AllGot.{Each, field_got_lem, refused_got, tree_read_lem}
use Rattle.files.specs.laws.TableLaws.{row_start, row_entry, tree_slot}
use Rattle.lists.specs.declared.Facts.{Facts}
use Rattle.lists.specs.Facts.{facts_of, listed, indices_close}
use Rattle.lists.specs.laws.ReadLaws.{listed_refused}
use Rattle.lists.specs.laws.SlotLaws.{Row, slots_close_lem}
use Rattle.readback.specs.Bits.{Stands}
use Rattle.readback.specs.laws.Bits.{length_bits, stands_left, stands_right, field_stands}
use Rattle.tree.specs.laws.Parts.{tree_parts}
use Rattle.tree_file.specs.File.{list_bits, template_bits, templates_bits, file_bits, starts_at, placed, levels}
use Rattle.tree_file.specs.laws.Lengths.{template_length}
use Rattle.tree_file.proofs.theorems.Canonical.{tree_known}
use Rattle.tree_file.specs.laws.Writable.{TreeWritable}
use Rattle.tree_file.proofs.theorems.Back.{list_back_lem}
use Rattle.tree_file.proofs.theorems.Written.{tree_writable}
use Rattle.trim.specs.declared.Span.{Span}
use Rattle.trim.specs.Standing.{FileIn, TemplateIn, span_of}
use Rattle.files.specs.Refusal.{refusal}
use Rattle.files.specs.laws.RefusalLaws.{ok_first, ok_second}

-- ---- one template
module _ {s table : List ℕ} {own here : ℕ} (w : TemplateIn s table own here) where
  abbrev x : Template
  x = w.template

  after_count : Stands s (here + 8) (entries_bits x.entries ++ list_bits x.code)
  unfolding template_bits
  after_count =
      rw (length_bits 8 (length x.entries)) at
      (stands_right (bits_of 8 (length x.entries)) (entries_bits x.entries ++ list_bits x.code) w.stands)

  pub entries_in : Stands s (here + 8) (entries_bits x.entries)
  entries_in = stands_left (entries_bits x.entries) (list_bits x.code) after_count

  pub list_in : Stands s x.start (list_bits x.code)
  list_in = subst (λ (p : ℕ). Stands s p (list_bits x.code)) (sym w.start_is) (stands_right (entries_bits x.entries) (list_bits x.code) after_count)

  pub count_in : field_at s here 8 ≡ length x.entries
  unfolding template_bits
  count_in =
      sym (field_got_lem s here 8 (field_stands s here 8 (length x.entries) w.ok.few
      (stands_left (bits_of 8 (length x.entries)) (entries_bits x.entries ++ list_bits x.code) w.stands))).0

  pub next_in : here + length (template_bits x) ≡ x.start + bits x.code
  next_in = omega (arith, template_length x, w.start_is)

  pub inside : x.start + bits x.code ≤ 8 * length s
  inside = let h : here + length (template_bits x) ≤ 8 * length s = w.stands.fits in omega (arith, next_in)

  pub list_read : list_at s 15 x.start ≡ got x.code (x.start + bits x.code)
  list_read = let d : levels x.code < 16 = w.ok.deep in list_back_lem s x.code 15 x.start w.ok.valid_code (omega arith) list_in

  made : (a : ℕ) (p : BitPlace) (n b : ℕ) (q : BitPlace) (m : ℕ) → a ≡ b → p ≡ q → n ≡ m
      → ◌≡◌ {A = Span} (record { start = record { 0 = a }; past = p; closes = n }) (record { start = record { 0 = b }; past = q; closes = m })
  made a p n b q m e f g = rw (e, f, g) refl

  module _ (start : ℕ) (at : start ≡ get_or table (256 * own) 0) where
    listed_is : listed table own (list_at s 15 start) ≡ Ok (record { 0 = x.start + bits x.code }, facts_of table own x.code)
    unfolding listed
    listed_is = ap (λ (p : ℕ). listed table own (list_at s 15 p)) (at ∙ w.slot) ∙ ap (listed table own) list_read

    pub span_done : (past : BitPlace) (facts : Facts) → listed table own (list_at s 15 start) ≡ Ok (past, facts)
        → record { start = record { 0 = start }; past = past; closes = facts.closes } ≡ span_of x
    unfolding span_of facts_of
    span_done past facts e =
        let d : Ok (past, facts) ≡ Ok (record { 0 = x.start + bits x.code }, facts_of table own x.code) = sym e ∙ listed_is in
        let p : past ≡ record { 0 = x.start + bits x.code } = ok_first d in
        let f : facts ≡ facts_of table own x.code = ok_second d in
        let k : facts.closes ≡ indices_close x.entries x.code =
        ap (λ (y : Facts). y.closes) f ∙ slots_close_lem table own w.total x.entries w.row w.ok.entries_ok x.code w.ok.valid_code in
        made start past facts.closes _ _ _ (at ∙ w.slot) p k

    pub span_refused : {A : Type 0} (n : ℕ) (place : BitPlace) → listed table own (list_at s 15 start) ≡ Err (refusal n place) → A
    span_refused n place e =
        refused_got (sym (listed_refused table own (list_at s 15 start) n place e) ∙ (ap (list_at s 15) (at ∙ w.slot) ∙ list_read))

-- ---- templates one after the other
-- the templates rest of a file of T, of numbers own on, which stand at a place
pub record Walk (s table : List ℕ) (T own here : ℕ) (rest : List Template) : Type 0 where
  pub few : T ≤ 64
  pub count : own + length rest ≡ T
  pub stands : Stands s here (templates_bits rest)
  pub starts : placed here rest ≡ rest
  pub each : Each (TreeWritable T) own rest
  pub indexed : Each (λ n x. indices_fit x.entries x.code ≡ true) own rest
  pub rows : Each (λ n x. (get_or table (256 * n) 0 ≡ x.start) × Row table n x.entries) own rest

module _ {s table : List ℕ} {T own here : ℕ} (x : Template) (rest : List Template) (w : Walk s table T own here (x ∷ rest)) where
  pub led : (x.start ≡ here + 8 + length (entries_bits x.entries)) × (placed (here + length (template_bits x)) rest ≡ rest)
  unfolding placed
  led =
      let e : starts_at here x ∷ placed (here + length (template_bits x)) rest ≡ x ∷ rest = w.starts in
      let h : starts_at here x ≡ x = cc in
      (sym (ap (λ (u : Template). u.start) h), cc)

  pub first_stands : Stands s here (template_bits x)
  unfolding templates_bits
  first_stands = stands_left (template_bits x) (templates_bits rest) w.stands

  abbrev pub walk_first : TemplateIn s table own here
  walk_first =
      record {
        total = T;
        few = w.few;
        within = let c : own + suc (length rest) ≡ T = w.count in omega arith;
        template = x;
        ok = w.each.0;
        stands = first_stands;
        start_is = led.0;
        slot = w.rows.0.0;
        row = w.rows.0.1;
        indexed = w.indexed.0;
      }

  pub walk_next : Walk s table T (own + 1) (here + length (template_bits x)) rest
  unfolding templates_bits
  walk_next =
      record {
        few = w.few;
        count = let c : own + suc (length rest) ≡ T = w.count in omega arith;
        stands = stands_right (template_bits x) (templates_bits rest) w.stands;
        starts = led.1;
        each = w.each.1;
        indexed = w.indexed.1;
        rows = w.rows.1;
      }

-- ---- a file
each_from : {A : Type 0} (P : ℕ → A → Type 0) (n : ℕ) (ts : List A) → ((i : ℕ) (d : A) → i < length ts → P (n + i) (get_or ts i d)) → Each P n ts
each_from P n [] h = tt
each_from P n (t ∷ ts) h =
    let z : n + 0 ≡ n = omega arith in (
      subst (λ (m : ℕ). P m t) z (h 0 t (omega arith)),
      each_from P (n + 1) ts (λ i d lt. let s : n + suc i ≡ n + 1 + i = omega arith in subst (λ (m : ℕ). P m (get_or ts i d)) s (h (suc i) d (omega arith))),
    )

fit_each : (n : ℕ) (ts : List Template) → lowest indexed_template n ts ≡ none → Each (λ n x. indices_fit x.entries x.code ≡ true) n ts
fit_each n [] e = tt
fit_each n (t ∷ ts) e = let l = lowest_none indexed_template n t ts e in (l.0, fit_each (n + 1) ts l.1)

module _ {s table : List ℕ} {count : ℕ} (w : FileIn s table count) where
  file_read : tree_read s ≡ got w.templates w.past
  file_read = checked_read s w.templates w.past w.checked

  pub file_short : length s ≤ 65536
  file_short = (tree_parts s file_read).short

  pub file_count : (1 ≤ count) × (count ≤ 64)
  file_count = let k = tree_writable s w.templates w.past file_read in
      (omega (arith, k.at_least_one, w.count_is), omega (arith, k.at_most_64, w.count_is))

  pub walk_all : Walk s table (length w.templates) 0 8 w.templates
  unfolding file_bits
  walk_all =
      let ts = w.templates in
      let k = tree_known s ts w.past file_read in
      let o = tree_writable s ts w.past file_read in
      let few = (tree_read_lem s file_read).1.1 in
      record {
        few = o.at_most_64;
        count = zero-add (length ts);
        stands = rw (length_bits 8 (length ts)) at (stands_right (bits_of 8 (length ts)) (templates_bits ts) k.here);
        starts = k.starts;
        each = o.each;
        indexed = fit_each 0 ts (checked s ts w.past w.checked).indexed;
        rows = each_from (λ n x. (get_or table (256 * n) 0 ≡ x.start) × Row table n x.entries) 0 ts
            (λ i d lt.
            subst (λ (m : ℕ). (get_or table (256 * m) 0 ≡ (get_or ts i d).start) × Row table m (get_or ts i d).entries) (sym (zero-add i))
            (subst (λ (l : List ℕ). (get_or l (256 * i) 0 ≡ (get_or ts i d).start) × Row l i (get_or ts i d).entries) (sym w.filled) (
              (rw (add-zero (256 * i)) at (tree_slot w.size ts few i 0 d lt (omega arith))) ∙ row_start (get_or ts i d).start (get_or ts i d).entries,
              λ n h m. tree_slot w.size ts few i n d lt m ∙ row_entry (get_or ts i d).start (get_or ts i d).entries n (λ e. omega arith),
            )));
      }
