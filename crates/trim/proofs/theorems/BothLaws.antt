-- A template into the file and into the list, and all of them. Assumes nothing.
use Prim.Native.Nat.{ℕ, zero, suc, ◌+◌, ◌*◌, ◌-◌, ◌≤◌, ◌<◌}
use Rattle.std.proofs.Common.{zero-add, subst, ◌∙◌, lt-ltb, eqb-true, eq-eqb}
use native.Mathlib.Omega.{arith}
use Rattle.std.specs.Prelude.{◌≡◌, Bool, ◌&&◌, ◌||◌, List, [], ◌∷◌, ◌++◌, map, ltb, leb, eqb, length, replicate}
use Rattle.std.proofs.Math.Path.{refl, sym, ap}
use Rattle.std.proofs.Math.Bool.{true, false, cond, and-eq-true_iff}
use Rattle.std.proofs.Math.Option.{some}
use Rattle.std.proofs.Math.ListN.{get_or}
use Rattle.files.specs.Code.{Code, done, neutral, return, call, unless_false, make_cont}
use Rattle.files.specs.Entries.{Entry, constant, global, template}
use Rattle.files.specs.Grammar.{entry_of, suits, index_fits, each_neutral, indices_fit}
use Rattle.files.specs.Orphans.{is_template, closes}
use Rattle.files.specs.Tree.{Template}
use Rattle.files.specs.laws.TableLaws.{zeros_at}
use Rattle.tree_file.specs.File.{template_bits}
use Rattle.tree_file.specs.laws.Lengths.{template_length}
use Rattle.trim.specs.declared.Span.{Span}
use Rattle.trim.specs.Kept.{sift, rank}
use Rattle.trim.specs.Trim.{names, new_index, renumber, trim_template}
use Rattle.trim.specs.Lines.{kept, new_line, template_lines}
use Rattle.trim.specs.Standing.{TemplateIn, ListIn, span_of, Leads, Numbers, RowOf, PutMore, kept_bits, mark_line, row_lines}
use Rattle.trim.specs.laws.ReachedLaws.{or_cases, or_left, or_right, never, closes_up}
use Rattle.trim.specs.laws.StandLaws.{next_in}
use Rattle.trim.proofs.theorems.EntryLaws.{more_none}
use Rattle.trim.specs.laws.LineLaws.{rows_lines}

-- ---- a named entry that is a template is named by a closure
suits_closure : (op u : ℕ) → suits op (some (template u)) ≡ true → eqb op 7 ≡ true
unfolding suits
suits_closure op u e = e

pub closes_named : (es : List Entry) (n u : ℕ) (c : Code) → indices_fit es c ≡ true → names n c ≡ true → entry_of es n ≡ some (template u)
    → closes es u c ≡ true
unfolding indices_fit each_neutral index_fits names closes is_template
closes_named es n u done f e q = never e
closes_named es n u (neutral op ns r) f e q =
    let k = (and-eq-true_iff (cond (leb op 9) (suits op (entry_of es (get_or ns 0 0))) true) (indices_fit es r)).0 f in
    or_cases (leb op 9 && eqb (get_or ns 0 0) n) (names n r) e
    (λ h.
    let a = (and-eq-true_iff (leb op 9) (eqb (get_or ns 0 0) n)).0 h in
    let z : entry_of es (get_or ns 0 0) ≡ some (template u) = ap (entry_of es) (eqb-true (get_or ns 0 0) n a.1) ∙ q in
    let s : suits op (some (template u)) ≡ true = rw (a.0, z) at k.0 in
    or_left (eqb op 7 && is_template u (entry_of es (get_or ns 0 0))) (closes es u r) (rw (suits_closure op u s, z, eq-eqb u u refl) refl))
    (λ h. or_right (eqb op 7 && is_template u (entry_of es (get_or ns 0 0))) (closes es u r) (closes_named es n u r k.1 h q))
closes_named es n u (return r) f e q = closes_named es n u r f e q
closes_named es n u (call m r) f e q = closes_named es n u r f e q
closes_named es n u (unless_false x y r) f e q =
    let k = (and-eq-true_iff (indices_fit es x && indices_fit es y) (indices_fit es r)).0 f in
    let l = (and-eq-true_iff (indices_fit es x) (indices_fit es y)).0 k.0 in
    or_cases (names n x) (names n y || names n r) e (λ h. or_left (closes es u x) (closes es u y || closes es u r) (closes_named es n u x l.0 h q))
    (λ h. or_right (closes es u x) (closes es u y || closes es u r)
    (or_cases (names n y) (names n r) h (λ h. or_left (closes es u y) (closes es u r) (closes_named es n u y l.1 h q))
    (λ h. or_right (closes es u y) (closes es u r) (closes_named es n u r k.1 h q))))
closes_named es n u (make_cont m x r) f e q =
    let k = (and-eq-true_iff (indices_fit es x) (indices_fit es r)).0 f in
    or_cases (names n x) (names n r) e (λ h. or_left (closes es u x) (closes es u r) (closes_named es n u x k.0 h q))
    (λ h. or_right (closes es u x) (closes es u r) (closes_named es n u r k.1 h q))

-- ---- new numbers of templates that agree on those that are kept
renumber_same : (f g : ℕ → ℕ) (e : Entry) → ((u : ℕ) → e ≡ template u → f u ≡ g u) → renumber f e ≡ renumber g e
unfolding renumber
renumber_same f g (constant t x) h = refl
renumber_same f g (global n) h = refl
renumber_same f g (template u) h = rw (h u refl) refl

entries_same : (f g : ℕ → ℕ) (k : ℕ → Bool) (n : ℕ) (es : List Entry)
    → ((i u : ℕ) → k (n + i) ≡ true → entry_of es (suc i) ≡ some (template u) → f u ≡ g u) → map (renumber f) (sift k n es) ≡ map (renumber g) (sift k n es)
unfolding sift entry_of
entries_same f g k n [] h = refl
entries_same f g k n (e ∷ es) h = go (k n) refl (entries_same f g k (suc n) es (λ i u. let s : n + suc i ≡ suc n + i = omega arith in rw s at (h (suc i) u)))
  where
    z : n + 0 ≡ n
    z = omega arith

    go : (b : Bool) → k n ≡ b → map (renumber f) (sift k (suc n) es) ≡ map (renumber g) (sift k (suc n) es)
        → map (renumber f) (cond b (e ∷ sift k (suc n) es) (sift k (suc n) es)) ≡ map (renumber g) (cond b (e ∷ sift k (suc n) es) (sift k (suc n) es))
    go true q r = rw (renumber_same f g e (λ u p. h 0 u (rw z q) (ap some p)), r) refl
    go false q r = r

pub template_same : (f g : ℕ → ℕ) (x : Template) → indices_fit x.entries x.code ≡ true
    → ((u : ℕ) → closes x.entries u x.code ≡ true → f u ≡ g u) → trim_template f x ≡ trim_template g x
unfolding trim_template
template_same f g x fit h =
    rw (entries_same f g (λ j. names (suc j) x.code) 0 x.entries
    (λ i u e q. let z : 0 + i ≡ i = zero-add i in h u (closes_named x.entries (suc i) u x.code fit (rw z at e) q))) refl

-- ---- one template
module _ {s table : List ℕ} {own here : ℕ} (w : TemplateIn s table own here) where
  abbrev x : Template
  x = w.template

  pub head_inside : here + 8 ≤ 8 * length s
  head_inside = let h : here + length (template_bits x) ≤ 8 * length s = w.stands.fits in omega (arith, template_length x)

  pub span_next : (list : Span) → list ≡ span_of x → list.past.0 ≡ here + length (template_bits x)
  unfolding span_of
  span_next list e = ap (λ (l : Span). l.past.0) e ∙ sym (next_in w)

  abbrev pub with_list_lem : (list : Span) (count : ℕ) → list ≡ span_of x → count ≡ length x.entries → ListIn s table own here list count
  with_list_lem list count e f = record { at = w; span_is = e; count_is = f }

  module _ (keep : ℕ → Bool) (numbers : List ℕ) (are : Numbers keep w.total numbers) (leads : Leads keep own x) where
    mark_is : (mark : ℕ) → mark ≡ get_or numbers own 0 → mark ≡ cond (keep own) (suc (rank keep 0 own)) 0
    mark_is mark e = e ∙ are.each own w.within

    first_line_lem : (mark : ℕ) → mark ≡ get_or numbers own 0 → mark_line own 0 mark 1 ≡ new_line own 0 (kept (keep own) (rank keep 0 own))
    unfolding mark_line
    first_line_lem mark e = ap (λ (m : ℕ). new_line own 0 (kept (ltb 0 m) (m - 1))) (mark_is mark e) ∙ go (keep own)
      where
        go : (b : Bool) → new_line own 0 (kept (ltb 0 (cond b (suc (rank keep 0 own)) 0)) (cond b (suc (rank keep 0 own)) 0 - 1))
            ≡ new_line own 0 (kept b (rank keep 0 own))
        go true = let z : suc (rank keep 0 own) - 1 ≡ rank keep 0 own = omega arith in rw (lt-ltb 0 (suc (rank keep 0 own)) (omega arith), z) refl
        go false = refl

    -- it goes
    pub gone_both : (mark count : ℕ) (row file : List ℕ) (at : ℕ) → mark ≡ get_or numbers own 0 → mark ≡ 0 → row ≡ replicate 256 0 → count ≡ length x.entries
        → (mark_line own 0 mark 1 ++ row_lines own row 1 count ≡ template_lines keep own x) × PutMore file at file at (kept_bits keep own x)
    unfolding template_lines kept_bits
    gone_both mark count row file at e z zeros n =
        let k : keep own ≡ false = off (keep own) (sym (mark_is mark e) ∙ z) in (
          rw (
            first_line_lem mark e,
            n,
            rows_lines own row (λ e. kept (keep own && names e x.code) (new_index x.code e)) 1 x.entries
                (λ i a b. rw (k, zeros, zeros_at 256 i) refl),
          ) refl,
          rw k more_none,
        )
      where
        off : (b : Bool) → cond b (suc (rank keep 0 own)) 0 ≡ 0 → b ≡ false
        off true h = absurd (omega arith)
        off false h = refl

    -- it stays
    pub kept_both : (mark count : ℕ) (row file file' : List ℕ) (at r : ℕ) → mark ≡ get_or numbers own 0 → (mark ≡ 0 → ⊥) → RowOf x.code count row
        → count ≡ length x.entries
        → PutMore file at file' r (template_bits (trim_template (λ u. get_or numbers u 0 - 1) x))
        → (mark_line own 0 mark 1 ++ row_lines own row 1 count ≡ template_lines keep own x) × PutMore file at file' r (kept_bits keep own x)
    unfolding template_lines kept_bits new_index
    kept_both mark count row file file' at r e z is n put =
        let k : keep own ≡ true = on (keep own) (λ q. z (mark_is mark e ∙ q)) in
        let same : trim_template (λ u. get_or numbers u 0 - 1) x ≡ trim_template (rank keep 0) x =
        template_same (λ u. get_or numbers u 0 - 1) (rank keep 0) x w.indexed
        (λ u c. number_of u (leads k u c) (above u c)) in (
          rw (
            first_line_lem mark e,
            n,
            rows_lines own row (λ e. kept (keep own && names e x.code) (new_index x.code e)) 1 x.entries
                (λ i a b. rw k (row_line i a (omega arith))),
          ) refl,
          rw k (subst (λ (y : Template). PutMore file at file' r (template_bits y)) same put),
        )
      where
        on : (b : Bool) → (cond b (suc (rank keep 0 own)) 0 ≡ 0 → ⊥) → b ≡ true
        on true h = refl
        on false h = absurd (h refl)

        above : (u : ℕ) → closes x.entries u x.code ≡ true → u < w.total
        above u c = (closes_up own w.total x.entries x.code u w.ok.entries_ok c).1

        number_of : (u : ℕ) → keep u ≡ true → u < w.total → get_or numbers u 0 - 1 ≡ rank keep 0 u
        number_of u k l = rw (are.each u l, k) (omega arith)

        row_line : (i : ℕ) → 1 ≤ i → i ≤ count → kept (ltb 0 (get_or row i 0)) (get_or row i 0 - 0) ≡ kept (names i x.code) (new_index x.code i)
        row_line i a b = ap (λ (m : ℕ). kept (ltb 0 m) (m - 0)) (is i a b) ∙ go i a (names i x.code)
          where
            go : (i : ℕ) → 1 ≤ i → (b : Bool)
                → kept (ltb 0 (cond b (new_index x.code i) 0)) (cond b (new_index x.code i) 0 - 0) ≡ kept b (new_index x.code i)
            go zero h b = absurd (omega arith)
            go (suc i) h true =
                let m = suc (rank (λ j. names (suc j) x.code) 0 i) in
                let z : m - 0 ≡ m = omega arith in
                rw (lt-ltb 0 m (omega arith), z) refl
            go (suc i) h false = refl
