-- The tabulated file passes 1 to 7 and 24. Assumes nothing.
use Rattle.std.specs.Prelude.{ℕ, suc, ◌+◌, ◌*◌, ◌≤◌, ◌<◌, ◌≡◌, Bool, true, false, ◌&&◌, ◌||◌, List, [], ◌∷◌, ◌++◌, length}
use Rattle.std.proofs.Common.{arith, sym, ap, ◌∙◌}
use Rattle.std.proofs.Math.Path.{refl}
use Rattle.std.proofs.Math.Bool.{and-eq-true_iff, or-true, or_assoc}
use Rattle.std.proofs.Math.Option.{none, some}
use borrow.Author.Tests.{leb-true, leb-false, eq-eqb, ne_eqb, lt-leb}
use Rattle.std.proofs.Math.Dec.{leb, eqb}
use Rattle.cells.specs.laws.Laws.{clash}
use Rattle.files.specs.Code.{Code, put, simple}
use Rattle.files.specs.Entries.{Entry, template, then}
use Rattle.files.specs.Grammar.{entry_of, suits, index_fits, each_neutral, indices_fit, lowest, closed_template, indexed_template}
use Rattle.files.specs.Orphans.{is_template, closes, closure_names, lowest_orphan}
use Rattle.files.specs.Reading.{got}
use Rattle.files.specs.Tree.{Template, tree_read}
use Rattle.files.specs.Accepted.{or_lowest, tree_checked, tree_accepted}
use Rattle.tree_file.specs.File.{tree_file, placed}
use Rattle.tree_file.proofs.theorems.Back.{tree_back}
use Rattle.tree_file.specs.laws.Placed.{placed_length, lowest_placed, placed_names, lowest_all, no_orphan}
use Rattle.basic.specs.Basic.{Basic, ended, plain, carries, closure, branch, save}
use Rattle.basic.specs.Checked.{most_templates, most_bytes, entries_fit, within_limits}
use Rattle.basic.specs.Tabulated.{inside, index_of, entries_of, indexed, template_of, closures, tabulated}
use Rattle.basic.specs.Valid.{PlainOk, return_ok, call_ok, neutral_ok, CarriesOk, literal_ok, global_ok, set_global_ok, Ok}
use Rattle.basic.specs.laws.ForestLaws.{simple_return, simple_call, simple_neutral}
use Rattle.basic.proofs.theorems.EntryLaws.{Finds, entries_found}
use Rattle.basic.specs.laws.DepthLaws.{depth}
use Rattle.basic.proofs.theorems.WrittenLaws.{tabulated_length, tabulated_each, tabulated_writable}

-- ---- 7: each index suits its entry
module _ (es : List Entry) where
  plain_fits : (v : ℕ) (ns : List ℕ) → PlainOk v ns → (c : Code) → indices_fit es (put (simple v ns) c) ≡ indices_fit es c
  unfolding put indices_fit each_neutral index_fits
  plain_fits v ns return_ok c = rw simple_return refl
  plain_fits v ns (call_ok {n} h) c = rw (simple_call n) refl
  plain_fits v ns (neutral_ok h i j k) c = rw (simple_neutral v ns h, lt-leb v 9 h) refl

  carried_suits : (v : ℕ) (e : Entry) (i : ℕ) → CarriesOk v e → entry_of es i ≡ some e → index_fits es v i ≡ true
  unfolding index_fits suits
  carried_suits v e i (literal_ok h k) f = rw f refl
  carried_suits v e i (global_ok h) f = rw f refl
  carried_suits v e i (set_global_ok h) f = rw f refl

  closure_suits : (n i : ℕ) → entry_of es i ≡ some (template n) → index_fits es 7 i ≡ true
  unfolding index_fits suits
  closure_suits n i f = rw f refl

  indices_fit_lem : (n : ℕ) (c : Basic) → Ok c → Finds es n c → indices_fit es (indexed es n c) ≡ true
  unfolding indexed indices_fit each_neutral Ok Finds
  indices_fit_lem n ended ok f = refl
  indices_fit_lem n (plain v ns r) ok f = plain_fits v ns ok.0 (indexed es n r) ∙ indices_fit_lem n r ok.1 f
  indices_fit_lem n (carries v e r) ok f = rw (carried_suits v e (index_of e es) ok.0 f.0, indices_fit_lem n r ok.1 f.1) refl
  indices_fit_lem n (closure x r) ok f =
      rw (closure_suits n (index_of (template n) es) f.0, indices_fit_lem (suc n + inside x) r ok.1 f.1) refl
  indices_fit_lem n (branch x y r) ok f =
      rw (
        indices_fit_lem n x ok.0 f.0,
        indices_fit_lem (n + inside x) y ok.1 f.1,
        indices_fit_lem (n + inside x + inside y) r ok.2 f.2,
      ) refl
  indices_fit_lem n (save m x r) ok f = rw (indices_fit_lem n x ok.1 f.0, indices_fit_lem (n + inside x) r ok.2 f.1) refl

tabulated_indexed : (c : Basic) → Ok c → depth c ≤ 15 → lowest indexed_template 0 (tabulated c) ≡ none
unfolding template_of
tabulated_indexed c ok d =
    lowest_all indexed_template 0 0 (tabulated c)
    (tabulated_each (λ n t. indexed_template t ≡ true) (suc (inside c))
    (λ n x o k h. indices_fit_lem (entries_of (suc n) x) (suc n) x o (entries_found (suc n) x)) c ok d (omega arith))

-- ---- 24: each template but 0 is named by the list that its closure stands in, which is the whole list or a closure's
-- tests of two parts: a and b of the list itself, c and d of the closures inside
first_names : (a b c d : Bool) → (a || c) ≡ true → ((a || b) || (c || d)) ≡ true
first_names true b c d e = refl
first_names false true c d e = refl
first_names false false true d e = refl
first_names false false false d e = clash (cc)

second_names : (a b c d : Bool) → (b || d) ≡ true → ((a || b) || (c || d)) ≡ true
second_names true b c d e = refl
second_names false true c d e = refl
second_names false false true d e = refl
second_names false false false d e = e

names_both : (ts us : List Template) (u : ℕ) → closure_names (ts ++ us) u ≡ (closure_names ts u || closure_names us u)
unfolding closure_names
names_both [] us u = refl
names_both (t ∷ ts) us u =
    ap (λ (b : Bool). closes t.entries u t.code || b) (names_both ts us u)
    ∙ sym (or_assoc (closes t.entries u t.code) (closure_names ts u) (closure_names us u))

plain_closes : (es : List Entry) (u v : ℕ) (ns : List ℕ) → PlainOk v ns → (c : Code) → closes es u (put (simple v ns) c) ≡ closes es u c
unfolding put closes
plain_closes es u v ns return_ok c = rw simple_return refl
plain_closes es u v ns (call_ok {n} h) c = rw (simple_call n) refl
plain_closes es u v ns (neutral_ok h i j k) c = rw (simple_neutral v ns h, ne_eqb v 7 (λ e. omega arith)) refl

carried_closes : (es : List Entry) (u v : ℕ) (e : Entry) (i : ℕ) → CarriesOk v e → (eqb v 7 && is_template u (entry_of es i)) ≡ false
carried_closes es u v e i (literal_ok h k) = refl
carried_closes es u v e i (global_ok h) = refl
carried_closes es u v e i (set_global_ok h) = refl

it_is : (u n : ℕ) → n ≡ u → is_template u (some (template n)) ≡ true
unfolding is_template
it_is u n e = eq-eqb n u e

-- below m or not
split : {P : Type 0} (n m : ℕ) → (n < m → P) → (m ≤ n → P) → P
split {P} n m f g = go (leb m n) refl
  where
    go : (b : Bool) → leb m n ≡ b → P
    go true e = g (leb-true m n e)
    go false e = f (leb-false m n e)

module _ (u : ℕ) where
  -- template u, one of the closures in the list c, the first of which is number n, is named by c or inside it
  abbrev Named : List Entry → ℕ → Basic → Type 0
  Named es n c = (closes es u (indexed es n c) || closure_names (closures n c) u) ≡ true

  named : (es : List Entry) (n : ℕ) (c : Basic) → Ok c → Finds es n c → n ≤ u → u < n + inside c → Named es n c
  unfolding indexed closures closure_names closes inside Ok Finds template_of
  named es n ended ok f a b = absurd (omega arith)
  named es n (plain v ns r) ok f a b = rw (plain_closes es u v ns ok.0 (indexed es n r)) (named es n r ok.1 f a b)
  named es n (carries v e r) ok f a b = rw (carried_closes es u v e (index_of e es) ok.0) (named es n r ok.1 f.1 a b)
  named es n (closure x r) ok f a b =
      let i = index_of (template n) es in
      let cs = closures (suc n) x in
      let it = eqb 7 7 && is_template u (entry_of es i) in
      let own = closes es u (indexed es (suc n + inside x) r) in
      let first = closes (entries_of (suc n) x) u (indexed (entries_of (suc n) x) (suc n) x) in
      rw (names_both cs (closures (suc n + inside x) r) u, ← or_assoc first (closure_names cs u) (closure_names (closures (suc n + inside x) r) u))
      (split u (suc n) (λ l. rw (f.0, it_is u n (omega arith)) refl)
      (λ l. split u (suc n + inside x)
      (λ m. rw (named (entries_of (suc n) x) (suc n) x ok.0 (entries_found (suc n) x) l m) (or-true (it || own)))
      (λ m. second_names it own (first || closure_names cs u) (closure_names (closures (suc n + inside x) r) u)
      (named es (suc n + inside x) r ok.1 f.1 m (omega arith)))))
  named es n (branch x y r) ok f a b =
      let ny = n + inside x in
      let nr = n + inside x + inside y in
      let cy = closes es u (indexed es ny y) in
      let cr = closes es u (indexed es nr r) in
      let ky = closure_names (closures ny y) u in
      let kr = closure_names (closures nr r) u in
      rw (names_both (closures n x) (closures ny y ++ closures nr r) u, names_both (closures ny y) (closures nr r) u)
      (split u ny (λ l. first_names (closes es u (indexed es n x)) (cy || cr) (closure_names (closures n x) u) (ky || kr) (named es n x ok.0 f.0 a l))
      (λ l. second_names (closes es u (indexed es n x)) (cy || cr) (closure_names (closures n x) u) (ky || kr)
      (split u nr (λ m. first_names cy cr ky kr (named es ny y ok.1 f.1 l m))
      (λ m. second_names cy cr ky kr (named es nr r ok.2 f.2 m (omega arith))))))
  named es n (save m x r) ok f a b =
      let nr = n + inside x in
      let cx = closes es u (indexed es n x) in
      let cr = closes es u (indexed es nr r) in
      let kx = closure_names (closures n x) u in
      let kr = closure_names (closures nr r) u in
      rw (names_both (closures n x) (closures nr r) u)
      (split u nr (λ l. first_names cx cr kx kr (named es n x ok.1 f.0 a l))
      (λ l. second_names cx cr kx kr (named es nr r ok.2 f.1 l (omega arith))))

tabulated_named : (c : Basic) → Ok c → (u : ℕ) → 1 ≤ u → u < length (tabulated c) → closure_names (tabulated c) u ≡ true
unfolding tabulated closure_names template_of
tabulated_named c ok u a b = named u (entries_of 1 c) 1 c ok (entries_found 1 c) a (omega (arith, tabulated_length c))

-- ---- the file
module _ (c : Basic) (ok : Ok c) (deep : depth c ≤ 15) (closed : lowest closed_template 0 (tabulated c) ≡ none)
    (limits : within_limits (tabulated c) ≡ true) where
  abbrev ts : List Template
  ts = tabulated c

  within : (length ts ≤ 64) × (entries_fit ts ≡ true) × (length (tree_file ts) ≤ 65536)
  unfolding within_limits
  within =
      let a = (and-eq-true_iff (leb (length ts) most_templates) (entries_fit ts && leb (length (tree_file ts)) most_bytes)).0 limits in
      let b = (and-eq-true_iff (entries_fit ts) (leb (length (tree_file ts)) most_bytes)).0 a.1 in
      (omega (arith, leb-true (length ts) most_templates a.0), b.0, omega (arith, leb-true (length (tree_file ts)) most_bytes b.1))

  read_back : tree_read (tree_file ts) ≡ got (placed 8 ts) (8 * length (tree_file ts))
  read_back = tree_back ts (tabulated_writable c ok deep within.0 within.1) within.2

  orphans : lowest_orphan (placed 8 ts) ≡ none
  orphans = no_orphan (placed 8 ts) (λ u a b. placed_names 8 ts u ∙ tabulated_named c ok u a (omega (arith, placed_length 8 ts)))

  -- THE LAW
  pub tabulated_passes : tree_accepted (tree_file ts) ≡ got (placed 8 ts) (8 * length (tree_file ts))
  unfolding tree_accepted tree_checked then or_lowest
  tabulated_passes =
      rw (
        read_back,
        lowest_placed closed_template (λ p t. refl) 0 8 ts,
        closed,
        lowest_placed indexed_template (λ p t. refl) 0 8 ts,
        tabulated_indexed c ok deep,
        orphans,
      ) refl
