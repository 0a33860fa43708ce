-- The trimmed file (request 5): it passes 1 to 7 and request 4, and trimming it again changes nothing. Assumes nothing.
use Prim.Native.Nat.{ℕ, zero, suc, ◌+◌, ◌*◌, ◌/◌, ◌≤◌, ◌<◌}
use Rattle.std.proofs.Common.{zero-add, add-one, sym, ◌∙◌, ne_eqb, length-append}
use native.Mathlib.Omega.{arith}
use Rattle.std.specs.Prelude.{◌≡◌, cond, ◌&&◌, ◌||◌, leb, eqb}
use Rattle.std.proofs.Math.Path.{refl, ap, subst}
use Rattle.std.proofs.Math.Bool.{Bool, true, false}
use mathlib.Core.List.{List, [], ◌∷◌, map}
use Rattle.std.proofs.Math.Option.{none, some}
use Rattle.std.proofs.Math.ListN.{length, length-map}
use Rattle.files.specs.Code.{Code, done, neutral, return, call, unless_false, make_cont}
use Rattle.files.specs.Entries.{Entry, constant, global, template, then}
use Rattle.files.specs.Grammar.{is_closed, entry_of, indices_fit, lowest, closed_template, indexed_template}
use Rattle.files.specs.Linear.{entries_bits}
use Rattle.files.specs.Orphans.{closes, closure_names}
use Rattle.files.specs.Reading.{got}
use Rattle.files.specs.Tree.{Template, tree_read}
use Rattle.files.specs.Accepted.{or_lowest, tree_checked, tree_accepted}
use Rattle.files.specs.Valid.{Valid}
use Rattle.files.specs.laws.AcceptedLaws.{checked, checked_read, lowest_none}
use Rattle.files.specs.laws.AllGot.{Each, each_weaker}
use Rattle.files.specs.laws.EntriesLaws.{EntryOk, EntriesOk}
use Rattle.readback.specs.laws.Bits.{length_bits}
use Rattle.tree_file.specs.File.{template_bits, templates_bits, file_bits, tree_file, placed, starts_at}
use Rattle.tree_file.specs.laws.Writable.{TreeWritable}
use Rattle.tree_file.proofs.theorems.Back.{TreeWritables, tree_back}
use Rattle.tree_file.proofs.theorems.Canonical.{tree_known}
use Rattle.tree_file.specs.laws.Lengths.{template_length}
use Rattle.tree_file.specs.laws.Placed.{placed_length, placed_names, placed_bits, lowest_all, no_orphan}
use Rattle.tree_file.proofs.theorems.Written.{tree_writable, file_length}
use Rattle.tree.specs.laws.Parts.{tree_parts}
use Rattle.rewrite.specs.Reindex.{reindexed, reindex}
use Rattle.trim.specs.Kept.{sift, rank}
use Rattle.trim.specs.Trim.{names, new_index, renumber, trim_template, trim, named_from, there, stays, trimmed}
use Rattle.trim.specs.Standing.{Leads}
use Rattle.trim.specs.laws.KeptLaws.{rank_end, rank_most, sift_length}
use Rattle.trim.specs.laws.ReachedLaws.{or_left, or_right, or_cases, never, up_each}
use Rattle.trim.proofs.theorems.RoundsLaws.{both_each, rounds_end, stays_leads}
use Rattle.trim.proofs.theorems.MarkLaws.{names_within}
use Rattle.trim.proofs.theorems.EntryLaws.{renumber_length}
use Rattle.trim.proofs.theorems.TemplateLaws.{reindex_same}
use Rattle.trim.proofs.theorems.BothLaws.{closes_named}
use Rattle.renamed.specs.laws.Ranks.{entry_at, rank_grows, rank_old, rank_all, sift_all}
use Rattle.rewrite.specs.laws.ReindexLaws.{same_bits, same_closed}
use Rattle.renamed.specs.laws.Found.{same_levels, same_valid, same_names, Found, renumbered, same_fits, same_closes}

-- ---- one after the other, of those that are kept
module _ (keep : ℕ → Bool) (P Q : ℕ → Template → Type 0) (g : Template → Template) (each : (t : ℕ) (x : Template) → keep t ≡ true → Q t x
    → P (rank keep 0 t) (g x)) where
  rank_next : (n : ℕ) (b : Bool) → keep n ≡ b → rank keep 0 (n + 1) ≡ rank keep 0 n + cond b 1 0
  rank_next n b e = rw (add-one n) (rank_end keep 0 n ∙ ap (λ (x : Bool). rank keep 0 n + cond x 1 0) (ap keep (zero-add n) ∙ e))

  each_sift : (n : ℕ) (ts : List Template) → Each Q n ts → Each P (rank keep 0 n) (map g (sift keep n ts))
  unfolding sift
  each_sift n [] q = tt
  each_sift n (x ∷ ts) q =
      go (keep n) refl (subst (λ (m : ℕ). Each P (rank keep 0 (n + 1)) (map g (sift keep m ts))) (add-one n) (each_sift (n + 1) ts q.1))
    where
      go : (b : Bool) → keep n ≡ b → Each P (rank keep 0 (n + 1)) (map g (sift keep (suc n) ts))
          → Each P (rank keep 0 n) (map g (cond b (x ∷ sift keep (suc n) ts) (sift keep (suc n) ts)))
      go true e next = (each n x e q.0, subst (λ (m : ℕ). Each P m (map g (sift keep (suc n) ts))) (rank_next n true e) next)
      go false e next = subst (λ (m : ℕ). Each P m (map g (sift keep (suc n) ts))) (rank_next n false e ∙ omega arith) next

all_lowest : (ok : Template → Bool) (n : ℕ) (ts : List Template) → lowest ok n ts ≡ none → Each (λ n x. ok x ≡ true) n ts
all_lowest ok n [] e = tt
all_lowest ok n (t ∷ ts) e = let l = lowest_none ok n t ts e in (l.0, all_lowest ok (n + 1) ts l.1)

-- what does not look at starts
placed_each : (P : ℕ → Template → Type 0) → ((n p : ℕ) (x : Template) → P n x → P n (starts_at p x)) → (n p : ℕ) (ts : List Template) → Each P n ts
    → Each P n (placed p ts)
unfolding placed
placed_each P f n p [] h = tt
placed_each P f n p (t ∷ ts) h = (f n p t h.0, placed_each P f (n + 1) (p + length (template_bits t)) ts h.1)

-- ---- entries
entries_kept : (own T : ℕ) (k keep : ℕ → Bool) (j : ℕ) (es : List Entry) → EntriesOk own T es → keep own ≡ true
    → ((i u : ℕ) → k (j + i) ≡ true → entry_of es (suc i) ≡ some (template u) → keep u ≡ true)
    → EntriesOk (rank keep 0 own) (rank keep 0 T) (map (renumber (rank keep 0)) (sift k j es))
unfolding sift renumber entry_of
entries_kept own T k keep j [] ok e h = tt
entries_kept own T k keep j (x ∷ es) ok e h =
    go (k j) refl (entries_kept own T k keep (suc j) es ok.1 e (λ i u. let s : j + suc i ≡ suc j + i = omega arith in rw s at (h (suc i) u)))
  where
    z : j + 0 ≡ j
    z = omega arith

    at : (n : ℕ) → 0 + n ≡ n
    at n = omega arith

    one : (x : Entry) → EntryOk own T x → ((u : ℕ) → x ≡ template u → keep u ≡ true) → EntryOk (rank keep 0 own) (rank keep 0 T) (renumber (rank keep 0) x)
    one (constant t y) q f = q
    one (global g) q f = q
    one (template u) q f =
        let a = rank_grows keep 0 own u q.0 (rw (at own) e) in
        let b = rank_grows keep 0 u T q.1 (rw (at u) (f u refl)) in
        (a, b, omega (arith, rank_most keep 0 T, q.2))

    go : (b : Bool) → k j ≡ b → EntriesOk (rank keep 0 own) (rank keep 0 T) (map (renumber (rank keep 0)) (sift k (suc j) es))
        → EntriesOk (rank keep 0 own) (rank keep 0 T) (map (renumber (rank keep 0)) (cond b (x ∷ sift k (suc j) es) (sift k (suc j) es)))
    go true q r = (one x ok.0 (λ u p. h 0 u (rw z q) (ap some p)), r)
    go false q r = r

entries_short : (g : ℕ → ℕ) (k : ℕ → Bool) (j : ℕ) (es : List Entry) → length (entries_bits (map (renumber g) (sift k j es))) ≤ length (entries_bits es)
unfolding sift entries_bits
entries_short g k j [] = omega arith
entries_short g k j (x ∷ es) = go (k j) (entries_short g k (suc j) es)
  where
    go : (b : Bool) → length (entries_bits (map (renumber g) (sift k (suc j) es))) ≤ length (entries_bits es)
        → length (entries_bits (map (renumber g) (cond b (x ∷ sift k (suc j) es) (sift k (suc j) es)))) ≤ length (entries_bits (x ∷ es))
    go true h = simp length-append (omega (arith, renumber_length g x))
    go false h = simp length-append (omega arith)

entry_map : (g : ℕ → ℕ) (f : ℕ → ℕ) (es : List Entry) (n : ℕ) → entry_of (map (renumber g) es) n ≡ renumbered f g es es (entry_of es n)
unfolding entry_of
entry_map g f es zero = refl
entry_map g f [] (suc n) = refl
entry_map g f (e ∷ es) (suc zero) = refl
entry_map g f (e ∷ es) (suc (suc n)) = entry_map g f es (suc n)

-- ---- a template that is trimmed
module _ (g : ℕ → ℕ) (x : Template) where
  abbrev f : ℕ → ℕ
  f = new_index x.code

  abbrev x' : Template
  x' = trim_template g x

  found : Found f g x.entries x'.entries x.code
  unfolding trim_template new_index entry_of
  found zero e = refl
  found (suc i) e =
      let k : ℕ → Bool = λ j. names (suc j) x.code in
      entry_map g f (sift k 0 x.entries) (suc (rank k 0 i)) ∙ ap (renumbered f g x.entries x.entries) (entry_at k x.entries 0 i (rw (zero-add i) e))

  index_small : (n : ℕ) → n < 256 → f n < 256
  unfolding new_index
  index_small zero h = omega arith
  index_small (suc i) h = omega (arith, rank_most (λ j. names (suc j) x.code) 0 i)

  trim_fits : Valid x.code → indices_fit x.entries x.code ≡ true → indices_fit x'.entries x'.code ≡ true
  unfolding trim_template
  trim_fits v e = same_fits f g x.entries x'.entries x.code v found e

  trim_closes : (u : ℕ) → Valid x.code → closes x.entries u x.code ≡ true → closes x'.entries (g u) x'.code ≡ true
  unfolding trim_template
  trim_closes u v e = same_closes f g x.entries x'.entries u x.code v found e

  trim_short : length (template_bits x') ≤ length (template_bits x)
  unfolding trim_template
  trim_short =
      omega (arith, template_length x, template_length x', same_bits f x.code, entries_short g (λ j. names (suc j) x.code) 0 x.entries)

  trim_count : length x'.entries ≡ rank (λ j. names (suc j) x.code) 0 (length x.entries)
  unfolding trim_template
  trim_count = length-map (sift (λ j. names (suc j) x.code) 0 x.entries) (renumber g) ∙ sift_length (λ j. names (suc j) x.code) 0 x.entries

  -- every entry that is left is named
  trim_named : Valid x.code → (n : ℕ) → n < length x'.entries → names (suc n) x'.code ≡ true
  unfolding trim_template new_index
  trim_named v n h =
      let k : ℕ → Bool = λ j. names (suc j) x.code in
      let o = rank_old k 0 (length x.entries) n (rw trim_count at h) in
      let z : f (suc o.number) ≡ suc n = ap suc o.is in
      subst (λ (m : ℕ). names m (reindex f x.code) ≡ true) z (same_names f (suc o.number) x.code v (rw (zero-add o.number) at o.stays))

  trim_writable : (keep : ℕ → Bool) (T own : ℕ) → g ≡ rank keep 0 → TreeWritable T own x → indices_fit x.entries x.code ≡ true → keep own ≡ true
      → Leads keep own x
      → TreeWritable (rank keep 0 T) (rank keep 0 own) x'
  unfolding trim_template
  trim_writable keep T own e ok fit k leads =
      record {
        entries_ok = rw e (entries_kept own T (λ j. names (suc j) x.code) keep 0 x.entries ok.entries_ok k
            (λ i u q r. leads k u (closes_named x.entries (suc i) u x.code fit (rw (zero-add i) at q) r)));
        few = let h : length x.entries < 256 = ok.few in omega (arith, trim_count, rank_most (λ j. names (suc j) x.code) 0 (length x.entries));
        valid_code = same_valid f x.code index_small ok.valid_code;
        deep = rw (same_levels f x.code) ok.deep;
      }

all_short : (g : ℕ → ℕ) (keep : ℕ → Bool) (n : ℕ) (ts : List Template)
    → length (templates_bits (map (trim_template g) (sift keep n ts))) ≤ length (templates_bits ts)
unfolding sift templates_bits
all_short g keep n [] = omega arith
all_short g keep n (x ∷ ts) = go (keep n) (all_short g keep (suc n) ts)
  where
    go : (b : Bool) → length (templates_bits (map (trim_template g) (sift keep (suc n) ts))) ≤ length (templates_bits ts)
        → length (templates_bits (map (trim_template g) (cond b (x ∷ sift keep (suc n) ts) (sift keep (suc n) ts)))) ≤ length (templates_bits (x ∷ ts))
    go true h = simp length-append (omega (arith, trim_short g x))
    go false h = simp length-append (omega arith)

-- ---- no orphans
named_kept : (keep : ℕ → Bool) (g : ℕ → ℕ) (n : ℕ) (ts : List Template) (u : ℕ) → Each (λ n x. Valid x.code) n ts → named_from keep n ts u ≡ true
    → closure_names (map (trim_template g) (sift keep n ts)) (g u) ≡ true
unfolding named_from closure_names sift
named_kept keep g n [] u v e = never e
named_kept keep g n (x ∷ ts) u v e =
    go (keep n) e
    (λ h. subst (λ (m : ℕ). closure_names (map (trim_template g) (sift keep m ts)) (g u) ≡ true) (add-one n) (named_kept keep g (n + 1) ts u v.1 h))
  where
    go : (b : Bool) → ((b && closes x.entries u x.code) || named_from keep (n + 1) ts u) ≡ true
        → (named_from keep (n + 1) ts u ≡ true → closure_names (map (trim_template g) (sift keep (suc n) ts)) (g u) ≡ true)
        → closure_names (map (trim_template g) (cond b (x ∷ sift keep (suc n) ts) (sift keep (suc n) ts))) (g u) ≡ true
    go true e rest =
        let A = closes (trim_template g x).entries (g u) (trim_template g x).code in
        let R = closure_names (map (trim_template g) (sift keep (suc n) ts)) (g u) in
        or_cases (closes x.entries u x.code) (named_from keep (n + 1) ts u) e
        (λ h. or_left A R (trim_closes g x u v.0 h)) (λ h. or_right A R (rest h))
    go false e rest = rest e

-- ---- trimmed again
-- where nothing is an orphan every round leaves all
named_all : (k : ℕ → Bool) (t : ℕ) (ts : List Template) (u : ℕ) → ((v : ℕ) → t ≤ v → v < t + length ts → k v ≡ true) → closure_names ts u ≡ true
    → named_from k t ts u ≡ true
unfolding named_from closure_names
named_all k t [] u h e = never e
named_all k t (x ∷ ts) u h e =
    let z : k t ≡ true = h t (omega arith) (omega arith) in
    or_cases (closes x.entries u x.code) (closure_names ts u) e
    (λ q. or_left (k t && closes x.entries u x.code) (named_from k (t + 1) ts u) (rw (z, q) refl))
    (λ q. or_right (k t && closes x.entries u x.code) (named_from k (t + 1) ts u) (named_all k (t + 1) ts u (λ v a b. h v (omega arith) (omega arith)) q))

all_there : (ts : List Template) → ((u : ℕ) → 1 ≤ u → u < length ts → closure_names ts u ≡ true) → (n u : ℕ) → u < length ts → there n ts u ≡ true
unfolding there
all_there ts h zero u l = refl
all_there ts h (suc n) zero l = refl
all_there ts h (suc n) (suc u) l =
    or_right (eqb (suc u) 0) (named_from (there n ts) 0 ts (suc u))
    (named_all (there n ts) 0 ts (suc u) (λ v a b. all_there ts h n v (omega arith)) (h (suc u) (omega arith) l))

index_id : (c : Code) → reindex (λ n. n) c ≡ c
unfolding reindex reindexed
index_id done = refl
index_id (neutral op ns r) = rw (same (leb op 9), index_id r) refl
  where
    map_id : (l : List ℕ) → map (λ (n : ℕ). n) l ≡ l
    map_id [] = refl
    map_id (n ∷ l) = ap (λ (l : List ℕ). n ∷ l) (map_id l)

    same : (b : Bool) → cond b (map (λ (n : ℕ). n) ns) ns ≡ ns
    same true = map_id ns
    same false = refl
index_id (return r) = rw (index_id r) refl
index_id (call n r) = rw (index_id r) refl
index_id (unless_false x y r) = rw (index_id x, index_id y, index_id r) refl
index_id (make_cont n x r) = rw (index_id x, index_id r) refl

entries_id : (g : ℕ → ℕ) (own T : ℕ) (es : List Entry) → EntriesOk own T es → ((u : ℕ) → u < T → g u ≡ u) → map (renumber g) es ≡ es
unfolding renumber
entries_id g own T [] ok h = refl
entries_id g own T (e ∷ es) ok h = rw (one e ok.0, entries_id g own T es ok.1 h) refl
  where
    one : (e : Entry) → EntryOk own T e → renumber g e ≡ e
    one (constant t x) q = refl
    one (global n) q = refl
    one (template u) q = rw (h u q.1) refl

template_id : (g : ℕ → ℕ) (T own : ℕ) (x : Template) → TreeWritable T own x → indices_fit x.entries x.code ≡ true
    → ((n : ℕ) → n < length x.entries → names (suc n) x.code ≡ true) → ((u : ℕ) → u < T → g u ≡ u) → trim_template g x ≡ x
unfolding trim_template new_index
template_id g T own x ok fit all h =
    let k : ℕ → Bool = λ j. names (suc j) x.code in
    let at : (i : ℕ) → i < length x.entries → k (0 + i) ≡ true = λ i l. rw (zero-add i) (all i l) in
    let es : map (renumber g) (sift k 0 x.entries) ≡ x.entries =
    ap (map (renumber g)) (sift_all k 0 x.entries at) ∙ entries_id g own T x.entries ok.entries_ok h in
    let c : reindex (new_index x.code) x.code ≡ x.code =
    reindex_same (new_index x.code) (λ n. n) x.code ok.valid_code (λ n e. same n (names_within x.entries n x.code fit e)) ∙ index_id x.code in
    rw (es, c) refl
  where
    same : (n : ℕ) → (1 ≤ n) × (n ≤ length x.entries) → new_index x.code n ≡ n
    same zero l = refl
    same (suc i) l = ap suc (rank_all (λ j. names (suc j) x.code) 0 i (λ j q. rw (zero-add j) (all j (omega arith))))

map_id : (g : Template → Template) (n : ℕ) (ts : List Template) → Each (λ n x. g x ≡ x) n ts → map g ts ≡ ts
map_id g n [] h = refl
map_id g n (x ∷ ts) h = rw (h.0, map_id g (n + 1) ts h.1) refl

-- ---- THE THEOREMS
module _ (s : List ℕ) (ts : List Template) (q : ℕ) (e : tree_checked s ≡ got ts q) where
  abbrev keep : ℕ → Bool
  keep = stays ts

  abbrev ts' : List Template
  ts' = trimmed ts

  abbrev again : List Template
  again = placed 8 ts'

  read : tree_read s ≡ got ts q
  read = checked_read s ts q e

  ok : TreeWritables ts
  ok = tree_writable s ts q read

  fit : Each (λ n x. indices_fit x.entries x.code ≡ true) 0 ts
  fit = all_lowest indexed_template 0 ts (checked s ts q e).indexed

  closed : Each (λ n x. is_closed x.code ≡ true) 0 ts
  closed = all_lowest closed_template 0 ts (checked s ts q e).closed

  count : length ts' ≡ rank keep 0 (length ts)
  unfolding trimmed trim
  count = length-map (sift keep 0 ts) (trim_template (rank keep 0)) ∙ sift_length keep 0 ts

  pub first_stays : keep 0 ≡ true
  unfolding stays there
  first_stays = go (length ts) ok.at_least_one
    where
      go : (n : ℕ) → 1 ≤ n → there n ts 0 ≡ true
      go zero h = absurd (omega arith)
      go (suc n) h = refl

  writable_each : Each (TreeWritable (rank keep 0 (length ts))) 0 ts'
  unfolding trimmed trim rank
  writable_each =
      each_sift keep (TreeWritable (rank keep 0 (length ts)))
      (λ n x. TreeWritable (length ts) n x × ((indices_fit x.entries x.code ≡ true) × Leads keep n x)) (trim_template (rank keep 0))
      (λ t x k h. trim_writable (rank keep 0) x keep (length ts) t refl h.0 h.1.0 k h.1.1) 0 ts
      (both_each (TreeWritable (length ts)) (λ n x. (indices_fit x.entries x.code ≡ true) × Leads keep n x) 0 ts ok.each
      (both_each (λ n x. indices_fit x.entries x.code ≡ true) (Leads keep) 0 ts fit (stays_leads ts ok.each)))

  writable : TreeWritables ts'
  writable =
      let a = rank_grows keep 0 0 (length ts) ok.at_least_one first_stays in
      record {
        at_least_one = omega (arith, count);
        at_most_64 = omega (arith, count, rank_most keep 0 (length ts), ok.at_most_64);
        each = subst (λ (T : ℕ). Each (TreeWritable T) 0 ts') (sym count) writable_each;
      }

  pub trimmed_short : length (tree_file ts') ≤ length s
  unfolding trimmed trim file_bits
  trimmed_short =
      let a = all_short (rank keep 0) keep 0 ts in
      let l : length (tree_file ts') ≡ (length (file_bits ts') + 7) / 8 = file_length ts' in
      let w : (length (file_bits ts) + 7) / 8 ≡ length s = (tree_known s ts q read).whole in
      let n : length (file_bits ts') ≡ 8 + length (templates_bits (map (trim_template (rank keep 0)) (sift keep 0 ts))) = simp (length-append, length_bits) in
      let m : length (file_bits ts) ≡ 8 + length (templates_bits ts) = simp (length-append, length_bits) in
      omega arith

  trimmed_read : tree_read (tree_file ts') ≡ got again (8 * length (tree_file ts'))
  trimmed_read = let h : length s ≤ 65536 = (tree_parts s read).short in tree_back ts' writable (omega (arith, trimmed_short))

  fits_each : Each (λ n x. indices_fit x.entries x.code ≡ true) 0 again
  unfolding trimmed trim rank
  fits_each =
      placed_each (λ n x. indices_fit x.entries x.code ≡ true) (λ n p x h. h) 0 8 ts'
      (each_sift keep (λ n x. indices_fit x.entries x.code ≡ true) (λ n x. TreeWritable (length ts) n x × (indices_fit x.entries x.code ≡ true))
      (trim_template (rank keep 0)) (λ t x k h. trim_fits (rank keep 0) x h.0.valid_code h.1) 0 ts
      (both_each (TreeWritable (length ts)) (λ n x. indices_fit x.entries x.code ≡ true) 0 ts ok.each fit))

  closed_each : Each (λ n x. is_closed x.code ≡ true) 0 again
  unfolding trimmed trim rank trim_template
  closed_each =
      placed_each (λ n x. is_closed x.code ≡ true) (λ n p x h. h) 0 8 ts'
      (each_sift keep (λ n x. is_closed x.code ≡ true) (λ n x. is_closed x.code ≡ true) (trim_template (rank keep 0))
      (λ t x k h. same_closed (new_index x.code) x.code ∙ h) 0 ts closed)

  -- the trimmed file passes 1 to 7
  pub trimmed_checked : tree_checked (tree_file ts') ≡ got again (8 * length (tree_file ts'))
  unfolding tree_checked then or_lowest
  trimmed_checked = rw (trimmed_read, lowest_all closed_template 0 0 again closed_each, lowest_all indexed_template 0 0 again fits_each) refl

  none_orphan : (u : ℕ) → 1 ≤ u → u < length ts' → closure_names ts' u ≡ true
  unfolding trimmed trim rank
  none_orphan u h l =
      let o = rank_old keep 0 (length ts) u (omega (arith, count)) in
      let v = o.number in
      let k : stays ts v ≡ true = rw (zero-add v) at o.stays in
      let more : there (suc (length ts)) ts v ≡ true = rounds_end ts (up_each (length ts) 0 ts ok.each) v o.below (suc (length ts)) (omega arith) ∙ k in
      subst (λ (n : ℕ). closure_names (map (trim_template (rank keep 0)) (sift keep 0 ts)) n ≡ true) o.is
      (named_kept keep (rank keep 0) 0 ts v (each_weaker (λ n x w. w.valid_code) 0 ts ok.each) (by v o.is more))
    where
      by : (v : ℕ) → rank keep 0 v ≡ u → there (suc (length ts)) ts v ≡ true → named_from keep 0 ts v ≡ true
      by zero r m = absurd (omega arith)
      by (suc v) r m = or_cases (eqb (suc v) 0) (named_from (there (length ts) ts) 0 ts (suc v)) m
          (λ z. never (sym (ne_eqb (suc v) 0 (λ y. omega arith)) ∙ z)) (λ z. z)

  again_names : (u : ℕ) → 1 ≤ u → u < length again → closure_names again u ≡ true
  again_names u h l = placed_names 8 ts' u ∙ none_orphan u h (omega (arith, placed_length 8 ts'))

  -- and request 4
  pub trimmed_accepted : tree_accepted (tree_file ts') ≡ got again (8 * length (tree_file ts'))
  unfolding tree_accepted then or_lowest
  trimmed_accepted = rw (trimmed_checked, no_orphan again again_names) refl

  -- trimming it again changes nothing: nothing of it goes, and it is the same
  pub again_stays : (u : ℕ) → u < length again → stays again u ≡ true
  unfolding stays
  again_stays u l = all_there again again_names (length again) u l

  again_named : Each (λ n x. (m : ℕ) → m < length x.entries → names (suc m) x.code ≡ true) 0 again
  unfolding trimmed trim rank
  again_named =
      placed_each (λ n x. (m : ℕ) → m < length x.entries → names (suc m) x.code ≡ true) (λ n p x h. h) 0 8 ts'
      (each_sift keep (λ n x. (m : ℕ) → m < length x.entries → names (suc m) x.code ≡ true) (TreeWritable (length ts)) (trim_template (rank keep 0))
      (λ t x k h. trim_named (rank keep 0) x h.valid_code) 0 ts ok.each)

  again_writable : Each (TreeWritable (length again)) 0 again
  again_writable =
      subst (λ (T : ℕ). Each (TreeWritable T) 0 again) (sym (placed_length 8 ts'))
      (placed_each (TreeWritable (length ts'))
      (λ n p x w. record { entries_ok = w.entries_ok; few = w.few; valid_code = w.valid_code; deep = w.deep }) 0 8 ts' writable.each)

  pub trimmed_again : trimmed again ≡ again
  unfolding trimmed trim
  trimmed_again =
      let r : (u : ℕ) → u < length again → rank (stays again) 0 u ≡ u = λ u l. rank_all (stays again) 0 u (λ i j. again_stays (0 + i) (omega arith)) in
      ap (map (trim_template (rank (stays again) 0))) (sift_all (stays again) 0 again (λ i l. again_stays (0 + i) (omega arith)))
      ∙ map_id (trim_template (rank (stays again) 0)) 0 again
      (each_weaker
      (λ n x h. template_id (rank (stays again) 0) (length again) n x h.0 h.1.0 h.1.1 r) 0 again
      (both_each (TreeWritable (length again)) (λ n x. (indices_fit x.entries x.code ≡ true)
      × ((m : ℕ) → m < length x.entries → names (suc m) x.code ≡ true)) 0 again again_writable
      (both_each (λ n x. indices_fit x.entries x.code ≡ true) (λ n x. (m : ℕ) → m < length x.entries
      → names (suc m) x.code ≡ true) 0 again fits_each again_named)))

  pub file_again : tree_file (trimmed again) ≡ tree_file ts'
  unfolding tree_file file_bits
  file_again = rw (trimmed_again, placed_bits 8 ts', placed_length 8 ts') refl
