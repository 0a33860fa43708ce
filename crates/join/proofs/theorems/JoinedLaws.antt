-- What is joined, read back: it passes 1 to 7 as an operand, its templates are the joined ones. Assumes nothing.
use Prim.Native.Nat.{ℕ, zero, suc, ◌+◌, ◌*◌, ◌≤◌}
use native.Mathlib.Omega.{arith}
use Rattle.std.specs.Prelude.{◌≡◌, Bool, true, false, cond, ◌&&◌, ◌||◌, get_or, leb}
use Rattle.std.proofs.Math.Path.{refl}
use Rattle.std.proofs.Common.{ap, ◌∙◌, leb-true}
use Rattle.std.proofs.Math.Bool.{and-eq-true_iff}
use mathlib.Core.List.{List, [], ◌∷◌, ◌++◌}
use Rattle.std.proofs.Math.Option.{none}
use Rattle.std.proofs.Math.ListN.{length, length-append}
use Rattle.cells.specs.laws.Laws.{clash}
use Rattle.files.specs.Code.{Code, done, neutral, return, call, unless_false, make_cont}
use Rattle.files.specs.Reading.{got, refused}
use Rattle.files.specs.Entries.{Entry, constant, global, template, then}
use Rattle.files.specs.laws.EntriesLaws.{EntryOk, EntriesOk}
use Rattle.files.specs.laws.AllGot.{then_led, got_value}
use Rattle.files.specs.laws.AcceptedLaws.{lowest_none, or_led}
use Rattle.files.specs.Accepted.{or_lowest, tree_checked}
use Rattle.files.specs.Flat.{flat}
use Rattle.files.specs.Outcome.{into_bytes}
use Rattle.files.specs.Tree.{Template, tree_read}
use Rattle.files.specs.Grammar.{is_empty, is_open, is_closed, entry_of, suits, index_fits, each_neutral, indices_fit, lowest, closed_template, indexed_template}
use Rattle.files.specs.Valid.{Valid}
use Rattle.files.specs.laws.GrammarLaws.{never}
use Rattle.readback.specs.laws.Led.{cond_led}
use Rattle.tree_file.specs.File.{templates_bits, file_bits, tree_file, placed, levels}
use Rattle.tree_file.specs.laws.Writable.{TreeWritable}
use Rattle.tree_file.proofs.theorems.Back.{TreeWritables, tree_back}
use Rattle.tree_file.specs.laws.Placed.{placed_length, placed_bits, lowest_placed}
use Rattle.tree_file.proofs.theorems.Written.{tree_writable}
use Rattle.rewrite.specs.laws.ReindexLaws.{same_empty, same_open, same_closed, valid_reindex, indices_move}
use Rattle.join.specs.laws.AdjoinLaws.{adjoin_open, adjoin_closed, adjoin_valid, adjoin_each, adjoin_flat}
use Rattle.join.specs.Join.{is_prologue, indices_checked, prologue_checked, unclosed, second_checked, moved, joined_first, joined_templates}
use Rattle.join.specs.Join.{within_limits, joined, joined_file}

-- ---- an operand that was judged
-- templates of a second operand that nothing refuses
pub record Sound (ts : List Template) : Type 0 where
  pub writable : TreeWritables ts
  pub indexed : lowest indexed_template 0 ts ≡ none
  pub shut : unclosed ts ≡ none

pub second_sound : (s : List ℕ) (ts : List Template) (q : ℕ) → second_checked s ≡ got ts q → Sound ts
unfolding second_checked indices_checked
second_sound s ts q e =
    then_led (tree_read s) _ e
    (λ us r first on.
    let a = or_led 6 (unclosed us) _ on in
    let b = or_led 7 (lowest indexed_template 0 us) (got us r) a.1 in
    let z : us ≡ ts = (got_value b.1).0 in
    record { writable = tree_writable s ts q (first ∙ b.1); indexed = rw z at b.0; shut = rw z at a.0 })

-- a prologue is a second operand too
pub prologue_second : (s : List ℕ) (ts : List Template) (q : ℕ) → prologue_checked s ≡ got ts q → (is_prologue ts ≡ true) × (second_checked s ≡ got ts q)
unfolding prologue_checked second_checked unclosed or_lowest then
prologue_second s ts q e =
    then_led (tree_read s) _ e
    (λ us r first on.
    let a = cond_led (is_prologue us) _ 6 0 on in
    let b = or_led 7 (lowest indexed_template 0 us) (got us r) a.1 in
    let z : us ≡ ts = (got_value b.1).0 in
    (rw z at a.0, rw (first, a.0) a.1))

pub second_prologue : (s : List ℕ) (ts : List Template) (q : ℕ) → is_prologue ts ≡ true → second_checked s ≡ got ts q → prologue_checked s ≡ got ts q
unfolding prologue_checked second_checked then
second_prologue s ts q o e =
    then_led (tree_read s) _ e
    (λ us r first on.
    let a = or_led 6 (unclosed us) _ on in
    let b = or_led 7 (lowest indexed_template 0 us) (got us r) a.1 in
    let z : us ≡ ts = (got_value b.1).0 in
    rw (first, z, o) (rw z at a.1))

-- and what is no prologue is a file that passes 1 to 7
second_file : (s : List ℕ) (ts : List Template) (q : ℕ) → is_prologue ts ≡ false → second_checked s ≡ got ts q → tree_checked s ≡ got ts q
unfolding tree_checked second_checked indices_checked unclosed or_lowest then
second_file s ts q o e =
    then_led (tree_read s) _ e
    (λ us r first on.
    let a = or_led 6 (unclosed us) _ on in
    let b = or_led 7 (lowest indexed_template 0 us) (got us r) a.1 in
    let z : us ≡ ts = (got_value b.1).0 in
    let c : lowest closed_template 0 us ≡ none = rw (ap is_prologue z ∙ o) at a.0 in
    rw (first, c) a.1)

-- ---- where the lists start does not matter
pub file_placed : (t : Template) (p : ℕ) (ts : List Template) → tree_file (t ∷ placed p ts) ≡ tree_file (t ∷ ts)
unfolding tree_file file_bits templates_bits
file_placed t p ts = rw (placed_length p ts, placed_bits p ts) refl

prologue_placed : (p : ℕ) (ts : List Template) → is_prologue (placed p ts) ≡ is_prologue ts
unfolding is_prologue placed
prologue_placed p [] = refl
prologue_placed p (t ∷ []) = refl
prologue_placed p (t ∷ u ∷ ts) = refl

-- ---- read back
module _ (ts : List Template) (ok : Sound ts) (fits : length (tree_file ts) ≤ 65536) where
  read_back : tree_read (tree_file ts) ≡ got (placed 8 ts) (8 * length (tree_file ts))
  read_back = tree_back ts ok.writable fits

  indices_back : (q : ℕ) → indices_checked (placed 8 ts) q ≡ got (placed 8 ts) q
  unfolding indices_checked or_lowest
  indices_back q = rw (lowest_placed indexed_template (λ p t. refl) 0 8 ts, ok.indexed) refl

  unclosed_back : unclosed (placed 8 ts) ≡ none
  unfolding unclosed
  unclosed_back = rw (prologue_placed 8 ts, lowest_placed closed_template (λ p t. refl) 0 8 ts) ok.shut

  -- as a second operand
  pub second_back : second_checked (tree_file ts) ≡ got (placed 8 ts) (8 * length (tree_file ts))
  unfolding second_checked then or_lowest
  second_back = rw (read_back, unclosed_back) (indices_back (8 * length (tree_file ts)))

  -- and as the first
  pub prologue_back : prologue_checked (tree_file ts) ≡ cond (is_prologue ts) (got (placed 8 ts) (8 * length (tree_file ts))) (refused 6 0)
  unfolding prologue_checked then
  prologue_back = rw (read_back, prologue_placed 8 ts, indices_back (8 * length (tree_file ts))) refl

-- ---- entries: the prologue's, and then the file's
module _ (op : ℕ) where
  -- an entry of the first keeps its index
  suits_before : (es ds : List Entry) (n : ℕ) → suits op (entry_of es n) ≡ true → suits op (entry_of (es ++ ds) n) ≡ true
  unfolding entry_of suits
  suits_before es ds zero e = clash (cc)
  suits_before [] ds (suc n) e = clash (cc)
  suits_before (x ∷ es) ds (suc zero) e = e
  suits_before (x ∷ es) ds (suc (suc n)) e = suits_before es ds (suc n) e

  -- one of the second moves up
  suits_after : (es ds : List Entry) (m n : ℕ) → m ≡ length es + n → suits op (entry_of ds n) ≡ true → suits op (entry_of (es ++ ds) m) ≡ true
  unfolding entry_of suits
  suits_after es ds m zero f e = clash (cc)
  suits_after [] ds m (suc n) f e = let z : m ≡ suc n = omega arith in rw z e
  suits_after (x ∷ es) ds zero (suc n) f e = absurd (omega arith)
  suits_after (x ∷ es) ds (suc zero) (suc n) f e = absurd (omega arith)
  suits_after (x ∷ es) ds (suc (suc m)) (suc n) f e = suits_after es ds (suc m) (suc n) (omega arith) e

-- a prologue has no template entries, so that they suit any file
entry_any : (T : ℕ) (e : Entry) → EntryOk 0 1 e → EntryOk 0 T e
entry_any T (constant t x) h = h
entry_any T (global g) h = h
entry_any T (template t) h = absurd (omega (arith, h.0, h.1))

entries_after : (T : ℕ) (es ds : List Entry) → EntriesOk 0 1 es → EntriesOk 0 T ds → EntriesOk 0 T (es ++ ds)
entries_after T [] ds h k = k
entries_after T (e ∷ es) ds h k = (entry_any T e h.0, entries_after T es ds h.1 k)

-- ---- what is within the limits
pub record Within (t : Template) (ts us : List Template) (q : ℕ) : Type 0 where
  pub few : length t.entries ≤ 255
  pub deep : levels t.code ≤ 15
  pub short : length (tree_file (t ∷ ts)) ≤ 65536
  pub same : t ∷ ts ≡ us
  pub past : 8 * length (tree_file (t ∷ ts)) ≡ q

pub within : (t : Template) (ts us : List Template) (q : ℕ) → within_limits (t ∷ ts) ≡ got us q → Within t ts us q
unfolding within_limits
within t ts us q e =
    let a = cond_led (leb (length t.entries) 255) _ 30 0 e in
    let b = cond_led (leb (levels t.code) 15) _ 4 0 a.1 in
    let c = cond_led (leb (length (tree_file (t ∷ ts))) 65536) _ 1 0 b.1 in
    let v = got_value c.1 in
    record { few = leb-true _ 255 a.0; deep = leb-true _ 15 b.0; short = leb-true _ 65536 c.0; same = v.0; past = v.1 }

-- ---- the joined templates
-- a list that is open or closed is not empty
open_some : (c : Code) → is_open c ≡ true → is_empty c ≡ false
unfolding is_open is_empty
open_some done e = clash (cc)
open_some (neutral op ns r) e = refl
open_some (return r) e = refl
open_some (call n r) e = refl
open_some (unless_false x y r) e = refl
open_some (make_cont n x r) e = refl

closed_some : (c : Code) → is_closed c ≡ true → is_empty c ≡ false
unfolding is_closed is_empty
closed_some done e = clash (cc)
closed_some (neutral op ns r) e = refl
closed_some (return r) e = refl
closed_some (call n r) e = refl
closed_some (unless_false x y r) e = refl
closed_some (make_cont n x r) e = refl

either_some : (t : Template) (ts : List Template) → unclosed (t ∷ ts) ≡ none → is_empty t.code ≡ false
unfolding unclosed is_prologue
either_some t [] e = go (is_open t.code) refl e
  where
    go : (b : Bool) → is_open t.code ≡ b → cond b none (lowest closed_template 0 (t ∷ [])) ≡ none → is_empty t.code ≡ false
    go true o h = open_some t.code o
    go false o h = closed_some t.code (lowest_none closed_template 0 t [] h).0
either_some t (u ∷ ts) e = closed_some t.code (lowest_none closed_template 0 t (u ∷ ts) e).0

-- a test that is weaker
each_neutral_lem : (ok ok' : ℕ → ℕ → Bool) → ((op n : ℕ) → ok op n ≡ true → ok' op n ≡ true) → (c : Code) → each_neutral ok c ≡ true → each_neutral ok' c ≡ true
unfolding each_neutral
each_neutral_lem ok ok' f done e = refl
each_neutral_lem ok ok' f (neutral op ns r) e =
    let a = (and-eq-true_iff (ok op (get_or ns 0 0)) (each_neutral ok r)).0 e in
    rw (f op (get_or ns 0 0) a.0, each_neutral_lem ok ok' f r a.1) refl
each_neutral_lem ok ok' f (return r) e = each_neutral_lem ok ok' f r e
each_neutral_lem ok ok' f (call n r) e = each_neutral_lem ok ok' f r e
each_neutral_lem ok ok' f (unless_false x y r) e =
    let a = (and-eq-true_iff (each_neutral ok x && each_neutral ok y) (each_neutral ok r)).0 e in
    let b = (and-eq-true_iff (each_neutral ok x) (each_neutral ok y)).0 a.0 in
    rw (each_neutral_lem ok ok' f x b.0, each_neutral_lem ok ok' f y b.1, each_neutral_lem ok ok' f r a.1) refl
each_neutral_lem ok ok' f (make_cont n x r) e =
    let a = (and-eq-true_iff (each_neutral ok x) (each_neutral ok r)).0 e in
    rw (each_neutral_lem ok ok' f x a.0, each_neutral_lem ok ok' f r a.1) refl

index_before : (es ds : List Entry) (op n : ℕ) → index_fits es op n ≡ true → index_fits (es ++ ds) op n ≡ true
unfolding index_fits
index_before es ds op n = go (leb op 9)
  where
    go : (b : Bool) → cond b (suits op (entry_of es n)) true ≡ true → cond b (suits op (entry_of (es ++ ds) n)) true ≡ true
    go true e = suits_before op es ds n e
    go false e = refl

module _ (p t : Template) (ts : List Template) (first : Sound (p ∷ [])) (opened : is_open p.code ≡ true) (second : Sound (t ∷ ts)) where
  abbrev E : ℕ
  E = length p.entries

  open_or_empty : (is_empty p.code || is_open p.code) ≡ true
  open_or_empty = rw (open_some p.code opened, opened) refl

  moved_some : is_empty (moved E t.code) ≡ false
  unfolding moved
  moved_some = same_empty (λ i. E + i) t.code ∙ either_some t ts second.shut

  -- open or closed as the second operand is
  open_as : is_open (joined_first p t).code ≡ is_open t.code
  unfolding joined_first moved
  open_as = adjoin_open p.code (moved E t.code) open_or_empty moved_some ∙ same_open (λ i. E + i) t.code

  closed_as : is_closed (joined_first p t).code ≡ is_closed t.code
  unfolding joined_first moved
  closed_as = adjoin_closed p.code (moved E t.code) open_or_empty moved_some ∙ same_closed (λ i. E + i) t.code

  pub prologue_as : is_prologue (joined_first p t ∷ ts) ≡ is_prologue (t ∷ ts)
  unfolding is_prologue
  prologue_as = go ts
    where
      go : (us : List Template) → is_prologue (joined_first p t ∷ us) ≡ is_prologue (t ∷ us)
      go [] = open_as
      go (u ∷ us) = refl

  joined_shut : unclosed (joined_first p t ∷ ts) ≡ none
  unfolding unclosed lowest
  joined_shut = rw (prologue_as, closed_as) second.shut

  -- each index suits its entry
  first_indexed : indices_fit p.entries p.code ≡ true
  first_indexed = (lowest_none indexed_template 0 p [] first.indexed).0

  second_indexed : indices_fit t.entries t.code ≡ true
  second_indexed = (lowest_none indexed_template 0 t ts second.indexed).0

  moved_indexed : indices_fit (p.entries ++ t.entries) (moved E t.code) ≡ true
  unfolding moved
  moved_indexed =
      indices_move (λ i. E + i) t.entries (p.entries ++ t.entries) (λ op n. suits_after op p.entries t.entries (E + n) n refl) t.code
      second_indexed

  all_indexed : indices_fit (joined_first p t).entries (joined_first p t).code ≡ true
  unfolding joined_first indices_fit
  all_indexed =
      let ok = index_fits (p.entries ++ t.entries) in
      adjoin_each ok p.code (moved E t.code)
      (each_neutral_lem (index_fits p.entries) ok (index_before p.entries t.entries) p.code first_indexed) moved_indexed

  joined_indexed : lowest indexed_template 0 (joined_first p t ∷ ts) ≡ none
  unfolding lowest
  joined_indexed = rw all_indexed (lowest_none indexed_template 0 t ts second.indexed).1

  module _ (few : length (joined_first p t).entries ≤ 255) (deep : levels (joined_first p t).code ≤ 15) where
    sum_few : E + length t.entries ≤ 255
    unfolding joined_first
    sum_few = omega (arith, length-append p.entries t.entries)

    moved_valid : Valid (moved E t.code)
    unfolding moved
    moved_valid =
        valid_reindex (λ i. E + i) t.entries (λ i h. omega (arith, sum_few)) t.code second.writable.each.0.valid_code second_indexed

    joined_writable : TreeWritable (length (t ∷ ts)) 0 (joined_first p t)
    unfolding joined_first
    joined_writable =
        record {
          entries_ok =
              entries_after (length (t ∷ ts)) p.entries t.entries first.writable.each.0.entries_ok second.writable.each.0.entries_ok;
          few = omega arith;
          valid_code = adjoin_valid p.code (moved E t.code) first.writable.each.0.valid_code moved_valid;
          deep = omega arith;
        }

    -- THE LAW: what is joined can be written, and passes 6 and 7 as an operand
    pub joined_sound : Sound (joined_first p t ∷ ts)
    joined_sound =
        record {
          writable = record {
            at_least_one = second.writable.at_least_one;
            at_most_64 = second.writable.at_most_64;
            each = (joined_writable, second.writable.each.1);
          };
          indexed = joined_indexed;
          shut = joined_shut;
        }

-- ---- the joined file
-- what is known of the file w of two operands that are joined
pub record JoinedAs (a b w : List ℕ) (q : ℕ) : Type 0 where
  pub p : Template
  pub t : Template
  pub ts : List Template
  pub end_a : ℕ
  pub end_b : ℕ
  pub first : prologue_checked a ≡ got (p ∷ []) end_a
  pub second : second_checked b ≡ got (t ∷ ts) end_b
  -- it passes 1 to 7 as the second operand did, and is read as what was joined
  pub operand : second_checked w ≡ got (placed 8 (joined_first p t ∷ ts)) q
  pub prologue : is_prologue (t ∷ ts) ≡ true → prologue_checked w ≡ got (placed 8 (joined_first p t ∷ ts)) q
  pub file : is_prologue (t ∷ ts) ≡ false → tree_checked w ≡ got (placed 8 (joined_first p t ∷ ts)) q
  -- its flat code is the prologue's and then the moved file's
  pub flat_code : flat (joined_first p t).code ≡ flat p.code ++ flat (moved (length p.entries) t.code)

into_led : (n : ℕ) (w : List ℕ) (r : ℕ) (v : List ℕ) (q : ℕ) → into_bytes n w r ≡ got v q → (w ≡ v) × (r ≡ q)
unfolding into_bytes
into_led n w r v q e = got_value (cond_led (leb (length w) n) (got w r) 9 (length w) e).1

joined_parts : (a b w : List ℕ) (n q : ℕ) (ps ts us : List Template) (u v r : ℕ) → prologue_checked a ≡ got ps u → second_checked b ≡ got ts v
    → within_limits (joined_templates ps ts) ≡ got us r → into_bytes n (tree_file us) r ≡ got w q → JoinedAs a b w q
unfolding joined_templates joined_first is_prologue
joined_parts a b w n q [] ts us u v r e f g h = never (prologue_second a [] u e).0
joined_parts a b w n q (p ∷ o ∷ ps) ts us u v r e f g h = never (prologue_second a (p ∷ o ∷ ps) u e).0
joined_parts a b w n q (p ∷ []) [] us u v r e f g h = absurd (omega (arith, (second_sound b [] v f).writable.at_least_one))
joined_parts a b w n q (p ∷ []) (t ∷ ts) us u v r e f g h =
    let k = prologue_second a (p ∷ []) u e in
    let j = joined_first p t ∷ ts in
    let first = second_sound a (p ∷ []) u k.1 in
    let second = second_sound b (t ∷ ts) v f in
    let i = within (joined_first p t) ts us r g in
    let s = joined_sound p t ts first k.0 second i.few i.deep in
    let z = into_led n (tree_file us) r w q h in
    let z₁ : tree_file j ≡ w = ap tree_file i.same ∙ z.0 in
    let z₂ : 8 * length (tree_file j) ≡ q = i.past ∙ z.1 in
    let x : second_checked w ≡ got (placed 8 j) q = rw (z₂, z₁) at (second_back j s i.short) in
    let like : is_prologue (placed 8 j) ≡ is_prologue (t ∷ ts) = prologue_placed 8 j ∙ prologue_as p t ts first k.0 second in
    record {
      p = p;
      t = t;
      ts = ts;
      end_a = u;
      end_b = v;
      first = e;
      second = f;
      operand = x;
      prologue = λ o. second_prologue w (placed 8 j) q (like ∙ o) x;
      file = λ o. second_file w (placed 8 j) q (like ∙ o) x;
      flat_code = adjoin_flat p.code (moved (length p.entries) t.code);
    }

-- THE LAW: the joined file passes 1 to 7, and its flat code is that of its operands
pub joined_as : (a b w : List ℕ) (n q : ℕ) → joined_file a b n ≡ got w q → JoinedAs a b w q
unfolding joined_file joined
joined_as a b w n q e =
    then_led (then (prologue_checked a) (λ ps p. then (second_checked b) (λ ts q. within_limits (joined_templates ps ts)))) _ e
    (λ us r on last.
    then_led (prologue_checked a) _ on
    (λ ps u e₁ on₁. then_led (second_checked b) _ on₁ (λ ts v e₂ on₂. joined_parts a b w n q ps ts us u v r e₁ e₂ on₂ last)))
