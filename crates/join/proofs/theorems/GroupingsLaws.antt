-- Both groupings agree (request 11). Assumes nothing.
use Rattle.std.specs.Prelude.{ℕ, ◌+◌, ◌*◌, ◌/◌, ◌≤◌, max, ◌≡◌, Bool, cond, drop, Result, Ok}
use Rattle.std.proofs.Common.{arith, ◌∙◌}
use Rattle.std.proofs.Math.Path.{refl, sym, ap}
use Rattle.std.proofs.Math.Bool.{true, false}
use mathlib.Core.List.{List, [], ◌∷◌, ◌++◌, append_assoc}
use borrow.Author.Tests.{leb-true, le-leb}
use Rattle.std.proofs.Math.ListN.{length, take, length-append}
use Rattle.std.proofs.Math.Seq.{take-append_seam}
use Rattle.std.proofs.Math.Dec.{leb}
use Rattle.cells.specs.laws.Laws.{clash}
use Rattle.files.specs.Code.{Code}
use Rattle.files.specs.Reading.{Got, got, refused}
use Rattle.files.specs.Entries.{then}
use Rattle.files.specs.laws.AllGot.{then_led, got_value}
use Rattle.files.specs.Tree.{Template}
use Rattle.files.specs.Grammar.{is_open}
use Rattle.files.specs.laws.GrammarLaws.{never}
use Rattle.readback.specs.laws.Led.{cond_led}
use Rattle.files.specs.Code.{bits}
use Rattle.files.specs.Linear.{bits_of, entries_bits}
use Rattle.files.specs.laws.ReadingLaws.{least_bits}
use Rattle.readback.specs.laws.Bits.{length_bits}
use Rattle.tree_file.specs.File.{tree_file, file_bits, templates_bits, placed, levels}
use Rattle.tree_file.specs.laws.Lengths.{template_length}
use Rattle.tree_file.proofs.theorems.Written.{file_length}
use Rattle.rewrite.specs.laws.ReindexLaws.{same_levels, reindex_twice}
use Rattle.files.specs.Outcome.{into_bytes, answered, written}
use Rattle.join.specs.Adjoin.{open_adjoin, joint_depth}
use Rattle.join.specs.laws.AdjoinLaws.{adjoin_assoc, adjoin_levels, adjoin_reindex}
use Rattle.join.proofs.theorems.FileLaws.{joined_size}
use Rattle.join.specs.Join.{is_prologue, prologue_checked, second_checked, moved, joined_first, joined_templates, within_limits, joined, joined_file}
use Rattle.join.specs.Groupings.{left_grouping, right_grouping, Agree, GroupingsAgree, file_within, left_order, right_order, stacked}
use Rattle.join.proofs.theorems.JoinedLaws.{Sound, second_sound, prologue_second, second_prologue, file_placed, second_back, prologue_back, Within, within}
use Rattle.join.proofs.theorems.JoinedLaws.{prologue_as, joined_sound}
use Rattle.files.specs.declared.Refusal.{Refusal}

-- ---- with ample output
module _ (n : ℕ) (ample : 65536 ≤ n) where
  into_all : (w : List ℕ) (q : ℕ) → length w ≤ 65536 → into_bytes n w q ≡ got w q
  unfolding into_bytes
  into_all w q h = rw (le-leb (length w) n (omega arith)) refl

  -- templates within the limits are the same file, wherever their lists start
  within_file : (t : Template) (us ts : List Template) → tree_file (t ∷ us) ≡ tree_file (t ∷ ts)
      → then (within_limits (t ∷ us)) (λ vs q. into_bytes n (tree_file vs) q) ≡ file_within (t ∷ ts)
  unfolding file_within within_limits then
  within_file t us ts e =
      rw e (go (leb (length t.entries) 255) (leb (levels t.code) 15) (leb (length (tree_file (t ∷ ts))) 65536) refl)
    where
      go : (x y z : Bool) → leb (length (tree_file (t ∷ ts))) 65536 ≡ z
          → then (cond x (cond y (cond z (got (t ∷ us) (8 * length (tree_file (t ∷ ts)))) (refused 1 0)) (refused 4 0)) (refused 30 0))
          (λ vs q. into_bytes n (tree_file vs) q)
          ≡ then (cond x (cond y (cond z (got (t ∷ ts) (8 * length (tree_file (t ∷ ts)))) (refused 1 0)) (refused 4 0)) (refused 30 0))
          (λ vs q. got (tree_file vs) q)
      go true true true h = rw e (into_all (tree_file (t ∷ ts)) _ (leb-true _ 65536 h))
      go true true false h = refl
      go true false z h = refl
      go false y z h = refl

  -- ---- the joined file as the first operand, and as the second
  module _ (p t : Template) (ts : List Template) (first : Sound (p ∷ [])) (opened : is_open p.code ≡ true) (second : Sound (t ∷ ts))
      (us : List Template) (r : ℕ) (fits : within_limits (joined_first p t ∷ ts) ≡ got us r) where
    abbrev js : List Template
    js = joined_first p t ∷ ts

    it : Within (joined_first p t) ts us r
    it = within (joined_first p t) ts us r fits

    sound : Sound js
    sound = joined_sound p t ts first opened second it.few it.deep

    -- and then c
    then_third : (c : List ℕ) → then (then (second_checked c) (λ xs z. within_limits (joined_templates (placed 8 js) xs))) (λ ys q. into_bytes n (tree_file ys) q)
        ≡ then (second_checked c) (λ xs z. file_within (joined_templates js xs))
    unfolding then joined_templates joined_first placed
    then_third c = go (second_checked c) refl
      where
        go : (g : Got (List Template)) → second_checked c ≡ g
            → then (then g (λ xs z. within_limits (joined_templates (placed 8 js) xs))) (λ ys q. into_bytes n (tree_file ys) q)
            ≡ then g (λ xs z. file_within (joined_templates js xs))
        go (refused m q) e = refl
        go (got [] q) e = absurd (omega (arith, (second_sound c [] q e).writable.at_least_one))
        go (got (x ∷ xs) q) e = within_file (joined_first (joined_first p t) x) xs xs refl

    left_on : (c : List ℕ) (b : Bool) → is_prologue (t ∷ ts) ≡ b
        → then (into_bytes n (tree_file us) r) (λ ab q. joined_file ab c n)
        ≡ cond b (then (second_checked c) (λ xs z. file_within (joined_templates us xs))) (refused 6 0)
    unfolding then joined_file joined
    left_on c true e =
        rw (← it.same, into_all (tree_file js) r it.short, prologue_back js sound it.short, prologue_as p t ts first opened second, e) (then_third c)
    left_on c false e =
        rw (← it.same, into_all (tree_file js) r it.short, prologue_back js sound it.short, prologue_as p t ts first opened second, e) refl

    -- behind a
    right_on : (a : List ℕ)
        → then (into_bytes n (tree_file us) r) (λ bc q. joined_file a bc n) ≡ then (prologue_checked a) (λ ps z. file_within (joined_templates ps us))
    unfolding then joined_file joined joined_templates joined_first placed is_prologue
    right_on a = rw (← it.same, into_all (tree_file js) r it.short, second_back js sound it.short) (go (prologue_checked a) refl)
      where
        go : (g : Got (List Template)) → prologue_checked a ≡ g
            → then (then g (λ ps z. within_limits (joined_templates ps (placed 8 js)))) (λ ys q. into_bytes n (tree_file ys) q)
            ≡ then g (λ ps z. file_within (joined_templates ps js))
        go (refused m q) e = refl
        go (got [] q) e = never (prologue_second a [] q e).0
        go (got (o ∷ os) q) e = within_file (joined_first o (joined_first p t)) _ ts (file_placed (joined_first o (joined_first p t)) _ ts)

-- ---- the orders
module _ (a b c : List ℕ) (n : ℕ) (ample : 65536 ≤ n) where
  left_got : (ps ts : List Template) (p q : ℕ) → prologue_checked a ≡ got ps p → second_checked b ≡ got ts q → left_grouping a b c n ≡ left_order a b c
  unfolding left_grouping left_order joined_file joined then joined_templates is_prologue
  left_got [] ts p q e f = never (prologue_second a [] p e).0
  left_got (o ∷ u ∷ ps) ts p q e f = never (prologue_second a (o ∷ u ∷ ps) p e).0
  left_got (o ∷ []) [] p q e f = absurd (omega (arith, (second_sound b [] q f).writable.at_least_one))
  left_got (o ∷ []) (t ∷ ts) p q e f = go (within_limits (joined_first o t ∷ ts)) refl
    where
      go : (g : Got (List Template)) → within_limits (joined_first o t ∷ ts) ≡ g → left_grouping a b c n ≡ left_order a b c
      go (refused m r) h = rw (e, f, h) refl
      go (got us r) h =
          let k = prologue_second a (o ∷ []) p e in
          rw (e, f, h)
          (left_on n ample o t ts (second_sound a (o ∷ []) p k.1) k.0 (second_sound b (t ∷ ts) q f) us r h c (is_prologue (t ∷ ts)) refl)

  -- THE LAW: (a b) c is what left_order says, its refusals too
  pub left_order_lem : left_grouping a b c n ≡ left_order a b c
  unfolding left_grouping left_order joined_file joined then
  left_order_lem = go (prologue_checked a) (second_checked b) refl refl
    where
      go : (g h : Got (List Template)) → prologue_checked a ≡ g → second_checked b ≡ h → left_grouping a b c n ≡ left_order a b c
      go (refused m p) h e f = rw e refl
      go (got ps p) (refused m q) e f = rw (e, f) refl
      go (got ps p) (got ts q) e f = left_got ps ts p q e f

  right_got : (ts xs : List Template) (q z : ℕ) → prologue_checked b ≡ got ts q → second_checked c ≡ got xs z → right_grouping a b c n ≡ right_order a b c
  unfolding right_grouping right_order joined_file joined then joined_templates is_prologue
  right_got [] xs q z e f = never (prologue_second b [] q e).0
  right_got (t ∷ u ∷ ts) xs q z e f = never (prologue_second b (t ∷ u ∷ ts) q e).0
  right_got (t ∷ []) [] q z e f = absurd (omega (arith, (second_sound c [] z f).writable.at_least_one))
  right_got (t ∷ []) (x ∷ xs) q z e f = go (within_limits (joined_first t x ∷ xs)) refl
    where
      go : (g : Got (List Template)) → within_limits (joined_first t x ∷ xs) ≡ g → right_grouping a b c n ≡ right_order a b c
      go (refused m r) h = rw (e, f, h) refl
      go (got us r) h =
          let k = prologue_second b (t ∷ []) q e in
          rw (e, f, h) (right_on n ample t x xs (second_sound b (t ∷ []) q k.1) k.0 (second_sound c (x ∷ xs) z f) us r h a)

  -- THE LAW: a (b c) is what right_order says
  pub right_order_lem : right_grouping a b c n ≡ right_order a b c
  unfolding right_grouping right_order joined_file joined then
  right_order_lem = go (prologue_checked b) (second_checked c) refl refl
    where
      go : (g h : Got (List Template)) → prologue_checked b ≡ g → second_checked c ≡ h → right_grouping a b c n ≡ right_order a b c
      go (refused m p) h e f = rw e refl
      go (got ts q) (refused m z) e f = rw (e, f) refl
      go (got ts q) (got xs z) e f = right_got ts xs q z e f

-- ---- joining templates is associative
moved_twice : (n m k : ℕ) (c : Code) → k ≡ n + m → moved n (moved m c) ≡ moved k c
unfolding moved
moved_twice n m k c e = reindex_twice (λ i. n + i) (λ i. m + i) (λ i. k + i) (λ i. omega arith) c

moved_adjoin : (n : ℕ) (y w : Code) → moved n (open_adjoin y w) ≡ open_adjoin (moved n y) (moved n w)
unfolding moved
moved_adjoin n y w = adjoin_reindex (λ i. n + i) y w

pub joined_assoc : (p t x : Template) → joined_first (joined_first p t) x ≡ joined_first p (joined_first t x)
unfolding joined_first
joined_assoc p t x =
    let e = length p.entries in
    let f = length t.entries in
    let codes : open_adjoin (open_adjoin p.code (moved e t.code)) (moved (length (p.entries ++ t.entries)) x.code)
    ≡ open_adjoin p.code (moved e (open_adjoin t.code (moved f x.code))) =
    adjoin_assoc p.code (moved e t.code) _
    ∙ ap (open_adjoin p.code) (ap (open_adjoin (moved e t.code)) (sym (moved_twice e f _ x.code (length-append p.entries t.entries)))
    ∙ sym (moved_adjoin e t.code (moved f x.code))) in
    rw (append_assoc p.entries t.entries x.entries, codes) refl

-- ---- what is joined is within the limits only where its operands are
length_file : (t : Template) (ts : List Template)
    → length (file_bits (t ∷ ts)) ≡ 16 + length (entries_bits t.entries) + bits t.code + length (templates_bits ts)
unfolding file_bits templates_bits
length_file t ts = simp (length-append, length_bits, template_length t) (omega arith)

module _ (p t : Template) (ts us : List Template) (q : ℕ) (fits : within_limits (joined_first p t ∷ ts) ≡ got us q) where
  all : Within (joined_first p t) ts us q
  all = within (joined_first p t) ts us q fits

  entries_all : length p.entries + length t.entries ≤ 255
  unfolding joined_first
  entries_all = omega (arith, all.few, length-append p.entries t.entries)

  levels_all : max (levels p.code) (joint_depth p.code + levels t.code) ≤ 15
  unfolding joined_first moved
  levels_all =
      omega (arith, all.deep, adjoin_levels p.code (moved (length p.entries) t.code), same_levels (λ i. length p.entries + i) t.code)

  length_all : (length (file_bits (joined_first p t ∷ ts)) + 7) / 8 ≤ 65536
  length_all = omega (arith, all.short, file_length (joined_first p t ∷ ts))

  within_got : (o : Template) (os : List Template) → length o.entries ≤ 255 → levels o.code ≤ 15
      → length (file_bits (o ∷ os)) ≤ length (file_bits (joined_first p t ∷ ts))
      → within_limits (o ∷ os) ≡ got (o ∷ os) (8 * length (tree_file (o ∷ os)))
  unfolding within_limits
  within_got o os h k l = rw (le-leb _ 255 h, le-leb _ 15 k, le-leb (length (tree_file (o ∷ os))) 65536 (omega (arith, length_all, file_length (o ∷ os)))) refl

  pub first_within : within_limits (p ∷ []) ≡ got (p ∷ []) (8 * length (tree_file (p ∷ [])))
  unfolding templates_bits
  first_within =
      within_got p [] (omega (arith, entries_all)) (omega (arith, levels_all))
      (omega (arith, joined_size p t ts, length_file p [], least_bits t.code))

  pub second_within : within_limits (t ∷ ts) ≡ got (t ∷ ts) (8 * length (tree_file (t ∷ ts)))
  second_within =
      within_got t ts (omega (arith, entries_all)) (omega (arith, levels_all))
      (omega (arith, joined_size p t ts, length_file t ts, least_bits p.code))

-- the file, by the templates that it is of
module _ (p t : Template) (ts : List Template) (w : List ℕ) (q : ℕ) (e : file_within (joined_first p t ∷ ts) ≡ got w q) where
  whole_first : within_limits (p ∷ []) ≡ got (p ∷ []) (8 * length (tree_file (p ∷ [])))
  unfolding file_within
  whole_first = then_led (within_limits (joined_first p t ∷ ts)) _ e (λ us r f on. first_within p t ts us r f)

  whole_second : within_limits (t ∷ ts) ≡ got (t ∷ ts) (8 * length (tree_file (t ∷ ts)))
  unfolding file_within
  whole_second = then_led (within_limits (joined_first p t ∷ ts)) _ e (λ us r f on. second_within p t ts us r f)

-- ---- from one order to the other
module _ (a b c w : List ℕ) (q : ℕ) where
  left_parts : (ps ts us xs : List Template) (p r s z : ℕ) → prologue_checked a ≡ got ps p → second_checked b ≡ got ts r
      → within_limits (joined_templates ps ts) ≡ got us s → is_prologue ts ≡ true → second_checked c ≡ got xs z → file_within (joined_templates us xs) ≡ got w q
      → right_order a b c ≡ got w q
  unfolding right_order then joined_templates is_prologue
  left_parts [] ts us xs p r s z e₁ e₂ e₃ o e₄ e = never (prologue_second a [] p e₁).0
  left_parts (y ∷ u ∷ ps) ts us xs p r s z e₁ e₂ e₃ o e₄ e = never (prologue_second a (y ∷ u ∷ ps) p e₁).0
  left_parts (y ∷ []) [] us xs p r s z e₁ e₂ e₃ o e₄ e = never o
  left_parts (y ∷ []) (t ∷ u ∷ ts) us xs p r s z e₁ e₂ e₃ o e₄ e = never o
  left_parts (y ∷ []) (t ∷ []) us [] p r s z e₁ e₂ e₃ o e₄ e = absurd (omega (arith, (second_sound c [] z e₄).writable.at_least_one))
  left_parts (y ∷ []) (t ∷ []) us (x ∷ xs) p r s z e₁ e₂ e₃ o e₄ e =
      let k : file_within (joined_first (joined_first y t) x ∷ xs) ≡ got w q = rw (← (within (joined_first y t) [] us s e₃).same) at e in
      let f : file_within (joined_first y (joined_first t x) ∷ xs) ≡ got w q = rw (joined_assoc y t x) at k in
      rw (second_prologue b (t ∷ []) r o e₂, e₄, whole_second y (joined_first t x) xs w q f, e₁) f

  right_parts : (ps ts us xs : List Template) (p r s z : ℕ) → prologue_checked b ≡ got ts r → second_checked c ≡ got xs z
      → within_limits (joined_templates ts xs) ≡ got us s → prologue_checked a ≡ got ps p → file_within (joined_templates ps us) ≡ got w q
      → left_order a b c ≡ got w q
  unfolding left_order then joined_templates is_prologue
  right_parts [] ts us xs p r s z e₂ e₄ e₃ e₁ e = never (prologue_second a [] p e₁).0
  right_parts (y ∷ u ∷ ps) ts us xs p r s z e₂ e₄ e₃ e₁ e = never (prologue_second a (y ∷ u ∷ ps) p e₁).0
  right_parts (y ∷ []) [] us xs p r s z e₂ e₄ e₃ e₁ e = never (prologue_second b [] r e₂).0
  right_parts (y ∷ []) (t ∷ u ∷ ts) us xs p r s z e₂ e₄ e₃ e₁ e = never (prologue_second b (t ∷ u ∷ ts) r e₂).0
  right_parts (y ∷ []) (t ∷ []) us [] p r s z e₂ e₄ e₃ e₁ e = absurd (omega (arith, (second_sound c [] z e₄).writable.at_least_one))
  right_parts (y ∷ []) (t ∷ []) us (x ∷ xs) p r s z e₂ e₄ e₃ e₁ e =
      let k : file_within (joined_first y (joined_first t x) ∷ xs) ≡ got w q = rw (← (within (joined_first t x) xs us s e₃).same) at e in
      let f : file_within (joined_first (joined_first y t) x ∷ xs) ≡ got w q = rw (joined_assoc y t x) k in
      let o = prologue_second b (t ∷ []) r e₂ in
      rw (e₁, o.1, whole_first (joined_first y t) x xs w q f, o.0, e₄) f

  left_right : left_order a b c ≡ got w q → right_order a b c ≡ got w q
  unfolding left_order
  left_right e =
      then_led (prologue_checked a) _ e
      (λ ps p e₁ on₁.
      then_led (second_checked b) _ on₁
      (λ ts r e₂ on₂.
      then_led (within_limits (joined_templates ps ts)) _ on₂
      (λ us s e₃ on₃.
      let k = cond_led (is_prologue ts) _ 6 0 on₃ in
      then_led (second_checked c) _ k.1 (λ xs z e₄ on₄. left_parts ps ts us xs p r s z e₁ e₂ e₃ k.0 e₄ on₄))))

  right_left : right_order a b c ≡ got w q → left_order a b c ≡ got w q
  unfolding right_order
  right_left e =
      then_led (prologue_checked b) _ e
      (λ ts r e₂ on₂.
      then_led (second_checked c) _ on₂
      (λ xs z e₄ on₄.
      then_led (within_limits (joined_templates ts xs)) _ on₄
      (λ us s e₃ on₃.
      then_led (prologue_checked a) _ on₃ (λ ps p e₁ on₁. right_parts ps ts us xs p r s z e₂ e₄ e₃ e₁ on₁))))

-- THE LAW of request 11
pub groupings_agree : GroupingsAgree
groupings_agree a b c n ample =
    let l = left_order_lem a b c n ample in
    let r = right_order_lem a b c n ample in
    record {
      there = λ w q e. r ∙ left_right a b c w q (sym l ∙ e);
      back = λ w q e. l ∙ right_left a b c w q (sym r ∙ e);
    }

-- ---- where both are accepted
module _ (a b c w : List ℕ) (q : ℕ) where
  parts_stacked : (ps ts us xs : List Template) (p r s z : ℕ) → prologue_checked b ≡ got ts r → second_checked c ≡ got xs z
      → within_limits (joined_templates ts xs) ≡ got us s → prologue_checked a ≡ got ps p → file_within (joined_templates ps us) ≡ got w q
      → stacked a b c ≡ got w q
  unfolding stacked then joined_templates is_prologue
  parts_stacked ps [] us xs p r s z e₂ e₄ e₃ e₁ e = never (prologue_second b [] r e₂).0
  parts_stacked ps (t ∷ ts) us [] p r s z e₂ e₄ e₃ e₁ e = absurd (omega (arith, (second_sound c [] z e₄).writable.at_least_one))
  parts_stacked ps (t ∷ ts) us (x ∷ xs) p r s z e₂ e₄ e₃ e₁ e =
      rw (e₁, e₂, e₄) (rw (← (within (joined_first t x) xs us s e₃).same) at e)

  stacked_parts : (ps ts xs : List Template) (p r z : ℕ) → prologue_checked a ≡ got ps p → prologue_checked b ≡ got ts r → second_checked c ≡ got xs z
      → file_within (joined_templates ps (joined_templates ts xs)) ≡ got w q → right_order a b c ≡ got w q
  unfolding right_order then joined_templates is_prologue
  stacked_parts [] ts xs p r z e₁ e₂ e₄ e = never (prologue_second a [] p e₁).0
  stacked_parts (y ∷ ps) [] xs p r z e₁ e₂ e₄ e = never (prologue_second b [] r e₂).0
  stacked_parts (y ∷ ps) (t ∷ ts) [] p r z e₁ e₂ e₄ e = absurd (omega (arith, (second_sound c [] z e₄).writable.at_least_one))
  stacked_parts (y ∷ ps) (t ∷ ts) (x ∷ xs) p r z e₁ e₂ e₄ e = rw (e₂, e₄, whole_second y (joined_first t x) xs w q e, e₁) e

  right_stacked : right_order a b c ≡ got w q → stacked a b c ≡ got w q
  unfolding right_order
  right_stacked e =
      then_led (prologue_checked b) _ e
      (λ ts r e₂ on₂.
      then_led (second_checked c) _ on₂
      (λ xs z e₄ on₄.
      then_led (within_limits (joined_templates ts xs)) _ on₄
      (λ us s e₃ on₃.
      then_led (prologue_checked a) _ on₃ (λ ps p e₁ on₁. parts_stacked ps ts us xs p r s z e₂ e₄ e₃ e₁ on₁))))

  stacked_right : stacked a b c ≡ got w q → right_order a b c ≡ got w q
  unfolding stacked
  stacked_right e =
      then_led (prologue_checked a) _ e
      (λ ps p e₁ on₁.
      then_led (prologue_checked b) _ on₁
      (λ ts r e₂ on₂. then_led (second_checked c) _ on₂ (λ xs z e₄ on₄. stacked_parts ps ts xs p r z e₁ e₂ e₄ on₄)))

-- THE LAW: a (b c), and so (a b) c, is accepted exactly there
pub accepted_exactly : (a b c : List ℕ) (n : ℕ) → 65536 ≤ n → Agree (right_grouping a b c n) (stacked a b c)
accepted_exactly a b c n ample =
    let r = right_order_lem a b c n ample in
    record {
      there = λ w q e. right_stacked a b c w q (sym r ∙ e);
      back = λ w q e. r ∙ stacked_right a b c w q e;
    }

-- ---- of the function, from its promise alone
-- join(a, b, out) answered r, where out held old and then new
pub record JoinPromise (a b old : List ℕ) (r : Result ℕ (Refusal ℕ)) (new : List ℕ) : Type 0 where
  pub answer : r ≡ answered (joined_file a b (length old))
  pub output : new ≡ written old (joined_file a b (length old))

-- no joined file is longer than 65,536 bytes
within_short : (ts us : List Template) (q : ℕ) → within_limits ts ≡ got us q → length (tree_file us) ≤ 65536
unfolding within_limits file_bits templates_bits bits_of
within_short [] us q e =
    let z : [] ≡ us = (got_value e).0 in
    let l : length (bits_of 8 0 ++ []) ≡ 8 = length-append (bits_of 8 0) [] in
    rw (← z) (omega (arith, file_length []))
within_short (t ∷ ts) us q e = let k = within t ts us q e in rw (← k.same) k.short

joined_short : (a b : List ℕ) (us : List Template) (q : ℕ) → joined a b ≡ got us q → length (tree_file us) ≤ 65536
unfolding joined
joined_short a b us q e =
    then_led (prologue_checked a) _ e
    (λ ps p e₁ on₁. then_led (second_checked b) _ on₁ (λ ts r e₂ on₂. within_short (joined_templates ps ts) us q on₂))

-- the k bytes w are what is joined
pub record IsFile (k : ℕ) (w : List ℕ) (g : Got (List ℕ)) : Type 0 where
  pub past : ℕ
  pub is : g ≡ got w past
  pub long : k ≡ length w

-- so outputs that are ample are alike
module _ (a b : List ℕ) (n : ℕ) (ample : 65536 ≤ n) where
  same_output : joined_file a b n ≡ joined_file a b 65536
  unfolding joined_file then
  same_output = go (joined a b) refl
    where
      go : (g : Got (List Template)) → joined a b ≡ g → then g (λ us q. into_bytes n (tree_file us) q) ≡ then g (λ us q. into_bytes 65536 (tree_file us) q)
      go (refused m q) e = refl
      go (got us q) e =
          let h : length (tree_file us) ≤ 65536 = joined_short a b us q e in
          into_all n ample (tree_file us) q h ∙ sym (into_all 65536 (omega arith) (tree_file us) q h)

  -- what was written is the joined file, for any ample output
  pub is_written : {old new : List ℕ} {k : ℕ} → length old ≡ n → JoinPromise a b old (Ok k) new
      → IsFile k (take k new) (joined_file a b 65536)
  unfolding answered written
  is_written {old} {new} {k} l p = go (joined_file a b (length old)) refl
    where
      go : (g : Got (List ℕ)) → joined_file a b (length old) ≡ g → IsFile k (take k new) (joined_file a b 65536)
      go (refused m q) e = let z : Ok k ≡ answered (refused m q) = rw e at p.answer in clash (cc)
      go (got w q) e =
          let z : Ok k ≡ answered (got w q) = rw e at p.answer in
          let m : k ≡ length w = cc in
          let o : new ≡ written old (got w q) = rw e at p.output in
          let t : take k new ≡ w = rw (m, o) (take-append_seam w (drop (length w) old)) in
          record { past = q; is = sym same_output ∙ ap (joined_file a b) (sym l) ∙ rw t e; long = rw t m }

  -- and what is the joined file is written
  pub writes : {old new : List ℕ} {r : Result ℕ (Refusal ℕ)} {w : List ℕ} {q : ℕ} → length old ≡ n → JoinPromise a b old r new → joined_file a b 65536 ≡ got w q
      → (r ≡ Ok (length w)) × (take (length w) new ≡ w)
  unfolding answered written
  writes {old} {new} {r} {w} {q} l p e =
      let f : joined_file a b (length old) ≡ got w q = ap (joined_file a b) l ∙ same_output ∙ e in
      let o : new ≡ written old (got w q) = rw f at p.output in
      (rw f at p.answer, rw o (take-append_seam w (drop (length w) old)))

-- a first join answered r and left new; the second, of what it wrote, gives the k bytes w, whatever ample output it has
pub record Follows (Second : List ℕ → List ℕ → Result ℕ (Refusal ℕ) → List ℕ → Type 0) (r : Result ℕ (Refusal ℕ)) (new : List ℕ) (k : ℕ) (w : List ℕ) : Type 0 where
  pub size : ℕ
  pub first : r ≡ Ok size
  pub second : (old' new' : List ℕ) (r' : Result ℕ (Refusal ℕ)) → 65536 ≤ length old' → Second (take size new) old' r' new' → (r' ≡ Ok k) × (take k new' ≡ w)

module _ (a b c : List ℕ) {o₁ n₁ o₂ n₂ o₃ n₃ : List ℕ} {m k : ℕ} {r : Result ℕ (Refusal ℕ)} (l₁ : 65536 ≤ length o₁) (l₂ : 65536 ≤ length o₂) (l₃ : 65536 ≤ length o₃) where
  -- THE LAW: where both joins of (a b) c are written, both of a (b c) are, and the bytes are the same
  pub functions_left : JoinPromise a b o₁ (Ok m) n₁ → JoinPromise (take m n₁) c o₂ (Ok k) n₂ → JoinPromise b c o₃ r n₃
      → Follows (λ x old r new. JoinPromise a x old r new) r n₃ k (take k n₂)
  unfolding left_grouping right_grouping then
  functions_left p₁ p₂ p₃ =
      let f₁ = is_written a b (length o₁) l₁ refl p₁ in
      let f₂ = is_written (take m n₁) c (length o₂) l₂ refl p₂ in
      let g : left_grouping a b c 65536 ≡ got (take k n₂) f₂.past = rw f₁.is f₂.is in
      then_led (joined_file b c 65536) _ ((groupings_agree a b c 65536 (omega arith)).there (take k n₂) f₂.past g)
      (λ bc q e on.
      let w = writes b c (length o₃) l₃ refl p₃ e in
      record {
        size = length bc;
        first = w.0;
        second = λ old new r' l p.
            (let v = writes a bc (length old) l refl (rw w.1 at p) on in (v.0 ∙ ap Ok (sym f₂.long), ap (λ (i : ℕ). take i new) f₂.long ∙ v.1));
      })

  -- and conversely
  pub functions_right : JoinPromise b c o₁ (Ok m) n₁ → JoinPromise a (take m n₁) o₂ (Ok k) n₂ → JoinPromise a b o₃ r n₃
      → Follows (λ x old r new. JoinPromise x c old r new) r n₃ k (take k n₂)
  unfolding left_grouping right_grouping then
  functions_right p₁ p₂ p₃ =
      let f₁ = is_written b c (length o₁) l₁ refl p₁ in
      let f₂ = is_written a (take m n₁) (length o₂) l₂ refl p₂ in
      let g : right_grouping a b c 65536 ≡ got (take k n₂) f₂.past = rw f₁.is f₂.is in
      then_led (joined_file a b 65536) _ ((groupings_agree a b c 65536 (omega arith)).back (take k n₂) f₂.past g)
      (λ ab q e on.
      let w = writes a b (length o₃) l₃ refl p₃ e in
      record {
        size = length ab;
        first = w.0;
        second = λ old new r' l p.
            (let v = writes ab c (length old) l refl (rw w.1 at p) on in (v.0 ∙ ap Ok (sym f₂.long), ap (λ (i : ℕ). take i new) f₂.long ∙ v.1));
      })
