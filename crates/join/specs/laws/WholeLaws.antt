-- The function as its operands are judged. Assumes nothing.
use Rattle.std.specs.Prelude.{ℕ, ◌≡◌, refl, true, List, [], ◌∷◌, length, Result, Ok, Err}
use Rattle.std.proofs.Common.{sym, ap, ◌∙◌}
use Rattle.cells.specs.laws.Laws.{clash}
use Rattle.files.specs.Reading.{got, refused}
use Rattle.files.specs.Entries.{then}
use Rattle.files.specs.laws.AllGot.{then_led, got_value}
use Rattle.files.specs.laws.AcceptedLaws.{or_led}
use Rattle.files.specs.Grammar.{lowest, indexed_template}
use Rattle.files.specs.Tree.{Template, tree_read}
use Rattle.readback.specs.laws.Led.{cond_led}
use Rattle.tree.specs.declared.Summary.{Summary}
use Rattle.tree.specs.Summary.{summary_of, judged_told}
use Rattle.files.specs.Room.{ZerosFor}
use Rattle.tree.specs.Filled.{tree_filled}
use Rattle.tree.specs.laws.FilledLaws.{tree_tabled}
use Rattle.tree.specs.laws.Judged.{judged_told_lem}
use Rattle.files.specs.Outcome.{answered, written}
use Rattle.join.specs.Join.{is_prologue, indices_checked, prologue_checked, unclosed, second_checked, joined, joined_file}
use Rattle.join.specs.Operands.{PrologueAt, ToJoin}
use Rattle.files.specs.declared.Refusal.{Refusal}
use Rattle.files.specs.Refusal.{refusal}

-- ---- what was judged was read
second_read : (s : List ℕ) (ts : List Template) (q : ℕ) → second_checked s ≡ got ts q → tree_read s ≡ got ts q
unfolding second_checked indices_checked
second_read s ts q e =
    then_led (tree_read s) _ e
    (λ us r first on.
    let a = or_led 6 (unclosed us) _ on in
    let b = or_led 7 (lowest indexed_template 0 us) (got us r) a.1 in
    first ∙ b.1)

-- and a prologue is one template
prologue_read : (s : List ℕ) (ts : List Template) (q : ℕ) → prologue_checked s ≡ got ts q → (tree_read s ≡ got ts q) × (is_prologue ts ≡ true)
unfolding prologue_checked indices_checked
prologue_read s ts q e =
    then_led (tree_read s) _ e
    (λ us r first on.
    let a = cond_led (is_prologue us) _ 6 0 on in
    let b = or_led 7 (lowest indexed_template 0 us) (got us r) a.1 in
    let z : us ≡ ts = (got_value b.1).0 in
    (first ∙ b.1, rw z at a.0))

one_template : (ts : List Template) → is_prologue ts ≡ true → 1 ≡ length ts
unfolding is_prologue
one_template [] e = clash (cc)
one_template (t ∷ []) e = refl
one_template (t ∷ u ∷ ts) e = clash (cc)

pub prologue_at : (a : List ℕ) {m : Summary} {table table' : List ℕ} → judged_told (prologue_checked a) ≡ Ok m → ZerosFor a table
    → table' ≡ tree_filled a table
    → PrologueAt a table'
prologue_at a told z e =
    let f = judged_told_lem (prologue_checked a) told in
    let r = prologue_read a f.templates f.past f.is in
    record {
      operand = record {
        templates = f.templates;
        past = f.past;
        read = r.0;
        size = z.size;
        filled = tree_tabled a r.0 z e;
        count_is = one_template f.templates r.1;
      };
      checked = f.is;
    }

pub to_join : {a first : List ℕ} → PrologueAt a first → (b : List ℕ) {m : Summary} {zeros second : List ℕ} → judged_told (second_checked b) ≡ Ok m
    → ZerosFor b zeros → second ≡ tree_filled b zeros
    → ToJoin a first b second m.count
unfolding summary_of
to_join w b told z e =
    let f = judged_told_lem (second_checked b) told in
    let r = second_read b f.templates f.past f.is in
    record {
      prologue = w;
      file = record {
        templates = f.templates;
        past = f.past;
        read = r;
        size = z.size;
        filled = tree_tabled b r z e;
        count_is = sym (ap (λ (x : Summary). x.count) f.summary);
      };
      checked = f.is;
    }

-- ---- refused
module _ (a b old : List ℕ) where
  abbrev Done : Result ℕ (Refusal ℕ) → List ℕ → Type 0
  Done r o = (r ≡ answered (joined_file a b (length old))) × (o ≡ written old (joined_file a b (length old)))

  pub prologue_refused : {n q : ℕ} → prologue_checked a ≡ refused n q → Done (Err (refusal n q)) old
  unfolding joined_file joined then answered written
  prologue_refused e = rw e (refl, refl)

  pub second_refused : {first : List ℕ} → PrologueAt a first → {n q : ℕ} → second_checked b ≡ refused n q → Done (Err (refusal n q)) old
  unfolding joined_file joined then answered written
  second_refused w e = rw (w.checked, e) (refl, refl)
