-- What request 13 says of the way back, about `backed`, the definition that `back` promises to answer by. `flat_checked` is the flattener's
-- acceptance with request 4's check left aside. Assumes nothing.
use Rattle.std.specs.Prelude.{ℕ, suc, ◌+◌, ◌*◌, ◌≤◌, ◌≡◌, refl, Bool, true, false, cond, List, [], ◌∷◌, length, leb}
use Rattle.std.proofs.Common.{arith, sym, ap, ◌∙◌, le-leb, leb-true}
use Rattle.std.proofs.Math.Option.{Option, none, some}
use Rattle.cells.specs.Numbers.{short_output}
use Rattle.cells.specs.laws.Laws.{clash}
use Rattle.files.specs.Code.{Code}
use Rattle.files.specs.Reading.{Got, got, refused}
use Rattle.files.specs.Entries.{then}
use Rattle.files.specs.Tree.{Template, tree_read}
use Rattle.files.specs.Linear.{Linear, linear_file, linear_read}
use Rattle.files.specs.Valid.{Bytes}
use Rattle.files.specs.laws.BytesLaws.{bytes_at}
use Rattle.files.specs.laws.AllGot.{then_led, got_value}
use Rattle.files.specs.Accepted.{flat_checked}
use Rattle.files.specs.laws.AcceptedLaws.{checked_read, flat_checked_lem}
use Rattle.readback.specs.laws.Led.{cond_led}
use Rattle.readback.specs.laws.Templates.{linears}
use Rattle.readback.specs.laws.ReadBack.{flattened_reads}
use Rattle.tree_file.specs.File.{template_bits, templates_bits, file_bits, tree_file, placed}
use Rattle.tree_file.proofs.theorems.Canonical.{tree_canonical}
use Rattle.back.specs.laws.ListBack.{list_back}
use Rattle.back.proofs.theorems.Files.{one_file}
use Rattle.back.proofs.theorems.Shelf.{Backs, no_more, one_more, flattens_back}
use Rattle.back.proofs.theorems.Whole.{back_file}
use Rattle.cells.specs.Numbers.{no_tree}
use Rattle.unflatten.specs.Back.{or_stuck, template_of, templates_back, given, backed}

-- ---- the templates
backs_of : (n : ℕ) (ls : List Linear) {ts : List Template} {m : ℕ} → templates_back n ls ≡ got ts m → Backs ls ts
unfolding templates_back or_stuck
backs_of n [] {ts} e = let z : [] ≡ ts = (got_value e).0 in rw (← z) no_more
backs_of n (l ∷ ls) {ts} {m} e = go (list_back l.entries l.code) refl e (λ us k f. backs_of (n + 1) ls f)
  where
    go : (o : Option Code) → list_back l.entries l.code ≡ o
        → or_stuck n o (λ c. then (templates_back (n + 1) ls) (λ ts m. got (template_of l c ∷ ts) m)) ≡ got ts m
        → ((us : List Template) (k : ℕ) → templates_back (n + 1) ls ≡ got us k → Backs ls us) → Backs (l ∷ ls) ts
    go none f h i = clash (cc)
    go (some c) f h i =
        then_led (templates_back (n + 1) ls) _ h (λ us k g j. let z : (template_of l c ∷ us) ≡ ts = (got_value j).0 in rw (← z) (one_more refl f (i us k g)))

record Found (n : ℕ) (ls : List Linear) (ts : List Template) : Type 0 where
  templates : List Template
  past : ℕ
  are : templates_back n ls ≡ got templates past
  same : templates_bits templates ≡ templates_bits ts
  many : length templates ≡ length ts

backs_found : (n : ℕ) {ls : List Linear} {ts : List Template} → Backs ls ts → Found n ls ts
unfolding templates_back or_stuck then templates_bits template_bits
backs_found n no_more = record { templates = []; past = n; are = refl; same = refl; many = refl }
backs_found n (one_more {l} {t} e f r) =
    let i = backs_found (n + 1) r in
    record {
      templates = template_of l t.code ∷ i.templates;
      past = i.past;
      are = rw (f, i.are) refl;
      same = rw (e, i.same) refl;
      many = ap suc i.many;
    }

found_file : (n : ℕ) (ls : List Linear) (ts : List Template) (i : Found n ls ts) → tree_file i.templates ≡ tree_file ts
unfolding tree_file file_bits
found_file n ls ts i = rw (i.same, i.many) refl

-- ---- 'from a linear file to the one tree file that flattens to it': where back gives a file, the flattener accepts it and writes just these bytes
pub record Flattens (f z : List ℕ) : Type 0 where
  pub templates : List Template
  pub past : ℕ
  pub accepted : flat_checked f ≡ got templates past
  pub file : linear_file templates ≡ z

pub back_flattens : (z : List ℕ) (n : ℕ) (f : List ℕ) (q : ℕ) → Bytes z → backed z n ≡ got f q → Flattens f z
unfolding backed given
back_flattens z n f q b e =
    then_led (linear_read z) _ e
    (λ ls r read on.
    then_led (templates_back 0 ls) _ on
    (λ ts m back end.
    let c = cond_led (leb (length (tree_file ts)) 65536) _ no_tree 0 end in
    let d = cond_led (leb (length (tree_file ts)) n) _ short_output (length (tree_file ts)) c.1 in
    let i : tree_file ts ≡ f = (got_value d.1).0 in
    let w = back_file z ls r ts b read (backs_of 0 ls back) (leb-true (length (tree_file ts)) 65536 c.0) in
    record { templates = placed 8 ts; past = 8 * length (tree_file ts); accepted = rw (← i) w.0; file = w.1 }))

-- ---- where the flattener accepts a sheet, back of its linear file is that sheet byte for byte; 9 if the output is too short
abbrev pub or_short : List ℕ → ℕ → Got (List ℕ)
or_short s n = cond (leb (length s) n) (got s (length s)) (refused short_output (length s))

tree_short : (s : List ℕ) (ts : List Template) (q : ℕ) → tree_read s ≡ got ts q → length s ≤ 65536
unfolding tree_read
tree_short s ts q e = leb-true (length s) 65536 (cond_led (leb (length s) 65536) _ 1 0 e).0

pub back_again : (s : List ℕ) (ts : List Template) (p n : ℕ) → Bytes s → flat_checked s ≡ got ts p → backed (linear_file ts) n ≡ or_short s n
unfolding backed given then
back_again s ts p n b a =
    let read = flattened_reads s ts p a in
    let tree = checked_read s ts p (flat_checked_lem s ts p a) in
    let i = backs_found 0 (flattens_back s ts p (linear_file ts) (linears 1 ts) _ a refl read) in
    let f : tree_file i.templates ≡ s = found_file 0 (linears 1 ts) ts i ∙ tree_canonical s ts p (bytes_at s b) tree in
    rw (read, i.are, f, le-leb (length s) 65536 (tree_short s ts p tree)) refl

-- ---- 'two different accepted tree files never flatten alike', integer tags as they are written
pub never_alike : (s z : List ℕ) (ts us : List Template) (p q : ℕ) → Bytes s → Bytes z → flat_checked s ≡ got ts p → flat_checked z ≡ got us q
    → linear_file ts ≡ linear_file us → s ≡ z
never_alike = one_file

-- ---- 32 where no accepted tree file flattens to these bytes, and only there
pub no_tree_lem : (z : List ℕ) (n t : ℕ) → backed z n ≡ refused no_tree t
    → (s : List ℕ) (ts : List Template) (p : ℕ) → Bytes s → flat_checked s ≡ got ts p → linear_file ts ≡ z → ⊥
no_tree_lem z n t e s ts p b a f = go (leb (length s) n) (sym (back_again s ts p n b a) ∙ ap (λ (z : List ℕ). backed z n) f ∙ e)
  where
    go : (x : Bool) → cond x (got s (length s)) (refused short_output (length s)) ≡ refused no_tree t → ⊥
    go true h = clash (cc)
    go false h = let z : short_output ≡ no_tree = cc in absurd (omega arith)

pub record Refused32 (z : List ℕ) (n : ℕ) : Type 0 where
  pub place : ℕ
  pub is : backed z n ≡ refused no_tree place

then_refused : (l : Linear) (c : Code) (g : Got (List Template)) {k p : ℕ} → then g (λ ts m. got (template_of l c ∷ ts) m) ≡ refused k p → g ≡ refused k p
unfolding then
then_refused l c (got ts m) e = clash (cc)
then_refused l c (refused k p) e = e

stuck_number : (n : ℕ) (ls : List Linear) {k p : ℕ} → templates_back n ls ≡ refused k p → k ≡ no_tree
unfolding templates_back or_stuck
stuck_number n [] e = clash (cc)
stuck_number n (l ∷ ls) {k} {p} e = go (list_back l.entries l.code) e (λ k p h. stuck_number (n + 1) ls h)
  where
    rest : (g : Got (List Template)) (c : Code) → then g (λ ts m. got (template_of l c ∷ ts) m) ≡ refused k p → g ≡ refused k p
    rest g c h = then_refused l c g h

    go : (o : Option Code) → or_stuck n o (λ c. then (templates_back (n + 1) ls) (λ ts m. got (template_of l c ∷ ts) m)) ≡ refused k p
        → ((k p : ℕ) → templates_back (n + 1) ls ≡ refused k p → k ≡ no_tree) → k ≡ no_tree
    go none h i = let z : no_tree ≡ k = cc in sym z
    go (some c) h i = i k p (rest (templates_back (n + 1) ls) c h)

-- a file that is read and to which no accepted tree file flattens is refused 32
pub only_there : (z : List ℕ) (n : ℕ) (ls : List Linear) (q : ℕ) → Bytes z → linear_read z ≡ got ls q → ((f : List ℕ) → Flattens f z → ⊥) → Refused32 z n
unfolding backed given then
only_there z n ls q b read nothing = go (templates_back 0 ls) refl
  where
    short : (ts : List Template) (m : ℕ) (x : Bool) → templates_back 0 ls ≡ got ts m → leb (length (tree_file ts)) 65536 ≡ x → Refused32 z n
    short ts m true e f =
        let w = back_file z ls q ts b read (backs_of 0 ls e) (leb-true (length (tree_file ts)) 65536 f) in
        absurd (nothing (tree_file ts) (record { templates = placed 8 ts; past = 8 * length (tree_file ts); accepted = w.0; file = w.1 }))
    short ts m false e f = record { place = 0; is = rw (read, e, f) refl }

    go : (g : Got (List Template)) → templates_back 0 ls ≡ g → Refused32 z n
    go (got ts m) e = short ts m (leb (length (tree_file ts)) 65536) e refl
    go (refused k p) e = record { place = p; is = rw (read, e, stuck_number 0 ls e) refl }
