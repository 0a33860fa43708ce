-- Judging and measuring all templates. Assumes nothing.
use Rattle.std.specs.Prelude.{ℕ, suc, ◌+◌, ◌*◌, ◌≤◌, ◌<◌, ◌≡◌, refl, Bool, true, false, take, leb, Option, Some, None, Ok, Err, Result}
use Rattle.std.proofs.Common.{zero-add, arith, sym, ◌∙◌, le-leb}
use Rattle.std.proofs.Math.Path.{ap}
use mathlib.Core.List.{List, [], ◌∷◌, append-nil}
use Rattle.std.proofs.Math.ListN.{length, length-append}
use Rattle.std.proofs.lemmas.Bool.{lt-leb}
use Rattle.files.specs.Entries.{Entry}
use Rattle.files.specs.Code.{bits as code_bits}
use Rattle.files.specs.Linear.{entries_bits}
use Rattle.tree_file.specs.File.{template_bits, templates_bits}
use Rattle.tree_file.specs.laws.Lengths.{template_length}
use Rattle.basic.specs.Checked.{entries_fit}
use Rattle.basic.specs.Valid.{Ok as Valid}
use Rattle.basic.specs.Forest.{own_bits}
use Rattle.basic.specs.laws.ForestLaws.{plain_long}
use Rattle.tabulate.specs.Collect.{CollectedIs, many_entries, few_entries, slots_bits}
use Rattle.tabulate.specs.Judge.{MeasuredIs, too_large, measured}
use Rattle.tabulate.specs.laws.BitsLaws.{slots_bits_lem}
use Rattle.cells.specs.declared.BitPlace.{BitPlace}
use Rattle.files.specs.Reading.{got}
use Rattle.files.specs.Tree.{Template}
use Rattle.files.specs.Grammar.{lowest, closed_template}
use Rattle.basic.specs.Basic.{Basic, ended, plain, carries, closure, branch, save}
use Rattle.basic.specs.Reading.{list_at}
use Rattle.basic.specs.Tabulated.{inside, indexed, template_of, closures, tabulated, entries_of}
use Rattle.basic.specs.Forest.{Lists, no_lists, next_list, inside_all, closures_all}
use Rattle.basic.specs.laws.ReadLaws.{list_facts, list_least}
use Rattle.basic.specs.laws.StepLaws.{inside_bits}
use Rattle.basic.specs.laws.ClassLaws.{closed_is}
use Rattle.basic.specs.Told.{class_of}
use Rattle.lists.specs.Facts.{says_closed}
use Rattle.basic.specs.laws.ForestLaws.{lists_end}
use Rattle.basic.specs.declared.Facts.{Facts}
use Rattle.basic.specs.Told.{list_told}
use Rattle.basic.specs.laws.StepLaws.{ListIs, list_refused}
use Rattle.basic.proofs.theorems.WrittenLaws.{closures_length}
use Rattle.files.specs.laws.AllGot.{got_value, refused_got}
use Rattle.tabulate.specs.Collect.{OwnList}
use Rattle.tabulate.specs.Walk.{Walk, NextIs, no_next, next_is}
use Rattle.tabulate.specs.Judge.{ListIn, ClosedIs, all_closed, but_one, From, templates_from}
use Rattle.files.specs.declared.Refusal.{Refusal}

-- ---- closures are as many as are inside
pub all_length : (cs : List Basic) (n : ℕ) → length (closures_all n cs) ≡ inside_all cs
unfolding closures_all inside_all
all_length [] n = refl
all_length (c ∷ cs) n = simp (length-append, closures_length c n, all_length cs (n + inside c))

-- ---- the templates one after the other
pub from_first : {s : List ℕ} {e : ℕ} (w : ListIn s e) → From s e 0 0 (inside w.list)
unfolding inside_all
from_first {s} {e} w = record { first = w.list; others = []; stand = next_list e w.read no_lists; number = omega arith }

pub from_first_all : {s : List ℕ} {e : ℕ} (w : ListIn s e) → tabulated w.list ≡ templates_from (from_first w)
unfolding tabulated closures_all from_first
from_first_all w = ap (λ (l : List Template). template_of 1 w.list ∷ l) (sym (append-nil (closures 1 w.list)))

module _ {s : List ℕ} {e own p m : ℕ} (f : From s e own p m) where
  abbrev pub from_walk : Walk s p e
  from_walk = record { lists = f.first ∷ f.others; stand = f.stand }

  pub from_end : NextIs s e (own + 1) (f.first ∷ f.others) None → (closures_all (own + 1) (f.first ∷ f.others) ≡ []) × (m ≡ own)
  from_end (no_next h) = (h, let k = sym (all_length (f.first ∷ f.others) (own + 1)) ∙ ap length h in omega (arith, f.number, k))

  pub from_next : (q : BitPlace) → NextIs s e (own + 1) (f.first ∷ f.others) (Some q)
      → (g : From s e (own + 1) q.0 m) × (closures_all (own + 1) (f.first ∷ f.others) ≡ templates_from g)
  from_next q (next_is q' x ds h w) =
      let k = sym (all_length (f.first ∷ f.others) (own + 1)) ∙ ap length h in
      let j = all_length (x ∷ ds) (suc (own + 1)) in
      let i : suc (own + 1) ≡ own + 1 + 1 = omega arith in (
        record { first = x; others = ds; stand = w; number = omega (arith, f.number, k, j) },
        h ∙ ap (λ (n : ℕ). template_of n x ∷ closures_all n (x ∷ ds)) i,
      )

  pub from_read : (q : ℕ) × (list_at s 15 p ≡ got f.first q)
  from_read = go f.stand
    where
      go : {e' p' : ℕ} {x : Basic} {xs : List Basic} → Lists s e' p' (x ∷ xs) → (q : ℕ) × (list_at s 15 p' ≡ got x q)
      go (next_list q h w) = (q, h)

-- ---- 6
module _ (c : Basic) {s : List ℕ} {e own p : ℕ} (f : From s e own p (inside c))
    (rest : lowest closed_template 0 (tabulated c) ≡ lowest closed_template own (templates_from f)) (b : Bool)
    (told : (x : Basic) (q : ℕ) → list_at s 15 p ≡ got x q → b ≡ says_closed (class_of x)) where
  first_closed : closed_template (template_of (own + 1) f.first) ≡ b
  first_closed = let r = from_read f in closed_is s p f.first r.0 (own + 1) r.1 ∙ sym (told f.first r.0 r.1)

  pub judge_but : b ≡ false → ClosedIs c (Err own)
  unfolding lowest
  judge_but h = but_one own (rest ∙ rw (first_closed ∙ h) refl)

  pub judge_end : b ≡ true → NextIs s e (own + 1) (f.first ∷ f.others) None → ClosedIs c (Ok (own + 1))
  unfolding lowest
  judge_end h n = let k = from_end f n in all_closed (own + 1) (rest ∙ rw (first_closed ∙ h, k.0) refl) (omega (arith, k.1))

  pub judge_next : b ≡ true → (q : BitPlace) → NextIs s e (own + 1) (f.first ∷ f.others) (Some q)
      → (g : From s e (own + 1) q.0 (inside c)) × (lowest closed_template 0 (tabulated c) ≡ lowest closed_template (own + 1) (templates_from g))
  unfolding lowest
  judge_next h q n =
      let k = from_next f q n in (k.0, rest ∙ rw (first_closed ∙ h) (ap (lowest closed_template (own + 1)) k.1))

pub number_small : {s : List ℕ} {e : ℕ} → length s ≤ 65536 → (w : ListIn s e) → inside w.list ≤ 104857
number_small {s} h w = let f = list_facts s 15 0 w.read in omega (arith, inside_bits w.list, f.0, f.1)

pub from_low : {s : List ℕ} {e own p m : ℕ} (f : From s e own p m) → (own ≤ m) × (p + 5 ≤ e)
from_low {s} {e} {own} {p} {m} f = go f.stand
  where
    go : {e' p' : ℕ} {x : Basic} {xs : List Basic} → Lists s e' p' (x ∷ xs) → (own ≤ m) × (p' + 5 ≤ e')
    go {e'} {p'} {x} {xs} (next_list q h w) =
        let k = list_facts s 15 p' h in (omega (arith, f.number), omega (arith, k.0, list_least s x, lists_end s e' q xs w))

-- ---- entries and bits
pub own_length : (c : Basic) → Valid c → (es : List Entry) (n : ℕ) → code_bits (indexed es n c) ≡ own_bits c
unfolding indexed own_bits code_bits Valid
own_length ended ok es n = refl
own_length (plain v ns r) ok es n = plain_long v ns ok.0 (indexed es n r) ∙ ap (λ (k : ℕ). 5 + 8 * length ns + k) (own_length r ok.1 es n)
own_length (carries v e r) ok es n = omega (arith, own_length r ok.1 es n)
own_length (closure x r) ok es n = omega (arith, own_length r ok.1 es (suc n + inside x))
own_length (branch x y r) ok es n =
    omega (arith, own_length x ok.0 es n, own_length y ok.1 es (n + inside x), own_length r ok.2 es (n + inside x + inside y))
own_length (save m x r) ok es n = omega (arith, own_length x ok.1 es n, own_length r ok.2 es (n + inside x))

module _ {s : List ℕ} {e own p m : ℕ} (f : From s e own p m) where
  pub first_bits : length (template_bits (template_of (own + 1) f.first)) ≡ 8 + length (entries_bits (entries_of (own + 1) f.first)) + own_bits f.first
  unfolding template_of
  first_bits =
      let r = from_read f in
      template_length (template_of (own + 1) f.first)
      ∙ ap (λ (k : ℕ). 8 + length (entries_bits (entries_of (own + 1) f.first)) + k)
      (own_length f.first (list_facts s 15 p r.1).2 (entries_of (own + 1) f.first) (own + 1))

  pub first_few : own + 1 + inside f.first ≤ m + 1
  unfolding inside_all
  first_few = omega (arith, f.number)

-- what the loop over the templates keeps
pub record Measuring (s : List ℕ) (e own p b : ℕ) (c : Basic) : Type 0 where
  pub from : From s e own p (inside c)
  pub fit : entries_fit (tabulated c) ≡ entries_fit (templates_from from)
  pub sum : length (templates_bits (tabulated c)) ≡ b + length (templates_bits (templates_from from))

pub measure_begin : {s : List ℕ} {e : ℕ} (w : ListIn s e) → Measuring s e 0 0 0 w.list
measure_begin w =
    record {
      from = from_first w;
      fit = ap entries_fit (from_first_all w);
      sum = ap (λ (l : List Template). length (templates_bits l)) (from_first_all w) ∙ sym (zero-add (length (templates_bits (templates_from (from_first w)))));
    }

module _ {s : List ℕ} {e own p b : ℕ} {c : Basic} (k : Measuring s e own p b c) where
  module _ (table : List ℕ) where
    pub measure_large : CollectedIs (entries_of (own + 1) k.from.first) (own_bits k.from.first) table None → MeasuredIs (tabulated c) None
    unfolding entries_fit template_of
    measure_large (many_entries h) =
        too_large (k.fit ∙ rw (lt-leb (length (entries_of (own + 1) k.from.first)) 255 h) refl)

    module _ (count size : ℕ) (is : CollectedIs (entries_of (own + 1) k.from.first) (own_bits k.from.first) table (Some (count, size))) where
      pub collected_few : (count ≤ 255) × (size ≡ own_bits k.from.first)
      collected_few = go is
        where
          go : CollectedIs (entries_of (own + 1) k.from.first) (own_bits k.from.first) table (Some (count, size))
              → (count ≤ 255) × (size ≡ own_bits k.from.first)
          go (few_entries count' size' h i j t a) = (omega arith, j)

      module _ (d : ℕ) (told : d ≡ slots_bits (take count table)) where
        first_sum : (8 + d + size ≡ length (template_bits (template_of (own + 1) k.from.first)))
            × (leb (length (entries_of (own + 1) k.from.first)) 255 ≡ true)
        first_sum = go is
          where
            go : CollectedIs (entries_of (own + 1) k.from.first) (own_bits k.from.first) table (Some (count, size))
                → (8 + d + size ≡ length (template_bits (template_of (own + 1) k.from.first)))
                × (leb (length (entries_of (own + 1) k.from.first)) 255 ≡ true)
            go (few_entries count' size' h i j t a) =
                let es : List Entry = entries_of (own + 1) k.from.first in
                let x : d ≡ length (entries_bits es) = told ∙ ap slots_bits t ∙ slots_bits_lem es a in
                (omega (arith, first_bits k.from, x, j), le-leb (length es) 255 h)

        pub measure_end : b + (8 + d + size) ≤ 134217728 → NextIs s e (own + 1) (k.from.first ∷ k.from.others) None
            → MeasuredIs (tabulated c) (Some (b + (8 + d + size)))
        unfolding entries_fit templates_bits template_of
        measure_end small n =
            let z = from_end k.from n in
            let q = first_sum in
            measured (b + (8 + d + size)) (k.fit ∙ rw (q.1, z.0) refl)
            (sym (k.sum ∙ rw (z.0, append-nil (template_bits (template_of (own + 1) k.from.first))) (ap (λ (x : ℕ). b + x) (sym q.0)))) small

        pub measure_next : (q : BitPlace) → NextIs s e (own + 1) (k.from.first ∷ k.from.others) (Some q)
            → Measuring s e (own + 1) q.0 (b + (8 + d + size)) c
        unfolding entries_fit templates_bits template_of
        measure_next q n =
            let z = from_next k.from q n in
            let a = first_sum in
            let t = template_bits (template_of (own + 1) k.from.first) in
            record {
              from = z.0;
              fit = k.fit ∙ rw (a.1, z.1) refl;
              sum = k.sum ∙ rw z.1 (omega (arith, length-append t (templates_bits (templates_from z.0)), a.0));
            }

-- ---- what was told
pub told_class : {s : List ℕ} {p : ℕ} {z : BitPlace} {x : Facts} → ListIs s 15 p z x → (c : Basic) (q : ℕ) → list_at s 15 p ≡ got c q
    → says_closed x.class ≡ says_closed (class_of c)
told_class w c q e = let v = got_value (sym w.read ∙ e) in rw (← w.class, v.0) refl

pub told_none : {A : Type 0} (s : List ℕ) (p : ℕ) (x : Refusal BitPlace) {r : Result (BitPlace × Facts) (Refusal BitPlace)} → r ≡ Err x
    → r ≡ list_told (list_at s 15 p) → (c : Basic) (q : ℕ)
    → list_at s 15 p ≡ got c q → A
told_none s p x e f c q g = refused_got (sym (list_refused s 15 p x (sym e ∙ f)) ∙ g)

pub next_as : {s : List ℕ} {e n : ℕ} {cs : List Basic} {r r' : Option BitPlace} → r ≡ r' → NextIs s e n cs r → NextIs s e n cs r'
next_as e x = rw (← e) x

pub collected_as : {es : List Entry} {b : ℕ} {table : List ℕ} {r r' : Option (ℕ × ℕ)} → r ≡ r' → CollectedIs es b table r → CollectedIs es b table r'
collected_as e x = rw (← e) x

-- a template's own list
unfoldable pub own_list : {s : List ℕ} {e own p m : ℕ} (f : From s e own p m) → m < 64 → (z : BitPlace) (x : Facts) → ListIs s 15 p z x
    → OwnList s p z.0 (own + 1)
own_list f h z x w =
    let r = from_read f in
    let v = got_value (sym w.read ∙ r.1) in
    record { list = f.first; read = w.read ∙ ap (λ (c : Basic). got c z.0) v.0; few = omega (arith, first_few f) }

pub own_list_is : {s : List ℕ} {e own p m : ℕ} (f : From s e own p m) (h : m < 64) (z : BitPlace) (x : Facts) (w : ListIs s 15 p z x)
    → (own_list f h z x w).list ≡ f.first
unfolding own_list
own_list_is f h z x w = refl
