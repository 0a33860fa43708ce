-- Each entry that a template's list uses is found among the template's entries. Assumes nothing.
use Rattle.std.specs.Prelude.{ℕ, suc, ◌+◌, ◌≡◌, Bool, cond, ◌||◌, eqb}
use Rattle.std.proofs.Math.Path.{refl}
use Rattle.std.proofs.Common.{ap, ◌∙◌, eqb-true, eq-eqb}
use Rattle.std.proofs.Math.Bool.{true, false, and-eq-true_iff}
use mathlib.Core.List.{List, [], ◌∷◌, ◌++◌}
use Rattle.std.proofs.Math.Option.{some}
use Rattle.cells.specs.laws.Laws.{clash}
use Rattle.files.specs.Entries.{Entry, constant, global, template}
use Rattle.files.specs.Grammar.{entry_of}
use Rattle.basic.specs.Basic.{Basic, ended, plain, carries, closure, branch, save}
use Rattle.basic.specs.Tabulated.{inside, uses, same_entry, index_of, among, with_entry, with_all, entries_of}
use Rattle.basic.specs.laws.AllIn.{AllIn}

-- ---- one entry
same_is : (d e : Entry) → same_entry d e ≡ true → d ≡ e
unfolding same_entry
same_is (constant t x) (constant u y) h =
    let k = (and-eq-true_iff (eqb t u) (eqb x y)).0 h in rw (eqb-true t u k.0, eqb-true x y k.1) refl
same_is (constant t x) (global g) h = clash (cc)
same_is (constant t x) (template u) h = clash (cc)
same_is (global g) (constant t x) h = clash (cc)
same_is (global g) (global j) h = ap global (eqb-true g j h)
same_is (global g) (template u) h = clash (cc)
same_is (template t) (constant u x) h = clash (cc)
same_is (template t) (global g) h = clash (cc)
same_is (template t) (template u) h = ap template (eqb-true t u h)

same_self : (e : Entry) → same_entry e e ≡ true
unfolding same_entry
same_self (constant t x) = rw (eq-eqb t t refl, eq-eqb x x refl) refl
same_self (global g) = eq-eqb g g refl
same_self (template t) = eq-eqb t t refl

-- the entry that the index of e names is e
found_next : (e d : Entry) (es : List Entry) → entry_of (d ∷ es) (suc (index_of e es)) ≡ entry_of es (index_of e es)
unfolding entry_of index_of
found_next e d [] = refl
found_next e d (c ∷ es) = by (same_entry c e)
  where
    by : (b : Bool) → entry_of (d ∷ c ∷ es) (suc (cond b 1 (suc (index_of e es)))) ≡ entry_of (c ∷ es) (cond b 1 (suc (index_of e es)))
    by true = refl
    by false = refl

pub found : (e : Entry) (es : List Entry) → among e es ≡ true → entry_of es (index_of e es) ≡ some e
unfolding entry_of index_of among
found e [] h = clash (cc)
found e (d ∷ es) h = by (same_entry d e) refl h (λ k. found e es k)
  where
    by : (b : Bool) → same_entry d e ≡ b → b || among e es ≡ true → (among e es ≡ true → entry_of es (index_of e es) ≡ some e)
        → entry_of (d ∷ es) (cond b 1 (suc (index_of e es))) ≡ some e
    by true k h ih = ap some (same_is d e k)
    by false k h ih = found_next e d es ∙ ih h

-- ---- more entries
module _ (e : Entry) where
  among_more : (es fs : List Entry) → among e es ≡ true → among e (es ++ fs) ≡ true
  unfolding among
  among_more [] fs h = clash (cc)
  among_more (d ∷ es) fs h = by (same_entry d e) h (λ k. among_more es fs k)
    where
      by : (b : Bool) → b || among e es ≡ true → (among e es ≡ true → among e (es ++ fs) ≡ true) → b || among e (es ++ fs) ≡ true
      by true h ih = refl
      by false h ih = ih h

  among_last : (es : List Entry) → among e (es ++ (e ∷ [])) ≡ true
  unfolding among
  among_last [] = rw (same_self e) refl
  among_last (d ∷ es) = by (same_entry d e) (among_last es)
    where
      by : (b : Bool) → among e (es ++ (e ∷ [])) ≡ true → b || among e (es ++ (e ∷ [])) ≡ true
      by true h = refl
      by false h = h

  with_kept : (es : List Entry) (u : Entry) → among e es ≡ true → among e (with_entry es u) ≡ true
  unfolding with_entry
  with_kept es u h = by (among u es)
    where
      by : (b : Bool) → among e (cond b es (es ++ (u ∷ []))) ≡ true
      by true = h
      by false = among_more es (u ∷ []) h

  with_it : (es : List Entry) → among e (with_entry es e) ≡ true
  unfolding with_entry
  with_it es = by (among e es) refl
    where
      by : (b : Bool) → among e es ≡ b → among e (cond b es (es ++ (e ∷ []))) ≡ true
      by true h = h
      by false h = among_last es

  all_kept : (us es : List Entry) → among e es ≡ true → among e (with_all es us) ≡ true
  unfolding with_all
  all_kept [] es h = h
  all_kept (u ∷ us) es h = all_kept us (with_entry es u) (with_kept es u h)

-- ---- all entries that are used
-- entries that are all among es
all_in : (us es : List Entry) → AllIn (with_all es us) us
unfolding AllIn with_all
all_in [] es = tt
all_in (u ∷ us) es = (all_kept u us (with_entry es u) (with_it u es), all_in us (with_entry es u))

pub uses_in : (n : ℕ) (c : Basic) → AllIn (entries_of n c) (uses n c)
unfolding entries_of
uses_in n c = all_in (uses n c) []

in_split : (es us vs : List Entry) → AllIn es (us ++ vs) → AllIn es us × AllIn es vs
unfolding AllIn
in_split es [] vs h = (tt, h)
in_split es (u ∷ us) vs h = let k = in_split es us vs h.1 in ((h.0, k.0), k.1)

-- the entries of the list c, where n is the number of the first template in it, are found in es
unfoldable pub Finds : List Entry → ℕ → Basic → Type 0
Finds es n ended = Unit
Finds es n (plain v ns r) = Finds es n r
Finds es n (carries v e r) = (entry_of es (index_of e es) ≡ some e) × Finds es n r
Finds es n (closure x r) = (entry_of es (index_of (template n) es) ≡ some (template n)) × Finds es (suc n + inside x) r
Finds es n (branch x y r) = Finds es n x × Finds es (n + inside x) y × Finds es (n + inside x + inside y) r
Finds es n (save m x r) = Finds es n x × Finds es (n + inside x) r

uses_found : (es : List Entry) (n : ℕ) (c : Basic) → AllIn es (uses n c) → Finds es n c
unfolding Finds uses AllIn
uses_found es n ended h = tt
uses_found es n (plain v ns r) h = uses_found es n r h
uses_found es n (carries v e r) h = (found e es h.0, uses_found es n r h.1)
uses_found es n (closure x r) h = (found (template n) es h.0, uses_found es (suc n + inside x) r h.1)
uses_found es n (branch x y r) h =
    let k = in_split es (uses n x) (uses (n + inside x) y ++ uses (n + inside x + inside y) r) h in
    let l = in_split es (uses (n + inside x) y) (uses (n + inside x + inside y) r) k.1 in
    (uses_found es n x k.0, uses_found es (n + inside x) y l.0, uses_found es (n + inside x + inside y) r l.1)
uses_found es n (save m x r) h =
    let k = in_split es (uses n x) (uses (n + inside x) r) h in
    (uses_found es n x k.0, uses_found es (n + inside x) r k.1)

-- THE LAW
pub entries_found : (n : ℕ) (c : Basic) → Finds (entries_of n c) n c
entries_found n c = uses_found (entries_of n c) n c (uses_in n c)
