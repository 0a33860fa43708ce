-- The templates of basic code that was read can be written in a tree file. Assumes nothing.
use Rattle.std.specs.Prelude.{ℕ, suc, ◌+◌, ◌≤◌, ◌<◌, ◌≡◌, Bool, cond, length, leb}
use Rattle.std.proofs.Common.{add-one, sym, ap, ◌∙◌, leb-true, leb-false, length-append}
use native.Mathlib.Omega.{arith}
use Rattle.std.proofs.Math.Path.{refl}
use Rattle.std.proofs.Math.Bool.{true, false, and-eq-true_iff}
use mathlib.Core.List.{List, [], ◌∷◌, ◌++◌}
use Rattle.std.proofs.Math.Option.{none, some}
use Rattle.cells.specs.laws.Laws.{clash}
use Rattle.files.specs.Codes.{is_neutral, operands, shape_of}
use Rattle.files.specs.Code.{Code, put, simple}
use Rattle.files.specs.Entries.{Entry, template}
use Rattle.files.specs.Grammar.{entry_of}
use Rattle.files.specs.Tree.{Template}
use Rattle.files.specs.Valid.{Bytes, Valid}
use Rattle.files.specs.laws.AllGot.{Each}
use Rattle.files.specs.laws.EntriesLaws.{EntryOk, EntriesOk}
use Rattle.files.specs.laws.TableLaws.{entry_above}
use Rattle.tree_file.specs.laws.Writable.{TreeWritable}
use Rattle.tree_file.proofs.theorems.Back.{TreeWritables}
use Rattle.basic.specs.Basic.{Basic, ended, plain, carries, closure, branch, save}
use Rattle.basic.specs.Checked.{most_entries, entries_fit}
use Rattle.basic.specs.Tabulated.{inside, uses, among, index_of, with_entry, with_all, entries_of, indexed, template_of, closures, tabulated}
use Rattle.basic.specs.Valid.{PlainOk, return_ok, call_ok, neutral_ok, CarriesOk, literal_ok, global_ok, set_global_ok, Ok}
use Rattle.basic.specs.laws.ForestLaws.{simple_return, simple_call, simple_neutral}
use Rattle.basic.proofs.theorems.EntryLaws.{Finds, entries_found}
use Rattle.basic.specs.laws.DepthLaws.{depth, own_levels}

-- ---- entries
carried_ok : (own T v : ℕ) (e : Entry) → CarriesOk v e → EntryOk own T e
carried_ok own T v e (literal_ok h k) = (h, k)
carried_ok own T v e (global_ok h) = h
carried_ok own T v e (set_global_ok h) = h

module _ (own T : ℕ) where
  both_ok : (es ds : List Entry) → EntriesOk own T es → EntriesOk own T ds → EntriesOk own T (es ++ ds)
  both_ok [] ds h k = k
  both_ok (e ∷ es) ds h k = (h.0, both_ok es ds h.1 k)

  with_ok : (es : List Entry) (e : Entry) → EntriesOk own T es → EntryOk own T e → EntriesOk own T (with_entry es e)
  unfolding with_entry
  with_ok es e h k = go (among e es)
    where
      go : (b : Bool) → EntriesOk own T (cond b es (es ++ (e ∷ [])))
      go true = h
      go false = both_ok es (e ∷ []) h (k, tt)

  all_ok : (es us : List Entry) → EntriesOk own T es → EntriesOk own T us → EntriesOk own T (with_all es us)
  unfolding with_all
  all_ok es [] h k = h
  all_ok es (u ∷ us) h k = all_ok (with_entry es u) us (with_ok es u h k.0) k.1

  -- a list's closures have the numbers from n on
  uses_ok : T ≤ 64 → (n : ℕ) (c : Basic) → Ok c → own < n → n + inside c ≤ T → EntriesOk own T (uses n c)
  unfolding uses inside Ok
  uses_ok few n ended ok a b = tt
  uses_ok few n (plain v ns r) ok a b = uses_ok few n r ok.1 a b
  uses_ok few n (carries v e r) ok a b = (carried_ok own T v e ok.0, uses_ok few n r ok.1 a b)
  uses_ok few n (closure x r) ok a b = ((a, omega arith, few), uses_ok few (suc n + inside x) r ok.1 (omega arith) (omega arith))
  uses_ok few n (branch x y r) ok a b =
      both_ok (uses n x) _ (uses_ok few n x ok.0 a (omega arith))
      (both_ok (uses (n + inside x) y) _ (uses_ok few (n + inside x) y ok.1 (omega arith) (omega arith))
      (uses_ok few (n + inside x + inside y) r ok.2 (omega arith) (omega arith)))
  uses_ok few n (save m x r) ok a b =
      both_ok (uses n x) _ (uses_ok few n x ok.1 a (omega arith)) (uses_ok few (n + inside x) r ok.2 (omega arith) (omega arith))

-- ---- code
plain_valid : (v : ℕ) (ns : List ℕ) → PlainOk v ns → (c : Code) → Valid c → Valid (put (simple v ns) c)
unfolding put Valid
plain_valid v ns return_ok c h = rw simple_return h
plain_valid v ns (call_ok {n} l) c h = rw (simple_call n) (l, h)
plain_valid v ns (neutral_ok a i j k) c h = rw (simple_neutral v ns a) (i, j, k, h)

carried_neutral : (v : ℕ) (e : Entry) → CarriesOk v e → (is_neutral v ≡ true) × (operands v ≡ 1)
unfolding is_neutral operands shape_of
carried_neutral v e (literal_ok h k) = (refl, refl)
carried_neutral v e (global_ok h) = (refl, refl)
carried_neutral v e (set_global_ok h) = (refl, refl)

module _ (es : List Entry) (few : length es ≤ 255) where
  index_small : (n : ℕ) (e : Entry) → entry_of es n ≡ some e → n < 256
  index_small n e h = go (leb n (length es)) refl
    where
      go : (b : Bool) → leb n (length es) ≡ b → n < 256
      go true k = omega (arith, leb-true n (length es) k)
      go false k = let z : none ≡ some e = sym (entry_above es n (leb-false n (length es) k)) ∙ h in clash (cc)

  valid_code : (n : ℕ) (c : Basic) → Ok c → Finds es n c → Valid (indexed es n c)
  unfolding indexed Valid Bytes Ok Finds is_neutral operands shape_of
  valid_code n ended ok f = tt
  valid_code n (plain v ns r) ok f = plain_valid v ns ok.0 (indexed es n r) (valid_code n r ok.1 f)
  valid_code n (carries v e r) ok f =
      let k = carried_neutral v e ok.0 in (k.0, k.1, (index_small (index_of e es) e f.0, tt), valid_code n r ok.1 f.1)
  valid_code n (closure x r) ok f =
      (refl, refl, (index_small (index_of (template n) es) (template n) f.0, tt), valid_code (suc n + inside x) r ok.1 f.1)
  valid_code n (branch x y r) ok f =
      (valid_code n x ok.0 f.0, valid_code (n + inside x) y ok.1 f.1, valid_code (n + inside x + inside y) r ok.2 f.2)
  valid_code n (save m x r) ok f = (ok.0, valid_code n x ok.1 f.0, valid_code (n + inside x) r ok.2 f.1)

-- ---- a template: number n of T, whose list is c
module _ (T n : ℕ) (c : Basic) (few : T ≤ 64) (ok : Ok c) (within : suc n + inside c ≤ T) where
  entries_fit_lem : EntriesOk n T (entries_of (suc n) c)
  unfolding entries_of
  entries_fit_lem = all_ok n T [] (uses (suc n) c) tt (uses_ok n T few (suc n) c ok (omega arith) within)

  template_writable : depth c ≤ 15 → length (entries_of (suc n) c) ≤ 255 → TreeWritable T n (template_of (suc n) c)
  unfolding template_of
  template_writable d h =
      record {
        entries_ok = entries_fit_lem;
        few = omega arith;
        valid_code = valid_code (entries_of (suc n) c) h (suc n) c ok (entries_found (suc n) c);
        deep = omega (arith, own_levels (entries_of (suc n) c) (suc n) c ok);
      }

-- ---- all templates, by their numbers
pub closures_length : (c : Basic) (n : ℕ) → length (closures n c) ≡ inside c
unfolding closures inside
closures_length ended n = refl
closures_length (plain v ns r) n = closures_length r n
closures_length (carries v e r) n = closures_length r n
closures_length (closure x r) n =
    ap suc (length-append (closures (suc n) x) _ ∙ rw (closures_length x (suc n), closures_length r (suc n + inside x)) refl)
closures_length (branch x y r) n =
    simp (length-append, closures_length x n, closures_length y (n + inside x), closures_length r (n + inside x + inside y))
closures_length (save m x r) n = simp (length-append, closures_length x n, closures_length r (n + inside x))

pub tabulated_length : (c : Basic) → length (tabulated c) ≡ suc (inside c)
unfolding tabulated
tabulated_length c = ap suc (closures_length c 1)

-- what holds of the template of every list, by its number, holds of each
module _ (P : ℕ → Template → Type 0) where
  each_both : (n m : ℕ) (ts us : List Template) → m ≡ n + length ts → Each P n ts → Each P m us → Each P n (ts ++ us)
  each_both n m [] us e h k = let z : m ≡ n = omega arith in rw (← z) k
  each_both n m (t ∷ ts) us e h k = (h.0, each_both (n + 1) m ts us (omega arith) h.1 k)

  module _ (T : ℕ) (each : (n : ℕ) (c : Basic) → Ok c → depth c ≤ 15 → suc n + inside c ≤ T → P n (template_of (suc n) c)) where
    closures_each : (n : ℕ) (c : Basic) → Ok c → depth c ≤ 15 → n + inside c ≤ T → Each P n (closures n c)
    unfolding closures inside Ok depth
    closures_each n ended ok d h = tt
    closures_each n (plain v ns r) ok d h = closures_each n r ok.1 d h
    closures_each n (carries v e r) ok d h = closures_each n r ok.1 d h
    closures_each n (closure x r) ok d h = (
      each n x ok.0 (omega arith) (omega arith),
      each_both (n + 1) (suc n + inside x) (closures (suc n) x) _ (omega (arith, closures_length x (suc n)))
          (rw (add-one n) (closures_each (suc n) x ok.0 (omega arith) (omega arith)))
          (closures_each (suc n + inside x) r ok.1 (omega arith) (omega arith)),
    )
    closures_each n (branch x y r) ok d h =
        each_both n (n + inside x) (closures n x) _ (omega (arith, closures_length x n)) (closures_each n x ok.0 (omega arith) (omega arith))
        (each_both (n + inside x) (n + inside x + inside y) (closures (n + inside x) y) _ (omega (arith, closures_length y (n + inside x)))
        (closures_each (n + inside x) y ok.1 (omega arith) (omega arith))
        (closures_each (n + inside x + inside y) r ok.2 (omega arith) (omega arith)))
    closures_each n (save m x r) ok d h =
        each_both n (n + inside x) (closures n x) _ (omega (arith, closures_length x n)) (closures_each n x ok.1 (omega arith) (omega arith))
        (closures_each (n + inside x) r ok.2 (omega arith) (omega arith))

    pub tabulated_each : (c : Basic) → Ok c → depth c ≤ 15 → suc (inside c) ≤ T → Each P 0 (tabulated c)
    unfolding tabulated
    tabulated_each c ok d h = (each 0 c ok d (omega arith), closures_each 1 c ok d (omega arith))

-- the limits on entries, template by template
fit_each : (P : ℕ → Template → Type 0) (n : ℕ) (ts : List Template) → entries_fit ts ≡ true → Each (λ n t. length t.entries ≤ 255 → P n t) n ts
    → Each P n ts
unfolding entries_fit
fit_each P n [] e h = tt
fit_each P n (t ∷ ts) e h =
    let k = (and-eq-true_iff (leb (length t.entries) most_entries) (entries_fit ts)).0 e in
    (h.0 (omega (arith, leb-true (length t.entries) most_entries k.0)), fit_each P (n + 1) ts k.1 h.1)

-- THE LAW
pub tabulated_writable : (c : Basic) → Ok c → depth c ≤ 15 → length (tabulated c) ≤ 64 → entries_fit (tabulated c) ≡ true → TreeWritables (tabulated c)
unfolding template_of
tabulated_writable c ok d few fit =
    let T = length (tabulated c) in
    record {
      at_least_one = omega (arith, tabulated_length c);
      at_most_64 = few;
      each = fit_each (TreeWritable T) 0 (tabulated c) fit
          (tabulated_each (λ n t. length t.entries ≤ 255 → TreeWritable T n t) T (λ n x o k h. template_writable T n x few o h k) c ok d
          (omega (arith, tabulated_length c)));
    }
