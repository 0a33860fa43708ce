-- Refusal 7 and the resolution of entries are one table: a neutral code whose index fits its template's entries (document 01, refusal 7) is
-- resolved to its rule. Assumes nothing.
use Rattle.std.specs.Prelude.{ℕ, ◌+◌, ◌-◌, ◌≤◌, ◌≡◌, Bool, true, false, cond, List, leb, eqb, get_or, replicate}
use Rattle.std.proofs.Common.{arith, sym, ◌∙◌, leb-true, eqb-true, get_or-drop}
use Rattle.std.proofs.Math.Path.{refl}
use Rattle.std.proofs.Math.Bool.{and-eq-true_iff}
use Rattle.std.proofs.Math.Option.{Option, none, some}
use Rattle.std.proofs.lemmas.Bool.{eqb-false}
use Rattle.std.proofs.lemmas.List.{get_or-replicate}
use Rattle.std.proofs.Math.ListN.{get_or-eq_default}
use Rattle.files.specs.Codes.{shapes, shape_of, is_neutral}
use Rattle.files.specs.Entries.{Entry, constant, global, template}
use Rattle.files.specs.Grammar.{entry_of, suits, index_fits}
use Rattle.rules.specs.laws.Lists.{by_lt}
use Rattle.rules.specs.declared.Plain.{Plain}
use Rattle.rules.specs.declared.Plain.TheVariants.{Global, SetGlobal}
use Rattle.machines.specs.Fetched.{named_by, as_literal, as_closure, as_global, rule_of, resolve}

pub data Resolves : Option Plain → Type 0 where
  resolves : {i : Plain} → Resolves (some i)

no_test : {A : Type 0} → ◌≡◌ {A = Bool} false true → A
no_test e = let z : ◌≡◌ {A = ℕ} 0 1 = cc in absurd (omega arith)

literal_suits : (o : Option Entry) → suits 6 o ≡ true → Resolves (as_literal (named_by o))
unfolding suits as_literal named_by
literal_suits none e = no_test e
literal_suits (some (constant t x)) e = resolves
literal_suits (some (global g)) e = no_test e
literal_suits (some (template t)) e = no_test e

closure_suits : (o : Option Entry) → suits 7 o ≡ true → Resolves (as_closure (named_by o))
unfolding suits as_closure named_by
closure_suits none e = no_test e
closure_suits (some (constant t x)) e = no_test e
closure_suits (some (global g)) e = no_test e
closure_suits (some (template t)) e = resolves

-- n is 8 or 9
global_suits : (f : ℕ → Plain) (n : ℕ) → eqb n 6 ≡ false → eqb n 7 ≡ false → (o : Option Entry) → suits n o ≡ true
    → Resolves (as_global f (named_by o))
unfolding suits as_global named_by
global_suits f n h k none e = no_test e
global_suits f n h k (some (constant t x)) e = no_test (sym h ∙ e)
global_suits f n h k (some (global g)) e = resolves
global_suits f n h k (some (template t)) e = no_test (sym k ∙ e)

-- no code from 26 on is neutral
high : (op : ℕ) → 26 ≤ op → is_neutral op ≡ true → ⊥
unfolding is_neutral shape_of
high op h e =
    let x : leb (get_or shapes op 6) 3 ≡ true = ((and-eq-true_iff (leb 6 op) (leb (get_or shapes op 6) 3)).0 e).1 in
    let i : 26 + (op - 26) ≡ op = omega arith in
    let y : get_or shapes op 6 ≡ 6 = rw i at (sym (get_or-drop 26 shapes (op - 26) 6) ∙ six (op - 26)) in
    omega (arith, leb-true (get_or shapes op 6) 3 x)
  where
    six : (k : ℕ) → get_or {A = ℕ} (replicate 6 6) k 6 ≡ 6
    six k = by_lt k 6 (λ l. get_or-replicate {A = ℕ} 6 k 6 6 l) (λ l. get_or-eq_default {A = ℕ} (replicate 6 6) 6 l)

module _ (es : List Entry) (op : ℕ) (ns : List ℕ) (neutral : is_neutral op ≡ true) (fits : index_fits es op (get_or ns 0 0) ≡ true) where
  -- the code is n, or a higher one
  or : (n : ℕ) (x y : Option Plain) → n ≤ op → (op ≡ n → Resolves x) → (n + 1 ≤ op → Resolves y) → Resolves (cond (eqb op n) x y)
  or n x y l f g = pick (eqb op n) refl
    where
      pick : (b : Bool) → eqb op n ≡ b → Resolves (cond b x y)
      pick true e = f (eqb-true op n e)
      pick false e = let k : op ≡ n → ⊥ = eqb-false op n e in g (omega arith)

  -- past a code that is not neutral
  past : (n : ℕ) → is_neutral n ≡ false → n ≤ op → n + 1 ≤ op
  past n e l = let k : op ≡ n → ⊥ = (λ h. no_test (sym e ∙ (rw h at neutral))) in omega arith

  -- the entry suits the code
  suited : (n : ℕ) → leb n 9 ≡ true → op ≡ n → suits n (entry_of es (get_or ns 0 0)) ≡ true
  unfolding index_fits
  suited n l e = rw l at (rw e at fits)

  -- THE LAW
  pub fits_resolves : Resolves (resolve es op ns)
  unfolding resolve rule_of is_neutral shape_of
  fits_resolves =
      let o = entry_of es (get_or ns 0 0) in
      or 6 _ _ (leb-true 6 op ((and-eq-true_iff (leb 6 op) (leb (shape_of op) 3)).0 neutral).0) (λ e. literal_suits o (suited 6 refl e))
      (λ l. or 7 _ _ l (λ e. closure_suits o (suited 7 refl e))
      (λ l. or 8 _ _ l (λ e. global_suits Global 8 refl refl o (suited 8 refl e))
      (λ l. or 9 _ _ l (λ e. global_suits SetGlobal 9 refl refl o (suited 9 refl e))
      (λ l. or 10 _ _ l (λ e. resolves)
      (λ l. or 11 _ _ l (λ e. resolves)
      (λ l. or 12 _ _ l (λ e. resolves)
      (λ l. or 13 _ _ l (λ e. resolves)
      (λ l. or 15 _ _ (past 14 refl l) (λ e. resolves)
      (λ l. or 16 _ _ l (λ e. resolves)
      (λ l. or 18 _ _ (past 17 refl l) (λ e. resolves)
      (λ l. or 19 _ _ l (λ e. resolves)
      (λ l. or 20 _ _ l (λ e. resolves)
      (λ l. or 21 _ _ l (λ e. resolves)
      (λ l. or 22 _ _ l (λ e. resolves)
      (λ l. or 23 _ _ l (λ e. resolves)
      (λ l. or 24 _ _ l (λ e. resolves)
      (λ l. or 25 _ _ l (λ e. resolves)
      (λ l. absurd (high op l neutral)))))))))))))))))))
