-- A template's code with the indices of its entries renumbered, and entries that are the same but for the numbers of templates: what they resolve to
-- is the same but for these numbers (request 5). Assumes nothing.
use Rattle.std.specs.Prelude.{◌≡◌, Bool, cond, List, map, ℕ, ◌<◌, ◌≤◌, eqb}
use Rattle.std.proofs.Math.Path.{refl, ap}
use Rattle.std.proofs.Common.{sym, ◌∙◌, arith}
use Rattle.std.proofs.Math.Bool.{true, false}
use Rattle.std.proofs.Math.Option.{Option, none, some}
use Rattle.std.proofs.Math.Dec.{leb}
use Rattle.std.proofs.Math.ListN.{get_or, get_or-map}
use borrow.Author.Tests.{eqb-true, leb-true, leb-false}
use Rattle.files.specs.Code.{Code, done, neutral, return, call, unless_false, make_cont}
use Rattle.files.specs.Entries.{Entry, constant, global, template}
use Rattle.files.specs.Grammar.{entry_of}
use Rattle.rewrite.specs.Reindex.{reindexed}
use Rattle.rules.specs.declared.Plain.{Plain}
use Rattle.rules.specs.declared.Plain.TheVariants.{Global, SetGlobal}
use Rattle.machines.specs.Fetched.{named_by, as_literal, as_closure, as_global, rule_of, resolve}
use Rattle.renamed.specs.laws.Renaming.{Renaming, renamed}
use Rattle.lockstep.specs.laws.Plain.{PlainLike, closure_i, global_i, set_global_i, same_i}

-- ---- the definition
-- P of each index that the code names
unfoldable pub Names : (ℕ → Type 0) → Code → Type 0
Names P done = Unit
Names P (neutral op ns r) = (op ≤ 9 → P (get_or ns 0 0)) × Names P r
Names P (return r) = Names P r
Names P (call n r) = Names P r
Names P (unless_false x y r) = Names P x × Names P y × Names P r
Names P (make_cont n x r) = Names P x × Names P r

-- ---- what an instruction resolves to
module _ (N : Renaming) where
  pub data EntryR : Option Entry → Option Entry → Type 0 where
    none_e : EntryR none none
    constant_e : {t x : ℕ} → EntryR (some (constant t x)) (some (constant t x))
    global_e : {g : ℕ} → EntryR (some (global g)) (some (global g))
    template_e : {t t' : ℕ} → N.To t t' → EntryR (some (template t)) (some (template t'))

  pub data PlainsR : Option Plain → Option Plain → Type 0 where
    none_p : PlainsR none none
    some_p : {i i' : Plain} → PlainLike (renamed N) i i' → PlainsR (some i) (some i')

  literal_like : {x y : Option Entry} → EntryR x y → PlainsR (as_literal (named_by x)) (as_literal (named_by y))
  unfolding as_literal named_by
  literal_like none_e = none_p
  literal_like constant_e = some_p (same_i tt)
  literal_like global_e = none_p
  literal_like (template_e r) = none_p

  closure_like : {x y : Option Entry} → EntryR x y → PlainsR (as_closure (named_by x)) (as_closure (named_by y))
  unfolding as_closure named_by
  closure_like none_e = none_p
  closure_like constant_e = none_p
  closure_like global_e = none_p
  closure_like (template_e r) = some_p (closure_i r)

  global_like : {x y : Option Entry} (h : ℕ → Plain) → ((g : ℕ) → PlainLike (renamed N) (h g) (h g)) → EntryR x y
      → PlainsR (as_global h (named_by x)) (as_global h (named_by y))
  unfolding as_global named_by
  global_like h k none_e = none_p
  global_like h k constant_e = none_p
  global_like h k (global_e {g = g}) = some_p (k g)
  global_like h k (template_e r) = none_p

  by_code : {x y x' y' : Option Plain} (b : Bool) → (b ≡ true → PlainsR x x') → PlainsR y y' → PlainsR (cond b x y) (cond b x' y')
  by_code true h k = h refl
  by_code false h k = k

  module _ (es es' : List Entry) (op : ℕ) (ns ns' : List ℕ) (named : op ≤ 9 → EntryR (entry_of es (get_or ns 0 0)) (entry_of es' (get_or ns' 0 0)))
      (others : 9 < op → ns ≡ ns') where
    code : {P : Type 0} (n : ℕ) → (op ≡ n → P) → eqb op n ≡ true → P
    code n h e = h (eqb-true op n e)

    resolve_like : PlainsR (resolve es op ns) (resolve es' op ns')
    unfolding resolve rule_of
    resolve_like =
        by_code (eqb op 6) (code 6 (λ e. literal_like (named (omega arith))))
        (by_code (eqb op 7) (code 7 (λ e. closure_like (named (omega arith))))
        (by_code (eqb op 8) (code 8 (λ e. global_like Global (λ g. global_i) (named (omega arith))))
        (by_code (eqb op 9) (code 9 (λ e. global_like SetGlobal (λ g. set_global_i) (named (omega arith))))
        (by_code (eqb op 10) (code 10 (λ e. rw (others (omega arith)) (some_p (same_i tt))))
        (by_code (eqb op 11) (code 11 (λ e. rw (others (omega arith)) (some_p (same_i tt))))
        (by_code (eqb op 12) (λ e. some_p (same_i tt))
        (by_code (eqb op 13) (code 13 (λ e. rw (others (omega arith)) (some_p (same_i tt))))
        (by_code (eqb op 15) (λ e. some_p (same_i tt))
        (by_code (eqb op 16) (code 16 (λ e. rw (others (omega arith)) (some_p (same_i tt))))
        (by_code (eqb op 18) (λ e. some_p (same_i tt))
        (by_code (eqb op 19) (λ e. some_p (same_i tt))
        (by_code (eqb op 20) (λ e. some_p (same_i tt))
        (by_code (eqb op 21) (λ e. some_p (same_i tt))
        (by_code (eqb op 22) (λ e. some_p (same_i tt))
        (by_code (eqb op 23) (λ e. some_p (same_i tt))
        (by_code (eqb op 24) (λ e. some_p (same_i tt))
        (by_code (eqb op 25) (λ e. some_p (same_i tt)) none_p)))))))))))))))))

  -- an instruction and its renumbered form: index 0 stays, and is no entry
  pub resolve_alike : (es es' : List Entry) (f : ℕ → ℕ) (op : ℕ) (ns : List ℕ) → f 0 ≡ 0
      → (op ≤ 9 → EntryR (entry_of es (get_or ns 0 0)) (entry_of es' (f (get_or ns 0 0)))) → PlainsR (resolve es op ns) (resolve es' op (reindexed f op ns))
  unfolding reindexed
  resolve_alike es es' f op ns z h = pick (leb op 9) refl
    where
      pick : (b : Bool) → leb op 9 ≡ b → PlainsR (resolve es op ns) (resolve es' op (cond b (map f ns) ns))
      pick true e =
          let l : op ≤ 9 = leb-true op 9 e in
          let g : get_or (map f ns) 0 0 ≡ f (get_or ns 0 0) = ap (λ d. get_or (map f ns) 0 d) (sym z) ∙ get_or-map f ns 0 0 in
          resolve_like es es' op ns (map f ns) (λ k. rw g (h k)) (λ k. absurd (omega arith))
      pick false e = let l : 9 < op = leb-false op 9 e in resolve_like es es' op ns ns (λ k. absurd (omega arith)) (λ k. refl)
