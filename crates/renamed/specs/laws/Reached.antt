-- The templates that closures lead to from template 0 on: of an accepted tree file they may stay alone (request 5). Assumes nothing.
use Rattle.std.specs.Prelude.{◌≡◌, refl, Bool, true, ◌&&◌, ◌||◌, List, ℕ, ◌+◌, ◌<◌, ◌≤◌, length, get_or}
use Rattle.std.proofs.Math.Bool.{and-eq-true_iff}
use Rattle.std.proofs.Math.Option.{some}
use Rattle.std.proofs.Common.{arith, le-leb, eq-eqb}
use Rattle.std.proofs.Math.Dec.{eqb}
use Rattle.files.specs.Code.{Code, done, neutral, return, call, unless_false, make_cont}
use Rattle.files.specs.Entries.{Entry, template}
use Rattle.files.specs.Grammar.{entry_of, suits, index_fits, indices_fit, indexed_template, each_neutral}
use Rattle.files.specs.Tree.{Template}
use Rattle.files.specs.Reading.{got}
use Rattle.files.specs.laws.AllGot.{Each, each_at, each_weaker}
use Rattle.files.specs.Linear.{linear_file}
use Rattle.files.specs.Orphans.{is_template, closes}
use Rattle.files.specs.Accepted.{tree_checked, flat_checked}
use Rattle.files.specs.Valid.{Bytes}
use Rattle.readback.specs.laws.TreeFacts.{TreeFacts, tree_facts}
use Rattle.files.specs.laws.AcceptedLaws.{none_refused}
use Rattle.files.specs.laws.AcceptedLaws.{checked, checked_read, flat_checked_lem}
use Rattle.trim.specs.Reached.{reached}
use Rattle.trim.specs.Standing.{Leads}
use Rattle.trim.specs.laws.ReachedLaws.{or_left, or_right, Up, closes_up, marked_more}
use Rattle.trim.proofs.theorems.RoundsLaws.{reached_leads}
use Rattle.machines.specs.Fetched.{no_template}
use Rattle.machines.specs.Runs.{Memory, checked_run, linear_run}
use Rattle.renamed.specs.laws.Reindexed.{Names}
use Rattle.renamed.specs.laws.Ends.{EndAlike-renamed}
use Rattle.renamed.specs.laws.Trim.{Keeps, Written, tree_trim_alike, linear_trim_alike}

-- ---- where the indices suit, a template that is named is named by a closure
closure_names_lem : (es : List Entry) (Q : ℕ → Type 0) (c : Code) → indices_fit es c ≡ true → ((u : ℕ) → closes es u c ≡ true → Q u)
    → Names (λ n. (u : ℕ) → entry_of es n ≡ some (template u) → Q u) c
unfolding indices_fit each_neutral index_fits suits closes is_template Names
closure_names_lem es Q done f h = tt
closure_names_lem es Q (neutral op ns r) f h =
    let k = (and-eq-true_iff (index_fits es op (get_or ns 0 0)) (indices_fit es r)).0 f in (
      (λ l u e. h u (or_left (eqb op 7 && is_template u (entry_of es (get_or ns 0 0))) (closes es u r) (names_it l u e k.0))),
      closure_names_lem es Q r k.1 (λ u e. h u (or_right (eqb op 7 && is_template u (entry_of es (get_or ns 0 0))) (closes es u r) e)),
    )
  where
    names_it : op ≤ 9 → (u : ℕ) → entry_of es (get_or ns 0 0) ≡ some (template u) → index_fits es op (get_or ns 0 0) ≡ true
        → (eqb op 7 && is_template u (entry_of es (get_or ns 0 0))) ≡ true
    names_it l u e g =
        let s : eqb op 7 ≡ true = rw (le-leb op 9 l, e) at g in
        rw (s, e, eq-eqb u u refl) refl
closure_names_lem es Q (return r) f h = closure_names_lem es Q r f h
closure_names_lem es Q (call m r) f h = closure_names_lem es Q r f h
closure_names_lem es Q (unless_false x y r) f h =
    let k = (and-eq-true_iff (indices_fit es x && indices_fit es y) (indices_fit es r)).0 f in
    let l = (and-eq-true_iff (indices_fit es x) (indices_fit es y)).0 k.0 in (
      closure_names_lem es Q x l.0 (λ u e. h u (or_left (closes es u x) (closes es u y || closes es u r) e)),
      closure_names_lem es Q y l.1 (λ u e. h u (or_right (closes es u x) (closes es u y || closes es u r) (or_left (closes es u y) (closes es u r) e))),
      closure_names_lem es Q r k.1 (λ u e. h u (or_right (closes es u x) (closes es u y || closes es u r) (or_right (closes es u y) (closes es u r) e))),
    )
closure_names_lem es Q (make_cont m x r) f h =
    let k = (and-eq-true_iff (indices_fit es x) (indices_fit es r)).0 f in (
      closure_names_lem es Q x k.0 (λ u e. h u (or_left (closes es u x) (closes es u r) e)),
      closure_names_lem es Q r k.1 (λ u e. h u (or_right (closes es u x) (closes es u r) e)),
    )

-- ---- an accepted file
-- THE LAW
module _ (s : List ℕ) (ts : List Template) (q : ℕ) (e : tree_checked s ≡ got ts q) where
  facts : TreeFacts ts
  facts = tree_facts s ts q (checked_read s ts q e)

  up_all : Each Up 0 ts
  up_all = each_weaker (λ n x h u c. (closes_up n (length ts) x.entries x.code u h.writable.entries_ok c).0) 0 ts facts.each

  -- what stays with template 0 and with what it names may stay alone
  pub leads_keep : (keep : ℕ → Bool) → keep 0 ≡ true → Each (Leads keep) 0 ts → Keeps keep ts
  leads_keep keep zero_stays leads = record {
    template_0 = zero_stays;
    not_empty = facts.at_least_one;
    few = facts.at_most_64;
    named = λ t h k.
        let x : Template = get_or ts t no_template in
        let z : 0 + t ≡ t = omega arith in
        let f = each_at _ 0 ts facts.each t h no_template in
        closure_names_lem x.entries (λ u. (keep u ≡ true) × (u < length ts)) x.code
        (none_refused indexed_template 0 ts t no_template (checked s ts q e).indexed h)
        (λ u c. (
          each_at (Leads keep) 0 ts leads t h no_template (rw z k) u c,
          (closes_up (0 + t) (length ts) x.entries x.code u
              f.writable.entries_ok c).1,
        ));
  }

  pub reached_keeps : Keeps (reached ts) ts
  unfolding reached
  reached_keeps = leads_keep (reached ts) (marked_more 0 (λ v. eqb v 0) ts 0 refl) (reached_leads ts up_all)

  -- the file with only these templates, and only the entries that are named, ends alike on the tree machine
  pub tree_reached_alike : (s' : List ℕ) (ts' : List Template) {q' : ℕ} → Written (reached ts) ts ts' → tree_checked s' ≡ got ts' q'
      → (b o : ℕ) (m : Memory) → EndAlike-renamed (checked_run s b o m) (checked_run s' b o m)
  tree_reached_alike s' ts' o e' = tree_trim_alike (reached ts) ts reached_keeps ts' o s s' e e'

-- and, where both flatten, on the linear machine
pub linear_reached_alike : (s s' : List ℕ) (ts ts' : List Template) (q q' : ℕ) → flat_checked s ≡ got ts q → flat_checked s' ≡ got ts' q'
    → Written (reached ts) ts ts'
    → Bytes (linear_file ts) → Bytes (linear_file ts') → (b o : ℕ) (m : Memory)
    → EndAlike-renamed (linear_run (linear_file ts) b o m) (linear_run (linear_file ts') b o m)
linear_reached_alike s s' ts ts' q q' e e' o h h' =
    linear_trim_alike (reached ts) ts (reached_keeps s ts q (flat_checked_lem s ts q e)) ts' o s s' e e' h h'
