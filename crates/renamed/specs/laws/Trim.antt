-- Templates trimmed (request 5; definitions in the crate trim). Where template 0 stays and what the templates that stay name stays too,
-- the trimmed file ends alike. Assumes nothing.
use Rattle.std.specs.Prelude.{◌≡◌, Bool, true, ◌&&◌, ◌||◌, leb, eqb}
use Rattle.std.proofs.Math.Path.{refl, ap}
use Rattle.std.proofs.Common.{sym, ◌∙◌, le-leb, eq-eqb}
use mathlib.Core.List.{List, [], ◌∷◌, map}
use Rattle.std.proofs.Math.Option.{Option, none, some}
use Prim.Native.Nat.{ℕ, zero, suc, ◌+◌, ◌<◌, ◌≤◌}
use native.Mathlib.Omega.{arith}
use Rattle.std.proofs.Math.ListN.{length, get_or, get_or-map}
use Rattle.files.specs.Code.{Code, done, neutral, return, call, unless_false, make_cont}
use Rattle.files.specs.Entries.{Entry, constant, global, template}
use Rattle.files.specs.Grammar.{entry_of}
use Rattle.files.specs.Tree.{Template}
use Rattle.files.specs.Reading.{got}
use Rattle.files.specs.Linear.{linear_file}
use Rattle.files.specs.Accepted.{tree_checked, flat_checked}
use Rattle.files.specs.Valid.{Bytes}
use Rattle.trim.specs.Kept.{sift, rank}
use Rattle.trim.specs.Trim.{names, new_index, renumber, trim_template, trim}
use Rattle.trim.specs.laws.KeptLaws.{rank_most}
use Rattle.trim.specs.laws.ReachedLaws.{or_left, or_right}
use Rattle.rewrite.specs.Reindex.{reindex}
use Rattle.machines.specs.Fetched.{no_template}
use Rattle.machines.specs.Runs.{Memory, checked_run, linear_run}
use Rattle.renamed.specs.laws.Renaming.{Renaming}
use Rattle.renamed.specs.laws.Ranks.{sift_at, entry_at, rank_one}
use Rattle.renamed.specs.laws.Reindexed.{Names, EntryR, none_e, constant_e, global_e, template_e}
use Rattle.renamed.specs.laws.Ends.{EndAlike-renamed}
use Rattle.renamed.specs.laws.Trees.{TemplateR, Trimmed, tree_trimmed_alike}
use Rattle.renamed.specs.laws.Linears.{linear_trimmed_alike}

-- ---- what a list names
named_all : (c : Code) (Q : ℕ → Type 0) → ((n : ℕ) → names n c ≡ true → Q n) → Names Q c
unfolding names Names
named_all done Q h = tt
named_all (neutral op ns r) Q h = (
  (λ l. h (get_or ns 0 0) (rw (le-leb op 9 l, eq-eqb (get_or ns 0 0) (get_or ns 0 0) refl) refl)),
  named_all r Q (λ n e. h n (or_right (leb op 9 && eqb (get_or ns 0 0) n) (names n r) e)),
)
named_all (return r) Q h = named_all r Q h
named_all (call m r) Q h = named_all r Q h
named_all (unless_false x y r) Q h = (
  named_all x Q (λ n e. h n (or_left (names n x) (names n y || names n r) e)),
  named_all y Q (λ n e. h n (or_right (names n x) (names n y || names n r) (or_left (names n y) (names n r) e))),
  named_all r Q (λ n e. h n (or_right (names n x) (names n y || names n r) (or_right (names n y) (names n r) e))),
)
named_all (make_cont m x r) Q h = (
  named_all x Q (λ n e. h n (or_left (names n x) (names n r) e)),
  named_all r Q (λ n e. h n (or_right (names n x) (names n r) e)),
)

both_named : (P Q S : ℕ → Type 0) (c : Code) → ((n : ℕ) → P n → Q n → S n) → Names P c → Names Q c → Names S c
unfolding Names
both_named P Q S done f p q = tt
both_named P Q S (neutral op ns r) f p q = ((λ l. f (get_or ns 0 0) (p.0 l) (q.0 l)), both_named P Q S r f p.1 q.1)
both_named P Q S (return r) f p q = both_named P Q S r f p q
both_named P Q S (call m r) f p q = both_named P Q S r f p q
both_named P Q S (unless_false x y r) f p q = (both_named P Q S x f p.0 q.0, both_named P Q S y f p.1 q.1, both_named P Q S r f p.2 q.2)
both_named P Q S (make_cont m x r) f p q = (both_named P Q S x f p.0 q.0, both_named P Q S r f p.1 q.1)

-- ---- entries
abbrev renumbered : (ℕ → ℕ) → Option Entry → Option Entry
renumbered r none = none
renumbered r (some e) = some (renumber r e)

entry_map : (r : ℕ → ℕ) (es : List Entry) (n : ℕ) → entry_of (map (renumber r) es) n ≡ renumbered r (entry_of es n)
unfolding entry_of
entry_map r es zero = refl
entry_map r [] (suc n) = refl
entry_map r (e ∷ es) (suc zero) = refl
entry_map r (e ∷ es) (suc (suc n)) = entry_map r es (suc n)

module _ (N : Renaming) (r : ℕ → ℕ) where
  renumbered_like : (o : Option Entry) → ((u : ℕ) → o ≡ some (template u) → N.To u (r u)) → EntryR N o (renumbered r o)
  unfolding renumber
  renumbered_like none h = none_e
  renumbered_like (some (constant t x)) h = constant_e
  renumbered_like (some (global g)) h = global_e
  renumbered_like (some (template u)) h = template_e (h u refl)

  entry_like : (c : Code) (es : List Entry) (n : ℕ) → names n c ≡ true → ((u : ℕ) → entry_of es n ≡ some (template u) → N.To u (r u))
      → EntryR N (entry_of es n) (entry_of (map (renumber r) (sift (λ j. names (suc j) c) 0 es)) (new_index c n))
  unfolding new_index entry_of
  entry_like c es zero e h = none_e
  entry_like c es (suc i) e h =
      let z : 0 + i ≡ i = omega arith in
      rw (entry_map r (sift (λ j. names (suc j) c) 0 es) (suc (rank (λ j. names (suc j) c) 0 i)), entry_at (λ j. names (suc j) c) es 0 i (rw z e))
      (renumbered_like (entry_of es (suc i)) h)

-- ---- THE LAW
module _ (keep : ℕ → Bool) (ts : List Template) where
  -- template 0 stays, and with a template those that it names
  pub record Keeps : Type 0 where
    pub template_0 : keep 0 ≡ true
    pub not_empty : 0 < length ts
    pub few : length ts ≤ 64
    pub named : (t : ℕ) → t < length ts → keep t ≡ true
        → Names (λ n. (u : ℕ) → entry_of (get_or ts t no_template).entries n ≡ some (template u)
        → (keep u ≡ true) × (u < length ts)) (get_or ts t no_template).code

  -- the new number of a template that stays
  pub record Renumbered (t t' : ℕ) : Type 0 where
    pub stays : keep t ≡ true
    pub there : t < length ts
    pub is : t' ≡ rank keep 0 t

  -- ts' is read where the trimmed templates were written
  pub record Written (ts' : List Template) : Type 0 where
    pub same_entries : (t : ℕ) → (get_or ts' t no_template).entries ≡ (get_or (trim keep ts) t no_template).entries
    pub same_code : (t : ℕ) → (get_or ts' t no_template).code ≡ (get_or (trim keep ts) t no_template).code

  module _ (w : Keeps) where
    abbrev pub renaming : Renaming
    renaming = record {
      To = Renumbered;
      fits = λ {t} {t'} r. (omega (arith, r.there, w.few), omega (arith, r.is, r.there, w.few, rank_most keep 0 t));
      one = λ r q e. r.is ∙ ap (rank keep 0) e ∙ sym q.is;
      back = λ {t} {t'} {s} {s'} r q e. rank_one keep t s r.stays q.stays (sym r.is ∙ e ∙ q.is);
    }

    no_template_lem : trim_template (rank keep 0) no_template ≡ no_template
    unfolding trim_template sift reindex
    no_template_lem = refl

    trim_at : (t : ℕ) → t < length ts → keep t ≡ true
        → get_or (trim keep ts) (rank keep 0 t) no_template ≡ trim_template (rank keep 0) (get_or ts t no_template)
    unfolding trim
    trim_at t h e =
        let z : 0 + t ≡ t = omega arith in
        let d : get_or (map (trim_template (rank keep 0)) (sift keep 0 ts)) (rank keep 0 t) no_template
        ≡ get_or (map (trim_template (rank keep 0)) (sift keep 0 ts)) (rank keep 0 t) (trim_template (rank keep 0) no_template) = rw no_template_lem refl in
        d ∙ get_or-map (trim_template (rank keep 0)) (sift keep 0 ts) (rank keep 0 t) no_template
        ∙ ap (trim_template (rank keep 0)) (sift_at keep no_template ts 0 t h (rw z e))

    module _ (ts' : List Template) (o : Written ts') where
      each_trimmed : {t t' : ℕ} → Renumbered t t' → TemplateR renaming (get_or ts t no_template) (get_or ts' t' no_template)
      unfolding trim_template new_index
      each_trimmed {t} {t'} r =
          let a : Template = get_or ts t no_template in
          let e : get_or (trim keep ts) t' no_template ≡ trim_template (rank keep 0) a = rw r.is (trim_at t r.there r.stays) in
          let es : (get_or ts' t' no_template).entries ≡ map (renumber (rank keep 0)) (sift (λ j. names (suc j) a.code) 0 a.entries) =
          o.same_entries t' ∙ ap (λ x. x.entries) e in
          record {
            index = new_index a.code;
            zero_stays = refl;
            code_is = o.same_code t' ∙ ap (λ x. x.code) e;
            named =
                both_named (λ n. names n a.code ≡ true) (λ n. (u : ℕ) → entry_of a.entries n ≡ some (template u) → (keep u ≡ true) × (u < length ts)) _
                a.code
                (λ n p q. rw es (entry_like renaming (rank keep 0) a.code a.entries n p
                (λ u h. let k = q u h in record { stays = k.0; there = k.1; is = refl })))
                (named_all a.code (λ n. names n a.code ≡ true) (λ n h. h)) (w.named t r.there r.stays);
          }

      pub trimmed : Trimmed renaming ts ts'
      unfolding rank
      trimmed = record { template_0 = record { stays = w.template_0; there = w.not_empty; is = refl }; each = each_trimmed }

      -- each machine ends alike on a file and on a file that holds the trimmed templates
      pub tree_trim_alike : (s s' : List ℕ) {q q' : ℕ} → tree_checked s ≡ got ts q → tree_checked s' ≡ got ts' q'
          → (b o : ℕ) (m : Memory) → EndAlike-renamed (checked_run s b o m) (checked_run s' b o m)
      tree_trim_alike s s' e e' = tree_trimmed_alike renaming ts ts' s s' e e' trimmed

      pub linear_trim_alike : (s s' : List ℕ) {q q' : ℕ} → flat_checked s ≡ got ts q → flat_checked s' ≡ got ts' q' → Bytes (linear_file ts)
          → Bytes (linear_file ts')
          → (b o : ℕ) (m : Memory) → EndAlike-renamed (linear_run (linear_file ts) b o m) (linear_run (linear_file ts') b o m)
      linear_trim_alike s s' e e' h h' = linear_trimmed_alike renaming s s' ts ts' e e' h h' trimmed
