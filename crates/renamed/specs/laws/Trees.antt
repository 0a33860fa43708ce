-- Tree templates whose code has its indices renumbered are twins (request 5): a place keeps its distance from the first bit of the template's list.
-- Assumes nothing.
use Rattle.std.specs.Prelude.{◌≡◌, refl, Bool, true, false, cond, List, ℕ, ◌+◌, ◌*◌, ◌<◌, ltb, eqb}
use Rattle.std.proofs.Math.Option.{Option}
use Rattle.std.proofs.Common.{arith, ltb-true, ltb-false, lt-ltb}
use Rattle.std.proofs.Math.ListN.{length, get_or}
use Rattle.files.specs.Code.{Code, done, neutral, return, call, unless_false, make_cont, bits}
use Rattle.files.specs.Entries.{Entry}
use Rattle.files.specs.Grammar.{entry_of}
use Rattle.files.specs.Tree.{Template}
use Rattle.files.specs.Reading.{got}
use Rattle.files.specs.Accepted.{tree_checked}
use Rattle.rules.specs.declared.Plain.{Plain}
use Rattle.machines.specs.Fetched.{Fetched, plainly, first, look, no_template, tree_at}
use Rattle.machines.specs.Machine.{tree_program}
use Rattle.machines.specs.Runs.{Memory, checked_run}
use Rattle.renamed.specs.laws.Renaming.{Renaming, eqb_same}
use Rattle.rewrite.specs.Reindex.{reindexed, reindex}
use Rattle.rewrite.specs.laws.ReindexLaws.{same_length, same_bits, same_closed}
use Rattle.renamed.specs.laws.Reindexed.{Names, EntryR, PlainsR, none_p, some_p, resolve_alike}
use Rattle.renamed.specs.laws.Ends.{EndAlike-renamed}
use Rattle.renamed.specs.laws.Programs.{FetchR, plain_r, return_r, call_r, branch_r, save_r, bad_r, Twins, tree_machine_alike}

ltb_same : (a b c d : ℕ) → (a < b → c < d) → (c < d → a < b) → ltb a b ≡ ltb c d
ltb_same a b c d f g = pick (ltb a b) refl
  where
    pick : (t : Bool) → ltb a b ≡ t → t ≡ ltb c d
    pick true e = rw (lt-ltb c d (f (ltb-true a b e))) refl
    pick false e = other (ltb c d) refl
      where
        other : (u : Bool) → ltb c d ≡ u → false ≡ u
        other true k = let h : a < b = g (ltb-true c d k) in let l = ltb-false a b e in absurd (omega arith)
        other false k = refl

-- the same list but for the indices, and entries that are the same but for templates' numbers at each index that it names
pub record TemplateR (N : Renaming) (t t' : Template) : Type 0 where
  pub index : ℕ → ℕ
  pub zero_stays : index 0 ≡ 0
  pub code_is : t'.code ≡ reindex index t.code
  pub named : Names (λ n. EntryR N (entry_of t.entries n) (entry_of t'.entries (index n))) t.code

module _ (N : Renaming) (Place : ℕ → ℕ → ℕ → ℕ → Type 0) (t t' S S' : ℕ) (place : (p q : ℕ) → p + S' ≡ q + S → Place t p t' q)
    (es es' : List Entry) (f : ℕ → ℕ) (z : f 0 ≡ 0) where
  abbrev Alike : Fetched → Fetched → Type 0
  Alike F G = FetchR N Place t t' F G

  abbrev Named : Code → Type 0
  Named c = Names (λ n. EntryR N (entry_of es n) (entry_of es' (f n))) c

  plains : {m m' : Option Plain} (p q : ℕ) → PlainsR N m m' → p + S' ≡ q + S → Alike (plainly m p) (plainly m' q)
  unfolding plainly
  plains p q none_p h = bad_r
  plains p q (some_p x) h = plain_r x (place p q h)

  by_test : {x y x' y' : Fetched} {b b' : Bool} → b ≡ b' → Alike x x' → Alike y y' → Alike (cond b x y) (cond b' x' y')
  by_test {x} {y} {x'} {y'} {b} e h k = rw (← e) (pick b)
    where
      pick : (b : Bool) → Alike (cond b x y) (cond b x' y')
      pick true = h
      pick false = k

  at_same : (p q s s' : ℕ) → p + S' ≡ q + S → s + S' ≡ s' + S → eqb p s ≡ eqb q s'
  at_same p q s s' h k = eqb_same p s q s' (λ e. omega arith) (λ e. omega arith)

  below_same : (p q s s' : ℕ) → p + S' ≡ q + S → s + S' ≡ s' + S → ltb p s ≡ ltb q s'
  below_same p q s s' h k = ltb_same p s q s' (λ e. omega arith) (λ e. omega arith)

  first_like : (c : Code) {F F' : Fetched} (s s' : ℕ) → s + S' ≡ s' + S → Named c → Alike F F' → Alike (first es s c F) (first es' s' (reindex f c) F')
  unfolding first reindex Names
  first_like done s s' h n k = k
  first_like (neutral op ns r) s s' h n k =
      plains (s + (5 + 8 * length ns)) (s' + (5 + 8 * length (reindexed f op ns))) (resolve_alike N es es' f op ns z n.0)
      (omega (arith, same_length f op ns))
  first_like (return r) s s' h n k = return_r
  first_like (call m r) s s' h n k = call_r
  first_like (unless_false x y r) s s' h n k =
      rw (same_closed f x, same_bits f x) (branch_r (place (s + 5) (s' + 5) (omega arith)) (place (s + 5 + bits x) (s' + 5 + bits x) (omega arith)))
  first_like (make_cont m x r) s s' h n k =
      rw (same_bits f x) (save_r (place (s + 13) (s' + 13) (omega arith)) (place (s + 13 + bits x) (s' + 13 + bits x) (omega arith)))

  look_like : (c : Code) {F F' : Fetched} (s s' p q : ℕ) → s + S' ≡ s' + S → p + S' ≡ q + S → Named c → Alike F F'
      → Alike (look es s c F p) (look es' s' (reindex f c) F' q)
  unfolding look reindex Names
  look_like done s s' p q h l n k = by_test (at_same p q s s' l h) k bad_r
  look_like (neutral op ns r) s s' p q h l n k =
      let e = same_length f op ns in
      by_test (at_same p q s s' l h)
      (plains (s + (5 + 8 * length ns)) (s' + (5 + 8 * length (reindexed f op ns))) (resolve_alike N es es' f op ns z n.0) (omega arith))
      (look_like r (s + (5 + 8 * length ns)) (s' + (5 + 8 * length (reindexed f op ns))) p q (omega arith) l n.1 k)
  look_like (return r) s s' p q h l n k = by_test (at_same p q s s' l h) return_r (look_like r (s + 5) (s' + 5) p q (omega arith) l n k)
  look_like (call m r) s s' p q h l n k = by_test (at_same p q s s' l h) call_r (look_like r (s + 13) (s' + 13) p q (omega arith) l n k)
  look_like (unless_false x y r) s s' p q h l n k =
      rw (same_closed f x, same_bits f x, same_bits f y)
      (by_test (at_same p q s s' l h)
      (branch_r (place (s + 5) (s' + 5) (omega arith)) (place (s + 5 + bits x) (s' + 5 + bits x) (omega arith)))
      (by_test (below_same p q (s + 5 + bits x) (s' + 5 + bits x) l (omega arith))
      (look_like x (s + 5) (s' + 5) p q (omega arith) l n.0 (first_like r (s + 5 + bits x + bits y) (s' + 5 + bits x + bits y) (omega arith) n.2 k))
      (by_test (below_same p q (s + 5 + bits x + bits y) (s' + 5 + bits x + bits y) l (omega arith))
      (look_like y (s + 5 + bits x) (s' + 5 + bits x) p q (omega arith) l n.1
      (first_like r (s + 5 + bits x + bits y) (s' + 5 + bits x + bits y) (omega arith) n.2 k))
      (look_like r (s + 5 + bits x + bits y) (s' + 5 + bits x + bits y) p q (omega arith) l n.2 k))))
  look_like (make_cont m x r) s s' p q h l n k =
      rw (same_bits f x)
      (by_test (at_same p q s s' l h)
      (save_r (place (s + 13) (s' + 13) (omega arith)) (place (s + 13 + bits x) (s' + 13 + bits x) (omega arith)))
      (by_test (below_same p q (s + 13 + bits x) (s' + 13 + bits x) l (omega arith))
      (look_like x (s + 13) (s' + 13) p q (omega arith) l n.0 k)
      (look_like r (s + 13 + bits x) (s' + 13 + bits x) p q (omega arith) l n.1 bad_r)))

-- ---- THE LAW
module _ (N : Renaming) (ts ts' : List Template) where
  -- as far from the first bit of the template's list
  abbrev pub SameDistance : ℕ → ℕ → ℕ → ℕ → Type 0
  SameDistance t p t' q = p + (get_or ts' t' no_template).start ≡ q + (get_or ts t no_template).start

  -- each template that has a new number is the same there but for indices and templates' numbers; template 0 stays
  pub record Trimmed : Type 0 where
    pub template_0 : N.To 0 0
    pub each : {t t' : ℕ} → N.To t t' → TemplateR N (get_or ts t no_template) (get_or ts' t' no_template)

  pub tree_twins : Trimmed → Twins N SameDistance (tree_program ts) (tree_program ts')
  unfolding tree_at
  tree_twins w = record {
    fetches = λ {t} {p} {t'} {q} n h.
        let a : Template = get_or ts t no_template in
        let b : Template = get_or ts' t' no_template in
        let r : TemplateR N a b = w.each n in
        rw r.code_is
        (look_like N SameDistance t t' a.start b.start (λ p q h. h) a.entries b.entries r.index r.zero_stays
        a.code a.start b.start p q (omega arith) h r.named bad_r);
    starts = λ n. omega arith;
    first = w.template_0;
  }

  pub tree_trimmed_alike : (s s' : List ℕ) {q q' : ℕ} → tree_checked s ≡ got ts q → tree_checked s' ≡ got ts' q' → Trimmed
      → (b o : ℕ) (m : Memory) → EndAlike-renamed (checked_run s b o m) (checked_run s' b o m)
  tree_trimmed_alike s s' e e' w = tree_machine_alike N SameDistance s s' e e' (tree_twins w)
