-- Where a file flattens, its trimmed file does (request 5): flat lists are as long as before, so that offsets fit where they did. Assumes nothing.
use Rattle.std.specs.Prelude.{◌≡◌, Bool, true, false, cond, List, [], ◌∷◌, map, ℕ, zero, suc, ◌+◌, length}
use Rattle.std.proofs.Math.Path.{refl, ap}
use Rattle.std.proofs.Common.{◌∙◌}
use Rattle.std.proofs.Math.Option.{none}
use Rattle.std.proofs.Math.ListN.{get_or, get_or-map, get_or-eq_default}
use Rattle.files.specs.Code.{Code, done, neutral, return, call, unless_false, make_cont}
use Rattle.files.specs.Entries.{then}
use Rattle.files.specs.Flat.{offsets_fit, offset_template}
use Rattle.files.specs.Grammar.{lowest}
use Rattle.files.specs.Linear.{linear_file}
use Rattle.files.specs.Reading.{got}
use Rattle.files.specs.Tree.{Template}
use Rattle.files.specs.Accepted.{or_lowest, tree_checked, flat_checked}
use Rattle.rules.specs.laws.Lists.{by_lt}
use Rattle.files.specs.laws.AcceptedLaws.{none_refused}
use Rattle.files.specs.laws.AcceptedLaws.{flat_offsets}
use Rattle.readback.specs.laws.Bytes.{file_bytes}
use Rattle.machines.specs.Fetched.{no_template}
use Rattle.machines.specs.Runs.{Memory, linear_run}
use Rattle.renamed.specs.laws.Ends.{EndAlike-renamed}
use Rattle.rewrite.specs.laws.ReindexLaws.{same_closed}
use Rattle.renamed.specs.laws.Linears.{same_flat}
use Rattle.rewrite.specs.Reindex.{reindex}
use Rattle.trim.specs.Kept.{sift, rank}
use Rattle.trim.specs.Trim.{new_index, trim_template, trim}
use Rattle.trim.specs.Reached.{reached}
use Rattle.renamed.specs.laws.Trim.{Written}
use Rattle.renamed.specs.laws.Reached.{linear_reached_alike}

same_offsets : (f : ℕ → ℕ) (c : Code) → offsets_fit (reindex f c) ≡ offsets_fit c
unfolding offsets_fit reindex
same_offsets f done = refl
same_offsets f (neutral op ns r) = same_offsets f r
same_offsets f (return r) = same_offsets f r
same_offsets f (call n r) = same_offsets f r
same_offsets f (unless_false x y r) = rw (same_closed f x, same_flat f x, same_flat f y, same_offsets f x, same_offsets f y, same_offsets f r) refl
same_offsets f (make_cont n x r) = rw (same_flat f r, same_offsets f x, same_offsets f r) refl

lowest_of : (ok : Template → Bool) (n : ℕ) (ts : List Template) → ((i : ℕ) → ok (get_or ts i no_template) ≡ true) → lowest ok n ts ≡ none
unfolding lowest
lowest_of ok n [] h = refl
lowest_of ok n (t ∷ ts) h = rw (h 0) (lowest_of ok (n + 1) ts (λ i. h (suc i)))

sifted : (P : Template → Type 0) (k : ℕ → Bool) (n : ℕ) (ts : List Template) → P no_template → ((i : ℕ) → P (get_or ts i no_template)) → (i : ℕ)
    → P (get_or (sift k n ts) i no_template)
unfolding sift
sifted P k n [] z h i = z
sifted P k n (x ∷ ts) z h i = pick (k n) i (λ j. sifted P k (suc n) ts z (λ i. h (suc i)) j)
  where
    pick : (b : Bool) (i : ℕ) → ((j : ℕ) → P (get_or (sift k (suc n) ts) j no_template))
        → P (get_or (cond b (x ∷ sift k (suc n) ts) (sift k (suc n) ts)) i no_template)
    pick true zero f = h 0
    pick true (suc i) f = f i
    pick false i f = f i

module _ (keep : ℕ → Bool) (ts : List Template) where
  no_template_lem : trim_template (rank keep 0) no_template ≡ no_template
  unfolding trim_template sift reindex
  no_template_lem = refl

  trim_offsets : ((i : ℕ) → offsets_fit (get_or ts i no_template).code ≡ true) → (i : ℕ) → offsets_fit (get_or (trim keep ts) i no_template).code ≡ true
  unfolding trim trim_template offsets_fit
  trim_offsets h i =
      let d : get_or (map (trim_template (rank keep 0)) (sift keep 0 ts)) i no_template ≡ trim_template (rank keep 0) (get_or (sift keep 0 ts) i no_template) =
      ap (λ z. get_or (map (trim_template (rank keep 0)) (sift keep 0 ts)) i z) no_template_lem
      ∙ get_or-map (trim_template (rank keep 0)) (sift keep 0 ts) i no_template in
      rw (d, same_offsets (new_index (get_or (sift keep 0 ts) i no_template).code) (get_or (sift keep 0 ts) i no_template).code)
      (sifted (λ x. offsets_fit x.code ≡ true) keep 0 ts refl h i)

offsets_all : (s : List ℕ) (ts : List Template) (q : ℕ) → flat_checked s ≡ got ts q → (i : ℕ) → offsets_fit (get_or ts i no_template).code ≡ true
unfolding offsets_fit
offsets_all s ts q e i =
    by_lt i (length ts) (λ h. none_refused offset_template 0 ts i no_template (flat_offsets s ts q e) h) (λ h. rw (get_or-eq_default ts no_template h) refl)

-- ---- THE LAW
pub trimmed_flattens : (keep : ℕ → Bool) (s s' : List ℕ) (ts ts' : List Template) (q q' : ℕ) → flat_checked s ≡ got ts q → Written keep ts ts'
    → tree_checked s' ≡ got ts' q'
    → flat_checked s' ≡ got ts' q'
unfolding flat_checked then or_lowest
trimmed_flattens keep s s' ts ts' q q' e o e' =
    let all : lowest offset_template 0 ts' ≡ none = lowest_of offset_template 0 ts' (λ i. rw (o.same_code i) (trim_offsets keep ts (offsets_all s ts q e) i)) in
    rw (e', all) refl

-- the linear machine ends alike on the two linear files, where the first tree file flattens
pub linear_trimmed_reached_alike : (s s' : List ℕ) (ts ts' : List Template) (q q' : ℕ) → flat_checked s ≡ got ts q → tree_checked s' ≡ got ts' q'
    → Written (reached ts) ts ts' → (b o : ℕ) (m : Memory) → EndAlike-renamed (linear_run (linear_file ts) b o m) (linear_run (linear_file ts') b o m)
linear_trimmed_reached_alike s s' ts ts' q q' e e' o =
    let f = trimmed_flattens (reached ts) s s' ts ts' q q' e o e' in
    linear_reached_alike s s' ts ts' q q' e f o (file_bytes s ts q e) (file_bytes s' ts' q' f)
