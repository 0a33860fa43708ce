-- What a check over all templates lets pass, passes at each; what is accepted was read, and no check stood in its way. Assumes nothing.
use Rattle.std.specs.Prelude.{ℕ, zero, suc, ◌+◌, ◌<◌, ◌≡◌, refl, Bool, true, false, cond, List, [], ◌∷◌, length, get_or}
use Rattle.std.proofs.Common.{arith, ◌∙◌}
use Rattle.std.proofs.Math.Option.{Option, none, some}
use Rattle.cells.specs.laws.Laws.{clash}
use Rattle.files.specs.Reading.{Got, got}
use Rattle.files.specs.Entries.{then}
use Rattle.files.specs.Tree.{Template, tree_read}
use Rattle.files.specs.Grammar.{lowest, closed_template, indexed_template}
use Rattle.files.specs.Orphans.{lowest_orphan}
use Rattle.files.specs.Flat.{offset_template}
use Rattle.files.specs.Accepted.{or_lowest, tree_checked, flat_checked, tree_accepted, flat_accepted}
use Rattle.files.specs.laws.AllGot.{refused_got, got_value, then_led}

pub lowest_none : (ok : Template → Bool) (n : ℕ) (t : Template) (ts : List Template) → lowest ok n (t ∷ ts) ≡ none
    → (ok t ≡ true) × (lowest ok (n + 1) ts ≡ none)
unfolding lowest
lowest_none ok n t ts = go (ok t)
  where
    go : (b : Bool) → cond b (lowest ok (n + 1) ts) (some n) ≡ none → (b ≡ true) × (lowest ok (n + 1) ts ≡ none)
    go true e = (refl, e)
    go false e = clash (cc)

pub none_refused : (ok : Template → Bool) (n : ℕ) (ts : List Template) (i : ℕ) (d : Template) → lowest ok n ts ≡ none → i < length ts
    → ok (get_or ts i d) ≡ true
none_refused ok n [] i d e l = absurd (omega arith)
none_refused ok n (t ∷ ts) zero d e l = (lowest_none ok n t ts e).0
none_refused ok n (t ∷ ts) (suc i) d e l = none_refused ok (n + 1) ts i d (lowest_none ok n t ts e).1 (omega arith)

-- ---- what 6, 7, 24 and 8 do not refuse is as it was read
pub or_led : {A : Type 0} (n : ℕ) (o : Option ℕ) (g : Got A) {a : A} {q : ℕ} → or_lowest n o g ≡ got a q → (o ≡ none) × (g ≡ got a q)
unfolding or_lowest
or_led n (some t) g e = refused_got e
or_led n none g e = (refl, e)

-- a tree file that nothing refuses, 1 to 7
pub record Checked (s : List ℕ) (ts : List Template) (q : ℕ) : Type 0 where
  pub read : tree_read s ≡ got ts q
  pub closed : lowest closed_template 0 ts ≡ none
  pub indexed : lowest indexed_template 0 ts ≡ none

pub checked : (s : List ℕ) (ts : List Template) (q : ℕ) → tree_checked s ≡ got ts q → Checked s ts q
unfolding tree_checked
checked s ts q e =
    then_led (tree_read s) _ e
    (λ us r first on.
    let a = or_led 6 (lowest closed_template 0 us) _ on in
    let b = or_led 7 (lowest indexed_template 0 us) (got us r) a.1 in
    let z : us ≡ ts = (got_value b.1).0 in
    record { read = first ∙ b.1; closed = rw z at a.0; indexed = rw z at b.0 })

pub checked_read : (s : List ℕ) (ts : List Template) (q : ℕ) → tree_checked s ≡ got ts q → tree_read s ≡ got ts q
checked_read s ts q e = (checked s ts q e).read

-- one check more, whose lowest template is (low ts): 24 or 8
one_more : (n : ℕ) (low : List Template → Option ℕ) (g : Got (List Template)) (ts : List Template) (q : ℕ)
    → then g (λ us r. or_lowest n (low us) (got us r)) ≡ got ts q → (g ≡ got ts q) × (low ts ≡ none)
one_more n low g ts q e =
    then_led g _ e
    (λ us r first on.
    let a = or_led n (low us) (got us r) on in
    let z : us ≡ ts = (got_value a.1).0 in (first ∙ a.1, rw z at a.0))

offsets_led : (s : List ℕ) (ts : List Template) (q : ℕ) → flat_checked s ≡ got ts q → (tree_checked s ≡ got ts q) × (lowest offset_template 0 ts ≡ none)
unfolding flat_checked
offsets_led s = one_more 8 (lowest offset_template 0) (tree_checked s)

pub flat_checked_lem : (s : List ℕ) (ts : List Template) (q : ℕ) → flat_checked s ≡ got ts q → tree_checked s ≡ got ts q
flat_checked_lem s ts q e = (offsets_led s ts q e).0

pub flat_offsets : (s : List ℕ) (ts : List Template) (q : ℕ) → flat_checked s ≡ got ts q → lowest offset_template 0 ts ≡ none
flat_offsets s ts q e = (offsets_led s ts q e).1

pub accepted_led : (s : List ℕ) (ts : List Template) (q : ℕ) → tree_accepted s ≡ got ts q → (tree_checked s ≡ got ts q) × (lowest_orphan ts ≡ none)
unfolding tree_accepted
accepted_led s = one_more 24 lowest_orphan (tree_checked s)

pub flat_accepted_led : (s : List ℕ) (ts : List Template) (q : ℕ) → flat_accepted s ≡ got ts q
    → (tree_accepted s ≡ got ts q) × (lowest offset_template 0 ts ≡ none)
unfolding flat_accepted
flat_accepted_led s = one_more 8 (lowest offset_template 0) (tree_accepted s)

-- what is accepted passes without 24 too
pub accepted_checked : (s : List ℕ) (ts : List Template) (q : ℕ) → tree_accepted s ≡ got ts q → tree_checked s ≡ got ts q
accepted_checked s ts q e = (accepted_led s ts q e).0

pub flat_accepted_checked : (s : List ℕ) (ts : List Template) (q : ℕ) → flat_accepted s ≡ got ts q → flat_checked s ≡ got ts q
unfolding flat_checked then or_lowest
flat_accepted_checked s ts q e =
    let a = flat_accepted_led s ts q e in
    rw (accepted_checked s ts q a.0, a.1) refl
