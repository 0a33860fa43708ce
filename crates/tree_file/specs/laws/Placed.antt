-- What 6, 7 and 24 say of templates one by one, and that it does not matter to them where the lists start. Assumes nothing.
use Rattle.std.specs.Prelude.{ℕ, zero, suc, ◌+◌, ◌-◌, ◌≤◌, ◌<◌, ◌≡◌, refl, Bool, true, ◌||◌, List, [], ◌∷◌, ◌++◌, length}
use Rattle.std.proofs.Common.{arith, ap}
use Rattle.std.proofs.Math.Option.{none}
use Rattle.files.specs.Grammar.{lowest}
use Rattle.files.specs.Orphans.{closes, closure_names, lowest_number, lowest_orphan}
use Rattle.files.specs.Tree.{Template}
use Rattle.files.specs.laws.AllGot.{Each}
use Rattle.tree_file.specs.File.{template_bits, templates_bits, placed, starts_at}

-- ---- where the lists start does not matter
pub placed_length : (p : ℕ) (ts : List Template) → length (placed p ts) ≡ length ts
unfolding placed
placed_length p [] = refl
placed_length p (t ∷ ts) = ap suc (placed_length (p + length (template_bits t)) ts)

pub placed_bits : (p : ℕ) (ts : List Template) → templates_bits (placed p ts) ≡ templates_bits ts
unfolding placed templates_bits template_bits
placed_bits p [] = refl
placed_bits p (t ∷ ts) = ap (λ (l : List ℕ). template_bits t ++ l) (placed_bits (p + length (template_bits t)) ts)

pub lowest_placed : (ok : Template → Bool) → ((p : ℕ) (t : Template) → ok (starts_at p t) ≡ ok t) → (n p : ℕ) (ts : List Template)
    → lowest ok n (placed p ts) ≡ lowest ok n ts
unfolding lowest placed
lowest_placed ok same n p [] = refl
lowest_placed ok same n p (t ∷ ts) = rw (same p t, lowest_placed ok same (n + 1) (p + length (template_bits t)) ts) refl

pub placed_names : (p : ℕ) (ts : List Template) (u : ℕ) → closure_names (placed p ts) u ≡ closure_names ts u
unfolding placed closure_names
placed_names p [] u = refl
placed_names p (t ∷ ts) u = ap (λ (b : Bool). closes t.entries u t.code || b) (placed_names (p + length (template_bits t)) ts u)

-- ---- templates one by one
pub lowest_all : (ok : Template → Bool) (n m : ℕ) (ts : List Template) → Each (λ n t. ok t ≡ true) n ts → lowest ok m ts ≡ none
unfolding lowest
lowest_all ok n m [] h = refl
lowest_all ok n m (t ∷ ts) h = rw h.0 (lowest_all ok (n + 1) (m + 1) ts h.1)

number_none : (ok : ℕ → Bool) (u n : ℕ) → ((v : ℕ) → u ≤ v → v < u + n → ok v ≡ true) → lowest_number ok u n ≡ none
unfolding lowest_number
number_none ok u zero h = refl
number_none ok u (suc n) h = rw (h u (omega arith) (omega arith)) (number_none ok (u + 1) n (λ v a b. h v (omega arith) (omega arith)))

-- 24, where each but 0 is named
pub no_orphan : (ts : List Template) → ((u : ℕ) → 1 ≤ u → u < length ts → closure_names ts u ≡ true) → lowest_orphan ts ≡ none
unfolding lowest_orphan
no_orphan ts h = number_none (closure_names ts) 1 (length ts - 1) (λ u l m. h u l (omega arith))
