-- The code places of a list at which execution can be: its instructions' places, and its end where it runs out. Assumes nothing.
use Rattle.std.specs.Prelude.{ℕ, ◌+◌, ◌*◌, ◌≤◌, ◌≡◌, refl, Bool, true, false, cond, not, ◌&&◌, ◌||◌, ◌⊎◌, List, length}
use Rattle.std.proofs.Common.{arith, inl, inr}
use Rattle.std.proofs.Math.Bool.{and-eq-true_iff}
use Rattle.cells.specs.laws.Laws.{clash}
use Rattle.files.specs.Code.{Code, done, neutral, return, call, unless_false, make_cont, bits}
use Rattle.files.specs.Grammar.{is_empty, is_open, is_closed}
use Rattle.files.specs.laws.GrammarLaws.{empty_done}
use Rattle.files.specs.laws.ReadingLaws.{least_bits}

-- ---- lists that are as they must be
-- k: the list runs out, so it is open or empty; else it is closed
unfoldable pub fits : Bool → Code → Bool
fits true c = is_empty c || is_open c
fits false c = is_closed c

pub false_true : {A : Type 0} → ◌≡◌ {A = Bool} false true → A
false_true e = clash (cc)

or_one : {A : Type 0} (a b : Bool) → a || b ≡ true → (a ≡ true → A) → (b ≡ true → A) → A
or_one true b e f g = f refl
or_one false b e f g = g e

or_right : (a b : Bool) → b ≡ true → a || b ≡ true
or_right true b e = refl
or_right false b e = e

empty_not_closed : (c : Code) → is_empty c ≡ true → is_closed c ≡ false
unfolding is_closed
empty_not_closed c e = rw (empty_done c e) refl

module _ (c : Code) where
  out_not_closed : (is_open c ≡ true → is_closed c ≡ false) → is_empty c || is_open c ≡ true → is_closed c ≡ false
  out_not_closed f e = or_one (is_empty c) (is_open c) e (empty_not_closed c) f

open_not_closed : (c : Code) → is_open c ≡ true → is_closed c ≡ false
unfolding is_open is_closed
open_not_closed done e = refl
open_not_closed (neutral op ns r) e = out_not_closed r (open_not_closed r) e
open_not_closed (return r) e = false_true e
open_not_closed (call n r) e = false_true e
open_not_closed (unless_false x y r) e =
    let a = (and-eq-true_iff (is_open x && is_open y) (is_empty r || is_open r)).0 e in
    let b = (and-eq-true_iff (is_open x) (is_open y)).0 a.0 in
    rw (a.0, out_not_closed r (open_not_closed r) a.1, open_not_closed x b.0) (no_and (is_empty r) (is_closed y))
  where
    no_and : (a b : Bool) → a && false && b ≡ false
    no_and true b = refl
    no_and false b = refl
open_not_closed (make_cont n x r) e =
    let a = (and-eq-true_iff (is_empty x || is_open x) (is_closed r)).0 e in
    rw (out_not_closed x (open_not_closed x) a.0)

pub fits_not_closed : (c : Code) → fits true c ≡ true → is_closed c ≡ false
unfolding fits
fits_not_closed c e = out_not_closed c (open_not_closed c) e

-- ---- the lists in a list
-- the arms and the rest of a conditional
pub data Arms (k : Bool) (x y r : Code) : Type 0 where
  open_arms : is_closed x ≡ false → fits true x ≡ true → fits true y ≡ true → fits k r ≡ true → Arms k x y r
  closed_arms : is_closed x ≡ true → k ≡ false → fits false y ≡ true → is_empty r ≡ true → Arms k x y r

pub arms : (k : Bool) (x y r : Code) → fits k (unless_false x y r) ≡ true → Arms k x y r
unfolding fits is_empty is_open is_closed
arms true x y r e =
    let a = (and-eq-true_iff (is_open x && is_open y) (is_empty r || is_open r)).0 e in
    let b = (and-eq-true_iff (is_open x) (is_open y)).0 a.0 in
    open_arms (open_not_closed x b.0) (or_right (is_empty x) (is_open x) b.0) (or_right (is_empty y) (is_open y) b.1) a.1
arms false x y r e =
    or_one (is_open x && is_open y && is_closed r) (is_empty r && is_closed x && is_closed y) e
    (λ e.
    let a = (and-eq-true_iff (is_open x && is_open y) (is_closed r)).0 e in
    let b = (and-eq-true_iff (is_open x) (is_open y)).0 a.0 in
    open_arms (open_not_closed x b.0) (or_right (is_empty x) (is_open x) b.0) (or_right (is_empty y) (is_open y) b.1) a.1)
    (λ e.
    let a = (and-eq-true_iff (is_empty r && is_closed x) (is_closed y)).0 e in
    let b = (and-eq-true_iff (is_empty r) (is_closed x)).0 a.0 in
    closed_arms b.1 refl a.1 b.0)

-- the saved list and the rest of a make-cont
pub data Saved (k : Bool) (x r : Code) : Type 0 where
  open_saved : is_closed x ≡ false → k ≡ true → fits true x ≡ true → is_closed r ≡ true → Saved k x r
  closed_saved : is_closed x ≡ true → is_closed r ≡ true → Saved k x r

pub saved : (k : Bool) (n : ℕ) (x r : Code) → fits k (make_cont n x r) ≡ true → Saved k x r
unfolding fits is_empty is_open is_closed
saved true n x r e =
    let a = (and-eq-true_iff (is_empty x || is_open x) (is_closed r)).0 e in open_saved (out_not_closed x (open_not_closed x) a.0) refl a.0 a.1
saved false n x r e = let a = (and-eq-true_iff (is_closed x) (is_closed r)).0 e in closed_saved a.0 a.1

pub after_neutral : (k : Bool) (op : ℕ) (ns : List ℕ) (r : Code) → fits k (neutral op ns r) ≡ true → fits k r ≡ true
unfolding fits is_empty is_open is_closed
after_neutral true op ns r e = e
after_neutral false op ns r e = e

-- ---- real places
-- p is one of the list c that begins at a and, where k, runs out
unfoldable pub Real : Bool → ℕ → Code → ℕ → Type 0
Real k a done p = (k ≡ true) × (p ≡ a)
Real k a (neutral op ns r) p = (p ≡ a) ⊎ Real k (a + (5 + 8 * length ns)) r p
Real k a (return r) p = p ≡ a
Real k a (call n r) p = p ≡ a
Real k a (unless_false x y r) p =
    (p ≡ a) ⊎
    (Real (not (is_closed x)) (a + 5) x p ⊎ (Real (not (is_closed x)) (a + 5 + bits x) y p ⊎ Real (cond (is_closed x) false k) (a + 5 + bits x + bits y) r p))
Real k a (make_cont n x r) p = (p ≡ a) ⊎ (Real (not (is_closed x)) (a + 13) x p ⊎ Real false (a + 13 + bits x) r p)

-- a list that is as it must be begins with a real place
pub first_real : (k : Bool) (a : ℕ) (c : Code) → fits k c ≡ true → Real k a c a
unfolding Real fits is_closed
first_real true a done e = (refl, refl)
first_real false a done e = false_true e
first_real k a (neutral op ns r) e = inl refl
first_real k a (return r) e = refl
first_real k a (call n r) e = refl
first_real k a (unless_false x y r) e = inl refl
first_real k a (make_cont n x r) e = inl refl

-- a list's real places are its own
abbrev Within : ℕ → ℕ → ℕ → Type 0
Within a b p = (a ≤ p) × (p + 5 ≤ a + b)

pub real_within : (k : Bool) (a : ℕ) (c : Code) (p : ℕ) → Real k a c p → Within a (bits c) p
unfolding Real bits
real_within k a done p h = omega arith
real_within k a (neutral op ns r) p (inl e) = omega (arith, least_bits r)
real_within k a (neutral op ns r) p (inr h) = omega (arith, real_within k (a + (5 + 8 * length ns)) r p h)
real_within k a (return r) p e = omega (arith, least_bits r)
real_within k a (call n r) p e = omega (arith, least_bits r)
real_within k a (unless_false x y r) p (inl e) = omega (arith, least_bits r)
real_within k a (unless_false x y r) p (inr (inl h)) = omega (arith, real_within (not (is_closed x)) (a + 5) x p h)
real_within k a (unless_false x y r) p (inr (inr (inl h))) = omega (arith, real_within (not (is_closed x)) (a + 5 + bits x) y p h)
real_within k a (unless_false x y r) p (inr (inr (inr h))) = omega (arith, real_within (cond (is_closed x) false k) (a + 5 + bits x + bits y) r p h)
real_within k a (make_cont n x r) p (inl e) = omega (arith, least_bits r)
real_within k a (make_cont n x r) p (inr (inl h)) = omega (arith, real_within (not (is_closed x)) (a + 13) x p h)
real_within k a (make_cont n x r) p (inr (inr h)) = omega (arith, real_within false (a + 13 + bits x) r p h)

-- ---- what the lists in a list must be like
pub arms_fit_lem : (k : Bool) (x y r : Code) → Arms k x y r → (fits (not (is_closed x)) x ≡ true) × (fits (not (is_closed x)) y ≡ true)
unfolding fits
arms_fit_lem k x y r (open_arms e f g h) = rw e (f, g)
arms_fit_lem k x y r (closed_arms e f g h) = let z : is_closed x ≡ true = e in rw e (z, g)

pub saved_fits : (k : Bool) (x r : Code) → Saved k x r → (fits (not (is_closed x)) x ≡ true) × (fits false r ≡ true)
unfolding fits
saved_fits k x r (open_saved e f g h) = rw e (g, h)
saved_fits k x r (closed_saved e h) = let z : is_closed x ≡ true = e in rw e (z, h)

pub none_real : (a : ℕ) (c : Code) (p : ℕ) → is_empty c ≡ true → Real false a c p → ⊥
unfolding Real is_empty
none_real a done p e h = false_true h.0
none_real a (neutral op ns r) p e h = false_true e
none_real a (return r) p e h = false_true e
none_real a (call n r) p e h = false_true e
none_real a (unless_false x y r) p e h = false_true e
none_real a (make_cont n x r) p e h = false_true e
