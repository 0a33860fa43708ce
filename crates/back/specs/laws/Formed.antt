-- The grammar of lists (000, Table 1) as a type: a list is formed as a closed one where it is closed, and as an open one where it is open
-- or empty. Assumes nothing.
use Rattle.std.specs.Prelude.{ℕ, ◌≡◌, refl, Bool, true, false, ◌&&◌, ◌||◌, List, ◌⊎◌}
use Rattle.std.proofs.Common.{arith, inl, inr, ⊎_elim}
use Rattle.std.proofs.Math.Bool.{and-eq-true_iff, and-true}
use Rattle.files.specs.Code.{Code, done, neutral, return, call, unless_false, make_cont}
use Rattle.files.specs.Grammar.{is_empty, is_open, is_closed}
use Rattle.files.specs.laws.GrammarLaws.{never, empty_done}

-- closed (true), or open or empty (false)
pub data Formed : Bool → Code → Type 0 where
  nothing : Formed false done
  before : {op : ℕ} {k : Bool} {ns : List ℕ} {r : Code} → Formed k r → Formed k (neutral op ns r)
  returning : Formed true (return done)
  calling : {n : ℕ} → Formed true (call n done)
  closed_arms : {x y : Code} → Formed true x → Formed true y → Formed true (unless_false x y done)
  open_arms : {k : Bool} {x y r : Code} → Formed false x → Formed false y → is_empty x ≡ false → is_empty y ≡ false → Formed k r
      → Formed k (unless_false x y r)
  saving : {n : ℕ} {k : Bool} {x r : Code} → Formed k x → Formed true r → Formed k (make_cont n x r)

pub both : (a b : Bool) → (a && b) ≡ true → (a ≡ true) × (b ≡ true)
both a b = (and-eq-true_iff a b).0

one_of : (a b : Bool) → (a || b) ≡ true → (a ≡ true) ⊎ (b ≡ true)
one_of true b e = inl refl
one_of false b e = inr e

other : (a b : Bool) → a ≡ false → (a || b) ≡ true → b ≡ true
other a b e h = ⊎_elim (λ i. let z : ◌≡◌ {A = ℕ} 0 1 = cc in absurd (omega arith)) (λ i. i) (one_of a b h)

-- ---- a list is of the category that it is formed in
none_left : (k b c : Bool) → (k || (b && false && c)) ≡ k
none_left true b c = refl
none_left false true c = refl
none_left false false c = refl

any_arms : (a b : Bool) → ((a && b && false) || true) ≡ true
any_arms true true = refl
any_arms true false = refl
any_arms false b = refl

mutual
  unfolding is_closed is_open is_empty

  pub closed_is : {k : Bool} {c : Code} → Formed k c → is_closed c ≡ k
  closed_is nothing = refl
  closed_is (before g) = closed_is g
  closed_is returning = refl
  closed_is calling = refl
  closed_is (closed_arms {x = x} {y = y} g h) = rw (closed_is g, closed_is h) (any_arms (is_open x) (is_open y))
  closed_is (open_arms {k = k} {x = x} {y = y} {r = r} g h e f i) =
      rw (other (is_empty x) (is_open x) e (loose_is g), other (is_empty y) (is_open y) f (loose_is h), closed_is i, closed_is g)
      (none_left k (is_empty r) (is_closed y))
  closed_is (saving {k = k} g r) = rw (closed_is g, closed_is r) (and-true k)

  pub loose_is : {k : Bool} {c : Code} → Formed k c → (k || (is_empty c || is_open c)) ≡ true
  loose_is nothing = refl
  loose_is (before g) = loose_is g
  loose_is returning = refl
  loose_is calling = refl
  loose_is (closed_arms g h) = refl
  loose_is (open_arms {x = x} {y = y} g h e f i) =
      rw (other (is_empty x) (is_open x) e (loose_is g), other (is_empty y) (is_open y) f (loose_is h)) (loose_is i)
  loose_is (saving {x = x} g r) = rw (closed_is r, and-true (is_empty x || is_open x)) (loose_is g)

pub open_is : {c : Code} → Formed false c → is_empty c ≡ false → is_open c ≡ true
open_is {c} g e = other (is_empty c) (is_open c) e (loose_is g)

-- ---- and is formed in the category that it is of
pub open_some : (c : Code) → is_open c ≡ true → is_empty c ≡ false
unfolding is_open is_empty
open_some done e = never e
open_some (neutral op ns r) e = refl
open_some (return r) e = refl
open_some (call n r) e = refl
open_some (unless_false x y r) e = refl
open_some (make_cont n x r) e = refl

loose : (a b : Bool) → b ≡ true → (a || b) ≡ true
loose true b e = refl
loose false b e = e

mutual
  unfolding is_closed is_open is_empty

  pub closed_formed : (c : Code) → is_closed c ≡ true → Formed true c
  closed_formed done e = never e
  closed_formed (neutral op ns r) e = before (closed_formed r e)
  closed_formed (return r) e = rw (empty_done r e) returning
  closed_formed (call n r) e = rw (empty_done r e) calling
  closed_formed (unless_false x y r) e =
      ⊎_elim
      (λ h.
      let a = both (is_open x && is_open y) (is_closed r) h in
      let b = both (is_open x) (is_open y) a.0 in
      open_arms (loose_formed x (loose (is_empty x) (is_open x) b.0)) (loose_formed y (loose (is_empty y) (is_open y) b.1)) (open_some x b.0)
      (open_some y b.1)
      (closed_formed r a.1))
      (λ h.
      let a = both (is_empty r && is_closed x) (is_closed y) h in
      let b = both (is_empty r) (is_closed x) a.0 in
      rw (empty_done r b.0) (closed_arms (closed_formed x b.1) (closed_formed y a.1)))
      (one_of (is_open x && is_open y && is_closed r) (is_empty r && is_closed x && is_closed y) e)
  closed_formed (make_cont n x r) e = let a = both (is_closed x) (is_closed r) e in saving (closed_formed x a.0) (closed_formed r a.1)

  pub loose_formed : (c : Code) → (is_empty c || is_open c) ≡ true → Formed false c
  loose_formed done e = nothing
  loose_formed (neutral op ns r) e = before (loose_formed r e)
  loose_formed (return r) e = never e
  loose_formed (call n r) e = never e
  loose_formed (unless_false x y r) e =
      let a = both (is_open x && is_open y) (is_empty r || is_open r) e in
      let b = both (is_open x) (is_open y) a.0 in
      open_arms (loose_formed x (loose (is_empty x) (is_open x) b.0)) (loose_formed y (loose (is_empty y) (is_open y) b.1)) (open_some x b.0)
      (open_some y b.1)
      (loose_formed r a.1)
  loose_formed (make_cont n x r) e = let a = both (is_empty x || is_open x) (is_closed r) e in saving (loose_formed x a.0) (closed_formed r a.1)

pub open_formed : (c : Code) → is_open c ≡ true → Formed false c
open_formed c e = loose_formed c (loose (is_empty c) (is_open c) e)
