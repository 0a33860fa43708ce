-- Laws of the rules. Assumes nothing.
use Rattle.std.specs.Prelude.{Result, Ok, Err, IsErr, IsErrAnd}
use Rattle.std.specs.Prelude as std
use mathlib.Core.Path.{◌≡◌, refl, sym, ap, ◌∙◌, subst}
use mathlib.Core.Bool.{Bool, true, false, cond, ◌&&◌}
use mathlib.Core.List.{List}
use mathlib.Core.Option.{Option, none, some}
use Prim.Native.Nat.{ℕ, zero, suc, ◌+◌, ◌-◌, ◌<◌, ◌≤◌}
use native.Mathlib.Omega.{arith}
use lib.Dec.{eqb}
use lib.IntN.{ℤ}
use lib.ListN.{get_or, take}
use borrow.Author.Tests.{lt-ltb, le-ltb, eq-eqb, ne_eqb}
use Rattle.cells.specs.Cells.{half, full, tag_of, int_cell, int_of, layer_parent, layer_count}
use Rattle.integers.specs.Integers.{signed, within, int_bits, all_integers, total_of, is_zero, floor_quotient}
use Rattle.integers.specs.Answers.{ranged_of, sum_of, not_integers}
use Rattle.integers.specs.laws.Laws.{signed_low, signed_high, bits_fit}
use Rattle.integers.specs.declared.NotIntegers.{NotIntegers}
use Rattle.owners.specs.declared.Owner.{Owner}
use Rattle.rules.specs.State.{Mem, Held, Res, wrong, need, out, told}
use Rattle.rules.specs.Fit.{Fit, EndFit}
use Rattle.rules.specs.laws.Told.{told_next}
use Rattle.rules.specs.laws.Clean.{plain_fit}
use Rattle.rules.specs.laws.Lists.{by_lt}
use Rattle.rules.specs.Rules.{walk, found, top, under, emptied, integer_rule, add_rule, two_integers, divided, plain_rule}
use Rattle.rules.specs.Owned.{may_do, owned_rule, without_right, by_right, owned_ok}
use Rattle.rules.specs.Answers.{found_at, integer_by, RangedFits, operands_of}
use Rattle.rules.specs.declared.Regs.{Regs}
use Rattle.rules.specs.declared.Plain.{Plain}
use Rattle.rules.specs.declared.Wrong.{Wrong}
use Rattle.rules.specs.declared.Wrong.TheVariants.{Count, BeyondLayers, Kind}
use Rattle.rules.specs.WrongNumber.{wrong_number}

-- ---- what a `?` hands on
pub passed : {A : Type 0} (r : Result A Wrong) (w : Wrong) → IsErr r × IsErrAnd r (λ x. x ≡ w) → r ≡ Err w
passed (Ok x) w h = absurd h.1
passed (Err x) w h = let e : x ≡ w = h.1 in rw e

-- ---- the walk out through the layers
pub walk_none : (s : List ℕ) (e n p : ℕ) → e ≡ 0 → walk s e n p ≡ none
unfolding walk
walk_none s e zero p h = rw (eq-eqb e 0 h)
walk_none s e (suc n) p h = rw (eq-eqb e 0 h)

pub walk_here : (s : List ℕ) (e n p : ℕ) → (e ≡ 0 → ⊥) → n ≡ 0 → p < layer_count (get_or s (e - 1) 0) → walk s e n p ≡ some (e + p)
unfolding walk
walk_here s e n p h k l = rw (k, ne_eqb e 0 h, lt-ltb p _ l)

pub walk_over : (s : List ℕ) (e n p : ℕ) → (e ≡ 0 → ⊥) → n ≡ 0 → layer_count (get_or s (e - 1) 0) ≤ p → walk s e n p ≡ none
unfolding walk
walk_over s e n p h k l = rw (k, ne_eqb e 0 h, le-ltb p _ l)

pub walk_out : (s : List ℕ) (e n p : ℕ) → (e ≡ 0 → ⊥) → (n ≡ 0 → ⊥) → walk s (layer_parent (get_or s (e - 1) 0)) (n - 1) p ≡ walk s e n p
unfolding walk
walk_out s e n p h k = let a : n ≡ suc (n - 1) = omega arith in sym (ap (λ (x : ℕ). walk s e x p) a ∙ rw (ne_eqb e 0 h))

-- ---- on by what was found
absurd_answer : {A : Type 0} {B : Type 0} {x : A} {w : Wrong} → ◌≡◌ {A = Result A Wrong} (Ok x) (Err w) → B
absurd_answer e = let z : ◌≡◌ {A = ℕ} 0 1 = cc in absurd (omega arith)

pub found_beyond : (o : Option ℕ) (w : Wrong) (f : ℕ → Res Held) → found_at o ≡ Err w → found o f ≡ wrong (wrong_number w)
unfolding found_at
found_beyond none w f e = let k : BeyondLayers ≡ w = cc in rw (← k)
found_beyond (some l) w f e = absurd_answer e

pub found_cell : (o : Option ℕ) (l : ℕ) (f : ℕ → Res Held) → found_at o ≡ Ok l → found o f ≡ f l
unfolding found_at
found_cell none l f e = absurd_answer (sym e)
found_cell (some k) l f e = cc

-- ---- integers, by what was computed
pub integer_by_lem : (z : ℤ) (m : Mem) (r : Regs) → integer_rule z m r ≡ integer_by (ranged_of z) m r
unfolding ranged_of integer_by
integer_by_lem z m r = pick (within z)
  where
    pick : (b : Bool) → need b 15 (emptied (int_cell (int_bits z)) m r) ≡ integer_by (cond b (std.Some (int_bits z)) std.None) m r
    pick true = refl
    pick false = refl

pub ranged_fits : (z : ℤ) → RangedFits (ranged_of z)
unfolding ranged_of
ranged_fits z = pick (within z) refl
  where
    pick : (b : Bool) → within z ≡ b → RangedFits (cond b (std.Some (int_bits z)) std.None)
    pick true e = bits_fit z e
    pick false e = tt

-- %%add by what was summed
unfoldable pub added : Result (std.Option ℕ) NotIntegers → Mem → Regs → Res Held
added (Ok x) m r = integer_by x m r
added (Err e) m r = wrong 14

pub add_by_sum : (m : Mem) (r : Regs) → add_rule m r ≡ added (sum_of (take r.sp m.stack)) m r
unfolding add_rule sum_of added
add_by_sum m r = pick (all_integers (take r.sp m.stack)) (total_of (take r.sp m.stack))
  where
    pick : (b : Bool) (z : ℤ) → need b 14 (integer_rule z m r) ≡ added (cond b (Ok (ranged_of z)) (Err not_integers)) m r
    pick true z = integer_by_lem z m r
    pick false z = refl

pub sum_fits : (cs : List ℕ) (x : std.Option ℕ) → sum_of cs ≡ Ok x → RangedFits x
unfolding sum_of
sum_fits cs x = pick (all_integers cs)
  where
    pick : (b : Bool) → cond b (Ok (ranged_of (total_of cs))) (Err not_integers) ≡ Ok x → RangedFits x
    pick true e = let z : ranged_of (total_of cs) ≡ x = cc in rw z at (ranged_fits (total_of cs))
    pick false e = let z : ◌≡◌ {A = ℕ} 0 1 = cc in absurd (omega arith)

-- two integers by their bits
unfoldable pub by_operands : (ℤ → ℤ → Mem → Regs → Res Held) → Result (ℕ × ℕ) Wrong → Mem → Regs → Res Held
by_operands f (Ok x) m r = f (signed x.0) (signed x.1) m r
by_operands f (Err w) m r = wrong (wrong_number w)

pub two_by : (f : ℤ → ℤ → Mem → Regs → Res Held) (m : Mem) (r : Regs) → two_integers f m r ≡ by_operands f (operands_of m r) m r
unfolding operands_of by_operands
two_by f m r = pick (eqb r.sp 2) (eqb (tag_of (under m r)) 6 && eqb (tag_of (top m r)) 6)
  where
    pick : (a b : Bool) → need a 10 (need b 14 (f (signed (int_of (under m r))) (signed (int_of (top m r))) m r))
        ≡ by_operands f (cond a (cond b (Ok (int_of (under m r), int_of (top m r))) (Err Kind)) (Err Count)) m r
    pick true true = refl
    pick true false = refl
    pick false b = refl

module _ (f : ℤ → ℤ → Mem → Regs → Res Held) (m : Mem) (r : Regs) (x : Result (ℕ × ℕ) Wrong) (is : x ≡ operands_of m r) where
  pub two_are : (a b : ℕ) → x ≡ Ok (a, b) → f (signed a) (signed b) m r ≡ two_integers f m r
  unfolding by_operands
  two_are a b e = sym (two_by f m r ∙ rw (← is, e) refl)

  pub two_wrong : (w : Wrong) → x ≡ Err w → wrong (wrong_number w) ≡ two_integers f m r
  unfolding by_operands
  two_wrong w e = sym (two_by f m r ∙ rw (← is, e) refl)

-- what the two operands are, by the tests in their order
module _ (m : Mem) (r : Regs) where
  pub operands_count : (r.sp ≡ 2 → ⊥) → Err Count ≡ operands_of m r
  unfolding operands_of
  operands_count h = rw (ne_eqb r.sp 2 h)

  pub operands_left : r.sp ≡ 2 → (tag_of (under m r) ≡ 6 → ⊥) → Err Kind ≡ operands_of m r
  unfolding operands_of
  operands_left h k = rw (eq-eqb r.sp 2 h, ne_eqb (tag_of (under m r)) 6 k)

  pub operands_right : r.sp ≡ 2 → tag_of (under m r) ≡ 6 → (tag_of (top m r) ≡ 6 → ⊥) → Err Kind ≡ operands_of m r
  unfolding operands_of
  operands_right h k l = rw (eq-eqb r.sp 2 h, eq-eqb (tag_of (under m r)) 6 k, ne_eqb (tag_of (top m r)) 6 l)

  pub operands_two : r.sp ≡ 2 → tag_of (under m r) ≡ 6 → tag_of (top m r) ≡ 6 → Ok (int_of (under m r), int_of (top m r)) ≡ operands_of m r
  unfolding operands_of
  operands_two h k l = rw (eq-eqb r.sp 2 h, eq-eqb (tag_of (under m r)) 6 k, eq-eqb (tag_of (top m r)) 6 l)

-- a number in range, or over
pub integer_of : (z : ℤ) (m : Mem) (r : Regs) (x : std.Option ℕ) → x ≡ ranged_of z → integer_by x m r ≡ integer_rule z m r
integer_of z m r x e = rw e (sym (integer_by_lem z m r))

pub fits_of : (z : ℤ) (x : std.Option ℕ) → x ≡ ranged_of z → RangedFits x
fits_of z x e = subst RangedFits (sym e) (ranged_fits z)

-- the divisor's bits are zero where it is
pub zero_bits_lem : (b : ℕ) → b < full → is_zero (signed b) ≡ eqb b 0
unfolding is_zero
zero_bits_lem b h =
    by_lt b half
    (λ l. rw (signed_low b l) refl)
    (λ l. rw (signed_high b l h) (sym (ne_eqb b 0 (λ e. omega arith))))

-- a quotient by its divisor's bits
module _ (a : ℤ) (b : ℕ) (m : Mem) (r : Regs) (fits : b < full) where
  pub by_zero : b ≡ 0 → wrong 23 ≡ divided a (signed b) m r
  by_zero e = rw (zero_bits_lem b fits, eq-eqb b 0 e) refl

  pub by_other : (b ≡ 0 → ⊥) → integer_rule (floor_quotient a (signed b)) m r ≡ divided a (signed b) m r
  by_other h = rw (zero_bits_lem b fits, ne_eqb b 0 h) refl

-- ---- the owner's right, by what was answered of it
module _ (o : Owner) (i : Plain) (m : Mem) (r : Regs) (b : Bool) (asked : b ≡ may_do o i) where
  pub barred : b ≡ false → wrong 25 ≡ owned_rule o i m r
  barred h = sym (without_right o i m r (sym asked ∙ h))

  pub allowed : b ≡ true → plain_rule i m r ≡ owned_rule o i m r
  allowed h = sym (by_right o i m r (sym asked ∙ h))

-- ---- where a plain rule goes on, the registers fit
end_fit : (x : Result Regs Wrong) (o : Owner) (i : Plain) (m m' : Mem) (r : Regs) → out x m' ≡ told m (owned_rule o i m r) → Fit r → EndFit x
end_fit (Ok q) o i m m' r e f =
    (plain_fit i m r _ (r.env + 2048) (owned_ok o i m r _ (told_next m m' q (owned_rule o i m r) e)).1 (omega arith) f (omega arith)).0
end_fit (Err w) o i m m' r e f = tt

pub ended : (o : Owner) (i j : Plain) (m m' : Mem) (r : Regs) (x : Result Regs Wrong) → i ≡ j → Fit r → out x m' ≡ told m (owned_rule o j m r)
    → (out x m' ≡ told m (owned_rule o i m r)) × EndFit x
ended o i j m m' r x e f p = (rw e p, end_fit x o j m m' r p f)
