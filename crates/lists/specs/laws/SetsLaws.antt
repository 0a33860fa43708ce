-- What is in a union is in one of the two sets, and sets are united in any grouping. Assumes nothing.
use Rattle.std.specs.Prelude.{ℕ, zero, suc, ◌+◌, ◌*◌, ◌/◌, ◌%◌, ◌^◌, ◌<◌, ◌≡◌, refl, Bool, true, false, ◌||◌, eqb}
use Rattle.std.proofs.Common.{pow-suc, div-add-mod', arith, sym, ap, ap₂, ◌∙◌, eq-eqb, ne_eqb, eqb-true}
use Rattle.std.proofs.lemmas.Bool.{eqb-false}
use Rattle.std.proofs.Math.Arith.{bin_ind}
use Rattle.std.specs.Int.Bits.{or_zero_r}
use Rattle.std.proofs.lemmas.Nat.{or_shr, or_mod}
use Rattle.lists.specs.Sets.{unite, has}

pub unite_zero : (a : ℕ) → unite a 0 ≡ a
unfolding unite
unite_zero a = or_zero_r a

-- ---- digit by digit
half : (a b : ℕ) → unite a b / 2 ≡ unite (a / 2) (b / 2)
unfolding unite
half a b = or_shr a b 1

lowest_digit : (a b : ℕ) → unite a b % 2 ≡ unite (a % 2) (b % 2)
unfolding unite
lowest_digit a b = or_mod a b 1

digits : (a b : ℕ) → unite a b ≡ unite (a / 2) (b / 2) * 2 + unite (a % 2) (b % 2)
digits a b = sym (div-add-mod' (unite a b) 2) ∙ ap₂ (λ (x y : ℕ). x * 2 + y) (half a b) (lowest_digit a b)

one_digit : (x y z : ℕ) → x < 2 → y < 2 → z < 2 → unite (unite x y) z ≡ unite x (unite y z)
unfolding unite
one_digit zero y z h i j = refl
one_digit (suc zero) zero z h i j = refl
one_digit (suc zero) (suc zero) zero h i j = refl
one_digit (suc zero) (suc zero) (suc zero) h i j = refl
one_digit (suc zero) (suc zero) (suc (suc z)) h i j = absurd (omega arith)
one_digit (suc zero) (suc (suc y)) z h i j = absurd (omega arith)
one_digit (suc (suc x)) y z h i j = absurd (omega arith)

zero_assoc : (b c : ℕ) → unite (unite 0 b) c ≡ unite 0 (unite b c)
unfolding unite
zero_assoc b c = refl

pub unite_assoc : (a b c : ℕ) → unite (unite a b) c ≡ unite a (unite b c)
unite_assoc =
    bin_ind (λ (a : ℕ). (b c : ℕ) → unite (unite a b) c ≡ unite a (unite b c)) zero_assoc
    (λ a h b c.
    let d = one_digit (a % 2) (b % 2) (c % 2) (omega arith) (omega arith) (omega arith) in
    digits (unite a b) c
    ∙ ap₂ (λ (x y : ℕ). x * 2 + y) (ap (λ (x : ℕ). unite x (c / 2)) (half a b) ∙ h (b / 2) (c / 2) ∙ ap (unite (a / 2)) (sym (half b c)))
    (ap (λ (x : ℕ). unite x (c % 2)) (lowest_digit a b) ∙ d ∙ ap (unite (a % 2)) (sym (lowest_digit b c)))
    ∙ sym (digits a (unite b c)))

-- ---- what is in a set
pub has_none : (t : ℕ) → has 0 t ≡ false
unfolding has
has_none zero = refl
has_none (suc t) = has_none t

digit_has : (x y : ℕ) → x < 2 → y < 2 → eqb (unite x y) 1 ≡ (eqb x 1 || eqb y 1)
unfolding unite
digit_has zero y h i = refl
digit_has (suc zero) zero h i = refl
digit_has (suc zero) (suc zero) h i = refl
digit_has (suc zero) (suc (suc y)) h i = absurd (omega arith)
digit_has (suc (suc x)) y h i = absurd (omega arith)

pub has_unite : (a b t : ℕ) → has (unite a b) t ≡ (has a t || has b t)
unfolding has
has_unite a b zero = rw (lowest_digit a b) (digit_has (a % 2) (b % 2) (omega arith) (omega arith))
has_unite a b (suc t) = rw (half a b) (has_unite (a / 2) (b / 2) t)

-- the set of one template
next_eqb : (u t : ℕ) → eqb u t ≡ eqb (suc u) (suc t)
next_eqb u t = by (eqb u t) refl
  where
    by : (b : Bool) → eqb u t ≡ b → b ≡ eqb (suc u) (suc t)
    by true e = sym (eq-eqb (suc u) (suc t) (ap suc (eqb-true u t e)))
    by false e = let k = eqb-false u t e in sym (ne_eqb (suc u) (suc t) (λ z. k (omega arith)))

pub has_one : (u t : ℕ) → has (2 ^ u) t ≡ eqb u t
unfolding has
has_one zero zero = refl
has_one zero (suc t) = has_none t ∙ sym (ne_eqb 0 (suc t) (λ e. omega arith))
has_one (suc u) zero = let e : 2 ^ suc u % 2 ≡ 0 = omega (arith, pow-suc 2 u) in rw e (sym (ne_eqb (suc u) 0 (λ e. omega arith)))
has_one (suc u) (suc t) = let e : 2 ^ suc u / 2 ≡ 2 ^ u = omega (arith, pow-suc 2 u) in rw e (has_one u t ∙ next_eqb u t)
