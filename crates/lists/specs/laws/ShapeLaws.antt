-- A number has one shape, and what a shape says of its number. Assumes nothing.
use Rattle.std.specs.Prelude.{ℕ, zero, suc, ◌+◌, ◌≤◌, ◌≡◌, refl, ◌⊎◌}
use Rattle.std.proofs.Common.{arith, sym, ◌∙◌, inl, inr}
use Rattle.lists.specs.declared.Shape.{Shape}
use Rattle.lists.specs.declared.Shape.TheVariants.{End, Plain, Branch, Save, NoCode}
use Rattle.lists.specs.Shapes.{Numbered}

-- the shape of each number
unfoldable numbered : ℕ → Shape
numbered zero = End
numbered (suc zero) = Plain 0
numbered (suc (suc zero)) = Plain 1
numbered (suc (suc (suc zero))) = Plain 2
numbered (suc (suc (suc (suc zero)))) = Branch
numbered (suc (suc (suc (suc (suc zero))))) = Save
numbered (suc (suc (suc (suc (suc (suc k)))))) = NoCode

beyond : (k : ℕ) → 6 ≤ k → NoCode ≡ numbered k
unfolding numbered
beyond zero h = absurd (omega arith)
beyond (suc zero) h = absurd (omega arith)
beyond (suc (suc zero)) h = absurd (omega arith)
beyond (suc (suc (suc zero))) h = absurd (omega arith)
beyond (suc (suc (suc (suc zero)))) h = absurd (omega arith)
beyond (suc (suc (suc (suc (suc zero))))) h = absurd (omega arith)
beyond (suc (suc (suc (suc (suc (suc k)))))) h = refl

plain : (n k : ℕ) → k ≡ 1 + n → n ≤ 2 → Plain n ≡ numbered k
unfolding numbered
plain zero k e h = rw e refl
plain (suc zero) k e h = rw e refl
plain (suc (suc zero)) k e h = rw e refl
plain (suc (suc (suc n))) k e h = absurd (omega arith)

of_number : (x : Shape) (k : ℕ) → Numbered x k → x ≡ numbered k
unfolding Numbered numbered
of_number End k h = rw h refl
of_number (Plain n) k h = plain n k h.0 h.1
of_number Branch k h = rw h refl
of_number Save k h = rw h refl
of_number NoCode k h = beyond k h

pub same_shape : (x y : Shape) (k : ℕ) → Numbered x k → Numbered y k → x ≡ y
same_shape x y k a b = of_number x k a ∙ sym (of_number y k b)

-- only the code 0 of a list ends it
pub not_end : (x : Shape) (k : ℕ) → Numbered x k → (x ≡ End → ⊥) → k ≡ 0 → ⊥
unfolding Numbered
not_end End k h n e = n refl
not_end (Plain n) k h m e = omega (arith, h)
not_end Branch k h n e = omega (arith, h)
not_end Save k h n e = omega (arith, h)
not_end NoCode k h n e = omega (arith, h)

-- the numbers 1 to 5 have other shapes than these two
pub no_instruction : (x : Shape) (k : ℕ) → Numbered x k → (x ≡ End) ⊎ (x ≡ NoCode) → (n : ℕ) → 1 ≤ n → n ≤ 5 → k ≡ n → ⊥
unfolding Numbered
no_instruction x k h (inl e) n a b i = let z = rw e at h in omega arith
no_instruction x k h (inr e) n a b i = let z = rw e at h in omega arith

-- what has lists, or is no code, has a number from 4 on, unless it ends the list
pub not_plain : (x : Shape) (k : ℕ) → Numbered x k → ((n : ℕ) → x ≡ Plain n → ⊥) → 1 ≤ k → 4 ≤ k
unfolding Numbered
not_plain End k h p some = absurd (omega (arith, h))
not_plain (Plain n) k h p some = absurd (p n refl)
not_plain Branch k h p some = omega (arith, h)
not_plain Save k h p some = omega (arith, h)
not_plain NoCode k h p some = omega (arith, h)
