-- `fields::four_at` meets its contract. Assumes nothing.
use Prim.Native.Nat.{◌+◌}
use mathlib.Core.Path.{◌≡◌, refl, ◌∙◌}
use native.Mathlib.Omega.{arith}
use Rattle.fields.specs.laws.Laws.{four_field}
use Rattle.fields.proofs.four_at.Goals as goal

pub returns-then-i-s : goal.returns-then-i-s
returns-then-i-s c =
    let e : c.args.i + 2 + 1 ≡ c.args.i + 3 = omega arith in
    four_field _ (λ k. omega (arith, c.shared_slice_known-1.given k)) c.args.i _ _ c.pair_at.ensures.0 (c.pair_at-then-i-s.ensures.0 ∙ rw e refl)

pub returns-else-i-s : goal.returns-else-i-s
returns-else-i-s c =
    let e : c.args.i + 2 + 1 ≡ c.args.i + 3 = omega arith in
    four_field _ (λ k. omega (arith, c.shared_slice_known-1.given k)) c.args.i _ _ c.two_at.ensures.0 (c.two_at-else-i-s.ensures.0 ∙ rw e refl)
