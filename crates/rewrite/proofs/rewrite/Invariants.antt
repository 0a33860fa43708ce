-- `rewrite::rewrite` meets its contract. The loop's invariant: the bits of the tokens that are passed are written, and the others stand from `here` on.
-- Assumes nothing.
use Prim.Native.Nat.{◌+◌}
use mathlib.Core.Path.{◌≡◌}
use lib.ListN.{length}
use Rattle.rewrite.specs.Tokens.{index_in, TokensAt}
use Rattle.rewrite.specs.laws.Steps.{Left}
use Rattle.rewrite.proofs.rewrite.Given as goal

abbrev pub invariant-loop-left : goal.invariant-loop-left
invariant-loop-left l = (length l.out ≡ length l.initial.out) × (l.there.0 + l.left ≡ l.initial.there.0 + l.initial.left)
    × ((w : TokensAt l.s l.initial.here.0 l.initial.left) → Left (index_in l.table) l.s l.initial.out l.initial.there.0 w.all l.here.0 l.there.0 l.left l.out)

abbrev pub decreases-loop-left : goal.decreases-loop-left
decreases-loop-left l = l.left
