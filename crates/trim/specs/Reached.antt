-- The templates that closures lead to from template 0 on, in one pass upward: those that stay (laws/RoundsLaws.antt).
use Rattle.std.specs.Prelude.{ℕ, ◌+◌, Bool, ◌&&◌, ◌||◌, List, [], ◌∷◌, eqb}
use Rattle.files.specs.Tree.{Template}
use Rattle.files.specs.Orphans.{closes}

-- what is marked after templates of numbers t on: k, and what those of them that are marked name
unfoldable pub marked : ℕ → (ℕ → Bool) → List Template → ℕ → Bool
unfolding closes
marked t k [] u = k u
marked t k (x ∷ ts) u = marked (t + 1) (λ v. k v || (k t && closes x.entries v x.code)) ts u

unfoldable pub reached : List Template → ℕ → Bool
unfolding marked
reached ts u = marked 0 (λ v. eqb v 0) ts u
