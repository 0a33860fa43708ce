-- The shapes of codes by their numbers in the table of codes (`shape_of`).
use Rattle.std.specs.Prelude.{ℕ, ◌+◌, ◌≤◌, ◌≡◌}
use Rattle.lists.specs.declared.Shape.{Shape}
use Rattle.lists.specs.declared.Shape.TheVariants.{End, Plain, Branch, Save, NoCode}

-- the shape has the number k: each number has one shape, and from 6 on it is NoCode
unfoldable pub Numbered : Shape → ℕ → Type 0
Numbered End k = k ≡ 0
Numbered (Plain n) k = (k ≡ 1 + n) × (n ≤ 2)
Numbered Branch k = k ≡ 4
Numbered Save k = k ≡ 5
Numbered NoCode k = 6 ≤ k
