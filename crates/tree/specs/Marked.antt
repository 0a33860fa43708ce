-- What the readers of a tree file leave in the marks of its lists.
use Rattle.std.specs.Prelude.{◌≡◌, List, [], ◌∷◌, ℕ}
use Rattle.files.specs.Reading.{Got, got, refused}
use Rattle.files.specs.Tree.{Template}
use Rattle.lists.specs.declared.Keep.{Keep}
use Rattle.lists.specs.Marks.{marked}

-- M with the marks of the lists of templates
unfoldable pub marked_all : Keep → List ℕ → List Template → List ℕ
marked_all k M [] = M
marked_all k M (t ∷ ts) = marked_all k (marked k M t.start t.code) ts

-- M' is what is left of M; nothing is said where reading refuses
unfoldable pub template_marked : Keep → List ℕ → List ℕ → Got Template → Type 0
template_marked k M M' (got t q) = M' ≡ marked k M t.start t.code
template_marked k M M' (refused n x) = Unit

unfoldable pub templates_marked : Keep → List ℕ → List ℕ → Got (List Template) → Type 0
templates_marked k M M' (got ts q) = M' ≡ marked_all k M ts
templates_marked k M M' (refused n x) = Unit
