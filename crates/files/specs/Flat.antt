-- Flattening (document 01, 'Flattening'; 000, section 5), and refusal 8.
use Rattle.std.specs.Prelude.{ℕ, ◌+◌, ◌/◌, ◌%◌, Bool, true, false, ◌&&◌, List, [], ◌∷◌, ◌++◌, length, leb}
use Rattle.files.specs.Code.{Code, done, neutral, return, call, unless_false, make_cont}
use Rattle.files.specs.Grammar.{is_closed}
use Rattle.files.specs.Tree.{Template}

-- an offset is 256 · hi + lo
abbrev pub offset : ℕ → List ℕ
offset n = n / 256 ∷ n % 256 ∷ []

-- a conditional with flat arms x and y and flat rest r: closed, or open
unfoldable pub conditional : Bool → List ℕ → List ℕ → List ℕ → List ℕ
conditional true x y r = 3 ∷ offset (length x) ++ (x ++ (y ++ r))
conditional false x y r = 3 ∷ offset (3 + length x) ++ (x ++ (5 ∷ offset (length y) ++ (y ++ r)))

-- a conditional is closed where its arms are
unfoldable pub flat : Code → List ℕ
flat done = []
flat (neutral op ns r) = op ∷ (ns ++ flat r)
flat (return r) = 1 ∷ flat r
flat (call n r) = 2 ∷ n ∷ flat r
flat (unless_false x y r) = conditional (is_closed x) (flat x) (flat y) (flat r)
flat (make_cont n x r) = 4 ∷ offset (length (flat r)) ++ (n ∷ (flat r ++ flat x))

-- 8: no offset exceeds 65,535
abbrev pub fits_offset : ℕ → Bool
fits_offset n = leb n 65535

unfoldable pub arms_fit : Bool → ℕ → ℕ → Bool
arms_fit true x y = fits_offset x
arms_fit false x y = fits_offset (3 + x) && fits_offset y

unfoldable pub offsets_fit : Code → Bool
offsets_fit done = true
offsets_fit (neutral op ns r) = offsets_fit r
offsets_fit (return r) = offsets_fit r
offsets_fit (call n r) = offsets_fit r
offsets_fit (unless_false x y r) = arms_fit (is_closed x) (length (flat x)) (length (flat y)) && (offsets_fit x && (offsets_fit y && offsets_fit r))
offsets_fit (make_cont n x r) = fits_offset (length (flat r)) && (offsets_fit x && offsets_fit r)

abbrev pub offset_template : Template → Bool
offset_template t = offsets_fit t.code
