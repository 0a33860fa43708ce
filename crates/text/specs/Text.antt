-- Numbers and lines as ASCII bytes.
use Rattle.std.specs.Prelude.{ℕ, zero, suc, ◌+◌, ◌-◌, ◌/◌, ◌%◌, cond, List, [], ◌∷◌, ◌++◌, ltb}

-- ---- numbers
-- the last digit of n
abbrev pub digit : ℕ → ℕ
digit n = 48 + n % 10

-- the digits of n, none where n is 0, from those of a tenth of it
unfoldable pub digits_by : (ℕ → List ℕ) → ℕ → List ℕ
digits_by tenth zero = []
digits_by tenth (suc n) = tenth (suc n / 10) ++ (digit (suc n) ∷ [])

-- the digits of n, which has at most k
unfoldable pub digits_within : ℕ → ℕ → List ℕ
unfolding digits_by
digits_within zero n = []
digits_within (suc k) n = digits_by (λ m. digits_within k m) n

abbrev pub leading : ℕ → List ℕ
leading n = digits_within n n

-- in decimal, no leading zeros
unfoldable pub decimal : ℕ → List ℕ
decimal n = leading (n / 10) ++ (digit n ∷ [])

-- the bits x in decimal, two's complement of a width that has `full` patterns of bits
unfoldable pub integer : ℕ → ℕ → List ℕ
integer full x = cond (ltb x (full / 2)) (decimal x) (45 ∷ decimal (full - x))

-- ---- lines
-- words, a blank after each but the last, then a newline
unfoldable pub line : List (List ℕ) → List ℕ
line [] = 10 ∷ []
line (w ∷ []) = w ++ (10 ∷ [])
line (w ∷ v ∷ ws) = w ++ (32 ∷ line (v ∷ ws))
