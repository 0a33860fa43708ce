-- The bytes of one instruction of a list: those that stand before the rest's, and those that stand after.
use Rattle.std.specs.Prelude.{ℕ, zero, suc, ◌+◌, ◌/◌, ◌%◌, Bool, true, false, cond, List, [], ◌∷◌, ◌++◌, length}
use Rattle.files.specs.Code.{Code, Instr, neutral_i, return_i, call_i, unless_i, cont_i}
use Rattle.files.specs.Grammar.{is_closed}
use Rattle.files.specs.Flat.{offset, flat}
use Rattle.emit.specs.declared.Measured.{Measured}
use Rattle.emit.specs.declared.Rest.{Rest}

-- ---- a conditional, closed or open
-- how many bytes its jump takes
unfoldable pub gap : Bool → ℕ
gap closed = cond closed 0 3

-- the jump of an open one over its second arm of n bytes
unfoldable pub jump_bytes : Bool → ℕ → List ℕ
jump_bytes true n = []
jump_bytes false n = 5 ∷ offset n

-- with arms x and y
unfoldable pub arms_bytes : Code → Code → List ℕ
arms_bytes x y = (3 ∷ offset (gap (is_closed x) + length (flat x))) ++ (flat x ++ (jump_bytes (is_closed x) (length (flat y)) ++ flat y))

-- ---- a make-cont n whose rest has m bytes
unfoldable pub saved_bytes : ℕ → ℕ → List ℕ
saved_bytes n m = 4 ∷ m / 256 ∷ m % 256 ∷ n ∷ []

-- ---- a code and as many operands, by the 21 bits at its place
unfoldable pub line_bytes : ℕ → ℕ → List ℕ
line_bytes line zero = line / 0x10000 ∷ []
line_bytes line (suc zero) = line / 0x10000 ∷ line / 0x100 % 0x100 ∷ []
line_bytes line (suc (suc n)) = line / 0x10000 ∷ line / 0x100 % 0x100 ∷ line % 0x100 ∷ []

-- ---- one instruction, where the rest has m bytes
unfoldable pub front_bytes : Instr → ℕ → List ℕ
front_bytes (neutral_i op ns) m = op ∷ ns
front_bytes return_i m = 1 ∷ []
front_bytes (call_i n) m = 2 ∷ n ∷ []
front_bytes (unless_i x y) m = arms_bytes x y
front_bytes (cont_i n x) m = saved_bytes n m

unfoldable pub back_bytes : Instr → List ℕ
back_bytes (neutral_i op ns) = []
back_bytes return_i = []
back_bytes (call_i n) = []
back_bytes (unless_i x y) = []
back_bytes (cont_i n x) = flat x

-- ---- answers
unfoldable pub measured_of : Code → Measured
measured_of c = record { size = length (flat c); closed = is_closed c }

abbrev pub wrote_as : ℕ → ℕ → ℕ → Rest
wrote_as q f b = record { at = record { 0 = q }; front = f; back = b }
