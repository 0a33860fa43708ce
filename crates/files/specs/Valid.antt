-- What a list that was read is like: a neutral code has as many operands as it takes, and every operand is a byte.
use Rattle.std.specs.Prelude.{ℕ, ◌<◌, ◌≡◌, true, List, [], ◌∷◌, length}
use Rattle.files.specs.Codes.{is_neutral, operands}
use Rattle.files.specs.Code.{Code, done, neutral, return, call, unless_false, make_cont, Instr, neutral_i, return_i, call_i, unless_i, cont_i}

unfoldable pub Bytes : List ℕ → Type 0
Bytes [] = Unit
Bytes (n ∷ ns) = (n < 256) × Bytes ns

unfoldable pub Valid : Code → Type 0
Valid done = Unit
Valid (neutral op ns r) = (is_neutral op ≡ true) × (operands op ≡ length ns) × Bytes ns × Valid r
Valid (return r) = Valid r
Valid (call n r) = (n < 256) × Valid r
Valid (unless_false x y r) = Valid x × Valid y × Valid r
Valid (make_cont n x r) = (n < 256) × Valid x × Valid r

unfoldable pub ValidInstr : Instr → Type 0
ValidInstr (neutral_i op ns) = (is_neutral op ≡ true) × (operands op ≡ length ns) × Bytes ns
ValidInstr return_i = Unit
ValidInstr (call_i n) = n < 256
ValidInstr (unless_i x y) = Valid x × Valid y
ValidInstr (cont_i n x) = (n < 256) × Valid x
