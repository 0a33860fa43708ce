-- Code of a tree file as codes and operand bytes one after the other, whatever lists they stand in; and with new indices.
use Rattle.std.specs.Prelude.{ℕ, ◌<◌, ◌≡◌, cond, ◌||◌, List, [], ◌∷◌, ◌++◌, length, get_or, eqb, ltb}
use Rattle.files.specs.Codes.{shape_of}
use Rattle.lists.specs.declared.Shape.{Shape}
use Rattle.lists.specs.declared.Shape.TheVariants.{End, Plain, Branch, Save, NoCode}
use Rattle.files.specs.Code.{Code, done, neutral, return, call, unless_false, make_cont}
use Rattle.files.specs.Valid.{Bytes}
use Rattle.files.specs.Linear.{bits_of}
use Rattle.readback.specs.Bits.{Stands}
use Rattle.tree_file.specs.File.{operands_bits, list_bits}

-- a code and its operand bytes
pub record Token : Type 0 where
  pub code : ℕ
  pub operands : List ℕ

abbrev pub token : ℕ → List ℕ → Token
token v ns = record { code = v; operands = ns }

-- the code 0 of a list
abbrev pub end : Token
end = token 0 []

-- a list without its code 0, and then others
unfoldable pub tokens : Code → List Token → List Token
tokens done ts = ts
tokens (neutral op ns r) ts = token op ns ∷ tokens r ts
tokens (return r) ts = token 1 [] ∷ tokens r ts
tokens (call n r) ts = token 2 (n ∷ []) ∷ tokens r ts
tokens (unless_false x y r) ts = token 3 [] ∷ tokens x (end ∷ tokens y (end ∷ tokens r ts))
tokens (make_cont n x r) ts = token 4 (n ∷ []) ∷ tokens x (end ∷ tokens r ts)

-- its bits, without those of its code 0
unfoldable pub body_bits : Code → List ℕ
body_bits done = []
body_bits (neutral op ns r) = (bits_of 5 op ++ operands_bits ns) ++ body_bits r
body_bits (return r) = bits_of 5 1 ++ body_bits r
body_bits (call n r) = (bits_of 5 2 ++ bits_of 8 n) ++ body_bits r
body_bits (unless_false x y r) = (bits_of 5 3 ++ (list_bits x ++ list_bits y)) ++ body_bits r
body_bits (make_cont n x r) = (bits_of 5 4 ++ (bits_of 8 n ++ list_bits x)) ++ body_bits r

unfoldable pub token_bits : Token → List ℕ
token_bits t = bits_of 5 t.code ++ operands_bits t.operands

unfoldable pub tokens_bits : List Token → List ℕ
tokens_bits [] = []
tokens_bits (t ∷ ts) = token_bits t ++ tokens_bits ts

-- how many operand bytes follow a code of a shape in a tree
unfoldable pub operand_count : ℕ → ℕ
operand_count k = cond (eqb k 2 || eqb k 5) 1 (cond (eqb k 3) 2 0)

-- how many follow a code of this shape: as many as a Plain one says, and the one of a Save
unfoldable pub operands_told : Shape → ℕ
operands_told End = 0
operands_told (Plain n) = n
operands_told Branch = 0
operands_told Save = 1
operands_told NoCode = 0

-- what a token of a list that was read is like
pub record TokenOk (t : Token) : Type 0 where
  pub fits : t.code < 32
  pub count : length t.operands ≡ operand_count (shape_of t.code)
  pub bytes : Bytes t.operands

unfoldable pub TokensOk : List Token → Type 0
TokensOk [] = Unit
TokensOk (t ∷ ts) = TokenOk t × TokensOk ts

-- n bits of such tokens that stand at p
pub record TokensAt (s : List ℕ) (p n : ℕ) : Type 0 where
  pub all : List Token
  pub good : TokensOk all
  pub here : Stands s p (tokens_bits all)
  pub size : length (tokens_bits all) ≡ n

-- ---- new indices
-- the new index that a table has
unfoldable pub index_in : List ℕ → ℕ → ℕ
index_in table i = get_or table i 0

-- the first operand byte of a code: of codes 6 to 9 it is an index
unfoldable pub new_operand : (ℕ → ℕ) → ℕ → ℕ → ℕ
new_operand f op n = cond (ltb op 6) n (cond (ltb 9 op) n (f n))

unfoldable pub new_operands : (ℕ → ℕ) → ℕ → List ℕ → List ℕ
new_operands f op [] = []
new_operands f op (n ∷ ns) = new_operand f op n ∷ ns

unfoldable pub renewed_one : (ℕ → ℕ) → Token → Token
renewed_one f t = token t.code (new_operands f t.code t.operands)

unfoldable pub renewed : (ℕ → ℕ) → List Token → List Token
renewed f [] = []
renewed f (t ∷ ts) = renewed_one f t ∷ renewed f ts
