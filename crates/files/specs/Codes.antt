-- Codes (document 01, 'Codes'): the table, in its order. What is asked of a code is read off it.
use Rattle.std.specs.Prelude.{ℕ, ◌+◌, ◌-◌, Bool, ◌&&◌, List, [], ◌∷◌, map, get_or, leb}

-- what follows a code and its operand bytes in a tree
pub data Follows : Type 0 where
  -- nothing: the list has ended
  list_end : Follows
  -- the rest of the list
  rest : Follows
  -- two lists, and then the rest
  arms : Follows
  -- a list, and then the rest
  saved : Follows
  -- the code is no instruction of a tree
  none : Follows

pub record CodeRow : Type 0 where
  -- operand bytes in a tree
  pub tree : ℕ
  -- operand bytes in linear code
  pub linear : ℕ
  pub follows : Follows

abbrev pub row : ℕ → ℕ → Follows → CodeRow
row t l f = record { tree = t; linear = l; follows = f }

abbrev pub codes : List CodeRow
codes =
    -- 0 end of list (tree only)
    row 0 0 list_end
    -- 1 return
    ∷ row 0 0 rest
    -- 2 call n
    ∷ row 1 1 rest
    -- 3 unless-false (tree), jump-if-false hi lo (linear)
    ∷ row 0 2 arms
    -- 4 make-cont n (tree), make-cont hi lo n (linear)
    ∷ row 1 3 saved
    -- 5 jump hi lo (linear only)
    ∷ row 0 2 none
    -- 6 literal n
    ∷ row 1 1 rest
    -- 7 closure n
    ∷ row 1 1 rest
    -- 8 global n
    ∷ row 1 1 rest
    -- 9 set-global! n
    ∷ row 1 1 rest
    -- 10 local n1 n2
    ∷ row 2 2 rest
    -- 11 set-local! n1 n2
    ∷ row 2 2 rest
    -- 12 push
    ∷ row 0 0 rest
    -- 13 make-env n
    ∷ row 1 1 rest
    -- 14 is no instruction
    ∷ row 0 0 none
    -- 15 unspecified
    ∷ row 0 0 rest
    -- 16 checkargs= n
    ∷ row 1 1 rest
    -- 17 is no instruction
    ∷ row 0 0 none
    -- 18 %%cons
    ∷ row 0 0 rest
    -- 19 %%car
    ∷ row 0 0 rest
    -- 20 %%cdr
    ∷ row 0 0 rest
    -- 21 %%eqv
    ∷ row 0 0 rest
    -- 22 %%add
    ∷ row 0 0 rest
    -- 23 %%sub
    ∷ row 0 0 rest
    -- 24 %%less
    ∷ row 0 0 rest
    -- 25 %%floor-div
    ∷ row 0 0 rest
    -- 26 to 31 are no instructions
    ∷ row 0 0 none
    ∷ row 0 0 none
    ∷ row 0 0 none
    ∷ row 0 0 none
    ∷ row 0 0 none
    ∷ row 0 0 none
    ∷ []

-- ---- in a tree
-- How a code is followed, as a number: 0 the end of the list; 1, 2, 3 no, one or two operand bytes; 4 two lists; 5 an operand byte and a
-- list; 6 no instruction.
abbrev pub shape_by : Follows → ℕ → ℕ
shape_by list_end n = 0
shape_by rest n = 1 + n
shape_by arms n = 4
shape_by saved n = 5
shape_by none n = 6

abbrev pub shape : CodeRow → ℕ
shape r = shape_by r.follows r.tree

abbrev pub shapes : List ℕ
shapes = map shape codes

unfoldable pub shape_of : ℕ → ℕ
shape_of v = get_or shapes v 6

-- neutral codes: from 6 on, those that the rest of the list follows
unfoldable pub is_neutral : ℕ → Bool
unfolding shape_of
is_neutral op = leb 6 op && leb (shape_of op) 3

-- how many operand bytes a neutral code has
unfoldable pub operands : ℕ → ℕ
unfolding shape_of
operands op = shape_of op - 1

-- ---- in linear code
abbrev pub linear_bytes : List ℕ
linear_bytes = map (λ r. r.linear) codes

-- how many operand bytes a code has
unfoldable pub operand_bytes : ℕ → ℕ
operand_bytes op = get_or linear_bytes op 0
