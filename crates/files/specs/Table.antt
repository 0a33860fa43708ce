-- What a run keeps of an accepted file, so that an instruction costs constant time: a table with a row of 256 numbers for each template. Slot 0
-- of a template's row is where its code begins (003 keeps index 0 for the code), in a linear file with the code's length above 32 bits; slot n
-- is what entry n says; other slots are 0, and so is the table's rest.
use Rattle.std.specs.Prelude.{ℕ, ◌+◌, ◌*◌, ◌-◌, cond, List, [], ◌∷◌, ◌++◌, map, length, replicate, ltb, eqb}
use Rattle.cells.specs.Cells.{widened, int_cell}
use Rattle.files.specs.Entries.{Entry, constant, global, template}
use Rattle.files.specs.Tree.{Template}
use Rattle.files.specs.Linear.{Linear}

-- the cell of a constant: tags 4 and 5 are integers, of 32 bits and of an integer's own
unfoldable pub constant_cell : ℕ → ℕ → ℕ
constant_cell t x = cond (ltb t 4) ((t + 1) * 0x1000000000000000) (int_cell (cond (eqb t 4) (widened x) x))

-- a constant is its cell; a global is marked by tag 11, a template by tag 12, which no cell has
unfoldable pub slot_of : Entry → ℕ
unfolding constant_cell
slot_of (constant t x) = constant_cell t x
slot_of (global g) = 0xB000000000000000 + g
slot_of (template t) = 0xC000000000000000 + t

-- l, and zeros to n numbers
abbrev pub pad_to : ℕ → List ℕ → List ℕ
pad_to n l = l ++ replicate (n - length l) 0

unfoldable pub row_of : ℕ → List Entry → List ℕ
row_of start es = pad_to 256 (start ∷ map slot_of es)

unfoldable pub tree_rows : List Template → List ℕ
tree_rows [] = []
tree_rows (t ∷ ts) = row_of t.start t.entries ++ tree_rows ts

unfoldable pub linear_rows : List Linear → List ℕ
linear_rows [] = []
linear_rows (t ∷ ts) = row_of (t.start + 0x100000000 * length t.code) t.entries ++ linear_rows ts

-- a table of n numbers
unfoldable pub tree_table : ℕ → List Template → List ℕ
tree_table n ts = pad_to n (tree_rows ts)

unfoldable pub linear_table : ℕ → List Linear → List ℕ
linear_table n ts = pad_to n (linear_rows ts)
