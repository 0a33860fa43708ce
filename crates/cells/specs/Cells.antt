-- Cells (document 01, 'Cells'): 64 bits, from the highest a tag of 4 bits, then the fields, then zeros.
use Rattle.std.specs.Prelude.{ℕ, ◌+◌, ◌-◌, ◌*◌, ◌/◌, ◌%◌, ◌<◌, ◌^◌, ◌≡◌, Bool, cond, ◌&&◌, leb, eqb}
use Rattle.cells.specs.declared.Closure.{Closure}
use Rattle.cells.specs.declared.Value.{Value}
use Rattle.cells.specs.declared.Value.TheVariants.{False, True, Null, Unspecified, Integer, Procedure, Pair, NoValue}

-- ---- the constants
abbrev pub unused_cell : ℕ
unused_cell = 0

abbrev pub false_cell : ℕ
false_cell = 0x1000000000000000

abbrev pub true_cell : ℕ
true_cell = 0x2000000000000000

abbrev pub null_cell : ℕ
null_cell = 0x3000000000000000

abbrev pub unspecified_cell : ℕ
unspecified_cell = 0x4000000000000000

abbrev pub undefined_cell : ℕ
undefined_cell = 0x5000000000000000

-- ---- integers: two's complement of one width (request 7: 48 bits), which stands here and as HALF in src/ alone
-- so many patterns of bits, the first half of them not negative
abbrev pub half : ℕ
half = 0x800000000000

abbrev pub full : ℕ
full = 2 * half

-- 32 bits, as a constant of tag 4 has them, in this width: the highest bit goes on upwards
abbrev pub widened : ℕ → ℕ
widened x = x + (full - 0x100000000) * (x / 0x80000000)

-- ---- cells with fields
-- an integer's bits, then 12 zero bits
abbrev pub int_cell : ℕ → ℕ
int_cell x = 0x6000000000000000 + x * 0x1000

-- template 8, environment 16, location 16
abbrev pub closure_cell : ℕ → ℕ → ℕ → ℕ
closure_cell t e l = 0x7000000000000000 + t * 0x10000000000000 + e * 0x1000000000 + l * 0x100000

-- location 16, location 16
abbrev pub pair_cell : ℕ → ℕ → ℕ
pair_cell a b = 0x8000000000000000 + a * 0x100000000000 + b * 0x10000000

-- parent environment 16, count 8
abbrev pub layer_cell : ℕ → ℕ → ℕ
layer_cell e n = 0x9000000000000000 + e * 0x100000000000 + n * 0x1000000000

-- count 8, template 8, environment 16, code place 24
abbrev pub frame_cell : ℕ → ℕ → ℕ → ℕ → ℕ
frame_cell n t e p = 0xA000000000000000 + n * 0x10000000000000 + t * 0x100000000000 + e * 0x10000000 + p * 0x10

-- ---- the fields of a cell
abbrev pub tag_of : ℕ → ℕ
tag_of c = c / 0x1000000000000000

abbrev pub int_of : ℕ → ℕ
int_of c = c / 0x1000 % full

abbrev pub closure_template : ℕ → ℕ
closure_template c = c / 0x10000000000000 % 0x100

abbrev pub closure_env : ℕ → ℕ
closure_env c = c / 0x1000000000 % 0x10000

abbrev pub closure_location : ℕ → ℕ
closure_location c = c / 0x100000 % 0x10000

abbrev pub closure_of : ℕ → Closure
closure_of c = record { template = closure_template c; env = closure_env c; location = closure_location c }

abbrev pub pair_first : ℕ → ℕ
pair_first c = c / 0x100000000000 % 0x10000

abbrev pub pair_second : ℕ → ℕ
pair_second c = c / 0x10000000 % 0x10000

abbrev pub layer_parent : ℕ → ℕ
layer_parent c = c / 0x100000000000 % 0x10000

abbrev pub layer_count : ℕ → ℕ
layer_count c = c / 0x1000000000 % 0x100

abbrev pub frame_count : ℕ → ℕ
frame_count c = c / 0x10000000000000 % 0x100

abbrev pub frame_template : ℕ → ℕ
frame_template c = c / 0x100000000000 % 0x100

abbrev pub frame_env : ℕ → ℕ
frame_env c = c / 0x10000000 % 0x10000

abbrev pub frame_place : ℕ → ℕ
frame_place c = c / 0x10 % 0x1000000

-- ---- 22: a starting global is exactly one of tags 1 to 6
unfoldable pub starting_global : ℕ → Bool
starting_global c = cond (eqb (tag_of c) 6) (eqb c (int_cell (int_of c))) (leb 1 (tag_of c) && leb (tag_of c) 5 && eqb c (tag_of c * 0x1000000000000000))

-- ---- the answer's enum: the value of a cell, by its tag
abbrev pub by_tag : ℕ → ℕ → Value → Value → Value
by_tag c t x y = cond (eqb (tag_of c) t) x y

unfoldable pub value_of : ℕ → Value
value_of c =
    by_tag c 1 False
    (by_tag c 2 True
    (by_tag c 3 Null
    (by_tag c 4 Unspecified
    (by_tag c 6 (Integer (int_of c))
    (by_tag c 7 (Procedure (closure_of c))
    (by_tag c 8 (Pair (pair_first c) (pair_second c)) NoValue))))))

-- the cell of a value: document 01's cell for each case of the enum
unfoldable pub cell_of : Value → ℕ
cell_of False = false_cell
cell_of True = true_cell
cell_of Null = null_cell
cell_of Unspecified = unspecified_cell
cell_of (Integer x) = int_cell x
cell_of (Procedure c) = closure_cell c.template c.env c.location
cell_of (Pair a b) = pair_cell a b
cell_of NoValue = unused_cell

-- the fields of a value fit into its cell
unfoldable pub Fits : Value → Type 0
Fits False = Unit
Fits True = Unit
Fits Null = Unit
Fits Unspecified = Unit
Fits (Integer x) = x < full
Fits (Procedure c) = (c.template < 2 ^ 8) × (c.env < 2 ^ 16) × (c.location < 2 ^ 16)
Fits (Pair a b) = (a < 2 ^ 16) × (b < 2 ^ 16)
Fits NoValue = ⊥

-- a cell that holds a value: the cell of one that fits
pub record ValueCell (c : ℕ) : Type 0 where
  pub value : Value
  pub fits : Fits value
  pub is : c ≡ cell_of value
