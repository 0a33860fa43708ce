-- What is known of operands that were read, and where their parts stand: what the functions tell each other.
use Rattle.std.specs.Prelude.{ℕ, ◌+◌, ◌*◌, ◌≤◌, ◌≡◌, List, [], ◌∷◌, length}
use Rattle.files.specs.Code.{Code, done, neutral, return, call, unless_false, make_cont, bits}
use Rattle.files.specs.Valid.{Valid}
use Rattle.files.specs.Reading.{got}
use Rattle.files.specs.Tree.{Template, tree_read}
use Rattle.files.specs.Table.{tree_table}
use Rattle.files.specs.Grammar.{lowest, closed_template}
use Rattle.tree.specs.Summary.{number_or64}
use Rattle.readback.specs.Bits.{Stands}
use Rattle.tree_file.specs.File.{list_bits, file_bits, levels}
use Rattle.join.specs.declared.First.{First}
use Rattle.join.specs.declared.Joint.{Joint}
use Rattle.join.specs.declared.Turn.{Turn}
use Rattle.join.specs.declared.Turn.TheVariants.{There, Past, Within}
use Rattle.join.specs.Adjoin.{joint_bits, joint_depth}
use Rattle.join.specs.Join.{prologue_checked, second_checked}

-- a list that stands at p, with l levels left below it
pub record CodeAt (s : List ℕ) (l p : ℕ) : Type 0 where
  pub code : Code
  pub stands : Stands s p (list_bits code)
  pub valid : Valid code
  pub deep : levels code ≤ l

-- a file that was read, its table, and how many templates it has
pub record Operand (s table : List ℕ) (count : ℕ) : Type 0 where
  pub templates : List Template
  pub past : ℕ
  pub read : tree_read s ≡ got templates past
  pub size : ℕ
  pub filled : table ≡ tree_table size templates
  pub count_is : count ≡ length templates

-- the lowest template whose list is not closed, 64 if all are
abbrev pub Unclosed : List ℕ → List ℕ → ℕ → ℕ → Type 0
Unclosed s table count n = (w : Operand s table count) → number_or64 (lowest closed_template 0 w.templates) ≡ n

-- a prologue that was judged
pub record PrologueAt (a table : List ℕ) : Type 0 where
  pub operand : Operand a table 1
  pub checked : prologue_checked a ≡ got operand.templates operand.past

-- both operands, judged
pub record ToJoin (a first b second : List ℕ) (count : ℕ) : Type 0 where
  pub prologue : PrologueAt a first
  pub file : Operand b second count
  pub checked : second_checked b ≡ got file.templates file.past

-- ---- answers
unfoldable pub first_of : List Template → First
first_of [] = record { entries = 0; start = record { 0 = 0 }; past = record { 0 = 0 } }
first_of (t ∷ ts) =
    record { entries = length t.entries; start = record { 0 = t.start }; past = record { 0 = t.start + bits t.code } }

-- the list that begins at p: where another goes
unfoldable pub joint_of : ℕ → Code → Joint
joint_of p c = record { place = record { 0 = p + joint_bits c }; depth = joint_depth c }

unfoldable pub turn_of : ℕ → Code → Turn
turn_of p done = There
turn_of p (neutral op ns y) = Past (record { 0 = p + (5 + 8 * length ns) })
turn_of p (return y) = Past (record { 0 = p + 5 })
turn_of p (call n y) = Past (record { 0 = p + 13 })
turn_of p (unless_false y₁ y₂ y) = Past (record { 0 = p + 5 + bits y₁ + bits y₂ })
turn_of p (make_cont n y b) = Within (record { 0 = p + 13 })

-- the place past the last list
unfoldable pub file_end : List Template → ℕ
file_end ts = length (file_bits ts)
