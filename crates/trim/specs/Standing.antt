-- What is known of a file that was read, of a template, an entry or a list in it, and of the marks and numbers that are made: what the functions tell each
-- other.
use Rattle.std.specs.Prelude.{ℕ, zero, suc, ◌+◌, ◌*◌, ◌-◌, ◌≤◌, ◌<◌, ◌≡◌, Bool, true, cond, List, [], ◌∷◌, ◌++◌, map, length, get_or, set, ltb}
use Rattle.files.specs.Code.{Code, bits}
use Rattle.files.specs.Entries.{Entry}
use Rattle.files.specs.Linear.{entry_bits, entries_bits}
use Rattle.files.specs.Reading.{got}
use Rattle.files.specs.Tree.{Template}
use Rattle.files.specs.Table.{tree_table}
use Rattle.files.specs.Grammar.{indices_fit}
use Rattle.files.specs.Accepted.{tree_checked}
use Rattle.files.specs.laws.EntriesLaws.{EntryOk, EntriesOk}
use Rattle.files.specs.Orphans.{closes}
use Rattle.lists.specs.Facts.{indices_close}
use Rattle.lists.specs.Sets.{unite, has}
use Rattle.bit_writer.specs.laws.Wrote.{Wrote}
use Rattle.lists.specs.laws.SlotLaws.{Row}
use Rattle.readback.specs.Bits.{Stands}
use Rattle.tree_file.specs.File.{template_bits}
use Rattle.tree_file.specs.laws.Writable.{TreeWritable}
use Rattle.rewrite.specs.Tokens.{Token}
use Rattle.trim.specs.declared.Span.{Span}
use Rattle.trim.specs.Kept.{sift, rank}
use Rattle.trim.specs.Trim.{names, new_index, renumber, trim_template}
use Rattle.trim.specs.Lines.{kept, new_line}

-- ---- the file
-- a file that passes 1 to 7, its table, and how many templates it has
pub record FileIn (s table : List ℕ) (count : ℕ) : Type 0 where
  pub templates : List Template
  pub past : ℕ
  pub checked : tree_checked s ≡ got templates past
  pub size : ℕ
  pub filled : table ≡ tree_table size templates
  pub count_is : count ≡ length templates

-- template own of so many, which stands at a place
pub record TemplateIn (s table : List ℕ) (own here : ℕ) : Type 0 where
  pub total : ℕ
  pub few : total ≤ 64
  pub within : own < total
  pub template : Template
  pub ok : TreeWritable total own template
  pub stands : Stands s here (template_bits template)
  pub start_is : template.start ≡ here + 8 + length (entries_bits template.entries)
  pub slot : get_or table (256 * own) 0 ≡ template.start
  pub row : Row table own template.entries
  pub indexed : indices_fit template.entries template.code ≡ true

unfoldable pub span_of : Template → Span
span_of t =
    record { start = record { 0 = t.start }; past = record { 0 = t.start + bits t.code }; closes = indices_close t.entries t.code }

-- a template with its list's span and the number of its entries
pub record ListIn (s table : List ℕ) (own here : ℕ) (list : Span) (count : ℕ) : Type 0 where
  pub at : TemplateIn s table own here
  pub span_is : list ≡ span_of at.template
  pub count_is : count ≡ length at.template.entries

-- an entry that stands at a place and takes so many bits
pub record EntryIn (s : List ℕ) (here size : ℕ) : Type 0 where
  pub own : ℕ
  pub total : ℕ
  pub entry : Entry
  pub ok : EntryOk own total entry
  pub stands : Stands s here (entry_bits entry)
  pub size_is : size ≡ length (entry_bits entry)

-- so many entries that stand at a place, for an output of 524,288 bits from place `at` on
pub record EntriesIn (s : List ℕ) (here count at : ℕ) : Type 0 where
  pub own : ℕ
  pub total : ℕ
  pub entries : List Entry
  pub ok : EntriesOk own total entries
  pub stands : Stands s here (entries_bits entries)
  pub count_is : count ≡ length entries
  pub fits : at + length (entries_bits entries) ≤ 524288

-- ---- the templates that are reached, as a set
-- after template own, which stays in it: those that its closures name come into it
unfoldable pub reached_from : ℕ → Template → ℕ → ℕ
reached_from own t set = cond (has set own) (unite set (indices_close t.entries t.code)) set

unfoldable pub marked_if : Bool → ℕ → List ℕ → List ℕ
marked_if b own marks = cond b (set marks own 1) marks

-- with template t, if it stays, those that its closures name stay
abbrev pub Leads : (ℕ → Bool) → ℕ → Template → Type 0
Leads keep t x = keep t ≡ true → (u : ℕ) → closes x.entries u x.code ≡ true → keep u ≡ true

-- ---- marks and numbers
unfoldable pub is_marked : List ℕ → ℕ → Bool
is_marked l i = ltb 0 (get_or l i 0)

-- the templates that are kept, of T, marked by 1
pub record Marks (keep : ℕ → Bool) (T : ℕ) (marks : List ℕ) : Type 0 where
  pub each : (t : ℕ) → t < T → get_or marks t 0 ≡ cond (keep t) 1 0

-- and numbered from 1 on
pub record Numbers (keep : ℕ → Bool) (T : ℕ) (numbers : List ℕ) : Type 0 where
  pub each : (t : ℕ) → t < T → get_or numbers t 0 ≡ cond (keep t) (suc (rank keep 0 t)) 0

-- the first n of some marks, numbered
pub record Numbered (n : ℕ) (old new : List ℕ) : Type 0 where
  pub same : length new ≡ length old
  pub each : (i : ℕ) → i < n → get_or new i 0 ≡ cond (is_marked old i) (suc (rank (is_marked old) 0 i)) 0

-- a code with its first operand marks an entry
unfoldable pub mark_one : ℕ → ℕ → List ℕ → List ℕ
mark_one code n row = cond (ltb code 6) row (cond (ltb 9 code) row (set row n 1))

unfoldable pub names_marked : List Token → List ℕ → List ℕ
unfolding mark_one
names_marked [] row = row
names_marked (t ∷ ts) row = names_marked ts (mark_one t.code (get_or t.operands 0 0) row)

-- the row of a template's E entries: new indices
abbrev pub RowOf : Code → ℕ → List ℕ → Type 0
RowOf c E row = (n : ℕ) → 1 ≤ n → n ≤ E → get_or row n 0 ≡ cond (names n c) (new_index c n) 0

-- ---- what is put
-- the bits b are put at a place, and q is the place after them: for who has written up to there
abbrev pub PutMore : List ℕ → ℕ → List ℕ → ℕ → List ℕ → Type 0
PutMore old p new q b = (o₀ a : List ℕ) → length o₀ ≡ 65536 → Wrote o₀ old a p → Wrote o₀ new (a ++ b) q

-- the entries that a row keeps
unfoldable pub kept_entries : List ℕ → List ℕ → List Entry → List Entry
kept_entries numbers row es = map (renumber (λ u. get_or numbers u 0 - 1)) (sift (λ j. is_marked row (suc j)) 0 es)

-- a template's bits, if it stays
unfoldable pub kept_bits : (ℕ → Bool) → ℕ → Template → List ℕ
kept_bits keep own t = cond (keep own) (template_bits (trim_template (rank keep 0) t)) []

-- a line by what a table says: 0 is gone, and otherwise the new number lies `less` below it
unfoldable pub mark_line : ℕ → ℕ → ℕ → ℕ → List ℕ
mark_line t e mark less = new_line t e (kept (ltb 0 mark) (mark - less))

-- k entries of template t from number e on
unfoldable pub row_lines : ℕ → List ℕ → ℕ → ℕ → List ℕ
unfolding mark_line
row_lines t row e zero = []
row_lines t row e (suc k) = mark_line t e (get_or row e 0) 0 ++ row_lines t row (suc e) k
