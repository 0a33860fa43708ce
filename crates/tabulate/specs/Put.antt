-- Writing templates.
use Rattle.std.specs.Prelude.{ℕ, ◌+◌, ◌*◌, ◌≤◌, ◌≡◌, List, [], length, take, true}
use Rattle.files.specs.Entries.{Entry}
use Rattle.files.specs.Linear.{entries_bits}
use Rattle.bit_writer.specs.Put.{put_bits}
use Rattle.tree_file.specs.File.{list_bits, template_bits, templates_bits, tree_file}
use Rattle.basic.specs.Basic.{Basic}
use Rattle.basic.specs.Tabulated.{inside, uses, entries_of, indexed, template_of, tabulated}
use Rattle.basic.specs.Checked.{entries_fit}
use Rattle.basic.specs.Forest.{Lists, inside_all, uses_all, code_all, own_bits}
use Rattle.basic.specs.laws.AllIn.{AllIn}
use Rattle.tabulate.specs.Slots.{AllFit, slots_of}
use Rattle.tabulate.specs.Collect.{OwnList}
use Rattle.tabulate.specs.Judge.{FewIn, From, templates_from}

-- the bits b put into o at a
pub record PutAt (o : List ℕ) (a : ℕ) (b : List ℕ) (a' : ℕ) (o' : List ℕ) : Type 0 where
  pub past : a' ≡ a + length b
  pub is : o' ≡ put_bits o a b

-- the entries of a table's first slots, with room for them in o at a; zero bits follow a
pub record EntriesIn (table : List ℕ) (count : ℕ) (o : List ℕ) (a : ℕ) : Type 0 where
  pub entries : List Entry
  pub held : take count table ≡ slots_of entries
  pub fit : AllFit entries
  pub room : a + length (entries_bits entries) ≤ 8 * length o
  pub settled : o ≡ put_bits o a []

-- what a loop keeps that puts the bits all into o₀ at a₀, where rest is left
pub record Putting (o₀ : List ℕ) (a₀ : ℕ) (all : List ℕ) (o : List ℕ) (a : ℕ) (rest : List ℕ) : Type 0 where
  pub long : length o ≡ length o₀
  pub same : put_bits o₀ a₀ all ≡ put_bits o a rest
  pub place : a₀ + length all ≡ a + length rest
  pub room : a + length rest ≤ 8 * length o
  pub settled : o ≡ put_bits o a []

-- a table whose first slots tell the entries
pub record Held (table : List ℕ) (count : ℕ) (entries : List Entry) : Type 0 where
  pub slots : take count table ≡ slots_of entries
  pub counted : count ≡ length entries
  pub fit : AllFit entries

-- a template's own list, the entries that it uses, and room for its code in o at a
pub record CodeIn (s table : List ℕ) (p e n count : ℕ) (o : List ℕ) (a : ℕ) : Type 0 where
  pub own : OwnList s p e n
  pub entries : List Entry
  pub held : Held table count entries
  pub all : AllIn entries (uses n own.list)
  pub room : a + own_bits own.list ≤ 8 * length o
  pub settled : o ≡ put_bits o a []

-- what the loop keeps for the list c
pub record Coding (s : List ℕ) (e : ℕ) (es : List Entry) (c : Basic) (n : ℕ) (o₀ : List ℕ) (a₀ p next : ℕ) (o : List ℕ) (a : ℕ) : Type 0 where
  pub left : List Basic
  pub stand : Lists s e p left
  pub all : AllIn es (uses_all next left)
  pub numbers : n + inside c ≡ next + inside_all left
  pub put : Putting o₀ a₀ (list_bits (indexed es n c)) o a (code_all es next left)

-- a template with at most 255 entries, and room for it in o at a
pub record TemplateIn (s : List ℕ) (p e n : ℕ) (o : List ℕ) (a : ℕ) : Type 0 where
  pub own : OwnList s p e n
  pub few : length (entries_of n own.list) ≤ 255
  pub room : a + length (template_bits (template_of n own.list)) ≤ 8 * length o

-- a file whose templates have at most 255 entries each, and room for them in o at a; zero bits follow a
pub record TemplatesIn (s : List ℕ) (e : ℕ) (o : List ℕ) (a : ℕ) : Type 0 where
  pub few : FewIn s e
  pub fit : entries_fit (tabulated few.whole.list) ≡ true
  pub room : a + length (templates_bits (tabulated few.whole.list)) ≤ 8 * length o
  pub settled : o ≡ put_bits o a []

-- what the loop over the templates keeps
pub record Writing (s : List ℕ) (e own p : ℕ) (c : Basic) (o₀ : List ℕ) (a₀ : ℕ) (o : List ℕ) (a : ℕ) : Type 0 where
  pub from : From s e own p (inside c)
  pub fit : entries_fit (templates_from from) ≡ true
  pub put : Putting o₀ a₀ (templates_bits (tabulated c)) o a (templates_bits (templates_from from))

-- a file that was checked, and an output of its tabulated file's length
pub record WholeIn (s : List ℕ) (e count : ℕ) (o : List ℕ) : Type 0 where
  pub few : FewIn s e
  pub fit : entries_fit (tabulated few.whole.list) ≡ true
  pub number : count ≡ length (tabulated few.whole.list)
  pub exact : length (tree_file (tabulated few.whole.list)) ≡ length o
