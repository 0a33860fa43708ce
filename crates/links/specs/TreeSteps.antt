-- The links of a whole tree file, and what is known of a file that is read.
use Rattle.std.specs.Prelude.{ℕ, ◌≤◌, ◌<◌, ◌≡◌, List, length, get_or, drop}
use Rattle.files.specs.Reading.{Got, got, refused}
use Rattle.files.specs.Table.{tree_table}
use Rattle.files.specs.Tree.{Template, tree_read}
use Rattle.lists.specs.declared.Keep.TheVariants.{Pasts}
use Rattle.lists.specs.Marks.{HasIn}
use Rattle.links.specs.Links.{linked_all}

-- those from template n on
unfoldable pub linked_from : List ℕ → ℕ → Got (List Template) → List ℕ
unfolding linked_all
linked_from L n (got ts q) = linked_all L (drop n ts)
linked_from L n (refused m x) = L

-- the tree file s is read, and the table is its table
pub record FileReady (s table : List ℕ) (count : ℕ) : Type 0 where
  pub templates : List Template
  pub past : ℕ
  pub read : tree_read s ≡ got templates past
  pub size : ℕ
  pub tabled : table ≡ tree_table size templates
  pub counted : count ≡ length templates

-- the links L hold still, for each list inside those of the templates from number n on, the place past that list
abbrev pub HasPasts : List ℕ → ℕ → List Template → Type 0
HasPasts L n ts = (i : ℕ) (d : Template) → n ≤ i → i < length ts → HasIn Pasts L (get_or ts i d).start (get_or ts i d).code

-- the same of a file's templates
abbrev pub FileMarked : List ℕ → List ℕ → Type 0
FileMarked s L = (ts : List Template) (q : ℕ) → tree_read s ≡ got ts q → HasPasts L 0 ts
