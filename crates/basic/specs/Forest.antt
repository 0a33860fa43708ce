-- Lists of basic code that stand one after the other: what is left of a list where its lists are read one after the other.
use Rattle.std.specs.Prelude.{ℕ, ◌+◌, ◌*◌, ◌≡◌, List, [], ◌∷◌, ◌++◌, length}
use Rattle.files.specs.Reading.{got}
use Rattle.files.specs.Entries.{Entry}
use Rattle.files.specs.Tree.{Template}
use Rattle.tree_file.specs.File.{list_bits}
use Rattle.basic.specs.Basic.{Basic, ended, plain, carries, closure, branch, save}
use Rattle.basic.specs.Reading.{list_at}
use Rattle.basic.specs.Tabulated.{inside, uses, indexed, closures}

-- the lists cs stand from p to e
pub data Lists (s : List ℕ) (e : ℕ) : ℕ → List Basic → Type 0 where
  no_lists : Lists s e e []
  next_list : {p : ℕ} {c : Basic} {cs : List Basic} (q : ℕ) → list_at s 15 p ≡ got c q → Lists s e q cs → Lists s e p (c ∷ cs)

-- how many closures they have; their templates, the first of them number n
unfoldable pub inside_all : List Basic → ℕ
inside_all [] = 0
inside_all (c ∷ cs) = inside c + inside_all cs

unfoldable pub closures_all : ℕ → List Basic → List Template
closures_all n [] = []
closures_all n (c ∷ cs) = closures n c ++ closures_all (n + inside c) cs

-- the entries that they use, as lists of one template
unfoldable pub uses_all : ℕ → List Basic → List Entry
uses_all n [] = []
uses_all n (c ∷ cs) = uses n c ++ uses_all (n + inside c) cs

-- their bits with indices of the entries es
unfoldable pub code_all : List Entry → ℕ → List Basic → List ℕ
code_all es n [] = []
code_all es n (c ∷ cs) = list_bits (indexed es n c) ++ code_all es (n + inside c) cs

-- how many bits these are
unfoldable pub own_bits : Basic → ℕ
own_bits ended = 5
own_bits (plain v ns r) = 5 + 8 * length ns + own_bits r
own_bits (carries v e r) = 13 + own_bits r
own_bits (closure x r) = 13 + own_bits r
own_bits (branch x y r) = 5 + own_bits x + own_bits y + own_bits r
own_bits (save n x r) = 13 + own_bits x + own_bits r

unfoldable pub own_all : List Basic → ℕ
own_all [] = 0
own_all (c ∷ cs) = own_bits c + own_all cs
