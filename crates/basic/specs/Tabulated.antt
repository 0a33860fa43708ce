-- The templates of basic byte code (document 02, request 6): tables of entries in place of what the instructions carry.
use Rattle.std.specs.Prelude.{ℕ, suc, ◌+◌, Bool, false, cond, ◌&&◌, ◌||◌, List, [], ◌∷◌, ◌++◌, eqb}
use Rattle.files.specs.Code.{Code, done, neutral, unless_false, make_cont, simple, put}
use Rattle.files.specs.Entries.{Entry, constant, global, template}
use Rattle.files.specs.Tree.{Template}
use Rattle.basic.specs.Basic.{Basic, ended, plain, carries, closure, branch, save}

-- ---- numbers: templates are numbered in reading order, a closure's when its code is read, before those inside it
-- how many closures a list has, in all its lists
unfoldable pub inside : Basic → ℕ
inside ended = 0
inside (plain v ns r) = inside r
inside (carries v e r) = inside r
inside (closure x r) = suc (inside x + inside r)
inside (branch x y r) = inside x + (inside y + inside r)
inside (save n x r) = inside x + inside r

-- ---- entries: of one template, over all kinds, by first use in the reading order of its own list
-- the entries that its instructions use, where n is the next template's number; a closure's own list is another template's
unfoldable pub uses : ℕ → Basic → List Entry
uses n ended = []
uses n (plain v ns r) = uses n r
uses n (carries v e r) = e ∷ uses n r
uses n (closure x r) = template n ∷ uses (suc n + inside x) r
uses n (branch x y r) = uses n x ++ (uses (n + inside x) y ++ uses (n + inside x + inside y) r)
uses n (save m x r) = uses n x ++ uses (n + inside x) r

-- constants are equal where tag and bits are; closures have numbers of their own, so that none shares an entry
unfoldable pub same_entry : Entry → Entry → Bool
same_entry (constant t x) (constant u y) = eqb t u && eqb x y
same_entry (constant t x) (global h) = false
same_entry (constant t x) (template u) = false
same_entry (global g) (constant u y) = false
same_entry (global g) (global h) = eqb g h
same_entry (global g) (template u) = false
same_entry (template t) (constant u y) = false
same_entry (template t) (global h) = false
same_entry (template t) (template u) = eqb t u

-- the index of an entry: 1 for the first; past the last where it is not there
unfoldable pub index_of : Entry → List Entry → ℕ
unfolding same_entry
index_of e [] = 1
index_of e (d ∷ es) = cond (same_entry d e) 1 (suc (index_of e es))

unfoldable pub among : Entry → List Entry → Bool
unfolding same_entry
among e [] = false
among e (d ∷ es) = same_entry d e || among e es

-- with one more entry, unless it is there
unfoldable pub with_entry : List Entry → Entry → List Entry
unfolding among
with_entry es e = cond (among e es) es (es ++ (e ∷ []))

unfoldable pub with_all : List Entry → List Entry → List Entry
unfolding with_entry
with_all es [] = es
with_all es (e ∷ us) = with_all (with_entry es e) us

-- the entries of the template whose list is c, where n is the next template's number
unfoldable pub entries_of : ℕ → Basic → List Entry
unfolding with_all uses
entries_of n c = with_all [] (uses n c)

-- ---- code: indices of the entries es in place of what the instructions carry
unfoldable pub indexed : List Entry → ℕ → Basic → Code
unfolding index_of
indexed es n ended = done
indexed es n (plain v ns r) = put (simple v ns) (indexed es n r)
indexed es n (carries v e r) = neutral v (index_of e es ∷ []) (indexed es n r)
indexed es n (closure x r) = neutral 7 (index_of (template n) es ∷ []) (indexed es (suc n + inside x) r)
indexed es n (branch x y r) = unless_false (indexed es n x) (indexed es (n + inside x) y) (indexed es (n + inside x + inside y) r)
indexed es n (save m x r) = make_cont m (indexed es n x) (indexed es (n + inside x) r)

-- ---- templates
-- the template whose list is c, where n is the next template's number; a file's bytes do not depend on where its lists start
unfoldable pub template_of : ℕ → Basic → Template
unfolding entries_of indexed
template_of n c = record { entries = entries_of n c; start = 0; code = indexed (entries_of n c) n c }

-- those of the closures in a list, the first of them number n
unfoldable pub closures : ℕ → Basic → List Template
unfolding template_of
closures n ended = []
closures n (plain v ns r) = closures n r
closures n (carries v e r) = closures n r
closures n (closure x r) = template_of (suc n) x ∷ (closures (suc n) x ++ closures (suc n + inside x) r)
closures n (branch x y r) = closures n x ++ (closures (n + inside x) y ++ closures (n + inside x + inside y) r)
closures n (save m x r) = closures n x ++ closures (n + inside x) r

-- all: the file's own list is template 0
unfoldable pub tabulated : Basic → List Template
unfolding closures
tabulated c = template_of 1 c ∷ closures 1 c
