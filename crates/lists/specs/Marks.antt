-- Marks: what reading keeps of each list, by the list's first place / 5 (a list has at least 5 bits, so two of them never share a mark). For
-- the flattener twice the size of its flat code, and 1 more if it is closed; for the links the place past it.
use Rattle.std.specs.Prelude.{ℕ, ◌+◌, ◌*◌, ◌/◌, ◌≡◌, Bool, cond, List, length, get_or, set}
use Rattle.files.specs.Code.{Code, done, neutral, return, call, unless_false, make_cont, bits, Instr, neutral_i, return_i, call_i, unless_i, cont_i}
use Rattle.files.specs.Reading.{Got, got, refused, Head, stop, item, bad}
use Rattle.files.specs.Grammar.{is_closed}
use Rattle.files.specs.Flat.{flat}
use Rattle.lists.specs.declared.Facts.{Facts}
use Rattle.lists.specs.Facts.{says_closed}
use Rattle.lists.specs.declared.Keep.{Keep}
use Rattle.lists.specs.declared.Keep.TheVariants.{Sizes, Pasts}

unfoldable pub size_mark : Bool → ℕ → ℕ
size_mark closed size = 2 * size + cond closed 1 0

-- the mark of the list c past which is q
unfoldable pub mark_of : Keep → Code → ℕ → ℕ
mark_of Sizes c q = size_mark (is_closed c) (length (flat c))
mark_of Pasts c q = q

-- by the list's facts
unfoldable pub mark_by : Keep → Facts → ℕ → ℕ
mark_by Sizes f q = size_mark (says_closed f.class) f.size
mark_by Pasts f q = q

-- ---- marks of lists
abbrev pub mark_at : List ℕ → ℕ → ℕ
mark_at M p = get_or M (p / 5) 0

abbrev pub mark : List ℕ → ℕ → ℕ → List ℕ
mark M p v = set M (p / 5) v

-- M with the marks of the lists inside c, which begins at p
unfoldable pub marked_in : Keep → List ℕ → ℕ → Code → List ℕ
marked_in k M p done = M
marked_in k M p (neutral op ns r) = marked_in k M (p + (5 + 8 * length ns)) r
marked_in k M p (return r) = marked_in k M (p + 5) r
marked_in k M p (call n r) = marked_in k M (p + 13) r
marked_in k M p (unless_false x y r) =
    marked_in k
    (mark
    (marked_in k (mark (marked_in k M (p + 5) x) (p + 5) (mark_of k x (p + 5 + bits x))) (p + 5 + bits x) y)
    (p + 5 + bits x) (mark_of k y (p + 5 + bits x + bits y)))
    (p + 5 + bits x + bits y) r
marked_in k M p (make_cont n x r) =
    marked_in k (mark (marked_in k M (p + 13) x) (p + 13) (mark_of k x (p + 13 + bits x))) (p + 13 + bits x) r

-- with its own
unfoldable pub marked : Keep → List ℕ → ℕ → Code → List ℕ
marked k M p c = mark (marked_in k M p c) p (mark_of k c (p + bits c))

-- those of the lists of an instruction whose code ends at a
unfoldable pub marked_instr : Keep → List ℕ → ℕ → Instr → List ℕ
marked_instr k M a (neutral_i op ns) = M
marked_instr k M a return_i = M
marked_instr k M a (call_i n) = M
marked_instr k M a (unless_i x y) = marked k (marked k M a x) (a + bits x) y
marked_instr k M a (cont_i n x) = marked k M (a + 8) x

-- ---- what reading leaves of M: nothing is said where it refuses
unfoldable pub list_marked : Keep → List ℕ → List ℕ → ℕ → Got Code → Type 0
list_marked k M M' p (got c q) = M' ≡ marked k M p c
list_marked k M M' p (refused n x) = Unit

unfoldable pub head_marked : Keep → List ℕ → List ℕ → ℕ → Head → Type 0
head_marked k M M' a (stop q) = M' ≡ M
head_marked k M M' a (item i q) = M' ≡ marked_instr k M a i
head_marked k M M' a (bad n x) = Unit

-- ---- marks that are there
-- M has the marks of the lists inside c, which begins at p
unfoldable pub HasIn : Keep → List ℕ → ℕ → Code → Type 0
HasIn k M p done = Unit
HasIn k M p (neutral op ns r) = HasIn k M (p + (5 + 8 * length ns)) r
HasIn k M p (return r) = HasIn k M (p + 5) r
HasIn k M p (call n r) = HasIn k M (p + 13) r
HasIn k M p (unless_false x y r) =
    ((mark_at M (p + 5) ≡ mark_of k x (p + 5 + bits x)) × HasIn k M (p + 5) x)
    × ((mark_at M (p + 5 + bits x) ≡ mark_of k y (p + 5 + bits x + bits y)) × HasIn k M (p + 5 + bits x) y)
    × HasIn k M (p + 5 + bits x + bits y) r
HasIn k M p (make_cont n x r) = ((mark_at M (p + 13) ≡ mark_of k x (p + 13 + bits x)) × HasIn k M (p + 13) x) × HasIn k M (p + 13 + bits x) r

-- and its own
abbrev pub Has : Keep → List ℕ → ℕ → Code → Type 0
Has k M p c = (mark_at M p ≡ mark_of k c (p + bits c)) × HasIn k M p c
