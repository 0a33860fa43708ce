-- Links: what a run keeps of the lists of an accepted tree file, by place / 5 (an instruction takes at least 5 bits, so two of them never
-- share a link). At unless-false: the first bit of the second arm; at make-cont: the first bit of its rest; at a list's end: where
-- execution goes on. After an arm that is what follows its conditional, after a saved list the end of the list that holds its make-cont.
use Rattle.std.specs.Prelude.{ℕ, ◌+◌, ◌*◌, ◌/◌, List, [], ◌∷◌, length, get_or, set}
use Rattle.files.specs.Code.{Code, done, neutral, return, call, unless_false, make_cont, bits}
use Rattle.files.specs.Tree.{Template}

-- the link of a place
abbrev pub link_at : List ℕ → ℕ → ℕ
link_at L p = get_or L (p / 5) 0

abbrev pub link : List ℕ → ℕ → ℕ → List ℕ
link L p q = set L (p / 5) q

-- L with the links of the list c that begins at p, whose end is at e, and after which execution goes on at f
unfoldable pub linked : List ℕ → ℕ → ℕ → ℕ → Code → List ℕ
linked L p e f done = link L p f
linked L p e f (neutral op ns r) = linked L (p + (5 + 8 * length ns)) e f r
linked L p e f (return r) = linked L (p + 5) e f r
linked L p e f (call n r) = linked L (p + 13) e f r
linked L p e f (unless_false x y r) =
    linked
    (linked
    (linked (link L p (p + 5 + bits x)) (p + 5) (p + bits x) (p + 5 + bits x + bits y) x)
    (p + 5 + bits x) (p + bits x + bits y) (p + 5 + bits x + bits y) y)
    (p + 5 + bits x + bits y) e f r
linked L p e f (make_cont n x r) =
    linked (linked (link L p (p + 13 + bits x)) (p + 13) (p + 8 + bits x) e x) (p + 13 + bits x) e f r

-- the same of templates; a template's list never runs out, and neither does a saved list of it
unfoldable pub linked_all : List ℕ → List Template → List ℕ
unfolding linked
linked_all L [] = L
linked_all L (t ∷ ts) = linked_all (linked L t.start 0 0 t.code) ts
