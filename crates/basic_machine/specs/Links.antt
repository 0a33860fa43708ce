-- Links: what a run keeps of the lists of an accepted basic file, by place / 5 (a code takes at least 5 bits, so two of them never share a link). At
-- unless-false: the first bit of the second arm; at make-cont: the first bit of its rest; at closure: the place past its list and, below that, its template's
-- number; at a list's end: the instruction with which execution goes on, 0 where it does not.
use Rattle.std.specs.Prelude.{ℕ, suc, ◌+◌, ◌*◌, List, length, set}
use Rattle.links.specs.Links.{link}
use Rattle.basic.specs.Basic.{Basic, ended, plain, carries, closure, branch, save, carried_bits, bits}
use Rattle.basic.specs.Tabulated.{inside}

-- with which instruction execution goes on at q, where the list c begins, after which it goes on at f
unfoldable pub onward : Basic → ℕ → ℕ → ℕ
onward ended f q = f
onward (plain v ns r) f q = q
onward (carries v e r) f q = q
onward (closure x r) f q = q
onward (branch x y r) f q = q
onward (save m x r) f q = q

-- L with the links of the list c that begins at p, after which execution goes on at f; n is the number of the first template in it
unfoldable pub linked : List ℕ → ℕ → ℕ → ℕ → Basic → List ℕ
linked L n f p ended = link L p f
linked L n f p (plain v ns r) = linked L n f (p + (5 + 8 * length ns)) r
linked L n f p (carries v e r) = linked L n f (p + (5 + carried_bits e)) r
linked L n f p (closure x r) =
    linked (linked (link L p (64 * (p + 5 + bits x) + n)) (suc n) 0 (p + 5) x) (suc n + inside x) f (p + 5 + bits x) r
linked L n f p (branch x y r) =
    linked
    (linked
    (linked (link L p (p + 5 + bits x)) n (onward r f (p + 5 + bits x + bits y)) (p + 5) x)
    (n + inside x) (onward r f (p + 5 + bits x + bits y)) (p + 5 + bits x) y)
    (n + inside x + inside y) f (p + 5 + bits x + bits y) r
linked L n f p (save m x r) = linked (linked (link L p (p + 13 + bits x)) n f (p + 13) x) (n + inside x) 0 (p + 13 + bits x) r

-- where each template's list begins, in slot 0 of its row
unfoldable pub tabled : List ℕ → ℕ → ℕ → Basic → List ℕ
tabled T n p ended = T
tabled T n p (plain v ns r) = tabled T n (p + (5 + 8 * length ns)) r
tabled T n p (carries v e r) = tabled T n (p + (5 + carried_bits e)) r
tabled T n p (closure x r) = tabled (tabled (set T (256 * n) (p + 5)) (suc n) (p + 5) x) (suc n + inside x) (p + 5 + bits x) r
tabled T n p (branch x y r) =
    tabled (tabled (tabled T n (p + 5) x) (n + inside x) (p + 5 + bits x) y) (n + inside x + inside y) (p + 5 + bits x + bits y) r
tabled T n p (save m x r) = tabled (tabled T n (p + 13) x) (n + inside x) (p + 13 + bits x) r
