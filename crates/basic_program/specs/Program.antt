-- What stands at a code place of basic byte code (document 02, request 6): a place is a bit number in the basic file, and templates have the tabulator's
-- numbers.
use Rattle.std.specs.Prelude.{ℕ, suc, ◌+◌, ◌*◌, cond, List, [], ◌∷◌, ◌++◌, ltb, eqb, length, get_or}
use Rattle.std.proofs.Math.Option.{Option, some}
use Rattle.files.specs.Entries.{Entry}
use Rattle.basic.specs.Basic.{Basic, ended, plain as plain_code, carries, closure, branch, save, carried_bits, bits}
use Rattle.basic.specs.Tabulated.{inside}
use Rattle.rules.specs.declared.Plain.{Plain}
use Rattle.rules.specs.declared.Plain.TheVariants.{Closure}
use Rattle.machines.specs.Fetched.{Fetched, plain, returns, calls, branches, saves, bad, named_by, rule_of, resolve, plainly}
use Rattle.machines.specs.Machine.{Program}

-- ---- an instruction
-- return, call, or a neutral code from 10 on, which names no entry; p is the place past it
unfoldable pub plain_at : ℕ → List ℕ → ℕ → Fetched
unfolding plainly resolve
plain_at v ns p = cond (eqb v 1) returns (cond (eqb v 2) (calls (get_or ns 0 0)) (plainly (resolve [] v ns) p))

-- literal, global or set-global!: by the constant or the global that stands in it
unfoldable pub carried : ℕ → Entry → Option Plain
unfolding named_by rule_of
carried v e = rule_of (λ n. named_by (some e)) v 0 0

-- ---- a list: s is its first bit, n the number of the first template in it, and F what comes after the list, already found: after an arm what follows its
-- conditional, after a saved list what follows the list that holds its make-cont. Reaching a list's end is no step.
-- what stands at the head of a list
unfoldable pub first : ℕ → ℕ → Basic → Fetched → Fetched
unfolding plain_at plainly carried
first n s ended F = F
first n s (plain_code v ns r) F = plain_at v ns (s + (5 + 8 * length ns))
first n s (carries v e r) F = plainly (carried v e) (s + (5 + carried_bits e))
first n s (closure x r) F = plain (Closure n) (s + 5 + bits x)
first n s (branch x y r) F = branches 0 (s + 5) (s + 5 + bits x)
first n s (save m x r) F = saves m (s + 13) (s + 13 + bits x)

-- what stands at place p of a list; a closure's list is another template's
unfoldable pub look : ℕ → ℕ → Basic → Fetched → ℕ → Fetched
unfolding first
look n s ended F p = cond (eqb p s) F bad
look n s (plain_code v ns r) F p = cond (eqb p s) (first n s (plain_code v ns r) F) (look n (s + (5 + 8 * length ns)) r F p)
look n s (carries v e r) F p = cond (eqb p s) (first n s (carries v e r) F) (look n (s + (5 + carried_bits e)) r F p)
look n s (closure x r) F p = cond (eqb p s) (first n s (closure x r) F) (look (suc n + inside x) (s + 5 + bits x) r F p)
look n s (branch x y r) F p =
    cond (eqb p s) (first n s (branch x y r) F)
    (cond (ltb p (s + 5 + bits x)) (look n (s + 5) x (first (n + inside x + inside y) (s + 5 + bits x + bits y) r F) p)
    (cond (ltb p (s + 5 + bits x + bits y)) (look (n + inside x) (s + 5 + bits x) y (first (n + inside x + inside y) (s + 5 + bits x + bits y) r F) p)
    (look (n + inside x + inside y) (s + 5 + bits x + bits y) r F p)))
look n s (save m x r) F p =
    cond (eqb p s) (first n s (save m x r) F)
    (cond (ltb p (s + 13 + bits x)) (look n (s + 13) x F p) (look (n + inside x) (s + 13 + bits x) r bad p))

-- ---- templates
-- a template's list, its first bit, and the number of the first template in it
pub record Body : Type 0 where
  pub list : Basic
  pub start : ℕ
  pub next : ℕ

abbrev pub body : ℕ → ℕ → Basic → Body
body n s c = record { list = c; start = s; next = n }

-- those of the closures in a list that begins at s, the first of them number n: in the order of their numbers
unfoldable pub bodies : ℕ → ℕ → Basic → List Body
bodies n s ended = []
bodies n s (plain_code v ns r) = bodies n (s + (5 + 8 * length ns)) r
bodies n s (carries v e r) = bodies n (s + (5 + carried_bits e)) r
bodies n s (closure x r) = body (suc n) (s + 5) x ∷ (bodies (suc n) (s + 5) x ++ bodies (suc n + inside x) (s + 5 + bits x) r)
bodies n s (branch x y r) =
    bodies n (s + 5) x ++ (bodies (n + inside x) (s + 5 + bits x) y ++ bodies (n + inside x + inside y) (s + 5 + bits x + bits y) r)
bodies n s (save m x r) = bodies n (s + 13) x ++ bodies (n + inside x) (s + 13 + bits x) r

-- all: the file's own list is template 0, and begins at bit 0
unfoldable pub all_bodies : Basic → List Body
unfolding bodies
all_bodies c = body 1 0 c ∷ bodies 1 0 c

-- no closure names a template that is not there, and what would stand there is a return
abbrev pub no_body : Body
no_body = body 1 0 (plain_code 1 [] ended)

unfoldable pub basic_at : Basic → ℕ → ℕ → Fetched
unfolding all_bodies look
basic_at c t p = look (get_or (all_bodies c) t no_body).next (get_or (all_bodies c) t no_body).start (get_or (all_bodies c) t no_body).list bad p

abbrev pub basic_program : Basic → Program
basic_program c = record { fetch = basic_at c; start = λ t. (get_or (all_bodies c) t no_body).start }
