-- What stands at a code place of a tree list and of linear code (document 01, 'Rules' and 'Codes').
use Rattle.std.specs.Prelude.{ℕ, ◌+◌, ◌*◌, Bool, true, false, List, [], ◌∷◌, ltb, leb, eqb, get_or, take, drop}
use Rattle.std.proofs.Math.Bool.{cond}
use Rattle.std.proofs.Math.Option.{Option, none, some}
use Rattle.std.proofs.Math.ListN.{length}
use Rattle.files.specs.Codes.{operand_bytes}
use Rattle.files.specs.Code.{Code, done, neutral, return, call, unless_false, make_cont, bits}
use Rattle.files.specs.Entries.{Entry, constant, global, template}
use Rattle.files.specs.Grammar.{is_closed, entry_of}
use Rattle.files.specs.Tree.{Template}
use Rattle.files.specs.Linear.{Linear}
use Rattle.files.specs.Table.{constant_cell}
use Rattle.rules.specs.declared.Plain.{Plain}
use Rattle.rules.specs.declared.Plain.TheVariants.{Literal, Closure, Global, SetGlobal, Local, SetLocal, Push, Unspecified, MakeEnv, CheckArgs, Cons, Car, Cdr}
use Rattle.rules.specs.declared.Plain.TheVariants.{Eqv, Add, Sub, Less, FloorDiv}

-- the places in it are where to go on
pub data Fetched : Type 0 where
  plain : Plain → ℕ → Fetched
  returns : Fetched
  calls : ℕ → Fetched
  -- 1 where it is an open conditional of a tree, the first arm, the second arm
  branches : ℕ → ℕ → ℕ → Fetched
  -- n, the saved place, the rest
  saves : ℕ → ℕ → ℕ → Fetched
  jumps : ℕ → Fetched
  -- 16
  bad : Fetched

-- ---- a neutral code's rule
-- what an index names: a constant, as its cell; a global; a template; or nothing that can be used
pub data Named : Type 0 where
  constant_named : ℕ → Named
  global_named : ℕ → Named
  template_named : ℕ → Named
  none_named : Named

unfoldable pub named_by : Option Entry → Named
named_by none = none_named
named_by (some (constant t x)) = constant_named (constant_cell t x)
named_by (some (global g)) = global_named g
named_by (some (template t)) = template_named t

-- none where the entry is unfit
unfoldable pub as_literal : Named → Option Plain
as_literal (constant_named x) = some (Literal x)
as_literal (global_named g) = none
as_literal (template_named t) = none
as_literal none_named = none

unfoldable pub as_closure : Named → Option Plain
as_closure (constant_named x) = none
as_closure (global_named g) = none
as_closure (template_named t) = some (Closure t)
as_closure none_named = none

unfoldable pub as_global : (ℕ → Plain) → Named → Option Plain
as_global f (constant_named x) = none
as_global f (global_named g) = some (f g)
as_global f (template_named t) = none
as_global f none_named = none

-- the rule of a code with operands a and b, of which it may have fewer, where the template's indices name so
unfoldable pub rule_of : (ℕ → Named) → ℕ → ℕ → ℕ → Option Plain
unfolding as_literal as_closure as_global
rule_of named op a b =
    cond (eqb op 6) (as_literal (named a))
    (cond (eqb op 7) (as_closure (named a))
    (cond (eqb op 8) (as_global Global (named a))
    (cond (eqb op 9) (as_global SetGlobal (named a))
    (cond (eqb op 10) (some (Local a b))
    (cond (eqb op 11) (some (SetLocal a b))
    (cond (eqb op 12) (some Push)
    (cond (eqb op 13) (some (MakeEnv a))
    (cond (eqb op 15) (some Unspecified)
    (cond (eqb op 16) (some (CheckArgs a))
    (cond (eqb op 18) (some Cons)
    (cond (eqb op 19) (some Car)
    (cond (eqb op 20) (some Cdr)
    (cond (eqb op 21) (some Eqv)
    (cond (eqb op 22) (some Add)
    (cond (eqb op 23) (some Sub)
    (cond (eqb op 24) (some Less)
    (cond (eqb op 25) (some FloorDiv) none)))))))))))))))))

-- by the template's entries
unfoldable pub resolve : List Entry → ℕ → List ℕ → Option Plain
unfolding named_by rule_of
resolve es op ns = rule_of (λ n. named_by (entry_of es n)) op (get_or ns 0 0) (get_or ns 1 0)

unfoldable pub plainly : Option Plain → ℕ → Fetched
plainly (some i) p = plain i p
plainly none p = bad

-- 1 for an open conditional: its arms are not closed
unfoldable pub open_count : Bool → ℕ
open_count true = 0
open_count false = 1

module _ (es : List Entry) where
  -- ---- a tree: s is the list's first bit, and F what comes after the list, already found: after an arm what follows its conditional, after
  -- a saved list what follows the list that holds its make-cont. Reaching a list's end is no step.
  -- what stands at the head of a list
  unfoldable pub first : ℕ → Code → Fetched → Fetched
  unfolding open_count plainly resolve
  first s done F = F
  first s (neutral op ns r) F = plainly (resolve es op ns) (s + (5 + 8 * length ns))
  first s (return r) F = returns
  first s (call n r) F = calls n
  first s (unless_false x y r) F = branches (open_count (is_closed x)) (s + 5) (s + 5 + bits x)
  first s (make_cont n x r) F = saves n (s + 13) (s + 13 + bits x)

  -- what stands at place p of a list: what begins it, or by `more` what stands beyond that
  abbrev pub look_by : (ℕ → Fetched → ℕ → Fetched) → ℕ → Code → Fetched → ℕ → Fetched
  look_by more s c F p = cond (eqb p s) (first s c F) (more s F p)

  unfoldable pub beyond : Code → ℕ → Fetched → ℕ → Fetched
  unfolding first
  beyond done s F p = bad
  beyond (neutral op ns r) s F p = look_by (beyond r) (s + (5 + 8 * length ns)) r F p
  beyond (return r) s F p = look_by (beyond r) (s + 5) r F p
  beyond (call n r) s F p = look_by (beyond r) (s + 13) r F p
  beyond (unless_false x y r) s F p =
      cond (ltb p (s + 5 + bits x)) (look_by (beyond x) (s + 5) x (first (s + 5 + bits x + bits y) r F) p)
      (cond (ltb p (s + 5 + bits x + bits y)) (look_by (beyond y) (s + 5 + bits x) y (first (s + 5 + bits x + bits y) r F) p)
      (look_by (beyond r) (s + 5 + bits x + bits y) r F p))
  beyond (make_cont n x r) s F p = cond (ltb p (s + 13 + bits x)) (look_by (beyond x) (s + 13) x F p) (look_by (beyond r) (s + 13 + bits x) r bad p)

  unfoldable pub look : ℕ → Code → Fetched → ℕ → Fetched
  unfolding first beyond
  look s c F p = look_by (beyond c) s c F p

-- ---- linear code
-- the offset that begins the bytes w after a code
abbrev pub offset_in : List ℕ → ℕ
offset_in w = 256 * get_or w 0 0 + get_or w 1 0

-- what stands at a place: code op with the bytes w after it; `next` is the place past the instruction, and `other` what a code does that
-- is none of 1 to 5
unfoldable pub transfer : ℕ → List ℕ → ℕ → Fetched → Fetched
transfer op w next other =
    cond (eqb op 1) returns
    (cond (eqb op 2) (calls (get_or w 0 0))
    (cond (eqb op 3) (branches 0 next (next + offset_in w))
    (cond (eqb op 4) (saves (get_or w 2 0) (next + offset_in w) next)
    (cond (eqb op 5) (jumps (next + offset_in w)) other))))

-- an instruction is as long as the table of codes says, whatever its code; one that is cut is bad
abbrev pub within : ℕ → ℕ → List ℕ → (ℕ → Fetched) → Fetched
within q op w f = cond (leb (operand_bytes op) (length w)) (f (q + (1 + operand_bytes op))) bad

-- linear code that stands at q
unfoldable pub decode : List Entry → ℕ → List ℕ → Fetched
unfolding transfer plainly resolve
decode es q [] = bad
decode es q (op ∷ w) = within q op w (λ next. transfer op w next (plainly (resolve es op (take (operand_bytes op) w)) next))

-- ---- a template by its number; no closure names one that is not there, and what would stand there is a return
abbrev pub no_template : Template
no_template = record { entries = []; start = 0; code = return done }

abbrev pub no_linear : Linear
no_linear = record { entries = []; start = 0; code = 1 ∷ [] }

unfoldable pub tree_at : List Template → ℕ → ℕ → Fetched
tree_at ts t p = look (get_or ts t no_template).entries (get_or ts t no_template).start (get_or ts t no_template).code bad p

unfoldable pub linear_at : List Linear → ℕ → ℕ → Fetched
linear_at ts t q = decode (get_or ts t no_linear).entries q (drop q (get_or ts t no_linear).code)
