-- Orphan templates (document 02, request 4; refusal 24): those other than 0 that no closure instruction of any template names.
use Rattle.std.specs.Prelude.{ℕ, zero, suc, ◌+◌, ◌-◌, Bool, false, cond, ◌&&◌, ◌||◌, List, [], ◌∷◌, length, get_or, eqb}
use Rattle.std.proofs.Math.Option.{Option, none, some}
use Rattle.files.specs.Code.{Code, done, neutral, return, call, unless_false, make_cont}
use Rattle.files.specs.Entries.{Entry, constant, global, template}
use Rattle.files.specs.Tree.{Template}
use Rattle.files.specs.Grammar.{entry_of}

-- the entry is template u
unfoldable pub is_template : ℕ → Option Entry → Bool
is_template u none = false
is_template u (some (constant t x)) = false
is_template u (some (global g)) = false
is_template u (some (template t)) = eqb t u

-- a closure instruction of the list names template u, through an entry of its own template; whether it ever runs does not matter
unfoldable pub closes : List Entry → ℕ → Code → Bool
unfolding is_template
closes es u done = false
closes es u (neutral op ns r) = (eqb op 7 && is_template u (entry_of es (get_or ns 0 0))) || closes es u r
closes es u (return r) = closes es u r
closes es u (call m r) = closes es u r
closes es u (unless_false x y r) = closes es u x || (closes es u y || closes es u r)
closes es u (make_cont m x r) = closes es u x || closes es u r

-- a closure instruction of some template, an orphan too, names template u
unfoldable pub closure_names : List Template → ℕ → Bool
unfolding closes
closure_names [] u = false
closure_names (t ∷ ts) u = closes t.entries u t.code || closure_names ts u

-- the lowest of n numbers from u on that a test refuses
unfoldable pub lowest_number : (ℕ → Bool) → ℕ → ℕ → Option ℕ
lowest_number ok u zero = none
lowest_number ok u (suc n) = cond (ok u) (lowest_number ok (u + 1) n) (some u)

-- of templates 1 to T - 1
unfoldable pub lowest_orphan : List Template → Option ℕ
unfolding closure_names lowest_number
lowest_orphan ts = lowest_number (closure_names ts) 1 (length ts - 1)
