-- One machine for every form of code: a program says what stands at a code place, the data rules do the rest.
use Rattle.std.specs.Prelude.{ℕ, zero, suc, ◌+◌, cond, List, get_or}
use Rattle.cells.specs.Numbers.{bad_code}
use Rattle.files.specs.Tree.{Template}
use Rattle.files.specs.Linear.{Linear}
use Rattle.rules.specs.State.{Res, ok, wrong}
use Rattle.owners.specs.declared.Owner.{Owner}
use Rattle.rules.specs.Owned.{owned_rule}
use Rattle.rules.specs.Rules.{Data, applied, called, call_rule, make_cont_rule, Back, no_frame, back_to, return_rule, is_false}
use Rattle.rules.specs.declared.Regs.{Regs}
use Rattle.machines.specs.Fetched.{Fetched, plain, returns, calls, branches, saves, jumps, bad, no_template, tree_at, linear_at}

-- what stands at a place of a template, and where a template's code begins
pub record Program : Type 0 where
  pub fetch : ℕ → ℕ → Fetched
  pub start : ℕ → ℕ

abbrev pub tree_program : List Template → Program
tree_program ts = record { fetch = tree_at ts; start = λ t. (get_or ts t no_template).start }

abbrev pub linear_program : List Linear → Program
linear_program ts = record { fetch = linear_at ts; start = λ t. 0 }

pub record State : Type 0 where
  pub now : Data
  pub template : ℕ
  pub place : ℕ

abbrev pub at : Data → ℕ → ℕ → State
at d t p = record { now = d; template = t; place = p }

-- what one step does: on, halted, or wrong with nothing changed
pub data Step : Type 0 where
  go : State → Step
  halt : Step
  stop : ℕ → Step

unfoldable pub bind : {A : Type 0} → Res A → (A → Step) → Step
bind (ok a) f = f a
bind (wrong n) f = stop n

-- ---- each kind of instruction
unfoldable pub returned : Back → Step
returned no_frame = halt
returned (back_to t p d) = go (at d t p)

-- o: whose run it is (request 12)
module _ (o : Owner) (P : Program) where
  unfoldable pub act : Fetched → State → Step
  unfolding bind returned
  act (plain i p) s = bind (owned_rule o i s.now.mem s.now.regs) (λ h. go (at (applied s.now h) s.template p))
  act returns s = returned (return_rule s.now)
  act (calls n) s = bind (call_rule n s.now.regs) (λ r. go (at (called s.now r.1) r.0 (P.start r.0)))
  act (branches o p q) s = go (at s.now s.template (cond (is_false s.now.regs) q p))
  act (saves n p q) s = bind (make_cont_rule n s.template p s.now) (λ d. go (at d s.template q))
  act (jumps p) s = go (at s.now s.template p)
  act bad s = stop bad_code

abbrev pub here : Program → State → Fetched
here P s = P.fetch s.template s.place

unfoldable pub step : Owner → Program → State → Step
unfolding act
step o P s = act o P (here P s) s

-- ---- runs
-- steps: the rules applied; jumps: those that were jumps; firsts: the open conditionals of a tree that took their first arm
pub record Counts : Type 0 where
  pub steps : ℕ
  pub jumps : ℕ
  pub firsts : ℕ

abbrev pub no_counts : Counts
no_counts = record { steps = 0; jumps = 0; firsts = 0 }

unfoldable pub jump_count : Fetched → ℕ
jump_count (plain i p) = 0
jump_count returns = 0
jump_count (calls n) = 0
jump_count (branches o p q) = 0
jump_count (saves n p q) = 0
jump_count (jumps p) = 1
jump_count bad = 0

unfoldable pub first_count : Fetched → Regs → ℕ
first_count (plain i p) r = 0
first_count returns r = 0
first_count (calls n) r = 0
first_count (branches o p q) r = cond (is_false r) 0 o
first_count (saves n p q) r = 0
first_count (jumps p) r = 0
first_count bad r = 0

-- one applied rule is one step
unfoldable pub counted : Fetched → State → Counts → Counts
unfolding jump_count first_count
counted F s k = record { steps = suc k.steps; jumps = jump_count F + k.jumps; firsts = first_count F s.now.regs + k.firsts }

pub data Ending : Type 0 where
  halted : Ending
  wrongly : ℕ → Ending
  -- 19
  spent : Ending

pub record Ended : Type 0 where
  pub ending : Ending
  pub counts : Counts
  pub state : State

abbrev pub ended : Ending → Counts → State → Ended
ended e k s = record { ending = e; counts = k; state = s }

-- what follows a step that was taken in state s with the counts k before it and k' after it
unfoldable pub next : (Counts → State → Ended) → Counts → Counts → State → Step → Ended
next run k k' s (go s') = run k' s'
next run k k' s halt = ended halted k' s
next run k k' s (stop n) = ended (wrongly n) k s

-- at most b more steps
unfoldable pub run : Owner → Program → ℕ → Counts → State → Ended
unfolding next step counted
run o P zero k s = ended spent k s
run o P (suc b) k s = next (λ k' s'. run o P b k' s') k (counted (here P s) s k) s (step o P s)
