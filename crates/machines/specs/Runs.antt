-- A whole run (document 01, 'Cells' and 'Rules'): what is refused at the start, and what a run returns and leaves.
use Rattle.std.specs.Prelude.{ℕ, ◌+◌, Bool, cond, ◌&&◌, List, [], ◌∷◌, leb, eqb, length, replicate}
use Rattle.std.proofs.Math.Option.{Option, none, some}
use Rattle.std.specs.Borrow.{MutBor}
use Rattle.cells.specs.Cells.{starting_global, undefined_cell, unspecified_cell, value_of, cell_of}
use Rattle.cells.specs.Numbers.{budget_spent, wrong_length, large_budget, unknown_owner, unfit_global}
use Rattle.files.specs.Reading.{Got, got, refused}
use Rattle.files.specs.Tree.{Template}
use Rattle.files.specs.Linear.{Linear, linear_read}
use Rattle.files.specs.Accepted.{tree_checked, tree_accepted}
use Rattle.owners.specs.Owners.{is_owner, owner_of}
use Rattle.owners.specs.declared.Owner.{Owner}
use Rattle.rules.specs.State.{mem, regs}
use Rattle.rules.specs.Rules.{Data}
use Rattle.machines.specs.Machine.{Program, tree_program, linear_program, State, at, no_counts, Ending, halted, wrongly, spent, Ended, run}
use Rattle.machines.specs.declared.End.{End}
use Rattle.machines.specs.declared.End.TheVariants.{Halted, Wrong, OutOfBudget, Refused}
use Rattle.machines.specs.declared.Run.{Run}

-- what is lent to a run
pub record Memory : Type 0 where
  pub globals : List ℕ
  pub stack : List ℕ
  pub store : List ℕ
  pub frames : List ℕ

abbrev pub memory : List ℕ → List ℕ → List ℕ → List ℕ → Memory
memory g s t f = record { globals = g; stack = s; store = t; frames = f }

-- what four lent slices hold
abbrev pub lent : MutBor (List ℕ) → MutBor (List ℕ) → MutBor (List ℕ) → MutBor (List ℕ) → Memory
lent g s t f = memory g.now s.now t.now f.now

-- fresh memory, all globals undefined
abbrev pub fresh_memory : Memory
fresh_memory = memory (replicate 256 undefined_cell) (replicate 256 0) (replicate 2048 0) (replicate 2048 0)

-- what a run returns, and the memory that it leaves
pub data Ran : Type 0 where
  ran : Run → Memory → Ran

abbrev pub run_of : Ran → Run
run_of (ran r m) = r

abbrev pub left_of : Ran → Memory
left_of (ran r m) = m

-- a refused run has its number and place, zero steps and counts, and leaves everything as it was
unfoldable pub refused_run : ℕ → ℕ → Memory → Ran
refused_run n p m = ran (record { end = Refused n p; steps = 0; stack = 0; store = 0; frames = 0 }) m

-- ---- 20, 21, 31, 22
unfoldable pub right_lengths : Memory → Bool
right_lengths m = eqb (length m.globals) 256 && (eqb (length m.stack) 256 && (eqb (length m.store) 2048 && eqb (length m.frames) 2048))

-- the lowest global, counted from n on, that is not one to start with
unfoldable pub lowest_unfit : ℕ → List ℕ → Option ℕ
lowest_unfit n [] = none
lowest_unfit n (c ∷ cs) = cond (starting_global c) (lowest_unfit (n + 1) cs) (some n)

-- the run, or refused 22
unfoldable pub fit_globals : Option ℕ → Memory → Ran → Ran
fit_globals (some g) m r = refused_run unfit_global g m
fit_globals none m r = r

-- the run, or refused 31: o is the owner's number
unfoldable pub by_owner : ℕ → Memory → Ran → Ran
unfolding is_owner
by_owner o m r = cond (is_owner o) r (refused_run unknown_owner 0 m)

unfoldable pub started : ℕ → ℕ → ℕ → Memory → Ran → Ran
unfolding right_lengths by_owner lowest_unfit fit_globals
started most b o m r =
    cond (right_lengths m)
    (cond (leb b most) (by_owner o m (fit_globals (lowest_unfit 0 m.globals) m r)) (refused_run large_budget 0 m))
    (refused_run wrong_length 0 m)

-- ---- the run of a program
-- template 0, v not-specified, nothing on the stack, environment 0, no frames; stack, store and frames zero
unfoldable pub start_state : List ℕ → ℕ → State
start_state g p =
    at (record { regs = regs unspecified_cell 0 0 0; mem = mem g (replicate 256 0) (replicate 2048 0); frames = replicate 2048 0; fr = 0 }) 0 p

unfoldable pub end_of : Ending → ℕ → End
end_of halted v = Halted (value_of v)
end_of (wrongly n) v = Wrong n
end_of spent v = OutOfBudget

unfoldable pub memory_of : Data → Memory
memory_of d = memory d.mem.globals d.mem.stack d.mem.store d.frames

unfoldable pub reported : Ended → Ran
unfolding end_of memory_of
reported e =
    ran
    (record {
      end = end_of e.ending e.state.now.regs.v;
      steps = e.counts.steps;
      stack = e.state.now.regs.sp;
      store = e.state.now.regs.st;
      frames = e.state.now.fr;
    })
    (memory_of e.state.now)

-- a program's run from the globals g with b steps at most
unfoldable pub program_run : Owner → Program → ℕ → List ℕ → Ended
program_run o P b g = run o P b no_counts (start_state g (P.start 0))

-- ---- the two machines
unfoldable pub on_tree : Owner → ℕ → Memory → Got (List Template) → Ran
on_tree o b m (got ts q) = reported (program_run o (tree_program ts) b m.globals)
on_tree o b m (refused n p) = refused_run n p m

unfoldable pub on_linear : Owner → ℕ → Memory → Got (List Linear) → Ran
on_linear o b m (got ts q) = reported (program_run o (linear_program ts) b m.globals)
on_linear o b m (refused n p) = refused_run n p m

-- the file, the budget, the owner's number, and what is lent
unfoldable pub tree_run : List ℕ → ℕ → ℕ → Memory → Ran
unfolding on_tree started owner_of
tree_run s b o m = started 1000000 b o m (on_tree (owner_of o) b m (tree_accepted s))

-- the tree machine with request 4's check, 24, left aside: requests 5 and 13 speak of it
unfoldable pub checked_run : List ℕ → ℕ → ℕ → Memory → Ran
unfolding on_tree started owner_of
checked_run s b o m = started 1000000 b o m (on_tree (owner_of o) b m (tree_checked s))

unfoldable pub linear_run : List ℕ → ℕ → ℕ → Memory → Ran
unfolding on_linear started owner_of
linear_run s b o m = started 2000000 b o m (on_linear (owner_of o) b m (linear_read s))

-- ---- document 01's number for each end
unfoldable pub number_of : End → ℕ
number_of (Halted v) = 0
number_of (Wrong n) = n
number_of OutOfBudget = budget_spent
number_of (Refused n p) = n

-- the answer's cell: cell 0 unless halted
unfoldable pub answer_cell : End → ℕ
answer_cell (Halted v) = cell_of v
answer_cell (Wrong n) = 0
answer_cell OutOfBudget = 0
answer_cell (Refused n p) = 0
