-- Demand 3 and request 8, for each owner (request 12), the statement. Its proof stands in Proved.antt. Everything it speaks of is defined in the specs of
-- files, flatten and
-- machines.
--
-- For a file the flattener accepts (request 4: 24 is one of its refusals), the same starting globals, a budget of b steps (at most 1,000,000) and the
-- same owner o (0 or 1):
--   Forward: if the tree machine with budget b ends (halts or goes wrong, not out of budget), the linear machine with budget 2 b ends alike;
--   Backward: if the linear machine ends with budget b, so does the tree machine with b, alike.
-- Alike: same end, answer, globals, stack, store, frames (only saved code places aside) and used counts; the linear machine takes the tree
-- machine's steps plus its jumps; there are never more jumps than open conditionals that took their first arm, and where the runs halt exactly
-- as many (request 8).
use Rattle.std.specs.Prelude.{ℕ, ◌+◌, ◌*◌, ◌-◌, ◌≤◌, ◌≡◌, true, cond, List, map, eqb}
use Rattle.std.proofs.Math.Option.{none}
use Rattle.cells.specs.Cells.{tag_of, frame_place}
use Rattle.cells.specs.declared.Value.{Value}
use Rattle.files.specs.Reading.{Got, got, refused}
use Rattle.files.specs.Tree.{Template}
use Rattle.files.specs.Linear.{Linear, linear_read}
use Rattle.files.specs.Accepted.{tree_accepted}
use Rattle.flatten.specs.Flatten.{flattened}
use Rattle.owners.specs.Owners.{owner_of}
use Rattle.owners.specs.declared.Owner.{Owner}
use Rattle.machines.specs.Machine.{Counts, no_counts, tree_program, linear_program}
use Rattle.machines.specs.Runs.{Memory, Ran, run_of, left_of, right_lengths, lowest_unfit, program_run, tree_run, linear_run}
use Rattle.machines.specs.declared.End.TheVariants.{Halted, OutOfBudget}

-- a cell, without the code place where it is a frame
unfoldable pub aside : ℕ → ℕ
aside c = cond (eqb (tag_of c) 10) (c - frame_place c * 0x10) c

-- the jumps of a linear file's run, and the open conditionals that took their first arm in a tree file's run, from the globals g
unfoldable pub linear_counts : Owner → ℕ → List ℕ → Got (List Linear) → Counts
linear_counts o b g (got ts q) = (program_run o (linear_program ts) b g).counts
linear_counts o b g (refused n p) = no_counts

unfoldable pub tree_counts : Owner → ℕ → List ℕ → Got (List Template) → Counts
tree_counts o b g (got ts q) = (program_run o (tree_program ts) b g).counts
tree_counts o b g (refused n p) = no_counts

abbrev pub jumps_made : List ℕ → ℕ → ℕ → List ℕ → ℕ
jumps_made w b o g = (linear_counts (owner_of o) b g (linear_read w)).jumps

abbrev pub first_arms : List ℕ → ℕ → ℕ → List ℕ → ℕ
first_arms s b o g = (tree_counts (owner_of o) b g (tree_accepted s)).firsts

-- x of the tree machine, y of the linear machine
pub record EndAlike (x y : Ran) (jumps firsts : ℕ) : Type 0 where
  -- the end with its number, and the answer
  pub same_end : (run_of x).end ≡ (run_of y).end
  pub same_globals : (left_of x).globals ≡ (left_of y).globals
  pub same_stack : (left_of x).stack ≡ (left_of y).stack
  pub same_store : (left_of x).store ≡ (left_of y).store
  pub same_frames : map aside (left_of x).frames ≡ map aside (left_of y).frames
  pub same_stack_used : (run_of x).stack ≡ (run_of y).stack
  pub same_store_used : (run_of x).store ≡ (run_of y).store
  pub same_frames_used : (run_of x).frames ≡ (run_of y).frames
  pub steps : (run_of y).steps ≡ (run_of x).steps + jumps
  pub at_most : jumps ≤ firsts
  pub exactly : (v : Value) → (run_of x).end ≡ Halted v → jumps ≡ firsts

-- w is the linear file that the flattener writes for s into an output of n bytes
abbrev pub Flattens : List ℕ → ℕ → List ℕ → Type 0
Flattens s n w = (q : ℕ) × (flattened s n ≡ got w q)

-- what is lent passes 20 and 22, and has the starting globals g; stack, store and frames may hold anything
pub record StartsFrom (g : List ℕ) (m : Memory) : Type 0 where
  pub lengths : right_lengths m ≡ true
  pub globals : m.globals ≡ g
  pub fit : lowest_unfit 0 g ≡ none

abbrev pub Ends : Ran → Type 0
Ends x = (run_of x).end ≡ OutOfBudget → ⊥

-- m is lent to the tree machine, m' to the linear machine
abbrev pub Forward : Type 0
Forward =
    (s w g : List ℕ) (n b o : ℕ) (m m' : Memory) → Flattens s n w → StartsFrom g m → StartsFrom g m' → b ≤ 1000000 → o ≤ 1
    → Ends (tree_run s b o m)
    → EndAlike (tree_run s b o m) (linear_run w (2 * b) o m') (jumps_made w (2 * b) o g) (first_arms s b o g)

abbrev pub Backward : Type 0
Backward =
    (s w g : List ℕ) (n b o : ℕ) (m m' : Memory) → Flattens s n w → StartsFrom g m → StartsFrom g m' → b ≤ 1000000 → o ≤ 1
    → Ends (linear_run w b o m')
    → EndAlike (tree_run s b o m) (linear_run w b o m') (jumps_made w b o g) (first_arms s b o g)
