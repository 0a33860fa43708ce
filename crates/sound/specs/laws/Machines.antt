-- The two machines: after an accepted start, at every end stack, store and frame cells not in use are zero (document 01, 'Cells'), an answer is a
-- value, and its cell is the one that v held. Assumes nothing.
use Rattle.std.specs.Prelude.{ℕ, ◌≤◌, ◌≡◌, refl, Bool, true, false, cond, List, leb, eqb, length}
use Rattle.std.proofs.Math.Bool.{and-eq-true_iff}
use Rattle.std.proofs.Math.Option.{Option, none, some}
use Rattle.std.proofs.Common.{eqb-true}
use Rattle.cells.specs.Cells.{value_of, cell_of}
use Rattle.cells.specs.declared.Value.TheVariants.{NoValue}
use Rattle.files.specs.Reading.{Got, got, refused}
use Rattle.files.specs.laws.AllGot.{AllGot}
use Rattle.files.specs.Tree.{Template}
use Rattle.files.specs.Linear.{Linear, linear_read}
use Rattle.files.specs.Accepted.{tree_accepted}
use Rattle.files.specs.Valid.{Bytes}
use Rattle.rules.specs.laws.Clean.{ZeroFrom}
use Rattle.owners.specs.Owners.{is_owner, owner_of}
use Rattle.owners.specs.declared.Owner.{Owner}
use Rattle.machines.specs.Machine.{Program, tree_program, linear_program, no_counts, Ending, halted, wrongly, spent, run}
use Rattle.machines.specs.Runs.{Memory, Ran, ran, run_of, refused_run, right_lengths, lowest_unfit, fit_globals, by_owner, started, start_state}
use Rattle.machines.specs.Runs.{end_of, answer_cell, memory_of, reported, program_run}
use Rattle.machines.specs.Runs.{on_tree, on_linear, tree_run, linear_run}
use Rattle.machines.specs.declared.End.{End}
use Rattle.machines.specs.declared.End.TheVariants.{Halted, Wrong, OutOfBudget, Refused}
use Rattle.machines.specs.declared.Run.{Run}
use Rattle.sound.specs.laws.Programs.{ProgramOk}
use Rattle.sound.specs.laws.Runs.{Kept, FitGlobals, fit_globals_lem, kept_run, value_run}
use Rattle.sound.specs.laws.Files.{tree_accepted_ok, linear_ok}

-- ---- the statements
-- a memory of the right lengths, zero from the used counts on, which are within it
pub record CleanMemory (r : Run) (m : Memory) : Type 0 where
  pub globals_length : length m.globals ≡ 256
  pub stack_length : length m.stack ≡ 256
  pub store_length : length m.store ≡ 2048
  pub frames_length : length m.frames ≡ 2048
  pub stack_count : r.stack ≤ 256
  pub store_count : r.store ≤ 2048
  pub frames_count : r.frames ≤ 2048
  pub stack_zero : ZeroFrom m.stack r.stack
  pub store_zero : ZeroFrom m.store r.store
  pub frames_zero : ZeroFrom m.frames r.frames

abbrev pub EndOk : End → Type 0 → Type 0
EndOk (Halted v) M = M × (v ≡ NoValue → ⊥)
EndOk (Wrong n) M = M
EndOk OutOfBudget M = M
EndOk (Refused n p) M = Unit {0}

-- what is said of a run that is not refused
abbrev pub RanOk : Ran → Type 0
RanOk (ran r m) = EndOk r.end (CleanMemory r m)

-- ---- a program's run
refused_ok : (n p : ℕ) (m : Memory) → RanOk (refused_run n p m)
unfolding refused_run
refused_ok n p m = tt

end_ok : (e : Ending) (v : ℕ) (M : Type 0) → M → (value_of v ≡ NoValue → ⊥) → EndOk (end_of e v) M
unfolding end_of
end_ok halted v M m h = (m, h)
end_ok (wrongly n) v M m h = m
end_ok spent v M m h = m

program_ok : (o : Owner) (P : Program) → ProgramOk P → (b : ℕ) (g : List ℕ) → FitGlobals g → RanOk (reported (program_run o P b g))
unfolding reported program_run memory_of
program_ok o P fit b g h =
    let e = run o P b no_counts (start_state g (P.start 0)) in
    let k : Kept e.state = kept_run o P fit g h b (P.start 0) in
    end_ok e.ending e.state.now.regs.v _
    (record {
      globals_length = k.sized.globals_length;
      stack_length = k.sized.stack_length;
      store_length = k.sized.store_length;
      frames_length = k.sized.frames_length;
      stack_count = k.bound.sp_bound;
      store_count = k.bound.st_bound;
      frames_count = k.bound.fr_bound;
      stack_zero = k.clean.clean_stack;
      store_zero = k.clean.clean_store;
      frames_zero = k.clean.clean_frames;
    })
    (value_run o P fit g h b (P.start 0)).1

-- the answer's cell is the cell that v held where the run halted, and cell 0 elsewhere (document 01, 'Rules')
abbrev answered : Ending → ℕ → ℕ
answered halted v = v
answered (wrongly n) v = 0
answered spent v = 0

pub answer_is : (o : Owner) (P : Program) → ProgramOk P → (b : ℕ) (g : List ℕ) → FitGlobals g
    → answer_cell (run_of (reported (program_run o P b g))).end ≡ answered (program_run o P b g).ending (program_run o P b g).state.now.regs.v
unfolding reported program_run end_of answer_cell
answer_is o P fit b g h =
    let e = run o P b no_counts (start_state g (P.start 0)) in
    by e.ending e.state.now.regs.v (value_run o P fit g h b (P.start 0)).2
  where
    by : (x : Ending) (v : ℕ) → cell_of (value_of v) ≡ v → answer_cell (end_of x v) ≡ answered x v
    by halted v e = e
    by (wrongly n) v e = refl
    by spent v e = refl

-- ---- the start
started_ok : (most b o : ℕ) (m : Memory) (r : Ran) → (FitGlobals m.globals → RanOk r) → RanOk (started most b o m r)
unfolding started by_owner fit_globals right_lengths
started_ok most b o m r h = lengths (right_lengths m) refl
  where
    globals : length m.globals ≡ 256 → (o : Option ℕ) → lowest_unfit 0 m.globals ≡ o → RanOk (fit_globals o m r)
    globals l (some g) e = refused_ok 22 g m
    globals l none e = h (fit_globals_lem m.globals l e)

    owner : length m.globals ≡ 256 → (c : Bool) → RanOk (cond c (fit_globals (lowest_unfit 0 m.globals) m r) (refused_run 31 0 m))
    owner l true = globals l (lowest_unfit 0 m.globals) refl
    owner l false = refused_ok 31 0 m

    budget : length m.globals ≡ 256 → (c : Bool) → RanOk (cond c (by_owner o m (fit_globals (lowest_unfit 0 m.globals) m r)) (refused_run 21 0 m))
    budget l true = owner l (is_owner o)
    budget l false = refused_ok 21 0 m

    lengths : (c : Bool) → right_lengths m ≡ c
        → RanOk (cond c (cond (leb b most) (by_owner o m (fit_globals (lowest_unfit 0 m.globals) m r)) (refused_run 21 0 m)) (refused_run 20 0 m))
    lengths true e = budget (eqb-true (length m.globals) 256 ((and-eq-true_iff (eqb (length m.globals) 256) _).0 e).0) (leb b most)
    lengths false e = refused_ok 20 0 m

-- ---- THE LAWS: whatever the file, the budget, the owner's number and the memory lent
pub tree_run_ok : (s : List ℕ) (b o : ℕ) (m : Memory) → RanOk (tree_run s b o m)
unfolding tree_run on_tree
tree_run_ok s b o m = started_ok 1000000 b o m _ (λ g. read g (tree_accepted s) (tree_accepted_ok s))
  where
    read : FitGlobals m.globals → (x : Got (List Template)) → AllGot (λ ts. ProgramOk (tree_program ts)) x → RanOk (on_tree (owner_of o) b m x)
    read g (got ts q) h = program_ok (owner_of o) (tree_program ts) h b m.globals g
    read g (refused n p) h = refused_ok n p m

pub linear_run_ok : (s : List ℕ) → Bytes s → (b o : ℕ) (m : Memory) → RanOk (linear_run s b o m)
unfolding linear_run on_linear
linear_run_ok s bytes b o m = started_ok 2000000 b o m _ (λ g. read g (linear_read s) (linear_ok s bytes))
  where
    read : FitGlobals m.globals → (x : Got (List Linear)) → AllGot (λ ts. ProgramOk (linear_program ts)) x → RanOk (on_linear (owner_of o) b m x)
    read g (got ts q) h = program_ok (owner_of o) (linear_program ts) h b m.globals g
    read g (refused n p) h = refused_ok n p m
