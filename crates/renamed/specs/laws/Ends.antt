-- How two runs end alike apart from the numbers of templates in cells and code places: the statement, and from related ends. Assumes nothing.
use Rattle.std.specs.Prelude.{◌≡◌, cond, List, map, ℕ, ◌<◌, ◌^◌, eqb}
use Rattle.std.proofs.Math.Path.{refl, ap}
use Rattle.std.proofs.Common.{sym, ◌∙◌, arith, eq-eqb, ne_eqb}
use Rattle.cells.specs.Cells.{tag_of, closure_cell, closure_env, closure_location, frame_cell, frame_count, frame_env, value_of, cell_of, Fits}
use Rattle.cells.specs.laws.Laws.{closure_back, frame_back, cell_value}
use Rattle.cells.specs.declared.Value.{Value}
use Rattle.cells.specs.declared.Value.TheVariants.{False, True, Null, Unspecified, Integer, Procedure, Pair, NoValue}
use Rattle.lockstep.proofs.theorems.Frames.{FrameFits}
use Rattle.machines.specs.Machine.{Ending, halted, wrongly, spent, Ended}
use Rattle.machines.specs.Runs.{Ran, end_of, memory_of, reported, run_of, left_of}
use Rattle.machines.specs.declared.End.{End}
use Rattle.machines.specs.declared.End.TheVariants.{Halted, Wrong, OutOfBudget, Refused}
use Rattle.lockstep.specs.laws.Likeness.{Each, none_e, more_e}
use Rattle.renamed.specs.laws.Renaming.{Renaming, CellR, same_c, closure_c}

-- ---- THE STATEMENT
-- a cell, the template's number aside where it is a closure, and with it the code place where it is a frame
unfoldable pub bare : ℕ → ℕ
bare c = cond (eqb (tag_of c) 7) (closure_cell 0 (closure_env c) (closure_location c))
    (cond (eqb (tag_of c) 10) (frame_cell (frame_count c) 0 (frame_env c) 0) c)

-- an answer, and an end, the template's number aside where it is a procedure
unfoldable pub bare_value : Value → Value
bare_value False = False
bare_value True = True
bare_value Null = Null
bare_value Unspecified = Unspecified
bare_value (Integer x) = Integer x
bare_value (Procedure c) = Procedure (record { template = 0; env = c.env; location = c.location })
bare_value (Pair a b) = Pair a b
bare_value NoValue = NoValue

unfoldable pub bare_end : End → End
unfolding bare_value
bare_end (Halted v) = Halted (bare_value v)
bare_end (Wrong n) = Wrong n
bare_end OutOfBudget = OutOfBudget
bare_end (Refused n p) = Refused n p

-- what two runs returned, and the memory that they left
pub record EndAlike-renamed (x y : Ran) : Type 0 where
  pub same_end : bare_end (run_of x).end ≡ bare_end (run_of y).end
  pub same_steps : (run_of x).steps ≡ (run_of y).steps
  pub same_stack_used : (run_of x).stack ≡ (run_of y).stack
  pub same_store_used : (run_of x).store ≡ (run_of y).store
  pub same_frames_used : (run_of x).frames ≡ (run_of y).frames
  pub same_globals : map bare (left_of x).globals ≡ map bare (left_of y).globals
  pub same_stack : map bare (left_of x).stack ≡ map bare (left_of y).stack
  pub same_store : map bare (left_of x).store ≡ map bare (left_of y).store
  pub same_frames : map bare (left_of x).frames ≡ map bare (left_of y).frames

pub same_run : (x : Ran) → EndAlike-renamed x x
same_run x = record {
  same_end = refl;
  same_steps = refl;
  same_stack_used = refl;
  same_store_used = refl;
  same_frames_used = refl;
  same_globals = refl;
  same_stack = refl;
  same_store = refl;
  same_frames = refl;
}

-- ---- cells
closure_bare : (t e l : ℕ) → t < 2 ^ 8 → e < 2 ^ 16 → l < 2 ^ 16 → bare (closure_cell t e l) ≡ closure_cell 0 e l
unfolding bare
closure_bare t e l h k j =
    let b = closure_back t e l h k j in
    rw (eq-eqb (tag_of (closure_cell t e l)) 7 b.3, b.1, b.2) refl

frame_bare : (n t e p : ℕ) → FrameFits n t e p → bare (frame_cell n t e p) ≡ frame_cell n 0 e 0
unfolding bare
frame_bare n t e p k =
    let b = frame_back n t e p k.n_fits k.t_fits k.e_fits k.p_fits in
    rw (ne_eqb (tag_of (frame_cell n t e p)) 7 (λ h. omega arith), eq-eqb (tag_of (frame_cell n t e p)) 10 b.4, b.0, b.2) refl

closure_value : (t e l : ℕ) → t < 2 ^ 8 → e < 2 ^ 16 → l < 2 ^ 16
    → bare_value (value_of (closure_cell t e l)) ≡ Procedure (record { template = 0; env = e; location = l })
unfolding bare_value cell_of Fits
closure_value t e l h k j = ap bare_value (cell_value (Procedure (record { template = t; env = e; location = l })) (h, k, j))

module _ (N : Renaming) where
  -- what stands in the frames: values, and frame cells of the same count and environment
  pub data FrameR : ℕ → ℕ → Type 0 where
    value_f : {a b : ℕ} → CellR N a b → FrameR a b
    frame_f : {n t t' e p q : ℕ} → FrameFits n t e p → FrameFits n t' e q → N.To t t' → FrameR (frame_cell n t e p) (frame_cell n t' e q)

  -- how two programs end
  pub record Renamed (x y : Ended) : Type 0 where
    pub same_ending : x.ending ≡ y.ending
    -- steps, jumps, and open conditionals that took their first arm
    pub same_counts : x.counts ≡ y.counts
    pub values : CellR N x.state.now.regs.v y.state.now.regs.v
    pub same_sp : x.state.now.regs.sp ≡ y.state.now.regs.sp
    pub same_st : x.state.now.regs.st ≡ y.state.now.regs.st
    pub same_fr : x.state.now.fr ≡ y.state.now.fr
    pub globals : Each (CellR N) x.state.now.mem.globals y.state.now.mem.globals
    pub stack : Each (CellR N) x.state.now.mem.stack y.state.now.mem.stack
    pub store : Each (CellR N) x.state.now.mem.store y.state.now.mem.store
    pub frames : Each FrameR x.state.now.frames y.state.now.frames

  cell_bare : {a b : ℕ} → CellR N a b → bare a ≡ bare b
  cell_bare (same_c n) = refl
  cell_bare (closure_c {t = t} {t' = t'} {e = e} {l = l} r h k) = closure_bare t e l (N.fits r).0 h k ∙ sym (closure_bare t' e l (N.fits r).1 h k)

  frame_cell_bare : {a b : ℕ} → FrameR a b → bare a ≡ bare b
  frame_cell_bare (value_f x) = cell_bare x
  frame_cell_bare (frame_f {n = n} {t = t} {t' = t'} {e = e} {p = p} {q = q} k l r) = frame_bare n t e p k ∙ sym (frame_bare n t' e q l)

  value_bare : {a b : ℕ} → CellR N a b → bare_value (value_of a) ≡ bare_value (value_of b)
  value_bare (same_c n) = refl
  value_bare (closure_c {t = t} {t' = t'} {e = e} {l = l} r h k) = closure_value t e l (N.fits r).0 h k ∙ sym (closure_value t' e l (N.fits r).1 h k)

  cells_bare : {l l' : List ℕ} → Each (CellR N) l l' → map bare l ≡ map bare l'
  cells_bare none_e = refl
  cells_bare (more_e x r) = rw (cell_bare x, cells_bare r) refl

  frames_bare : {l l' : List ℕ} → Each FrameR l l' → map bare l ≡ map bare l'
  frames_bare none_e = refl
  frames_bare (more_e x r) = rw (frame_cell_bare x, frames_bare r) refl

  end_bare : (e : Ending) {v v' : ℕ} → CellR N v v' → bare_end (end_of e v) ≡ bare_end (end_of e v')
  unfolding bare_end end_of
  end_bare halted x = ap Halted (value_bare x)
  end_bare (wrongly n) x = refl
  end_bare spent x = refl

  pub reported_alike : (x y : Ended) → Renamed x y → EndAlike-renamed (reported x) (reported y)
  unfolding reported memory_of
  reported_alike x y r = record {
    same_end = rw r.same_ending (end_bare y.ending r.values);
    same_steps = ap (λ k. k.steps) r.same_counts;
    same_stack_used = r.same_sp;
    same_store_used = r.same_st;
    same_frames_used = r.same_fr;
    same_globals = cells_bare r.globals;
    same_stack = cells_bare r.stack;
    same_store = cells_bare r.store;
    same_frames = frames_bare r.frames;
  }
