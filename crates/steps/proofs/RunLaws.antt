-- A run, one law for each way that a turn of the loop goes. Assumes nothing.
use Prim.Native.Nat.{ℕ, ◌+◌, ◌-◌, ◌<◌, ◌≤◌}
use mathlib.Core.Path.{◌≡◌}
use mathlib.Core.List.{List}
use native.Mathlib.Nat.{sub_self}
use native.Mathlib.Omega.{arith}
use Rattle.cells.specs.Cells.{value_of}
use Rattle.cells.specs.declared.Value.{Value}
use Rattle.owners.specs.declared.Owner.{Owner}
use Rattle.rules.specs.State.{regs}
use Rattle.rules.specs.declared.Regs.{Regs}
use Rattle.rules.specs.WrongNumber.{wrong_number}
use Rattle.rules.specs.declared.Wrong.{Wrong as What}
use Rattle.machines.specs.Machine.{Program, State, step}
use Rattle.machines.specs.Runs.{Memory, Ran, ran, memory_of, start_state}
use Rattle.machines.specs.Start.{zeros}
use Rattle.machines.specs.Steps.{ran_from}
use Rattle.machines.specs.laws.Steps.{ends_in, turn_goes, turn_halts, turn_stops, budget_spent_lem}
use Rattle.machines.specs.Instruction.{number, Form, form_of, Of}
use Rattle.machines.specs.declared.CodePlace.{CodePlace}
use Rattle.machines.specs.declared.End.TheVariants as end
use Rattle.machines.specs.declared.Run.{Run}
use Rattle.steps.specs.Step.{CodeReady, control, state_of, ends_with, meant, Unchanged, GoesOn, Taken, StepReady}
use Rattle.steps.specs.declared.Control.{Control}
use Rattle.steps.specs.declared.OneStep.{OneStep}
use Rattle.steps.specs.declared.OneStep.TheVariants.{Next, Halted, Wrong}

-- the whole budget is left
pub at_first : (own : Owner) (P : Program) (b : ℕ) (s : State) → ran_from own P b (b - b) s ≡ ran_from own P b 0 s
at_first own P b s = rw (sub_self b)

-- ---- a turn of a program whose places are of a form
module _ {goal : Ran} (own : Owner) (form : Form) (P : Program) (left b : ℕ) (m m' : Memory) (r : Regs) (c : Control) (x : OneStep) (some : 0 < left) (most : left ≤ b)
    (t : Taken form x m m' (step own P (state_of r c m))) (h : ran_from own P left (b - left) (state_of r c m) ≡ goal) where
  pub next_turn : (q : Regs) (k : Control) → x ≡ Next q k → ran_from own P (left - 1) (b - (left - 1)) (state_of q k m') ≡ goal
  unfolding meant
  next_turn q k e = turn_goes own P left b (state_of r c m) (meant x m') some most t.meant_is h (state_of q k m') (rw e)

  pub next_place : (q : Regs) (k : Control) → x ≡ Next q k → Of form k.place
  unfolding GoesOn
  next_place q k e = let g = rw e at t.goes_on in g.2

  pub next_ready : (s table : List ℕ) (q : Regs) (k : Control) → x ≡ Next q k → Of form c.place → StepReady s table r c → StepReady s table q k
  unfolding GoesOn
  next_ready s table q k e o w =
      let g = rw e at t.goes_on in
      record { code_ready = rw (g.2, ← o) w.code_ready; fit = g.0; frames_fit = g.1 }

  pub halted_turn : (v : Value) (y : Run) → x ≡ Halted → v ≡ value_of r.v → y ≡ ends_with (end.Halted v) (b - (left - 1)) r c → ran y m' ≡ goal
  unfolding meant Unchanged ends_in memory_of
  halted_turn v y e k i =
      let u : m' ≡ m = rw e at t.unchanged in
      let n : b - (left - 1) ≡ b - left + 1 = omega arith in
      rw (i, k, u, n) (turn_halts own P left b (state_of r c m) (meant x m') some most t.meant_is h (rw e))

  pub wrong_turn : (w : What) (n : ℕ) (y : Run) → x ≡ Wrong w → n ≡ wrong_number w → y ≡ ends_with (end.Wrong n) (b - left) r c → ran y m' ≡ goal
  unfolding meant Unchanged ends_in memory_of
  wrong_turn w n y e k i =
      let u : m' ≡ m = rw e at t.unchanged in
      rw (i, u) (turn_stops own P left b (state_of r c m) (meant x m') some most t.meant_is h n (rw (e, k)))

pub spent_turn : {goal : Ran} (own : Owner) (P : Program) (left b : ℕ) (m : Memory) (r : Regs) (c : Control) (y : Run) → left ≤ 0 → ran_from own P left (b - left) (state_of r c m) ≡ goal
    → y ≡ ends_with end.OutOfBudget (b - left) r c → ran y m ≡ goal
unfolding ends_in memory_of
spent_turn own P left b m r c y l h i = let n : b - left ≡ b = omega arith in rw (i, n) (budget_spent_lem own P left b (state_of r c m) l h)

-- ---- the start
abbrev first_regs : Regs
first_regs = regs 0x4000000000000000 0 0 0

pub first_ready : (p : CodePlace) (s table : List ℕ) → CodeReady (form_of p) s table → StepReady s table first_regs (control 0 p 0)
first_ready p s table w =
    record { code_ready = w; fit = record { fit_sp = omega arith; fit_st = omega arith }; frames_fit = omega arith }

module _ (m : Memory) (p : CodePlace) (ls : m.stack ≡ zeros 256) (lt : m.store ≡ zeros 2048) (lf : m.frames ≡ zeros 2048) where
  pub first_is : state_of first_regs (control 0 p 0) m ≡ start_state m.globals (number p)
  unfolding start_state zeros
  first_is = rw (ls, lt, lf)
