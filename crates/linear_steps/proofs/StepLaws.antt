-- A step of the linear machine, by what was fetched. Assumes nothing.
use Prim.Native.Nat.{ℕ, ◌+◌, ◌≤◌}
use native.Mathlib.Omega.{arith}
use mathlib.Core.Path.{◌≡◌, refl}
use mathlib.Core.List.{List}
use Rattle.cells.specs.laws.Laws.{clash}
use Rattle.cells.specs.declared.BitPlace.{BitPlace}
use Rattle.cells.specs.declared.BytePlace.{BytePlace}
use Rattle.owners.specs.declared.Owner.{Owner}
use lib.ListN.{length}
use Rattle.rules.specs.Fit.{Fit}
use Rattle.rules.specs.declared.Regs.{Regs}
use Rattle.machines.specs.Fetched.{Fetched}
use Rattle.machines.specs.Machine.{Program, State, act, step}
use Rattle.machines.specs.Runs.{Memory, Ran}
use Rattle.machines.specs.Steps.{ran_from}
use Rattle.machines.specs.Instruction.{number, Form, tree_form, linear_form, form_of, Of}
use Rattle.machines.specs.declared.CodePlace.{CodePlace}
use Rattle.machines.specs.declared.CodePlace.TheVariants.{Tree, Linear}
use Rattle.linear_code.specs.Bytes.{code_bytes, fetch_bytes, bytes_program, code_start, code_length, Within, AllWithin}
use mathlib.Core.Bool.{false}
use Rattle.linear_code.specs.Neutral.{is_transfer, neutral_as}
use Rattle.std.specs.Prelude.{Option}
use Rattle.steps.specs.Step.{start_at, CodeReady, control, state_of, Taken, StepReady}
use Rattle.steps.specs.declared.Control.{Control}
use Rattle.steps.specs.declared.OneStep.{OneStep}
use Rattle.linear_steps.specs.Code.{code_of}
use Rattle.linear_steps.specs.declared.Code.{Code}

-- no place of this machine is a bit number
pub no_bit : {A : Type 0} (q : CodePlace) (p : BitPlace) → q ≡ Tree p → Of linear_form q → A
unfolding form_of
no_bit q p e o = let z : tree_form ≡ linear_form = rw e at o in clash (cc)

-- ---- by what was read
pub neutral_as_lem : {form : Form} {x : OneStep} {m m' : Memory} (own : Owner) (P : Program) (st : State) (slot : ℕ → ℕ) (F : Fetched) (op : ℕ) (y z : Option (ℕ × ℕ × BytePlace))
    → neutral_as slot op y ≡ F → y ≡ z → Taken form x m m' (act own P (neutral_as slot op z) st) → Taken form x m m' (act own P F st)
neutral_as_lem own P st slot F op y z e h t = rw (← e, h) t

-- by a code that is known
pub coded : {x : OneStep} {m m' : Memory} (own : Owner) (P : Program) (st : State) (slot : ℕ → ℕ) (q : ℕ) (w : List ℕ) (op k : ℕ) → op ≡ k
    → Taken linear_form x m m' (act own P (code_bytes slot q k w) st) → Taken linear_form x m m' (act own P (code_bytes slot q op w) st)
coded own P st slot q w op k e t = rw e t

-- what a neutral code's step asks
pub neutral_asked : (s table : List ℕ) (r : Regs) (c : Control) (n q op : ℕ)
    → (n ≤ length s) × (q ≤ 262144) × Of linear_form c.place × StepReady s table r c → is_transfer op ≡ false
    → (n ≤ length s) × (q ≤ 262144) × (is_transfer op ≡ false) × Fit r × (c.fr ≤ 2048)
neutral_asked s table r c n q op p h = (p.0, p.1, h, p.3.fit, p.3.frames_fit)

-- where a template's code begins
pub starts : (form : Form) (table : List ℕ) → form ≡ linear_form → (t : ℕ) → start_at form table t ≡ 0
unfolding start_at
starts form table e t = rw e refl

-- ---- in a template whose code lies so
module _ (s table : List ℕ) (t : ℕ) (code : Code) (k : code ≡ code_of table t) where
  pub code_within : (form : Form) → form ≡ linear_form → CodeReady form s table → Within s code.start code.len
  unfolding code_of CodeReady
  code_within form e w = let all : AllWithin s table = rw e at w in rw k (all.within t)

  pub code_short : (form : Form) → form ≡ linear_form → CodeReady form s table → code.start + code.len ≤ 262144
  unfolding CodeReady
  code_short form e w =
      let all : AllWithin s table = rw e at w in
      omega (arith, all.short, (code_within form e w).inside)

  fetched_at_lem : (q : ℕ) (F : Fetched) → F ≡ fetch_bytes s table t code.start code.len q → F ≡ fetch_bytes s table t (code_start table t) (code_length table t) q
  unfolding code_of
  fetched_at_lem q F e = rw k at e

module _ (own : Owner) (s table : List ℕ) (r : Regs) (c : Control) (code : Code) (k : code ≡ code_of table c.template) (q : ℕ) (n : q ≡ number c.place) where
  pub step_is : (m m' : Memory) (x : OneStep) (F : Fetched) → F ≡ fetch_bytes s table c.template code.start code.len q
      → Taken linear_form x m m' (act own (bytes_program s table) F (state_of r c m)) → Taken linear_form x m m' (step own (bytes_program s table) (state_of r c m))
  unfolding step
  step_is m m' x F e t = rw (← fetched_at_lem s table c.template code k (number c.place) F (rw n at e)) t

-- ---- the place as a byte number
module _ (a : BytePlace) (k : Control) (e : a.0 ≡ number k.place) where
  pub placed_turn : {goal : Ran} (own : Owner) (P : Program) (left n : ℕ) (q : Regs) (m : Memory) → ran_from own P left n (state_of q k m) ≡ goal
      → ran_from own P left n (state_of q (control k.template (Linear a) k.fr) m) ≡ goal
  unfolding number
  placed_turn own P left n q m h = rw e h

  pub placed_ready : (s table : List ℕ) (q : Regs) → Of linear_form k.place → StepReady s table q k → StepReady s table q (control k.template (Linear a) k.fr)
  unfolding form_of
  placed_ready s table q o w = record { code_ready = rw o at w.code_ready; fit = w.fit; frames_fit = w.frames_fit }
