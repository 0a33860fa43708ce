-- A step, one law for each outcome of each kind of instruction. Assumes nothing.
use Rattle.std.specs.Prelude.{Result, Ok, Err, Some, None}
use Prim.Native.Nat.{ℕ, ◌%◌, ◌<◌, ◌≤◌, ◌^◌}
use mathlib.Core.Path.{◌≡◌, refl, sym, ap, ◌∙◌}
use mathlib.Core.List.{List}
use mathlib.Core.Option.{Option, none, some}
use native.Mathlib.Omega.{arith}
use borrow.Author.Tests.{eq-eqb, ne_eqb}
use Rattle.cells.specs.laws.Laws.{clash}
use Rattle.cells.specs.Cells.{false_cell, frame_cell, frame_template, frame_place}
use Rattle.cells.specs.declared.BitPlace.{BitPlace}
use Rattle.cells.specs.declared.BytePlace.{BytePlace}
use Rattle.rules.specs.State.{Mem, mem, answered, out, told}
use Rattle.owners.specs.declared.Owner.{Owner}
use Rattle.rules.specs.Owned.{owned_rule}
use Rattle.rules.specs.Rules.{Data, call_rule, keep_rule, make_cont_rule, return_rule}
use Rattle.rules.specs.Fit.{Fit, EndFit, CallFit}
use Rattle.rules.specs.WrongNumber.{wrong_number}
use Rattle.rules.specs.laws.Told.{told_next, told_wrong, called_to_lem, called_wrong}
use Rattle.rules.specs.declared.Plain.{Plain}
use Rattle.rules.specs.declared.Regs.{Regs}
use Rattle.rules.specs.declared.Wrong.{Wrong as What}
use Rattle.rules.specs.declared.Wrong.TheVariants.{BadCode}
use Rattle.frames.specs.Ends.{state, Returned, kept, back, told_kept, told_back, KeptFit, BackFit}
use Rattle.frames.specs.laws.Told.{keep_is, kept_on, kept_wrong, back_to_lem, back_halt}
use Rattle.machines.specs.Fetched.{Fetched, plain, returns, calls, branches, saves, jumps, bad, plainly}
use Rattle.machines.specs.Machine.{Program, State, Step, go, stop, bind, returned, act}
use Rattle.machines.specs.Runs.{Memory, memory}
use Rattle.machines.specs.Slots.{resolved_as}
use Rattle.machines.specs.Instruction.{number, Form, tree_form, linear_form, form_of, fetched_as, Of, Places}
use Rattle.machines.specs.declared.CodePlace.{CodePlace}
use Rattle.machines.specs.declared.CodePlace.TheVariants.{Tree, Linear}
use Rattle.machines.specs.declared.Instruction.{Instruction}
use Rattle.machines.specs.declared.Instruction.TheVariants as instruction
use Rattle.std.specs.Prelude.{Option as OrNone, None, Some}
use Rattle.steps.specs.Step.{control, state_of, meant, Unchanged, GoesOn, Taken}
use Rattle.steps.specs.declared.Control.{Control}
use Rattle.steps.specs.declared.OneStep.{OneStep}
use Rattle.steps.specs.declared.OneStep.TheVariants.{Next, Halted, Wrong}

-- ---- a place by its form of code
pub tree_number : (q : CodePlace) (p : BitPlace) → q ≡ Tree p → number q ≡ p.0
unfolding number
tree_number q p e = rw e

pub linear_number : (q : CodePlace) (p : BytePlace) → q ≡ Linear p → number q ≡ p.0
unfolding number
linear_number q p e = rw e

pub in_tree : (q : CodePlace) (p : BitPlace) → q ≡ Tree p → form_of q ≡ tree_form
unfolding form_of
in_tree q p e = rw e

pub in_linear : (q : CodePlace) (p : BytePlace) → q ≡ Linear p → form_of q ≡ linear_form
unfolding form_of
in_linear q p e = rw e

pub framed : (n t e k cell : ℕ) (q : CodePlace) → number q ≡ k → cell ≡ frame_cell n t e (k % 0x1000000) → cell ≡ frame_cell n t e (number q % 0x1000000)
framed n t e k cell q i h = rw i h

-- ---- on, and the two ends
goes : (form : Form) (q : Regs) (k : Control) (m m' : Memory) (y : Step) → y ≡ go (state_of q k m') → Fit q → k.fr ≤ 2048 → Of form k.place
    → Taken form (Next q k) m m' y
unfolding meant Unchanged GoesOn
goes form q k m m' y e f l o = record { meant_is = sym e; unchanged = tt; goes_on = (f, l, o) }

stops : (form : Form) (w : What) (m m' : Memory) (y : Step) → y ≡ stop (wrong_number w) → m' ≡ m → Taken form (Wrong w) m m' y
unfolding meant Unchanged GoesOn
stops form w m m' y e h = record { meant_is = sym e; unchanged = h; goes_on = tt }

-- ---- a plain instruction
module _ (own : Owner) (P : Program) (g s t g' s' t' f : List ℕ) (i : Plain) (p : CodePlace) (r : Regs) (c : Control) (y : Result Regs What)
    (e : out y (mem g' s' t') ≡ told (mem g s t) (owned_rule own i (mem g s t) r)) where
  pub plain_goes : (q : Regs) → y ≡ Ok q → EndFit y → c.fr ≤ 2048
      → Taken (form_of p) (Next q (control c.template p c.fr)) (memory g s t f) (memory g' s' t' f)
      (act own P (plain i (number p)) (state_of r c (memory g s t f)))
  unfolding act bind
  plain_goes q h fit l =
      let a = told_next (mem g s t) (mem g' s' t') q (owned_rule own i (mem g s t) r) (rw h at e) in
      rw a (goes _ q (control c.template p c.fr) _ _ _ refl (rw h at fit) l refl)

  pub plain_stops : (w : What) → y ≡ Err w
      → Taken (form_of p) (Wrong w) (memory g s t f) (memory g' s' t' f) (act own P (plain i (number p)) (state_of r c (memory g s t f)))
  unfolding act bind
  plain_stops w h =
      let a = told_wrong (mem g s t) (mem g' s' t') (wrong_number w) (owned_rule own i (mem g s t) r) (rw h at e) in
      rw a.0 (stops _ w _ _ _ refl (ap (λ (m : Mem). memory m.globals m.stack m.store f) a.1))

-- ---- call
module _ (own : Owner) (P : Program) (m : Memory) (n : ℕ) (r : Regs) (c : Control) (y : Result (ℕ × Regs) What) (e : answered y ≡ call_rule n r) where
  pub call_goes : (t : ℕ) (q : Regs) (p : CodePlace) → y ≡ Ok (t, q) → (Fit r → CallFit y) → Fit r → number p ≡ P.start t → c.fr ≤ 2048
      → Of (form_of c.place) p
      → Taken (form_of c.place) (Next q (control t p c.fr)) m m (act own P (calls n) (state_of r c m))
  unfolding act bind
  call_goes t q p h fit f j l o =
      let a = called_to_lem t q (call_rule n r) (rw h at e) in
      rw (a, ← j) (goes _ q (control t p c.fr) m m _ refl (rw h at (fit f)) l o)

  pub call_stops : (w : What) → y ≡ Err w → Taken (form_of c.place) (Wrong w) m m (act own P (calls n) (state_of r c m))
  unfolding act bind
  call_stops w h = rw (called_wrong (wrong_number w) (call_rule n r) (rw h at e)) (stops _ w m m _ refl refl)

-- ---- the conditional, and a jump
module _ (own : Owner) (P : Program) (m : Memory) (r : Regs) (c : Control) (fit : Fit r) (l : c.fr ≤ 2048) (p : CodePlace) (x : OneStep) where
  pub jump_goes : x ≡ Next r (control c.template p c.fr) → Taken (form_of p) x m m (act own P (jumps (number p)) (state_of r c m))
  unfolding act
  jump_goes e = rw e (goes _ r (control c.template p c.fr) m m _ refl fit l refl)

  pub branch_first : (q : ℕ) → (r.v ≡ false_cell → ⊥) → x ≡ Next r (control c.template p c.fr)
      → Taken (form_of p) x m m (act own P (branches 0 (number p) q) (state_of r c m))
  unfolding act
  branch_first q h e = rw (e, ne_eqb r.v false_cell h) (goes _ r (control c.template p c.fr) m m _ refl fit l refl)

  pub branch_second : (form : Form) (q : ℕ) → r.v ≡ false_cell → Of form p → x ≡ Next r (control c.template p c.fr)
      → Taken form x m m (act own P (branches 0 q (number p)) (state_of r c m))
  unfolding act
  branch_second form q h o e = rw (e, eq-eqb r.v false_cell h) (goes _ r (control c.template p c.fr) m m _ refl fit l o)

-- ---- make-cont
place_fits : (n t e p cell : ℕ) → cell ≡ frame_cell n t e (p % 0x1000000) → p < 2 ^ 24 → cell ≡ frame_cell n t e p
place_fits n t e p cell h l = h ∙ omega arith

module _ (own : Owner) (P : Program) (g s t f s' f' : List ℕ) (n : ℕ) (p u : CodePlace) (r : Regs) (c : Control) (cell : ℕ) (y : Result (Regs × ℕ) What)
    (packed : cell ≡ frame_cell n c.template r.env (number p % 0x1000000)) (low : number p < 2 ^ 24)
    (e : kept y (mem g s' t) f' ≡ told_kept (state r (mem g s t) f c.fr) (keep_rule n cell (state r (mem g s t) f c.fr))) where
  abbrev before_save : Data
  before_save = state r (mem g s t) f c.fr

  rule_is : keep_rule n cell before_save ≡ make_cont_rule n c.template (number p) before_save
  rule_is = keep_is n c.template (number p) cell before_save (place_fits n c.template r.env (number p) cell packed low)

  pub save_goes : (q : Regs) (k : ℕ) → y ≡ Ok (q, k) → KeptFit y
      → Taken (form_of u) (Next q (control c.template u k)) (memory g s t f) (memory g s' t f')
      (act own P (saves n (number p) (number u)) (state_of r c (memory g s t f)))
  unfolding act bind
  save_goes q k h fit =
      let a = kept_on before_save (mem g s' t) f' q k _ (rw h at e) in
      let b = rw h at fit in
      rw (← rule_is, a) (goes _ q (control c.template u k) _ _ _ refl b.0 b.1 refl)

  pub save_stops : (w : What) → y ≡ Err w
      → Taken (form_of u) (Wrong w) (memory g s t f) (memory g s' t f') (act own P (saves n (number p) (number u)) (state_of r c (memory g s t f)))
  unfolding act bind
  save_stops w h =
      let a = kept_wrong before_save (mem g s' t) f' (wrong_number w) _ (rw h at e) in
      let b : s' ≡ s = ap (λ (m : Mem). m.stack) a.1 in
      rw (← rule_is, a.0) (stops _ w _ _ _ refl (rw (b, a.2)))

-- ---- return
module _ (own : Owner) (P : Program) (g s t f s' f' : List ℕ) (r : Regs) (c : Control) (y : Returned)
    (e : back y (mem g s' t) f' ≡ told_back (state r (mem g s t) f c.fr) (return_rule (state r (mem g s t) f c.fr))) where
  abbrev before_return : Data
  before_return = state r (mem g s t) f c.fr

  pub return_goes : (q : Regs) (k cell n : ℕ) (p : CodePlace) → y ≡ Some (q, k, cell) → BackFit y → n ≡ frame_template cell → number p ≡ frame_place cell
      → Of (form_of c.place) p
      → Taken (form_of c.place) (Next q (control n p k)) (memory g s t f) (memory g s' t f') (act own P returns (state_of r c (memory g s t f)))
  unfolding act returned
  return_goes q k cell n p h fit i j o =
      let a = back_to_lem before_return (mem g s' t) f' q k cell (rw h at e) in
      let b = rw h at fit in
      rw (a, ← i, ← j) (goes _ q (control n p k) _ _ _ refl b.0 b.1 o)

  pub return_halts : y ≡ None → Taken (form_of c.place) Halted (memory g s t f) (memory g s' t f') (act own P returns (state_of r c (memory g s t f)))
  unfolding act returned meant Unchanged GoesOn
  return_halts h =
      let a = back_halt before_return (mem g s' t) f' _ (rw h at e) in
      let b : s' ≡ s = ap (λ (m : Mem). m.stack) a.1 in
      record { meant_is = rw a.0; unchanged = rw (b, a.2); goes_on = tt }

-- ---- a neutral code, by what resolving it answered
resolved_as_lem : (o : Option Plain) (i : Plain) → Some i ≡ resolved_as o → o ≡ some i
unfolding resolved_as
resolved_as_lem none i e = clash (cc)
resolved_as_lem (some j) i e = let z : i ≡ j = cc in rw z

unfit_as : (o : Option Plain) → None ≡ resolved_as o → o ≡ none
unfolding resolved_as
unfit_as none e = refl
unfit_as (some j) e = clash (cc)

module _ (own : Owner) (P : Program) (o : Option Plain) (p : CodePlace) (m : Memory) (r : Regs) (c : Control) (y : OrNone Plain) (e : y ≡ resolved_as o) where
  pub neutral_goes : (m' : Memory) (i : Plain) (x : OneStep) → y ≡ Some i → Taken (form_of p) x m m' (act own P (plain i (number p)) (state_of r c m))
      → Taken (form_of p) x m m' (act own P (plainly o (number p)) (state_of r c m))
  unfolding plainly
  neutral_goes m' i x h t = rw (resolved_as_lem o i (sym h ∙ e)) t

  pub neutral_stops : y ≡ None → Taken (form_of p) (Wrong BadCode) m m (act own P (plainly o (number p)) (state_of r c m))
  unfolding act plainly
  neutral_stops h = rw (unfit_as o (sym h ∙ e)) (stops _ BadCode m m _ refl refl)

-- ---- bad
pub bad_stops : (form : Form) (own : Owner) (P : Program) (m : Memory) (r : Regs) (c : Control) → Taken form (Wrong BadCode) m m (act own P bad (state_of r c m))
unfolding act
bad_stops form own P m r c = stops form BadCode m m _ refl refl

-- ---- a step, by what was fetched: x, which is z
pub acts_as : {m m' : Memory} {y : OneStep} {form : Form} (own : Owner) (P : Program) (slot : ℕ → ℕ) (F : Fetched) (x z : Instruction) (s : State)
    → fetched_as slot x ≡ F → x ≡ z → Taken form y m m' (act own P (fetched_as slot z) s) → Taken form y m m' (act own P F s)
acts_as own P slot F x z s e h t = rw (← e, h) t

-- a step in the form of code that its instruction's places are in
pub stays : {x : OneStep} {m m' : Memory} {y : Step} (a b : Form) → a ≡ b → Taken a x m m' y → Taken b x m m' y
stays a b e t = rw e at t

module _ (form : Form) (x : Instruction) (h : Places form x) where
  pub neutral_place : (op a b : ℕ) (p : CodePlace) → x ≡ instruction.Neutral op a b p → Of form p
  unfolding Places
  neutral_place op a b p e = rw e at h

  pub jump_place : (p : CodePlace) → x ≡ instruction.Jump p → Of form p
  unfolding Places
  jump_place p e = rw e at h

  pub branch_places : (p q : CodePlace) → x ≡ instruction.Branch p q → Of form p × Of form q
  unfolding Places
  branch_places p q e = rw e at h

  pub save_places : (n : ℕ) (p q : CodePlace) → x ≡ instruction.Save n p q → Of form p × Of form q × (number p < 2 ^ 24)
  unfolding Places
  save_places n p q e = rw e at h
