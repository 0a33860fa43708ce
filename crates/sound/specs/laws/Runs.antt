-- What every run keeps, from an accepted start on: the lists' lengths, the registers' bounds, cells not in use are zero (document 01, 'Cells'),
-- environments are sound, and v is a value. Assumes nothing.
use Prim.Native.Nat.{ℕ, zero, suc, ◌+◌, ◌*◌, ◌≤◌, ◌<◌, ◌^◌}
use Rattle.std.proofs.Common.{arith, sym, ◌∙◌, leb-true, eqb-true}
use Rattle.std.specs.Prelude.{◌≡◌, Bool, ◌&&◌, List, [], ◌∷◌, length, get_or, replicate}
use Rattle.std.proofs.Math.Path.{refl}
use Rattle.std.proofs.Math.Bool.{true, false, cond, and-eq-true_iff}
use Rattle.std.proofs.Math.Option.{none, some}
use Rattle.std.proofs.Math.Dec.{leb, eqb}
use Rattle.std.proofs.lemmas.List.{length-replicate, get_or-replicate}
use Rattle.std.proofs.Math.ListN.{get_or-eq_default}
use Rattle.cells.specs.Cells.{tag_of, int_cell, int_of, undefined_cell, starting_global, value_of, cell_of, Fits, ValueCell}
use Rattle.cells.specs.laws.Laws.{cell_value, value_back}
use Rattle.cells.specs.declared.Value.TheVariants.{NoValue}
use Rattle.files.specs.Entries.{tag_width}
use Rattle.files.specs.Table.{constant_cell}
use Rattle.owners.specs.declared.Owner.{Owner}
use Rattle.rules.specs.Owned.{owned_rule, owned_ok}
use Rattle.rules.specs.State.{Held, Res, ok, wrong}
use Rattle.rules.specs.Rules.{Data, applied, called, call_rule, make_cont_rule, Back, no_frame, back_to, return_rule}
use Rattle.rules.specs.laws.Effects.{ConstantCell, unspecified_constant, integer_constant}
use Rattle.rules.specs.laws.Lists.{by_lt}
use Rattle.rules.specs.laws.Clean.{Sized, Bound, Clean, plain_sized, plain_bound, plain_clean, call_template, call_sized, call_bound, call_clean}
use Rattle.rules.specs.laws.Clean.{make_cont_sized, make_cont_bound, make_cont_clean, return_template, return_sized, return_bound, return_clean}
use Rattle.rules.specs.laws.Sound.{Sound, empty, no_frame_lem, constant_in, sound_inside}
use Rattle.rules.specs.laws.SoundRules.{PlainOk, plain_sound, call_sound, make_cont_sound, return_sound}
use Rattle.rules.specs.declared.Regs.{Regs}
use Rattle.rules.specs.declared.Plain.{Plain}
use Rattle.machines.specs.Fetched.{Fetched, plain, returns, calls, branches, saves, jumps, bad}
use Rattle.machines.specs.Machine.{Program, State, at, Step, go, halt, stop, bind, returned, act, here, step, Counts, no_counts, counted, next}
use Rattle.machines.specs.Machine.{run}
use Rattle.machines.specs.Runs.{lowest_unfit, start_state}
use Rattle.sound.specs.laws.Programs.{FetchedOk, ProgramOk, constant_cell_lem}

-- ---- what is kept
pub record Kept (s : State) : Type 0 where
  pub sized : Sized s.now
  pub bound : Bound s.now
  pub clean : Clean s.now
  pub sound : Sound s.now
  pub template_byte : s.template < 256

-- ---- a step
abbrev StepKept : Step → Type 0
StepKept (go s) = Kept s
StepKept halt = Unit {0}
StepKept (stop n) = Unit {0}

binds : {A : Type 0} (r : Res A) (f : A → Step) → ((a : A) → r ≡ ok a → StepKept (f a)) → StepKept (bind r f)
unfolding bind
binds (ok a) f k = k a refl
binds (wrong n) f k = tt

module _ (s : State) (k : Kept s) where
  owned_kept : (o : Owner) (i : Plain) (p : ℕ) → PlainOk i → (h : Held) → owned_rule o i s.now.mem s.now.regs ≡ ok h
      → Kept (at (applied s.now h) s.template p)
  owned_kept o i p f h y =
      let e = (owned_ok o i s.now.mem s.now.regs h y).1 in
      record {
        sized = plain_sized i s.now h e k.sized;
        bound = plain_bound i s.now h e k.bound;
        clean = plain_clean i s.now h e (λ a b l w x. (sound_inside a b l k.sound x).0) k.clean;
        sound = plain_sound s.now k.sized k.bound k.sound i h f e;
        template_byte = k.template_byte;
      }

  return_kept : (x : Back) → return_rule s.now ≡ x → StepKept (returned x)
  unfolding returned
  return_kept no_frame e = tt
  return_kept (back_to t p d) e = record {
    sized = return_sized s.now t p d e k.sized;
    bound = return_bound s.now t p d e k.bound;
    clean = return_clean s.now t p d e k.clean;
    sound = return_sound s.now k.sized k.bound k.sound t p d e;
    template_byte = return_template s.now t p d e;
  }

  call_kept : (n t p : ℕ) (r : Regs) → call_rule n s.now.regs ≡ ok (t, r) → Kept (at (called s.now r) t p)
  call_kept n t p r e = record {
    sized = call_sized n s.now t r e k.sized;
    bound = call_bound n s.now t r e k.bound;
    clean = call_clean n s.now t r e k.clean;
    sound = call_sound n s.now t r e k.sound;
    template_byte = call_template n s.now t r e;
  }

  save_kept : (n p q : ℕ) → n < 2 ^ 8 → p < 2 ^ 24 → (d : Data) → make_cont_rule n s.template p s.now ≡ ok d → Kept (at d s.template q)
  save_kept n p q hn hp d e = record {
    sized = make_cont_sized n s.template p s.now d e k.sized;
    bound = make_cont_bound n s.template p s.now d e k.bound;
    clean = make_cont_clean n s.template p s.now d e k.clean;
    sound = make_cont_sound n s.template p s.now hn k.template_byte hp k.sized k.bound k.sound d e;
    template_byte = k.template_byte;
  }

  moved_kept : (p : ℕ) → Kept (at s.now s.template p)
  moved_kept p = record { sized = k.sized; bound = k.bound; clean = k.clean; sound = k.sound; template_byte = k.template_byte }

  act_kept : (own : Owner) (P : Program) (F : Fetched) → FetchedOk F → StepKept (act own P F s)
  unfolding act
  act_kept own P (plain i p) f = binds (owned_rule own i s.now.mem s.now.regs) _ (owned_kept own i p f)
  act_kept own P returns f = return_kept (return_rule s.now) refl
  act_kept own P (calls n) f = binds (call_rule n s.now.regs) _ (λ r e. call_kept n r.0 (P.start r.0) r.1 e)
  act_kept own P (branches o p q) f = moved_kept _
  act_kept own P (saves n p q) f = binds (make_cont_rule n s.template p s.now) _ (save_kept n p q f.0 f.1)
  act_kept own P (jumps p) f = moved_kept p
  act_kept own P bad f = tt

-- ---- a run
module _ (own : Owner) (P : Program) (fit : ProgramOk P) where
  pub step_kept : (s s' : State) → Kept s → step own P s ≡ go s' → Kept s'
  unfolding step
  step_kept s s' k e = rw e at (act_kept s k own P (here P s) (fit s.template s.place))

  pub run_kept : (b : ℕ) (c : Counts) (s : State) → Kept s → Kept (run own P b c s).state
  unfolding run next
  run_kept zero c s k = k
  run_kept (suc b) c s k = turn (λ c s k. run_kept b c s k) (step own P s) refl
    where
      turn : ((c : Counts) (s : State) → Kept s → Kept (run own P b c s).state) → (o : Step) → step own P s ≡ o
          → Kept (next (λ c s. run own P b c s) c (counted (here P s) s c) s o).state
      turn on (go s') e = on _ s' (step_kept s s' k e)
      turn on halt e = k
      turn on (stop n) e = k

-- ---- the start
-- a starting global that is not undefined is a constant's cell
module _ (c : ℕ) (defined : c ≡ undefined_cell → ⊥) where
  plain_start : (t : ℕ) → 1 ≤ t → t ≤ 5 → c ≡ t * 0x1000000000000000 → ConstantCell c
  unfolding constant_cell tag_width
  plain_start zero h k e = absurd (omega arith)
  plain_start (suc zero) h k e = rw e (constant_cell_lem 0 0 (omega arith) (omega arith))
  plain_start (suc (suc zero)) h k e = rw e (constant_cell_lem 1 0 (omega arith) (omega arith))
  plain_start (suc (suc (suc zero))) h k e = rw e (constant_cell_lem 2 0 (omega arith) (omega arith))
  plain_start (suc (suc (suc (suc zero)))) h k e = rw e (constant_cell_lem 3 0 (omega arith) (omega arith))
  plain_start (suc (suc (suc (suc (suc zero))))) h k e = absurd (defined e)
  plain_start (suc (suc (suc (suc (suc (suc t)))))) h k e = absurd (omega arith)

  global_start : starting_global c ≡ true → ConstantCell c
  unfolding starting_global
  global_start = pick (eqb (tag_of c) 6)
    where
      pick : (b : Bool) → cond b (eqb c (int_cell (int_of c))) (leb 1 (tag_of c) && leb (tag_of c) 5 && eqb c (tag_of c * 0x1000000000000000)) ≡ true
          → ConstantCell c
      pick true e = rw (eqb-true c (int_cell (int_of c)) e) (integer_constant (int_of c) (omega arith))
      pick false e =
          let x = (and-eq-true_iff (leb 1 (tag_of c) && leb (tag_of c) 5) (eqb c (tag_of c * 0x1000000000000000))).0 e in
          let y = (and-eq-true_iff (leb 1 (tag_of c)) (leb (tag_of c) 5)).0 x.0 in
          plain_start (tag_of c) (leb-true 1 (tag_of c) y.0) (leb-true (tag_of c) 5 y.1) (eqb-true c (tag_of c * 0x1000000000000000) x.1)

-- globals that a run is not refused for, with 20 or 22
pub record FitGlobals (g : List ℕ) : Type 0 where
  pub count : length g ≡ 256
  pub each : (i : ℕ) → i < 256 → starting_global (get_or g i 0) ≡ true

all_fit : (n : ℕ) (g : List ℕ) → lowest_unfit n g ≡ none → (i : ℕ) → i < length g → starting_global (get_or g i 0) ≡ true
unfolding lowest_unfit
all_fit n [] e i h = absurd (omega arith)
all_fit n (c ∷ g) e i h = pick (starting_global c) refl e i h (λ f j k. all_fit (n + 1) g f j k)
  where
    pick : (b : Bool) → starting_global c ≡ b → cond b (lowest_unfit (n + 1) g) (some n) ≡ none → (i : ℕ) → i < suc (length g)
        → (lowest_unfit (n + 1) g ≡ none → (j : ℕ) → j < length g → starting_global (get_or g j 0) ≡ true) → starting_global (get_or (c ∷ g) i 0) ≡ true
    pick true s e zero h f = s
    pick true s e (suc i) h f = f e i (omega arith)
    pick false s e i h f = let z : ◌≡◌ {A = ℕ} 0 1 = cc in absurd (omega arith)

pub fit_globals_lem : (g : List ℕ) → length g ≡ 256 → lowest_unfit 0 g ≡ none → FitGlobals g
fit_globals_lem g h e = record { count = h; each = λ i k. all_fit 0 g e i (omega arith) }

zeros : (n i : ℕ) → get_or {A = ℕ} (replicate n 0) i 0 ≡ 0
zeros n i = by_lt i n (λ h. get_or-replicate n i 0 0 h) (λ h. get_or-eq_default (replicate n 0) 0 (rw length-replicate h))

pub sound_start : (g : List ℕ) (p : ℕ) → FitGlobals g → Sound (start_state g p).now
unfolding start_state
sound_start g p f = record {
  v_ok = constant_in unspecified_constant;
  env_ok = empty refl;
  globals_ok = λ i h k. constant_in (global_start (get_or g i 0) k (f.each i h));
  stack_ok = λ i h. absurd (omega arith);
  store_ok = λ i h. absurd (omega arith);
  frames_ok = no_frame_lem refl;
}

pub start_kept : (g : List ℕ) (p : ℕ) → FitGlobals g → Kept (start_state g p)
unfolding start_state
start_kept g p f = record {
  sized =
      record {
        globals_length = f.count;
        stack_length = length-replicate {A = ℕ} 256 0;
        store_length = length-replicate {A = ℕ} 2048 0;
        frames_length = length-replicate {A = ℕ} 2048 0;
      };
  bound = omega arith;
  clean = record { clean_stack = λ i h. zeros 256 i; clean_store = λ i h. zeros 2048 i; clean_frames = λ i h. zeros 2048 i };
  sound = sound_start g p f;
  template_byte = omega arith;
}

-- ---- THE LAWS
-- a value's cell has a value, and that value's cell is the cell
has_value : {c : ℕ} → ValueCell c → value_of c ≡ NoValue → ⊥
unfolding Fits
has_value {c} x e = let none : x.value ≡ NoValue = sym (cell_value x.value x.fits) ∙ (rw x.is at e) in rw none at x.fits

module _ (own : Owner) (P : Program) (fit : ProgramOk P) (g : List ℕ) (fits : FitGlobals g) (b p : ℕ) where
  -- where the run ends
  abbrev pub last : State
  last = (run own P b no_counts (start_state g p)).state

  pub kept_run : Kept last
  kept_run = run_kept own P fit b no_counts (start_state g p) (start_kept g p fits)

  -- at every end globals, stack, store and frames have their lengths, the used counts are within them, and cells not in use are zero
  pub clean_run : Sized last.now × Bound last.now × Clean last.now
  clean_run = (kept_run.sized, kept_run.bound, kept_run.clean)

  -- at every end v is a value's cell: the answer's enum always has a value, and that value's cell is v
  pub value_run : ValueCell last.now.regs.v × (value_of last.now.regs.v ≡ NoValue → ⊥) × (cell_of (value_of last.now.regs.v) ≡ last.now.regs.v)
  value_run = let x = kept_run.sound.v_ok.cell in (x, has_value x, value_back x)
