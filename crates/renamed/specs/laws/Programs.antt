-- Two programs that are the same but for the numbers of their templates and their code places end alike, with every budget and on every memory
-- (request 5). Assumes nothing.
use Rattle.std.specs.Prelude.{◌≡◌, refl, Bool, true, false, cond, ◌&&◌, List, ℕ, ◌+◌, ◌-◌, ◌<◌, ◌≤◌, leb, length, get_or, replicate}
use Rattle.std.proofs.Common.{sym, ◌∙◌, arith, eqb-true}
use Rattle.std.proofs.Math.Bool.{and-eq-true_iff}
use Rattle.std.proofs.Math.Option.{Option, none, some}
use Rattle.std.proofs.Math.Dec.{eqb}
use Rattle.std.proofs.Math.ListN.{length-replicate, get_or-eq_default}
use Rattle.cells.specs.Cells.{tag_of, starting_global}
use Rattle.cells.specs.laws.Laws.{starting_none_above}
use Rattle.files.specs.Reading.{got}
use Rattle.files.specs.Tree.{Template}
use Rattle.files.specs.Linear.{Linear, linear_read}
use Rattle.files.specs.Accepted.{tree_checked}
use Rattle.rules.specs.Rules.{Data}
use Rattle.rules.specs.laws.Lists.{by_lt}
use Rattle.rules.specs.declared.Plain.{Plain}
use Rattle.owners.specs.Owners.{is_owner, owner_of}
use Rattle.owners.specs.declared.Owner.{Owner}
use Rattle.machines.specs.Fetched.{Fetched, plain, returns, calls, branches, saves, jumps, bad}
use Rattle.machines.specs.Machine.{Program, tree_program, linear_program, no_counts, Ended}
use Rattle.machines.specs.Runs.{Memory, Ran, right_lengths, lowest_unfit, fit_globals, by_owner, refused_run, started, start_state, reported, program_run}
use Rattle.machines.specs.Runs.{on_tree}
use Rattle.machines.specs.Runs.{on_linear, checked_run, linear_run}
use Rattle.files.specs.Valid.{Bytes}
use Rattle.sound.specs.laws.Programs.{FetchedOk, ProgramOk}
use Rattle.sound.specs.laws.Files.{tree_ok, linear_ok}
use Rattle.sound.specs.laws.Runs.{FitGlobals, fit_globals_lem, start_kept}
use Rattle.lockstep.specs.laws.Lockstep.{Kin, Agree}
use Rattle.lockstep.specs.laws.Likeness.{Each, each_at, each_of, each_replicate, zero_like}
use Rattle.lockstep.specs.laws.Plain.{PlainLike, Allowed, regs_l}
use Rattle.lockstep.proofs.theorems.PlainLaws.{unspecified_like}
use Rattle.lockstep.proofs.theorems.Frames.{FramesLike, none_f, more_f, FramesAlike, Like, like_d}
use Rattle.lockstep.proofs.theorems.Kept.{alike}
use Rattle.lockstep.specs.laws.InStep.{Fetches, plain_f, return_f, call_f, branch_f, save_f, jump_f, bad_f, Paired, StateR, EndedR, no_counts_lem, same_counts}
use Rattle.lockstep.specs.laws.InStep.{run_alike, in_lockstep}
use Rattle.renamed.specs.laws.Renaming.{Renaming, CellR, same_c, renamed}
use Rattle.renamed.specs.laws.Ends.{EndAlike-renamed, same_run, FrameR, value_f, frame_f, Renamed, reported_alike}

-- N: the template of the first program to that of the second. Place t p t' q: place p of template t corresponds to place q of template t'.
module _ (N : Renaming) (Place : ℕ → ℕ → ℕ → ℕ → Type 0) where
  -- at templates t and t': the same instruction but for a template's number, and on at places that correspond
  pub data FetchR (t t' : ℕ) : Fetched → Fetched → Type 0 where
    plain_r : {i i' : Plain} {p q : ℕ} → PlainLike (renamed N) i i' → Place t p t' q → FetchR t t' (plain i p) (plain i' q)
    return_r : FetchR t t' returns returns
    call_r : {n : ℕ} → FetchR t t' (calls n) (calls n)
    branch_r : {o p₁ p₂ q₁ q₂ : ℕ} → Place t p₁ t' q₁ → Place t p₂ t' q₂ → FetchR t t' (branches o p₁ p₂) (branches o q₁ q₂)
    save_r : {n p₁ p₂ q₁ q₂ : ℕ} → Place t p₁ t' q₁ → Place t p₂ t' q₂ → FetchR t t' (saves n p₁ p₂) (saves n q₁ q₂)
    jump_r : {p q : ℕ} → Place t p t' q → FetchR t t' (jumps p) (jumps q)
    bad_r : FetchR t t' bad bad

  pub record Twins (P₁ P₂ : Program) : Type 0 where
    pub fetches : {t p t' q : ℕ} → N.To t t' → Place t p t' q → FetchR t t' (P₁.fetch t p) (P₂.fetch t' q)
    pub starts : {t t' : ℕ} → N.To t t' → Place t (P₁.start t) t' (P₂.start t')
    pub first : N.To 0 0

  -- no jump is ever pending
  abbrev R : ℕ → ℕ → ℕ → ℕ → ℕ → Type 0
  R t p t' q j = N.To t t' × Place t p t' q × (j ≡ 0)

  -- every global may be read and set as far as the cells go, so with any owner's right
  pub free : (own : Owner) → Allowed (renamed N) own
  free own = record { read_by_right = λ g e. tt; set_by_right = λ g e. tt }

  abbrev K : Owner → Kin R
  K own = alike (renamed N) R own (free own)

  -- ---- from the programs' relation to that of their steps
  fetched : (own : Owner) {t t' : ℕ} {F G : Fetched} → N.To t t' → FetchedOk F → FetchedOk G → FetchR t t' F G → Fetches R (K own) Unit t t' F G
  unfolding alike
  fetched own n o o' (plain_r x r) = plain_f (o, x) (n, r, refl)
  fetched own n o o' return_r = return_f
  fetched own n o o' call_r = call_f
  fetched own n o o' (branch_r r₁ r₂) = branch_f (λ x. refl) (n, r₁, refl) (n, r₂, refl)
  fetched own n o o' (save_r r₁ r₂) =
      save_f (record { n_fits = o.0; t_fits = (N.fits n).0; p_fits = o.1; t'_fits = (N.fits n).1; q_fits = o'.1; places = (n, r₁, refl) }) (n, r₂, refl)
  fetched own n o o' (jump_r r) = jump_f (n, r, refl)
  fetched own n o o' bad_r = bad_f

  module _ (own : Owner) (P₁ P₂ : Program) (w : Twins P₁ P₂) (ok₁ : ProgramOk P₁) (ok₂ : ProgramOk P₂) where
    paired : Paired R (K own) Unit P₁ P₂
    unfolding alike
    paired = record {
      fetches = λ {t} {p} {t'} {q} r. fetched own r.0 (ok₁ t p) (ok₂ t' q) (w.fetches r.0 r.1);
      starts = λ n. (n, w.starts n, refl);
    }

    -- Lockstep says the same of them, with no weight
    pub lockstep : Agree R (K own) 0 (Unit {0}) P₁ P₂
    unfolding alike
    lockstep = in_lockstep R (K own) Unit P₁ P₂ paired (λ t p t' q j r. r.2) tt

  -- ---- what the frames hold
  frame_cells : {f g : List ℕ} {fr J : ℕ} → FramesLike (renamed N) R f g fr J → (i : ℕ) → i < fr → FrameR N (get_or f i 0) (get_or g i 0)
  frame_cells none_f i h = absurd (omega arith)
  frame_cells {f} {g} (more_f {base = base} {n = n} fs same x y k l r u m) i h =
      by_lt i base
      (λ a. frame_cells fs i a)
      (λ a. by_lt i (base + n)
      (λ b. let z : i ≡ base + (i - base) = omega arith in value_f (rw z (same (i - base) (omega arith))))
      (λ b. let z : i ≡ base + n = omega arith in rw (z, x, y) (frame_f k l r.0)))

  frames_each : {f g : List ℕ} {fr J : ℕ} → FramesAlike (renamed N) R f g fr J → Each (FrameR N) f g
  frames_each {f} {g} {fr} s = each_of f g (s.size ∙ sym s.size') (λ i h. by_lt i fr (λ a. frame_cells s.frames_ok i a) (λ a. value_f (s.above i a)))

  -- ---- the ends
  pub record DataR (d d' : Data) : Type 0 where
    pub values : CellR N d.regs.v d'.regs.v
    pub same_sp : d.regs.sp ≡ d'.regs.sp
    pub same_st : d.regs.st ≡ d'.regs.st
    pub same_fr : d.fr ≡ d'.fr
    pub globals : Each (CellR N) d.mem.globals d'.mem.globals
    pub stack : Each (CellR N) d.mem.stack d'.mem.stack
    pub store : Each (CellR N) d.mem.store d'.mem.store
    pub frames : Each (FrameR N) d.frames d'.frames

  data_alike : {d d' : Data} {J : ℕ} → Like (renamed N) R d d' J → DataR d d'
  data_alike (like_d (regs_l x fit) k f) = record {
    values = x;
    same_sp = refl;
    same_st = refl;
    same_fr = refl;
    globals = each_of _ _ k.globals_size (λ i h. k.globals_like i);
    stack = k.stack_like;
    store = k.store_like;
    frames = frames_each f;
  }

  ends_alike : (own : Owner) {x y : Ended} → EndedR R (K own) Unit x y → Renamed N x y
  unfolding alike
  ends_alike own e =
      let d = data_alike e.states.data_ok.like in
      record {
        same_ending = e.same_ending;
        same_counts = same_counts R (K own) Unit tt e;
        values = d.values;
        same_sp = d.same_sp;
        same_st = d.same_st;
        same_fr = d.same_fr;
        globals = d.globals;
        stack = d.stack;
        store = d.store;
        frames = d.frames;
      }

  -- ---- the start
  starting_like : (c : ℕ) → starting_global c ≡ true → CellR N c c
  starting_like c e =
      same_c
      (λ (h : tag_of c ≡ 7). let z : false ≡ true = starting_none_above c (tag_of c) refl (omega arith)
      ∙ e in let y : ◌≡◌ {A = ℕ} 0 1 = cc in absurd (omega arith))

  global_like : (g : List ℕ) → FitGlobals g → (i : ℕ) → CellR N (get_or g i 0) (get_or g i 0)
  global_like g f i =
      by_lt i 256 (λ h. starting_like (get_or g i 0) (f.each i h))
      (λ h. let k : length g ≤ i = omega arith in rw (get_or-eq_default g 0 k) (zero_like (renamed N)))

  start_alike : (own : Owner) (g : List ℕ) (p q : ℕ) → FitGlobals g → N.To 0 0 → Place 0 p 0 q → StateR R (K own) Unit (start_state g p) (start_state g q)
  unfolding alike start_state
  start_alike own g p q f n r =
      let zeros : (k : ℕ) → Each (CellR N) (replicate k 0) (replicate k 0) = λ k. each_replicate 0 0 (zero_like (renamed N)) k in
      let k = start_kept g p f in
      record {
        data_ok = record {
          like = like_d (regs_l {e = 0} {sp = 0} {st = 0} (unspecified_like (renamed N)) (omega arith))
              (record { globals_size = refl; globals_like = global_like g f; stack_like = zeros 256; store_like = zeros 2048 })
              (record {
                frames_ok = none_f;
                above = λ i h. each_at (zero_like (renamed N)) (zeros 2048) i;
                size = length-replicate {A = ℕ} 2048 0;
                size' = length-replicate {A = ℕ} 2048 0;
              });
          safe = record { sized = k.sized; bound = k.bound; sound = k.sound };
        };
        place_ok = (n, r, refl);
      }

  -- ---- THE LAWS
  module _ (own : Owner) (P₁ P₂ : Program) (w : Twins P₁ P₂) (ok₁ : ProgramOk P₁) (ok₂ : ProgramOk P₂) where
    pub programs_alike : (b : ℕ) (g : List ℕ) → FitGlobals g → Renamed N (program_run own P₁ b g) (program_run own P₂ b g)
    unfolding program_run alike
    programs_alike b g f =
        ends_alike own (run_alike R (K own) Unit P₁ P₂ (paired own P₁ P₂ w ok₁ ok₂) b no_counts no_counts (start_state g (P₁.start 0))
        (start_state g (P₂.start 0))
        (no_counts_lem R (K own) Unit) (start_alike own g (P₁.start 0) (P₂.start 0) f w.first (w.starts w.first)))

    reported_here : (b : ℕ) (m : Memory) → right_lengths m ≡ true → lowest_unfit 0 m.globals ≡ none
        → EndAlike-renamed (reported (program_run own P₁ b m.globals)) (reported (program_run own P₂ b m.globals))
    unfolding right_lengths
    reported_here b m h e =
        let x = (and-eq-true_iff (eqb (length m.globals) 256)
        (eqb (length m.stack) 256 && (eqb (length m.store) 2048 && eqb (length m.frames) 2048))).0 h in
        reported_alike N (program_run own P₁ b m.globals) (program_run own P₂ b m.globals)
        (programs_alike b m.globals (fit_globals_lem m.globals (eqb-true (length m.globals) 256 x.0) e))

-- the run, or refused 31 or 22
abbrev owned : ℕ → Memory → Ran → Ran
owned o m r = by_owner o m (fit_globals (lowest_unfit 0 m.globals) m r)

-- what is refused at the start is refused alike
started_alike : (most b o : ℕ) (m : Memory) (x y : Ran) → (right_lengths m ≡ true → lowest_unfit 0 m.globals ≡ none → EndAlike-renamed x y)
    → EndAlike-renamed (started most b o m x) (started most b o m y)
unfolding started by_owner fit_globals
started_alike most b o m x y f = sizes (right_lengths m) refl
  where
    unfits : right_lengths m ≡ true → (u : Option ℕ) → lowest_unfit 0 m.globals ≡ u → EndAlike-renamed (fit_globals u m x) (fit_globals u m y)
    unfits h (some g) e = same_run _
    unfits h none e = f h e

    owners : right_lengths m ≡ true → (t : Bool)
        → EndAlike-renamed (cond t (fit_globals (lowest_unfit 0 m.globals) m x) (refused_run 31 0 m))
        (cond t (fit_globals (lowest_unfit 0 m.globals) m y) (refused_run 31 0 m))
    owners h true = unfits h (lowest_unfit 0 m.globals) refl
    owners h false = same_run _

    budgets : right_lengths m ≡ true → (t : Bool) → EndAlike-renamed (cond t (owned o m x) (refused_run 21 0 m)) (cond t (owned o m y) (refused_run 21 0 m))
    budgets h true = owners h (is_owner o)
    budgets h false = same_run _

    sizes : (t : Bool) → right_lengths m ≡ t → EndAlike-renamed (cond t (cond (leb b most) (owned o m x) (refused_run 21 0 m)) (refused_run 20 0 m))
        (cond t (cond (leb b most) (owned o m y) (refused_run 21 0 m)) (refused_run 20 0 m))
    sizes true h = budgets h (leb b most)
    sizes false h = same_run _

-- each machine, on two files that are read and whose programs are twins: for every budget, every owner and every memory lent
module _ (N : Renaming) (Place : ℕ → ℕ → ℕ → ℕ → Type 0) (s s' : List ℕ) where
  pub tree_machine_alike : {ts ts' : List Template} {q q' : ℕ} → tree_checked s ≡ got ts q → tree_checked s' ≡ got ts' q'
      → Twins N Place (tree_program ts) (tree_program ts') → (b o : ℕ) (m : Memory) → EndAlike-renamed (checked_run s b o m) (checked_run s' b o m)
  unfolding checked_run on_tree
  tree_machine_alike {ts} {ts'} e e' w b o m =
      let f = rw e at (tree_ok s) in
      let f' = rw e' at (tree_ok s') in
      rw (e, e') (started_alike 1000000 b o m _ _ (reported_here N Place (owner_of o) (tree_program ts) (tree_program ts') w f f' b m))

  pub linear_machine_alike : {ls ls' : List Linear} {q q' : ℕ} → Bytes s → Bytes s' → linear_read s ≡ got ls q → linear_read s' ≡ got ls' q'
      → Twins N Place (linear_program ls) (linear_program ls') → (b o : ℕ) (m : Memory) → EndAlike-renamed (linear_run s b o m) (linear_run s' b o m)
  unfolding linear_run on_linear
  linear_machine_alike {ls} {ls'} h h' e e' w b o m =
      let f = rw e at (linear_ok s h) in
      let f' = rw e' at (linear_ok s' h') in
      rw (e, e') (started_alike 2000000 b o m _ _ (reported_here N Place (owner_of o) (linear_program ls) (linear_program ls') w f f' b m))
