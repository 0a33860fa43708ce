-- One program on two tables of globals in runs of one owner (request 12): what may be read is the same on both, and the runs end the same but
-- for the globals that may not be read. What the owner may not touch is not touched, since the rule checks it (25). For files: Owners.antt.
-- Assumes nothing.
use Rattle.std.specs.Prelude.{◌≡◌, List, ℕ, ◌<◌, ◌≤◌, ◌^◌, length, get_or, replicate}
use Rattle.std.proofs.Math.Path.{refl, ap}
use native.Mathlib.Omega.{arith}
use Rattle.std.proofs.Math.ListN.{length-replicate}
use Rattle.std.proofs.Common.{ltb-true, leb-true}
use Rattle.cells.specs.Cells.{unspecified_cell}
use Rattle.owners.specs.Owners.{may_read, may_set}
use Rattle.owners.specs.declared.Owner.{Owner}
use Rattle.owners.specs.declared.Owner.TheVariants.{House, Vendor}
use Rattle.rules.specs.Rules.{Data}
use Rattle.machines.specs.Fetched.{Fetched, plain, returns, calls, branches, saves, jumps, bad}
use Rattle.machines.specs.Machine.{Program, no_counts, Ended}
use Rattle.machines.specs.Runs.{start_state, program_run}
use Rattle.sound.specs.laws.Programs.{FetchedOk, ProgramOk}
use Rattle.sound.specs.laws.Runs.{FitGlobals, start_kept}
use Rattle.lockstep.specs.laws.Likeness.{Each, each_replicate}
use Rattle.lockstep.specs.laws.Lockstep.{Kin}
use Rattle.lockstep.specs.laws.Plain.{Allowed, regs_l}
use Rattle.lockstep.proofs.theorems.Frames.{none_f, Like, like_d}
use Rattle.lockstep.proofs.theorems.Kept.{alike}
use Rattle.lockstep.specs.laws.InStep.{Fetches, plain_f, return_f, call_f, branch_f, save_f, jump_f, bad_f, Paired, no_counts_lem, same_counts, run_alike}
use Rattle.lockstep.proofs.theorems.Same.{Rights, owned, itself, equal, frames_equal}

module _ (G : Rights) where
  abbrev R : ℕ → ℕ → ℕ → ℕ → ℕ → Type 0
  R t p t' q j = (t ≡ t') × (t < 2 ^ 8) × (p ≡ q) × (j ≡ 0)

  -- the same but for the globals, of which G says what is kept
  pub record DataSame (d d' : Data) : Type 0 where
    pub same_regs : d.regs ≡ d'.regs
    pub same_stack : d.mem.stack ≡ d'.mem.stack
    pub same_store : d.mem.store ≡ d'.mem.store
    pub same_frames : d.frames ≡ d'.frames
    pub same_fr : d.fr ≡ d'.fr
    pub globals : (i : ℕ) → G.GR i (get_or d.mem.globals i 0) (get_or d'.mem.globals i 0)

  data_same : {d d' : Data} {J : ℕ} → Like (owned G) R d d' J → DataSame d d'
  data_same (like_d (regs_l x fit) k s) = record {
    same_regs = rw x refl;
    same_stack = equal k.stack_like;
    same_store = equal k.store_like;
    same_frames = frames_equal G R (λ t p t' q j r. (r.0, r.2)) s;
    same_fr = refl;
    globals = k.globals_like;
  }

  pub record EndSame (x y : Ended) : Type 0 where
    pub same_ending : x.ending ≡ y.ending
    pub same_counts : x.counts ≡ y.counts
    pub data_same_but : DataSame x.state.now y.state.now

-- ---- THE LAW
-- o: whose runs they are; G says at least what o has the right to
module _ (G : Rights) (o : Owner) (allowed : Allowed (owned G) o) where
  abbrev K : Kin (R G)
  K = alike (owned G) (R G) o allowed

  fetched : (t : ℕ) (F : Fetched) → t < 2 ^ 8 → FetchedOk F → Fetches (R G) K Unit t t F F
  unfolding alike
  fetched t (plain i p) h k = plain_f (k, itself G i) (refl, h, refl, refl)
  fetched t returns h k = return_f
  fetched t (calls n) h k = call_f
  fetched t (branches a p q) h k = branch_f (λ x. refl) (refl, h, refl, refl) (refl, h, refl, refl)
  fetched t (saves n p q) h k =
      save_f (record { n_fits = k.0; t_fits = h; p_fits = k.1; t'_fits = h; q_fits = k.1; places = (refl, h, refl, refl) }) (refl, h, refl, refl)
  fetched t (jumps p) h k = jump_f (refl, h, refl, refl)
  fetched t bad h k = bad_f

  module _ (P : Program) (fit : ProgramOk P) where
    paired : Paired (R G) K Unit P P
    unfolding alike
    paired = record {
      fetches = λ {t} {p} {t'} {q} r. rw (← r.0, ← r.2) (fetched t (P.fetch t p) r.1 (fit t p));
      starts = λ {t} {t'} r. (r.0, r.1, ap P.start r.0, refl);
    }

    pub owner_alike : (b : ℕ) (g g' : List ℕ) → FitGlobals g → length g ≡ length g' → ((i : ℕ) → G.GR i (get_or g i 0) (get_or g' i 0))
        → EndSame G (program_run o P b g) (program_run o P b g')
    unfolding program_run alike start_state
    owner_alike b g g' f z h =
        let zeros : (k : ℕ) → Each (λ (a b : ℕ). a ≡ b) (replicate k 0) (replicate k 0) = λ k. each_replicate 0 0 refl k in
        let s = start_kept g (P.start 0) f in
        let e = run_alike (R G) K Unit P P paired b no_counts no_counts (start_state g (P.start 0)) (start_state g' (P.start 0))
        (no_counts_lem (R G) K Unit)
        (record {
          data_ok = record {
            like = like_d (regs_l {v = unspecified_cell} {e = 0} {sp = 0} {st = 0} refl (omega arith))
                (record { globals_size = z; globals_like = h; stack_like = zeros 256; store_like = zeros 2048 })
                (record { frames_ok = none_f; above = λ i h. refl; size = length-replicate {A = ℕ} 2048 0; size' = length-replicate {A = ℕ} 2048 0 });
            safe = record { sized = s.sized; bound = s.bound; sound = s.sound };
          };
          place_ok = (refl, omega arith, refl, refl);
        }) in
        record { same_ending = e.same_ending; same_counts = same_counts (R G) K Unit tt e; data_same_but = data_same G e.states.data_ok.like }

-- ---- the house reads and sets 0 to 63 alone: those are the same, the others as each run found them
abbrev pub house : List ℕ → List ℕ → Rights
house g g' = record {
  Reads = λ i. i < 64;
  Sets = λ i. i < 64;
  GR = λ i a b. (i < 64 → a ≡ b) × (64 ≤ i → (a ≡ get_or g i 0) × (b ≡ get_or g' i 0));
  reads = λ h r. r.0 h;
  sets_ok = λ h e. ((λ k. e), (λ k. absurd (omega arith)));
}

house_allowed : (g g' : List ℕ) → Allowed (owned (house g g')) House
unfolding may_read may_set
house_allowed g g' = record { read_by_right = λ i e. ltb-true i 64 e; set_by_right = λ i e. ltb-true i 64 e }

-- ---- a vendor reads all and sets 64 to 255 alone: the others stay
abbrev pub vendor : List ℕ → Rights
vendor g = record {
  Reads = λ i. Unit;
  Sets = λ i. 64 ≤ i;
  GR = λ i a b. (a ≡ b) × (i < 64 → a ≡ get_or g i 0);
  reads = λ u r. r.0;
  sets_ok = λ h e. (e, (λ k. absurd (omega arith)));
}

vendor_allowed : (g : List ℕ) → Allowed (owned (vendor g)) Vendor
unfolding may_read may_set
vendor_allowed g = record { read_by_right = λ i e. tt; set_by_right = λ i e. leb-true 64 i e }

module _ (P : Program) (fit : ProgramOk P) (b : ℕ) where
  -- two runs of the house that agree on its own end the same, and the rest is unchanged in each
  pub house_alike : (g g' : List ℕ) → FitGlobals g → length g ≡ length g' → ((i : ℕ) → i < 64 → get_or g i 0 ≡ get_or g' i 0)
      → EndSame (house g g') (program_run House P b g) (program_run House P b g')
  house_alike g g' f z h = owner_alike (house g g') House (house_allowed g g') P fit b g g' f z (λ i. (h i, λ n. (refl, refl)))

  -- after a run of a vendor what is not its own is unchanged
  pub vendor_keeps : (g : List ℕ) → FitGlobals g → (i : ℕ) → i < 64 → get_or (program_run Vendor P b g).state.now.mem.globals i 0 ≡ get_or g i 0
  vendor_keeps g f i h = ((owner_alike (vendor g) Vendor (vendor_allowed g) P fit b g g f refl (λ i. (refl, λ n. refl))).data_same_but.globals i).1 h
