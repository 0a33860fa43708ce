-- Two states whose cells are equal: those of globals that may be read, and all others. With all rights they are the same but for the code places
-- of their frames, where these correspond. Assumes nothing.
use Rattle.std.specs.Prelude.{◌≡◌, refl, List, ℕ, ◌+◌, ◌-◌, ◌<◌, ◌≤◌, ◌^◌, length, get_or}
use Rattle.std.proofs.Common.{sym, ap, ◌∙◌, arith, ext_get_or}
use Rattle.std.proofs.Math.ListN.{length-replicate}
use Rattle.cells.specs.Cells.{tag_of, closure_cell, closure_template, closure_env}
use Rattle.owners.specs.declared.Owner.{Owner}
use Rattle.rules.specs.State.{Mem}
use Rattle.rules.specs.laws.Lists.{by_lt}
use Rattle.rules.specs.Rules.{Data}
use Rattle.rules.specs.declared.Regs.{Regs}
use Rattle.rules.specs.declared.Plain.{Plain}
use Rattle.rules.specs.declared.Plain.TheVariants.{Literal, Closure, Global, SetGlobal, Local, SetLocal, Push, Unspecified, MakeEnv, CheckArgs, Cons}
use Rattle.rules.specs.declared.Plain.TheVariants.{Car, Cdr, Eqv, Add, Sub, Less, FloorDiv}
use Rattle.machines.specs.Runs.{start_state}
use Rattle.lockstep.specs.laws.Lockstep.{Kin}
use Rattle.lockstep.specs.laws.Likeness.{Likeness, Each, none_e, more_e, each_of}
use Rattle.lockstep.specs.laws.Plain.{PlainLike, Allowed, closure_i, global_i, set_global_i, same_i, regs_l}
use Rattle.lockstep.proofs.theorems.Frames.{data_of, Savable, FramesLike, none_f, more_f, FramesAlike, Like, like_d, keep_like, back_like}
use Rattle.lockstep.proofs.theorems.Kept.{more, more_back, apply_like, call_like, false_like}

-- ---- equal cells
-- which globals may be read and set, and what is kept of each
pub record Rights : Type 1 where
  pub Reads : ℕ → Type 0
  pub Sets : ℕ → Type 0
  pub GR : ℕ → ℕ → ℕ → Type 0
  pub reads : {g a b : ℕ} → Reads g → GR g a b → a ≡ b
  pub sets_ok : {g a b : ℕ} → Sets g → a ≡ b → GR g a b

abbrev pub owned : Rights → Likeness
owned G = record {
  CR = λ a b. a ≡ b;
  TR = λ t t'. (t ≡ t') × (t < 2 ^ 8);
  NR = λ t t'. t ≡ t';
  GR = G.GR;
  Reads = G.Reads;
  Sets = G.Sets;
  same = λ n. refl;
  only = λ e n. e;
  tags = λ e. ap tag_of e;
  closures = λ e l t h k. ap (λ n. closure_cell n e l) t;
  templates = λ {a} {b} e h. (ap closure_template e, omega arith);
  envs = λ e h. ap closure_env e;
  one_to_one = λ {a} {b} {c} {d} e f. rw (e, f) refl;
  reads = G.reads;
  sets_ok = G.sets_ok;
}

-- an instruction is like itself
pub itself : (G : Rights) (i : Plain) → PlainLike (owned G) i i
itself G (Literal c) = same_i tt
itself G (Closure t) = closure_i refl
itself G (Global g) = global_i
itself G (SetGlobal g) = set_global_i
itself G (Local a b) = same_i tt
itself G (SetLocal a b) = same_i tt
itself G Push = same_i tt
itself G Unspecified = same_i tt
itself G (MakeEnv n) = same_i tt
itself G (CheckArgs n) = same_i tt
itself G Cons = same_i tt
itself G Car = same_i tt
itself G Cdr = same_i tt
itself G Eqv = same_i tt
itself G Add = same_i tt
itself G Sub = same_i tt
itself G Less = same_i tt
itself G FloorDiv = same_i tt

pub equal : {l l' : List ℕ} → Each (λ a b. a ≡ b) l l' → l ≡ l'
equal none_e = refl
equal (more_e x r) = rw (x, equal r) refl

-- frames are equal where only equal places correspond
module _ (G : Rights) (R : ℕ → ℕ → ℕ → ℕ → ℕ → Type 0) (one : (t p t' q j : ℕ) → R t p t' q j → (t ≡ t') × (p ≡ q)) where
  frame_cells : {f g : List ℕ} {fr J : ℕ} → FramesLike (owned G) R f g fr J → (i : ℕ) → i < fr → get_or f i 0 ≡ get_or g i 0
  frame_cells none_f i h = absurd (omega arith)
  frame_cells {f} {g} (more_f {base = base} {n = n} {t = t} {t' = t'} {p = p} {q = q} {j = j} fs same x y k l r u m) i h =
      let z = one t p t' q j r in
      by_lt i base
      (λ a. frame_cells fs i a)
      (λ a. by_lt i (base + n)
      (λ b. let z : i ≡ base + (i - base) = omega arith in rw z (same (i - base) (omega arith)))
      (λ b. let o : i ≡ base + n = omega arith in rw (o, x, y, z.0, z.1) refl))

  pub frames_equal : {f g : List ℕ} {fr J : ℕ} → FramesAlike (owned G) R f g fr J → f ≡ g
  frames_equal {f} {g} {fr} s = ext_get_or 0 f g (s.size ∙ sym s.size') (λ i h. by_lt i fr (λ a. frame_cells s.frames_ok i a) (λ a. s.above i a))

-- ---- all rights
abbrev all : Rights
all = record { Reads = λ g. Unit; Sets = λ g. Unit; GR = λ g a b. a ≡ b; reads = λ u e. e; sets_ok = λ u e. e }

pub all_allowed : (o : Owner) → Allowed (owned all) o
all_allowed o = record { read_by_right = λ g e. tt; set_by_right = λ g e. tt }

abbrev pub FramesR : (ℕ → ℕ → ℕ → ℕ → ℕ → Type 0) → List ℕ → List ℕ → ℕ → ℕ → Type 0
FramesR R f g fr J = FramesLike (owned all) R f g fr J

module _ (R : ℕ → ℕ → ℕ → ℕ → ℕ → Type 0) where
  -- the same but for the code places in the frames
  pub record Same (d d' : Data) (J : ℕ) : Type 0 where
    pub regs_same : d.regs ≡ d'.regs
    pub mem_same : d.mem ≡ d'.mem
    pub fr_same : d.fr ≡ d'.fr
    pub frames_ok : FramesR R d.frames d'.frames d.fr J
    pub above : (i : ℕ) → d.fr ≤ i → get_or d.frames i 0 ≡ get_or d'.frames i 0
    pub env_fits : d.regs.env < 2 ^ 16
    pub size : length d.frames ≡ 2048
    pub size' : length d'.frames ≡ 2048

  abbrev Alike : Data → Data → ℕ → Type 0
  Alike = Like (owned all) R

  cells : (l : List ℕ) → Each (λ a b. a ≡ b) l l
  cells l = each_of l l refl (λ i h. refl)

  one_data : {r r' : Regs} {m m' : Mem} {f g : List ℕ} {fr fr' J : ℕ} → r ≡ r' → m ≡ m' → fr ≡ fr' → r.env < 2 ^ 16 → FramesAlike (owned all) R f g fr J
      → Alike (data_of r m f fr) (data_of r' m' g fr') J
  one_data {r} {m = m} e e₁ e₂ h s =
      rw (← e, ← e₁, ← e₂)
      (like_d (regs_l refl h) (record { globals_size = refl; globals_like = λ i. refl; stack_like = cells m.stack; store_like = cells m.store }) s)

  pub like : {d d' : Data} {J : ℕ} → Same d d' J → Alike d d' J
  like s =
      one_data s.regs_same s.mem_same s.fr_same s.env_fits (record { frames_ok = s.frames_ok; above = s.above; size = s.size; size' = s.size' })

  pub same : {d d' : Data} {J : ℕ} → Alike d d' J → Same d d' J
  same (like_d {m = m} {m' = m'} (regs_l x fit) k s) = record {
    regs_same = rw x refl;
    mem_same =
        rw (ext_get_or 0 m.globals m'.globals k.globals_size (λ i h. k.globals_like i), equal k.stack_like, equal k.store_like) refl;
    fr_same = refl;
    frames_ok = s.frames_ok;
    above = s.above;
    env_fits = fit;
    size = s.size;
    size' = s.size';
  }

  -- the same instructions and templates, data that are the same but for the frames' code places, and an instruction at every place
  unfoldable pub same_but_places : Owner → Kin R
  same_but_places o = record {
    owner = o;
    DR = Same;
    IR = λ i i'. i ≡ i';
    TR = λ t t'. (t ≡ t') × (t < 2 ^ 8);
    SR = Savable R;
    Hole = ⊥;
    apply_ok = λ {i} {i'} e s.
        rw (← e)
        (more (apply_like (owned all) R o (all_allowed o) (like s) (λ a b. rw s.mem_same refl) (λ c e. refl) (itself all i))
        (λ h h' e q. same q));
    call_ok = λ n s. more (call_like (owned all) R n (like s)) (λ a b e q. (q.0, same q.1));
    keep_ok = λ x s. more (keep_like (owned all) R x (like s)) (λ a b e q. same q);
    back_ok = λ s. more_back (back_like (owned all) R (like s)) (λ t p a b J e q. same q);
    false_ok = λ s. false_like (owned all) R (like s);
  }

  -- equal, where only equal places correspond
  pub same_data : ((t p t' q j : ℕ) → R t p t' q j → (t ≡ t') × (p ≡ q)) → {d d' : Data} {J : ℕ} → Same d d' J → d ≡ d'
  same_data one s =
      let f = frames_equal all R one (record { frames_ok = s.frames_ok; above = s.above; size = s.size; size' = s.size' }) in
      (λ i. data_of (s.regs_same i) (s.mem_same i) (f i) (s.fr_same i))

  -- a start is the same as itself
  pub start_same : (g : List ℕ) (p q : ℕ) → Same (start_state g p).now (start_state g q).now 0
  unfolding start_state
  start_same g p q = record {
    regs_same = refl;
    mem_same = refl;
    fr_same = refl;
    frames_ok = none_f;
    above = λ i h. refl;
    env_fits = omega arith;
    size = length-replicate {A = ℕ} 2048 0;
    size' = length-replicate {A = ℕ} 2048 0;
  }
