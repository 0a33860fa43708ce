-- What is alike: registers, memory and instructions, and what an owner has the right to. Assumes nothing.
use Rattle.std.specs.Prelude.{◌≡◌}
use Prim.Native.Nat.{◌<◌, ◌^◌}
use Rattle.std.specs.Prelude.{true, length, get_or}
use Prim.Native.Nat.{ℕ}
use Rattle.owners.specs.Owners.{may_read, may_set}
use Rattle.owners.specs.declared.Owner.{Owner}
use Rattle.rules.specs.State.{Mem, regs, Held}
use Rattle.rules.specs.declared.Regs.{Regs}
use Rattle.rules.specs.declared.Plain.{Plain}
use Rattle.rules.specs.declared.Plain.TheVariants.{Literal, Closure, Global, SetGlobal, Local, SetLocal, Push, Unspecified, MakeEnv, CheckArgs, Cons}
use Rattle.rules.specs.declared.Plain.TheVariants.{Car, Cdr, Eqv, Add, Sub, Less, FloorDiv}
use Rattle.lockstep.specs.laws.Likeness.{Likeness, Each}

-- ---- registers, memory and instructions
module _ (L : Likeness) where
  pub data RegsLike : Regs → Regs → Type 0 where
    regs_l : {v v' e sp st : ℕ} → L.CR v v' → e < 2 ^ 16 → RegsLike (regs v e sp st) (regs v' e sp st)

  pub record MemLike (m m' : Mem) : Type 0 where
    pub globals_size : length m.globals ≡ length m'.globals
    pub globals_like : (i : ℕ) → L.GR i (get_or m.globals i 0) (get_or m'.globals i 0)
    pub stack_like : Each L.CR m.stack m'.stack
    pub store_like : Each L.CR m.store m'.store

  pub record HeldLike (h h' : Held) : Type 0 where
    pub regs_like : RegsLike h.regs h'.regs
    pub mem_like : MemLike h.mem h'.mem

  -- an instruction that names neither a template nor a global
  abbrev pub Nameless : Plain → Type 0
  Nameless (Literal c) = Unit {0}
  Nameless (Closure t) = ⊥
  Nameless (Global g) = ⊥
  Nameless (SetGlobal g) = ⊥
  Nameless (Local a b) = Unit {0}
  Nameless (SetLocal a b) = Unit {0}
  Nameless Push = Unit {0}
  Nameless Unspecified = Unit {0}
  Nameless (MakeEnv n) = Unit {0}
  Nameless (CheckArgs n) = Unit {0}
  Nameless Cons = Unit {0}
  Nameless Car = Unit {0}
  Nameless Cdr = Unit {0}
  Nameless Eqv = Unit {0}
  Nameless Add = Unit {0}
  Nameless Sub = Unit {0}
  Nameless Less = Unit {0}
  Nameless FloorDiv = Unit {0}

  -- the same but for the template's number
  pub data PlainLike : Plain → Plain → Type 0 where
    closure_i : {t t' : ℕ} → L.NR t t' → PlainLike (Closure t) (Closure t')
    global_i : {g : ℕ} → PlainLike (Global g) (Global g)
    set_global_i : {g : ℕ} → PlainLike (SetGlobal g) (SetGlobal g)
    same_i : {i : Plain} → Nameless i → PlainLike i i

  -- the globals that an instruction reads or sets may be read or set
  pub record Touches (i : Plain) : Type 0 where
    pub reading : (g : ℕ) → i ≡ Global g → L.Reads g
    pub setting : (g : ℕ) → i ≡ SetGlobal g → L.Sets g

  -- what an owner has the right to may be read or set
  pub record Allowed (o : Owner) : Type 0 where
    pub read_by_right : (g : ℕ) → may_read o g ≡ true → L.Reads g
    pub set_by_right : (g : ℕ) → may_set o g ≡ true → L.Sets g
