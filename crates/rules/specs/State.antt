-- Registers and memory, and how a rule ends.
use Rattle.std.specs.Prelude.{Bool, true, false, List, ℕ, Result, Ok, Err}
use Rattle.rules.specs.WrongNumber.{wrong_number}
use Rattle.rules.specs.declared.Regs.{Regs}
use Rattle.rules.specs.declared.Wrong.{Wrong}

-- the cells that a plain rule sees
pub record Mem : Type 0 where
  pub globals : List ℕ
  pub stack : List ℕ
  pub store : List ℕ

abbrev pub mem : List ℕ → List ℕ → List ℕ → Mem
mem g s t = record { globals = g; stack = s; store = t }

abbrev pub regs : ℕ → ℕ → ℕ → ℕ → Regs
regs v e sp st = record { v = v; env = e; sp = sp; st = st }

pub record Held : Type 0 where
  pub regs : Regs
  pub mem : Mem

-- on with what a rule leaves, or wrong with a number: a wrong step changes nothing
pub data Res (A : Type 0) : Type 0 where
  ok : A → Res A
  wrong : ℕ → Res A

abbrev pub on : Regs → Mem → Res Held
on r m = ok (record { regs = r; mem = m })

-- the rest, where the check passes; else wrong n
abbrev pub need : {A : Type 0} → Bool → ℕ → Res A → Res A
need true n r = r
need false n r = wrong n

-- what a function answers, as a rule ends
abbrev pub answered : {A : Type 0} → Result A Wrong → Res A
answered (Ok x) = ok x
answered (Err w) = wrong (wrong_number w)

-- registers or a number, and the cells that are left
pub data Out : Type 0 where
  leaves : Res Regs → Mem → Out

-- what a rule's function answers, and the cells that it leaves
abbrev pub out : Result Regs Wrong → Mem → Out
out x m = leaves (answered x) m

-- how a rule ends that began with the cells m
unfoldable pub told : Mem → Res Held → Out
told m (ok h) = leaves (ok h.regs) h.mem
told m (wrong n) = leaves (wrong n) m
