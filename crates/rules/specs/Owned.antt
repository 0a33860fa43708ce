-- The plain rules by an owner's right (document 02, request 12): 25 where a global is read or set outside it, right after 16 and so before all
-- that the rule itself checks.
use Rattle.std.specs.Prelude.{◌≡◌, refl, Bool, true, false}
use Rattle.std.proofs.Common.{arith}
use Rattle.cells.specs.laws.Laws.{clash}
use Rattle.cells.specs.Numbers.{not_owned}
use Rattle.owners.specs.Owners.{may_read, may_set}
use Rattle.owners.specs.declared.Owner.{Owner}
use Rattle.rules.specs.State.{Mem, Held, Res, ok, wrong, need}
use Rattle.rules.specs.Rules.{plain_rule}
use Rattle.rules.specs.laws.Never16.{Never16, need_other, plain_never}
use Rattle.rules.specs.declared.Regs.{Regs}
use Rattle.rules.specs.declared.Plain.{Plain}
use Rattle.rules.specs.declared.Plain.TheVariants.{Literal, Closure, Global, SetGlobal, Local, SetLocal, Push, Unspecified, MakeEnv, CheckArgs, Cons}
use Rattle.rules.specs.declared.Plain.TheVariants.{Car, Cdr, Eqv, Add, Sub, Less, FloorDiv}

-- whether an instruction is within the owner's right
unfoldable pub may_do : Owner → Plain → Bool
may_do o (Literal c) = true
may_do o (Closure t) = true
may_do o (Global g) = may_read o g
may_do o (SetGlobal g) = may_set o g
may_do o (Local a b) = true
may_do o (SetLocal a b) = true
may_do o Push = true
may_do o Unspecified = true
may_do o (MakeEnv n) = true
may_do o (CheckArgs n) = true
may_do o Cons = true
may_do o Car = true
may_do o Cdr = true
may_do o Eqv = true
may_do o Add = true
may_do o Sub = true
may_do o Less = true
may_do o FloorDiv = true

unfoldable pub owned_rule : Owner → Plain → Mem → Regs → Res Held
unfolding may_do
owned_rule o i m r = need (may_do o i) not_owned (plain_rule i m r)

-- ---- laws
-- 25 comes first: whatever the rule itself would end with
pub without_right : (o : Owner) (i : Plain) (m : Mem) (r : Regs) → may_do o i ≡ false → owned_rule o i m r ≡ wrong not_owned
unfolding owned_rule
without_right o i m r h = rw h refl

pub by_right : (o : Owner) (i : Plain) (m : Mem) (r : Regs) → may_do o i ≡ true → owned_rule o i m r ≡ plain_rule i m r
unfolding owned_rule
by_right o i m r h = rw h refl

-- what passes the check is what the plain rule leaves, by right
pub owned_ok : (o : Owner) (i : Plain) (m : Mem) (r : Regs) (h : Held) → owned_rule o i m r ≡ ok h → (may_do o i ≡ true) × (plain_rule i m r ≡ ok h)
unfolding owned_rule
owned_ok o i m r h = pick (may_do o i)
  where
    pick : (b : Bool) → need b 25 (plain_rule i m r) ≡ ok h → (b ≡ true) × (plain_rule i m r ≡ ok h)
    pick true e = (cc, e)
    pick false e = clash (cc)

pub owned_never : (o : Owner) (i : Plain) (m : Mem) (r : Regs) → Never16 (owned_rule o i m r)
unfolding owned_rule
owned_never o i m r = need_other (may_do o i) 25 (λ e. omega arith) (plain_never m r i)
