-- No rule ends wrong 16, which is a matter of code alone (document 01, 'Rules'). Assumes nothing.
use Rattle.std.specs.Prelude.{ℕ, ◌+◌, ◌≡◌, Bool, true, false, not, ◌&&◌, ℤ, ◌-ℤ◌, get_or, take, ltb, leb, eqb}
use Rattle.std.proofs.Common.{arith}
use Rattle.std.proofs.Math.Option.{Option, none, some}
use Rattle.cells.specs.Cells.{tag_of, undefined_cell}
use Rattle.rules.specs.State.{Mem, Held, Res, ok, wrong, need}
use Rattle.integers.specs.Integers.{within, all_integers, is_zero, floor_quotient}
use Rattle.rules.specs.Rules.{Data, plain_rule, literal_rule, closure_rule, held_rule, global_rule, set_global_rule, walk, found, local_rule, set_local_rule}
use Rattle.rules.specs.Rules.{push_rule, make_env_rule, check_args_rule, top, cons_rule, car_rule, cdr_rule, eqv_rule, add_rule}
use Rattle.rules.specs.Rules.{under, integer_rule, two_integers, subtracted, compared, divided, sub_rule, less_rule, floor_div_rule, call_rule, make_cont_rule}
use Rattle.rules.specs.declared.Regs.{Regs}
use Rattle.rules.specs.declared.Plain.{Plain}
use Rattle.rules.specs.declared.Plain.TheVariants.{Literal, Closure, Global, SetGlobal, Local, SetLocal, Push, Unspecified, MakeEnv, CheckArgs, Cons}
use Rattle.rules.specs.declared.Plain.TheVariants.{Car, Cdr, Eqv, Add, Sub, Less, FloorDiv}

pub data Never16 {A : Type 0} : Res A → Type 0 where
  goes_on : {a : A} → Never16 (ok a)
  other : {n : ℕ} → (n ≡ 16 → ⊥) → Never16 (wrong n)

pub need_other : {A : Type 0} {x : Res A} (b : Bool) (n : ℕ) → (n ≡ 16 → ⊥) → Never16 x → Never16 (need b n x)
need_other true n f h = h
need_other false n f h = other f

found_other : (o : Option ℕ) (f : ℕ → Res Held) → ((l : ℕ) → Never16 (f l)) → Never16 (found o f)
found_other none f h = other {n = 13} (λ e. omega arith)
found_other (some l) f h = h l

module _ (m : Mem) (r : Regs) where
  held_never : (c : ℕ) → Never16 (held_rule c m r)
  unfolding held_rule
  held_never c = need_other (not (eqb c undefined_cell)) 12 (λ e. omega arith) goes_on

  integer_never : (z : ℤ) → Never16 (integer_rule z m r)
  integer_never z = need_other (within z) 15 (λ e. omega arith) goes_on

  two_never : (f : ℤ → ℤ → Mem → Regs → Res Held) → ((a b : ℤ) → Never16 (f a b m r)) → Never16 (two_integers f m r)
  two_never f h =
      need_other (eqb r.sp 2) 10 (λ e. omega arith)
      (need_other (eqb (tag_of (under m r)) 6 && eqb (tag_of (top m r)) 6) 14 (λ e. omega arith) (h _ _))

  pub plain_never : (i : Plain) → Never16 (plain_rule i m r)
  unfolding plain_rule literal_rule closure_rule global_rule set_global_rule local_rule set_local_rule push_rule make_env_rule check_args_rule cons_rule
      car_rule cdr_rule eqv_rule add_rule sub_rule less_rule floor_div_rule
  plain_never (Literal c) = goes_on
  plain_never (Closure t) = need_other (leb (r.st + 1) 2048) 18 (λ e. omega arith) goes_on
  plain_never (Global g) = held_never (get_or m.globals g 0)
  plain_never (SetGlobal g) = goes_on
  plain_never (Local a b) = found_other (walk m.store r.env a b) _ (λ l. held_never (get_or m.store l 0))
  plain_never (SetLocal a b) = found_other (walk m.store r.env a b) _ (λ l. goes_on)
  plain_never Push = need_other (ltb r.sp 256) 17 (λ e. omega arith) goes_on
  plain_never Unspecified = goes_on
  plain_never (MakeEnv n) = need_other (eqb r.sp n) 10 (λ e. omega arith) (need_other (leb (r.st + 1 + n) 2048) 18 (λ e. omega arith) goes_on)
  plain_never (CheckArgs n) = need_other (eqb r.sp n) 10 (λ e. omega arith) goes_on
  plain_never Cons = need_other (leb 2 r.sp) 10 (λ e. omega arith) (need_other (leb (r.st + 2) 2048) 18 (λ e. omega arith) goes_on)
  plain_never Car = need_other (leb 1 r.sp) 10 (λ e. omega arith) (need_other (eqb (tag_of (top m r)) 8) 14 (λ e. omega arith) goes_on)
  plain_never Cdr = need_other (leb 1 r.sp) 10 (λ e. omega arith) (need_other (eqb (tag_of (top m r)) 8) 14 (λ e. omega arith) goes_on)
  plain_never Eqv = need_other (leb 2 r.sp) 10 (λ e. omega arith) goes_on
  plain_never Add = need_other (all_integers (take r.sp m.stack)) 14 (λ e. omega arith) (integer_never _)
  plain_never Sub = two_never subtracted (λ a b. integer_never (a -ℤ b))
  plain_never Less = two_never compared (λ a b. goes_on)
  plain_never FloorDiv = two_never divided (λ a b. need_other (not (is_zero b)) 23 (λ e. omega arith) (integer_never (floor_quotient a b)))

pub call_never : (n : ℕ) (r : Regs) → Never16 (call_rule n r)
unfolding call_rule
call_never n r = need_other (eqb r.sp n) 10 (λ e. omega arith) (need_other (eqb (tag_of r.v) 7) 11 (λ e. omega arith) goes_on)

pub make_cont_never : (n t p : ℕ) (d : Data) → Never16 (make_cont_rule n t p d)
unfolding make_cont_rule
make_cont_never n t p d = need_other (eqb d.regs.sp n) 10 (λ e. omega arith) (need_other (leb (d.fr + n + 1) 2048) 18 (λ e. omega arith) goes_on)
