-- What the plain rules leave, in eight cases: what holds in each of them holds of every plain rule that goes on. Assumes nothing.
use Rattle.std.specs.Prelude.{◌≡◌, Bool, true, false, cond, not, ◌&&◌, [], ◌∷◌, reverse, ◌⊎◌, ℕ, ◌+◌, ◌<◌, ◌≤◌, ℤ, ◌-ℤ◌, get_or, set, take, ltb}
use Rattle.std.specs.Prelude.{leb, eqb}
use Rattle.std.proofs.Math.Path.{refl}
use Rattle.std.proofs.Math.Option.{Option, none, some}
use Rattle.std.proofs.Common.{inl, inr, arith, ltb-true, leb-true, eqb-true}
use Rattle.std.specs.Int.Signed.{lt_z}
use Rattle.std.proofs.lemmas.List.Edits.{sets}
use Rattle.std.proofs.lemmas.Bool.{eqb-false, not-true}
use Rattle.runs.specs.Runs.{zeroed}
use Rattle.cells.specs.Cells.{full, tag_of, true_cell, false_cell, unspecified_cell, undefined_cell, int_cell, closure_cell, pair_cell, pair_first, pair_second}
use Rattle.cells.specs.Cells.{layer_cell, ValueCell, cell_of, Fits}
use Rattle.cells.specs.declared.Value.{Value}
use Rattle.integers.specs.Integers.{within, int_bits, all_integers, is_zero, floor_quotient}
use Rattle.integers.specs.laws.Laws.{bits_fit}
use Rattle.rules.specs.State.{Mem, mem, regs, Held, Res, ok, wrong, need}
use Rattle.rules.specs.Rules.{value, found, walk, top, under, part_rule, integer_rule, two_integers, subtracted, compared, divided, plain_rule}
use Rattle.rules.specs.Rules.{literal_rule, closure_rule, held_rule, global_rule, set_global_rule, local_rule, set_local_rule, push_rule, make_env_rule}
use Rattle.rules.specs.Rules.{check_args_rule}
use Rattle.rules.specs.Rules.{cons_rule, car_rule, cdr_rule, eqv_rule, add_rule, sub_rule, less_rule, floor_div_rule}
use Rattle.rules.specs.declared.Regs.{Regs}
use Rattle.rules.specs.declared.Plain.{Plain}
use Rattle.rules.specs.declared.Plain.TheVariants.{Literal, Closure, Global, SetGlobal, Local, SetLocal, Push, Unspecified, MakeEnv, CheckArgs, Cons}
use Rattle.rules.specs.declared.Plain.TheVariants.{Car, Cdr, Eqv, Add, Sub, Less, FloorDiv}

-- ---- P of what a rule leaves, where it goes on
abbrev pub Leaves : {A : Type 0} → (A → Type 0) → Res A → Type 0
Leaves P (ok a) = P a
Leaves P (wrong n) = Unit {0}

pub leaves_ok : {A : Type 0} (P : A → Type 0) (x : Res A) (a : A) → x ≡ ok a → Leaves P x → P a
leaves_ok P x a e h = rw e at h

pub checked : {A : Type 0} (P : A → Type 0) (b : Bool) (n : ℕ) (x : Res A) → (b ≡ true → Leaves P x) → Leaves P (need b n x)
checked P true n x f = f refl
checked P false n x f = tt

pub located : (P : Held → Type 0) (o : Option ℕ) (f : ℕ → Res Held) → ((l : ℕ) → o ≡ some l → Leaves P (f l)) → Leaves P (found o f)
located P none f h = tt
located P (some l) f h = h l refl

-- ---- where the value comes from that an instruction i leaves in v
-- the cell of false, true, null, not-specified or an integer
pub record ConstantCell (c : ℕ) : Type 0 where
  pub cell : ValueCell c
  pub low : tag_of c ≤ 6

pub data From (i : Plain) (m : Mem) (r : Regs) (c : ℕ) : Type 0 where
  from_literal : i ≡ Literal c → From i m r c
  from_v : c ≡ r.v → From i m r c
  from_global : (g : ℕ) → i ≡ Global g → (get_or m.globals g 0 ≡ undefined_cell → ⊥) → c ≡ get_or m.globals g 0 → From i m r c
  from_local : (a b l : ℕ) → walk m.store r.env a b ≡ some l → c ≡ get_or m.store l 0 → From i m r c
  from_pair : (l : ℕ) → 1 ≤ r.sp → tag_of (top m r) ≡ 8 → (l ≡ pair_first (top m r)) ⊎ (l ≡ pair_second (top m r)) → c ≡ get_or m.store l 0
      → From i m r c
  from_constant : ConstantCell c → From i m r c

-- ---- the cases
abbrev pub held : Regs → Mem → Held
held r m = record { regs = r; mem = m }

pub record Effects (i : Plain) (m : Mem) (r : Regs) (P : Held → Type 0) : Type 0 where
  pub valued : (c : ℕ) → From i m r c → P (held (value c r) m)
  pub primitive : (c : ℕ) → From i m r c → P (held (regs c r.env 0 r.st) (mem m.globals (zeroed m.stack 0 r.sp) m.store))
  pub closed : (t : ℕ) → i ≡ Closure t → r.st + 1 ≤ 2048
      → P (held (regs (closure_cell t r.env r.st) r.env r.sp (r.st + 1)) (mem m.globals m.stack (set m.store r.st unspecified_cell)))
  pub global_set : (g : ℕ) → P (held (value unspecified_cell r) (mem (set m.globals g r.v) m.stack m.store))
  pub local_set : (a b l : ℕ) → i ≡ SetLocal a b → walk m.store r.env a b ≡ some l
      → P (held (value unspecified_cell r) (mem m.globals m.stack (set m.store l r.v)))
  pub pushed : r.sp < 256 → P (held (regs r.v r.env (r.sp + 1) r.st) (mem m.globals (set m.stack r.sp r.v) m.store))
  pub layered : (n : ℕ) → i ≡ MakeEnv n → r.sp ≡ n → r.st + 1 + n ≤ 2048
      → P (held (regs r.v (r.st + 1) 0 (r.st + 1 + n))
      (mem m.globals (zeroed m.stack 0 n) (sets m.store r.st (layer_cell r.env n ∷ reverse (take n m.stack)))))
  pub paired : 2 ≤ r.sp → r.st + 2 ≤ 2048
      → P (held (regs (pair_cell r.st (r.st + 1)) r.env 0 (r.st + 2))
      (mem m.globals (zeroed m.stack 0 r.sp) (sets m.store r.st (under m r ∷ top m r ∷ []))))

-- ---- constants
pub unspecified_constant : ConstantCell unspecified_cell
unfolding cell_of Fits
unspecified_constant = record { cell = record { value = Value.Unspecified; fits = tt; is = refl }; low = omega arith }

pub integer_constant : (x : ℕ) → x < full → ConstantCell (int_cell x)
unfolding cell_of Fits
integer_constant x h = record { cell = record { value = Value.Integer x; fits = h; is = refl }; low = omega arith }

truth_constant : (b : Bool) → ConstantCell (cond b true_cell false_cell)
unfolding cell_of Fits
truth_constant true = record { cell = record { value = Value.True; fits = tt; is = refl }; low = omega arith }
truth_constant false = record { cell = record { value = Value.False; fits = tt; is = refl }; low = omega arith }

module _ (m : Mem) (r : Regs) (P : Held → Type 0) where
  part_effect : (i : Plain) (location : ℕ → ℕ) → (location (top m r) ≡ pair_first (top m r)) ⊎ (location (top m r) ≡ pair_second (top m r))
      → Effects i m r P → Leaves P (part_rule location m r)
  part_effect i location w f =
      checked P (leb 1 r.sp) 10 _
      (λ k. checked P (eqb (tag_of (top m r)) 8) 14 _ (λ t. f.primitive _ (from_pair _ (leb-true 1 _ k) (eqb-true _ 8 t) w refl)))

  integer_effect : (i : Plain) (z : ℤ) → Effects i m r P → Leaves P (integer_rule z m r)
  integer_effect i z f = checked P (within z) 15 _ (λ w. f.primitive _ (from_constant (integer_constant (int_bits z) (bits_fit z w))))

  two_effect : (f : ℤ → ℤ → Mem → Regs → Res Held) → ((a b : ℤ) → Leaves P (f a b m r)) → Leaves P (two_integers f m r)
  two_effect f h = checked P (eqb r.sp 2) 10 _ (λ k. checked P (eqb (tag_of (under m r)) 6 && eqb (tag_of (top m r)) 6) 14 _ (λ l. h _ _))

  pub effect : (i : Plain) → Effects i m r P → Leaves P (plain_rule i m r)
  unfolding plain_rule literal_rule closure_rule held_rule global_rule set_global_rule local_rule set_local_rule push_rule make_env_rule check_args_rule
      cons_rule car_rule cdr_rule eqv_rule add_rule sub_rule less_rule floor_div_rule
  effect (Literal c) f = f.valued c (from_literal refl)
  effect (Closure t) f = checked P (leb (r.st + 1) 2048) 18 _ (λ k. f.closed t refl (leb-true _ 2048 k))
  effect (Global g) f =
      checked P (not (eqb (get_or m.globals g 0) undefined_cell)) 12 _ (λ k. f.valued _ (from_global g refl (eqb-false _ undefined_cell (not-true _ k)) refl))
  effect (SetGlobal g) f = f.global_set g
  effect (Local a b) f =
      located P (walk m.store r.env a b) _
      (λ l w. checked P (not (eqb (get_or m.store l 0) undefined_cell)) 12 _ (λ k. f.valued _ (from_local a b l w refl)))
  effect (SetLocal a b) f = located P (walk m.store r.env a b) _ (λ l w. f.local_set a b l refl w)
  effect Push f = checked P (ltb r.sp 256) 17 _ (λ k. f.pushed (ltb-true _ 256 k))
  effect Unspecified f = f.valued unspecified_cell (from_constant unspecified_constant)
  effect (MakeEnv n) f =
      checked P (eqb r.sp n) 10 _ (λ k. checked P (leb (r.st + 1 + n) 2048) 18 _ (λ l. f.layered n refl (eqb-true _ n k) (leb-true _ 2048 l)))
  effect (CheckArgs n) f = checked P (eqb r.sp n) 10 _ (λ k. f.valued r.v (from_v refl))
  effect Cons f = checked P (leb 2 r.sp) 10 _ (λ k. checked P (leb (r.st + 2) 2048) 18 _ (λ l. f.paired (leb-true 2 _ k) (leb-true _ 2048 l)))
  effect Car f = part_effect Car pair_first (inl refl) f
  effect Cdr f = part_effect Cdr pair_second (inr refl) f
  effect Eqv f = checked P (leb 2 r.sp) 10 _ (λ k. f.primitive _ (from_constant (truth_constant (eqb (top m r) (under m r)))))
  effect Add f = checked P (all_integers (take r.sp m.stack)) 14 _ (λ t. integer_effect Add _ f)
  effect Sub f = two_effect subtracted (λ a b. integer_effect Sub (a -ℤ b) f)
  effect Less f = two_effect compared (λ a b. f.primitive _ (from_constant (truth_constant (lt_z a b))))
  effect FloorDiv f =
      two_effect divided (λ a b. checked P (not (is_zero b)) 23 (integer_rule (floor_quotient a b) m r) (λ k. integer_effect FloorDiv (floor_quotient a b) f))
