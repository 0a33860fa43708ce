-- The rules (document 01, 'Rules'), one clause each, without their code places. Checks in a step: count (10), kind (11, 14), 13, 12, 23, 15,
-- room (17, 18).
use Rattle.std.specs.Prelude.{Bool, cond, not, ◌&&◌, List, [], ◌∷◌, reverse, ℕ, zero, suc, ◌+◌, ◌-◌, get_or, set, take, ltb, leb, eqb, ℤ, ◌-ℤ◌}
use Rattle.std.proofs.Math.Option.{Option, none, some}
use Rattle.std.proofs.lemmas.List.Edits.{sets}
use Rattle.std.specs.Int.Signed.{lt_z}
use Rattle.runs.specs.Runs.{zeroed, part}
use Rattle.cells.specs.Cells.{tag_of, false_cell, true_cell, unspecified_cell, undefined_cell, int_cell, int_of, closure_cell, closure_template}
use Rattle.cells.specs.Cells.{closure_env}
use Rattle.cells.specs.Cells.{pair_cell, pair_first, pair_second, layer_cell, layer_parent, layer_count, frame_cell, frame_count, frame_template, frame_env}
use Rattle.cells.specs.Cells.{frame_place}
use Rattle.integers.specs.Integers.{signed, within, int_bits, all_integers, total_of, is_zero, floor_quotient}
use Rattle.cells.specs.Numbers.{wrong_count, no_closure, undefined, beyond_layers, wrong_kind, out_of_range, stack_full, no_room, zero_divisor}
use Rattle.rules.specs.State.{Mem, mem, regs, Held, Res, ok, wrong, on, need}
use Rattle.rules.specs.declared.Regs.{Regs}
use Rattle.rules.specs.declared.Plain.{Plain}
use Rattle.rules.specs.declared.Plain.TheVariants.{Literal, Closure, Global, SetGlobal, Local, SetLocal, Push, Unspecified, MakeEnv, CheckArgs, Cons}
use Rattle.rules.specs.declared.Plain.TheVariants.{Car, Cdr, Eqv, Add, Sub, Less, FloorDiv}

-- v is c
abbrev pub value : ℕ → Regs → Regs
value c r = regs c r.env r.sp r.st

-- ---- literal, closure
unfoldable pub literal_rule : ℕ → Mem → Regs → Res Held
literal_rule c m r = on (value c r) m

unfoldable pub closure_rule : ℕ → Mem → Regs → Res Held
closure_rule t m r =
    need (leb (r.st + 1) 2048) no_room
    (on (regs (closure_cell t r.env r.st) r.env r.sp (r.st + 1)) (mem m.globals m.stack (set m.store r.st unspecified_cell)))

-- ---- global, set-global!
-- v is what is held; undefined is wrong 12
unfoldable pub held_rule : ℕ → Mem → Regs → Res Held
held_rule c m r = need (not (eqb c undefined_cell)) undefined (on (value c r) m)

unfoldable pub global_rule : ℕ → Mem → Regs → Res Held
unfolding held_rule
global_rule g m r = held_rule (get_or m.globals g 0) m r

unfoldable pub set_global_rule : ℕ → Mem → Regs → Res Held
set_global_rule g m r = on (value unspecified_cell r) (mem (set m.globals g r.v) m.stack m.store)

-- ---- local, set-local!
-- where place n₂ is held, n₁ layers out from environment e; none beyond
unfoldable pub walk : List ℕ → ℕ → ℕ → ℕ → Option ℕ
walk s e zero n₂ = cond (eqb e 0) none (cond (ltb n₂ (layer_count (get_or s (e - 1) 0))) (some (e + n₂)) none)
walk s e (suc n₁) n₂ = cond (eqb e 0) none (walk s (layer_parent (get_or s (e - 1) 0)) n₁ n₂)

-- on where a place was found, else wrong 13
abbrev pub found : Option ℕ → (ℕ → Res Held) → Res Held
found none f = wrong beyond_layers
found (some l) f = f l

unfoldable pub local_rule : ℕ → ℕ → Mem → Regs → Res Held
unfolding held_rule walk
local_rule n₁ n₂ m r = found (walk m.store r.env n₁ n₂) (λ l. held_rule (get_or m.store l 0) m r)

unfoldable pub set_local_rule : ℕ → ℕ → Mem → Regs → Res Held
unfolding walk
set_local_rule n₁ n₂ m r =
    found (walk m.store r.env n₁ n₂) (λ l. on (value unspecified_cell r) (mem m.globals m.stack (set m.store l r.v)))

-- ---- push, unspecified
unfoldable pub push_rule : Mem → Regs → Res Held
push_rule m r = need (ltb r.sp 256) stack_full (on (regs r.v r.env (r.sp + 1) r.st) (mem m.globals (set m.stack r.sp r.v) m.store))

-- ---- make-env, checkargs=
-- a layer cell and n cells, top first, go to the store
unfoldable pub make_env_rule : ℕ → Mem → Regs → Res Held
make_env_rule n m r =
    need (eqb r.sp n) wrong_count
    (need (leb (r.st + 1 + n) 2048) no_room
    (on (regs r.v (r.st + 1) 0 (r.st + 1 + n))
    (mem m.globals (zeroed m.stack 0 n) (sets m.store r.st (layer_cell r.env n ∷ reverse (take n m.stack))))))

unfoldable pub check_args_rule : ℕ → Mem → Regs → Res Held
check_args_rule n m r = need (eqb r.sp n) wrong_count (on r m)

-- ---- primitives; they empty the stack afterwards
abbrev pub top : Mem → Regs → ℕ
top m r = get_or m.stack (r.sp - 1) 0

abbrev pub under : Mem → Regs → ℕ
under m r = get_or m.stack (r.sp - 2) 0

-- v is c and the stack is empty
abbrev pub emptied : ℕ → Mem → Regs → Res Held
emptied c m r = on (regs c r.env 0 r.st) (mem m.globals (zeroed m.stack 0 r.sp) m.store)

-- the store gets what is below the top, then the top
unfoldable pub cons_rule : Mem → Regs → Res Held
cons_rule m r =
    need (leb 2 r.sp) wrong_count
    (need (leb (r.st + 2) 2048) no_room
    (on (regs (pair_cell r.st (r.st + 1)) r.env 0 (r.st + 2))
    (mem m.globals (zeroed m.stack 0 r.sp) (sets m.store r.st (under m r ∷ top m r ∷ [])))))

-- what stands at a location of the pair on top
abbrev pub part_rule : (ℕ → ℕ) → Mem → Regs → Res Held
part_rule location m r = need (leb 1 r.sp) wrong_count (need (eqb (tag_of (top m r)) 8) wrong_kind (emptied (get_or m.store (location (top m r)) 0) m r))

unfoldable pub car_rule : Mem → Regs → Res Held
car_rule m r = part_rule pair_first m r

unfoldable pub cdr_rule : Mem → Regs → Res Held
cdr_rule m r = part_rule pair_second m r

unfoldable pub eqv_rule : Mem → Regs → Res Held
eqv_rule m r = need (leb 2 r.sp) wrong_count (emptied (cond (eqb (top m r) (under m r)) true_cell false_cell) m r)

-- v is the integer z, within its range
abbrev pub integer_rule : ℤ → Mem → Regs → Res Held
integer_rule z m r = need (within z) out_of_range (emptied (int_cell (int_bits z)) m r)

-- a sum of nothing is 0
unfoldable pub add_rule : Mem → Regs → Res Held
add_rule m r = need (all_integers (take r.sp m.stack)) wrong_kind (integer_rule (total_of (take r.sp m.stack)) m r)

-- exactly two integers, the left operand below the top
abbrev pub two_integers : (ℤ → ℤ → Mem → Regs → Res Held) → Mem → Regs → Res Held
two_integers f m r =
    need (eqb r.sp 2) wrong_count
    (need (eqb (tag_of (under m r)) 6 && eqb (tag_of (top m r)) 6) wrong_kind
    (f (signed (int_of (under m r))) (signed (int_of (top m r))) m r))

abbrev pub subtracted : ℤ → ℤ → Mem → Regs → Res Held
subtracted a b = integer_rule (a -ℤ b)

abbrev pub compared : ℤ → ℤ → Mem → Regs → Res Held
compared a b = emptied (cond (lt_z a b) true_cell false_cell)

-- toward minus infinity
abbrev pub divided : ℤ → ℤ → Mem → Regs → Res Held
divided a b m r = need (not (is_zero b)) zero_divisor (integer_rule (floor_quotient a b) m r)

unfoldable pub sub_rule : Mem → Regs → Res Held
sub_rule m r = two_integers subtracted m r

unfoldable pub less_rule : Mem → Regs → Res Held
less_rule m r = two_integers compared m r

unfoldable pub floor_div_rule : Mem → Regs → Res Held
floor_div_rule m r = two_integers divided m r

-- ---- the plain instructions together
unfoldable pub plain_rule : Plain → Mem → Regs → Res Held
plain_rule (Literal c) m r = literal_rule c m r
plain_rule (Closure t) m r = closure_rule t m r
plain_rule (Global g) m r = global_rule g m r
plain_rule (SetGlobal g) m r = set_global_rule g m r
plain_rule (Local a b) m r = local_rule a b m r
plain_rule (SetLocal a b) m r = set_local_rule a b m r
plain_rule Push m r = push_rule m r
plain_rule Unspecified m r = literal_rule unspecified_cell m r
plain_rule (MakeEnv n) m r = make_env_rule n m r
plain_rule (CheckArgs n) m r = check_args_rule n m r
plain_rule Cons m r = cons_rule m r
plain_rule Car m r = car_rule m r
plain_rule Cdr m r = cdr_rule m r
plain_rule Eqv m r = eqv_rule m r
plain_rule Add m r = add_rule m r
plain_rule Sub m r = sub_rule m r
plain_rule Less m r = less_rule m r
plain_rule FloorDiv m r = floor_div_rule m r

-- ---- call: the closure's template, and its environment
unfoldable pub call_rule : ℕ → Regs → Res (ℕ × Regs)
call_rule n r =
    need (eqb r.sp n) wrong_count
    (need (eqb (tag_of r.v) 7) no_closure (ok (closure_template r.v, regs r.v (closure_env r.v) r.sp r.st)))

-- ---- the conditional
abbrev pub is_false : Regs → Bool
is_false r = eqb r.v false_cell

-- ---- make-cont and return: registers, cells, frames and how many frame cells are in use
pub record Data : Type 0 where
  pub regs : Regs
  pub mem : Mem
  pub frames : List ℕ
  pub fr : ℕ

-- the state after a plain rule, and after a call
abbrev pub applied : Data → Held → Data
applied d h = record { regs = h.regs; mem = h.mem; frames = d.frames; fr = d.fr }

abbrev pub called : Data → Regs → Data
called d r = record { regs = r; mem = d.mem; frames = d.frames; fr = d.fr }

-- the stack's first n values and then a frame's cell x in the frames
abbrev pub with_cell : ℕ → ℕ → Data → Data
with_cell n x d = record {
  regs = regs d.regs.v d.regs.env 0 d.regs.st;
  mem = mem d.mem.globals (zeroed d.mem.stack 0 n) d.mem.store;
  frames = set (sets d.frames d.fr (take n d.mem.stack)) (d.fr + n) x;
  fr = d.fr + n + 1;
}

abbrev pub with_frame : ℕ → ℕ → ℕ → Data → Data
with_frame n t p d = with_cell n (frame_cell n t d.regs.env p) d

-- the stack's values, bottom first, and then a frame's cell x
abbrev pub keep_rule : ℕ → ℕ → Data → Res Data
keep_rule n x d = need (eqb d.regs.sp n) wrong_count (need (leb (d.fr + n + 1) 2048) no_room (ok (with_cell n x d)))

-- a frame cell with template t and code place p
unfoldable pub make_cont_rule : ℕ → ℕ → ℕ → Data → Res Data
make_cont_rule n t p d = keep_rule n (frame_cell n t d.regs.env p) d

-- the last frame's cell, and where its stack cells begin
abbrev pub last_frame : Data → ℕ
last_frame d = get_or d.frames (d.fr - 1) 0

abbrev pub frame_base : Data → ℕ
frame_base d = d.fr - 1 - frame_count (last_frame d)

-- the state with the last frame taken off
abbrev pub without_frame : Data → Data
without_frame d = record {
  regs = regs d.regs.v (frame_env (last_frame d)) (frame_count (last_frame d)) d.regs.st;
  mem = mem d.mem.globals (sets (zeroed d.mem.stack 0 d.regs.sp) 0 (part d.frames (frame_base d) (frame_count (last_frame d)))) d.mem.store;
  frames = zeroed d.frames (frame_base d) (frame_count (last_frame d) + 1);
  fr = frame_base d;
}

-- no frame; or a template, a place, and what the rule leaves
pub data Back : Type 0 where
  no_frame : Back
  back_to : ℕ → ℕ → Data → Back

-- stack, template, environment and place come back, v stays
unfoldable pub return_rule : Data → Back
return_rule d = cond (eqb d.fr 0) no_frame (back_to (frame_template (last_frame d)) (frame_place (last_frame d)) (without_frame d))
