-- What the instructions of a program are like that the invariant of runs asks for, and that tree and linear code have it where their entries,
-- operands and places are such as reading gives. Assumes nothing.
use Prim.Native.Nat.{ℕ, zero, suc, ◌+◌, ◌*◌, ◌≤◌, ◌<◌, ◌^◌}
use native.Mathlib.Omega.{arith}
use Rattle.std.specs.Prelude.{refl, cond, ltb, leb, eqb, length, take, drop}
use mathlib.Core.List.{List, [], ◌∷◌}
use Rattle.std.proofs.Math.Option.{Option, none, some}
use Rattle.std.proofs.Math.ListN.{get_or, get_or-eq_default}
use Rattle.std.proofs.Common.{length-drop}
use Rattle.cells.specs.Cells.{widened, cell_of, Fits}
use Rattle.cells.specs.laws.Laws.{widened_fits}
use Rattle.cells.specs.declared.Value.{Value}
use Rattle.files.specs.Codes.{operand_bytes}
use Rattle.files.specs.Code.{Code, done, neutral, return, call, unless_false, make_cont, bits}
use Rattle.files.specs.Entries.{Entry, constant, global, template, tag_width}
use Rattle.files.specs.laws.EntriesLaws.{EntryOk, EntriesOk}
use Rattle.files.specs.Grammar.{entry_of}
use Rattle.files.specs.Linear.{Linear}
use Rattle.files.specs.Table.{constant_cell}
use Rattle.files.specs.Tree.{Template}
use Rattle.files.specs.Valid.{Bytes, Valid}
use Rattle.files.specs.laws.BytesLaws.{bytes_at, bytes_take, bytes_drop}
use Rattle.rules.specs.laws.Lists.{either, by_lt}
use Rattle.rules.specs.laws.Effects.{ConstantCell, integer_constant}
use Rattle.rules.specs.laws.SoundRules.{PlainOk}
use Rattle.rules.specs.declared.Plain.{Plain}
use Rattle.rules.specs.declared.Plain.TheVariants.{Global, SetGlobal}
use Rattle.machines.specs.Fetched.{Fetched, plain, returns, calls, branches, saves, jumps, bad, named_by, as_literal, as_closure, as_global, rule_of, resolve}
use Rattle.machines.specs.Fetched.{plainly}
use Rattle.machines.specs.Fetched.{first, look_by, beyond, look, offset_in, transfer, decode, no_template, no_linear, tree_at, linear_at}
use Rattle.machines.specs.laws.FetchedLaws.{operand_bytes_few}
use Rattle.machines.specs.Machine.{Program, tree_program, linear_program}

-- ---- the statements
-- a plain instruction is ok, and what make-cont saves fits into a frame's cell
abbrev pub FetchedOk : Fetched → Type 0
FetchedOk (plain i p) = PlainOk i
FetchedOk returns = Unit {0}
FetchedOk (calls n) = Unit {0}
FetchedOk (branches o p q) = Unit {0}
FetchedOk (saves n p q) = (n < 2 ^ 8) × (p < 2 ^ 24)
FetchedOk (jumps p) = Unit {0}
FetchedOk bad = Unit {0}

abbrev pub ProgramOk : Program → Type 0
ProgramOk P = (t p : ℕ) → FetchedOk (P.fetch t p)

-- as template own of T is read from a tree file
pub record TemplateOk (T own : ℕ) (t : Template) : Type 0 where
  pub entries_ok : EntriesOk own T t.entries
  pub code_ok : Valid t.code
  pub within : t.start + bits t.code ≤ 8 * 65536

-- as template own of T is read from a linear file
pub record LinearOk (T own : ℕ) (t : Linear) : Type 0 where
  pub entries_ok : EntriesOk own T t.entries
  pub code_ok : Bytes t.code
  pub short : length t.code ≤ 262144

-- ---- entries
pub constant_cell_lem : (t x : ℕ) → t < 6 → x < 2 ^ tag_width t → ConstantCell (constant_cell t x)
unfolding constant_cell tag_width cell_of Fits
constant_cell_lem zero x h k = record { cell = record { value = Value.False; fits = tt; is = refl }; low = omega arith }
constant_cell_lem (suc zero) x h k = record { cell = record { value = Value.True; fits = tt; is = refl }; low = omega arith }
constant_cell_lem (suc (suc zero)) x h k = record { cell = record { value = Value.Null; fits = tt; is = refl }; low = omega arith }
constant_cell_lem (suc (suc (suc zero))) x h k = record { cell = record { value = Value.Unspecified; fits = tt; is = refl }; low = omega arith }
constant_cell_lem (suc (suc (suc (suc zero)))) x h k = integer_constant (widened x) (widened_fits x k)
constant_cell_lem (suc (suc (suc (suc (suc zero))))) x h k = integer_constant x k
constant_cell_lem (suc (suc (suc (suc (suc (suc t)))))) x h k = absurd (omega arith)

module _ (own T : ℕ) where
  abbrev FoundOk : Option Entry → Type 0
  FoundOk none = Unit {0}
  FoundOk (some e) = EntryOk own T e

  entry_ok : (es : List Entry) (n : ℕ) → EntriesOk own T es → FoundOk (entry_of es n)
  unfolding entry_of
  entry_ok es zero k = tt
  entry_ok [] (suc n) k = tt
  entry_ok (e ∷ es) (suc zero) k = k.0
  entry_ok (e ∷ es) (suc (suc n)) k = entry_ok es (suc n) k.1

abbrev pub ResolvedOk : Option Plain → Type 0
ResolvedOk none = Unit {0}
ResolvedOk (some i) = PlainOk i

module _ (own T : ℕ) (es : List Entry) (fit : EntriesOk own T es) where
  literal_ok : (e : Option Entry) → FoundOk own T e → ResolvedOk (as_literal (named_by e))
  unfolding as_literal named_by
  literal_ok none k = tt
  literal_ok (some (constant t x)) k = constant_cell_lem t x k.0 k.1
  literal_ok (some (global g)) k = tt
  literal_ok (some (template t)) k = tt

  closure_ok : (e : Option Entry) → FoundOk own T e → ResolvedOk (as_closure (named_by e))
  unfolding as_closure named_by
  closure_ok none k = tt
  closure_ok (some (constant t x)) k = tt
  closure_ok (some (global g)) k = tt
  closure_ok (some (template t)) k = omega arith

  global_ok : (f : ℕ → Plain) → ((g : ℕ) → g < 256 → PlainOk (f g)) → (e : Option Entry) → FoundOk own T e → ResolvedOk (as_global f (named_by e))
  unfolding as_global named_by
  global_ok f h none k = tt
  global_ok f h (some (constant t x)) k = tt
  global_ok f h (some (global g)) k = h g k
  global_ok f h (some (template t)) k = tt

  -- what an instruction is resolved to is ok
  pub resolve_ok : (op : ℕ) (ns : List ℕ) → Bytes ns → ResolvedOk (resolve es op ns)
  unfolding resolve rule_of
  resolve_ok op ns b =
      let o = entry_of es (get_or ns 0 0) in
      let e : FoundOk own T o = entry_ok own T es (get_or ns 0 0) fit in
      or 6 _ _ (literal_ok o e)
      (or 7 _ _ (closure_ok o e)
      (or 8 _ _ (global_ok Global (λ g h. h) o e)
      (or 9 _ _ (global_ok SetGlobal (λ g h. tt) o e)
      (or 10 _ _ tt
      (or 11 _ _ tt
      (or 12 _ _ tt
      (or 13 _ _ (bytes_at ns b 0)
      (or 15 _ _ tt
      (or 16 _ _ tt
      (or 18 _ _ tt
      (or 19 _ _ tt
      (or 20 _ _ tt
      (or 21 _ _ tt
      (or 22 _ _ tt
      (or 23 _ _ tt
      (or 24 _ _ tt
      (or 25 _ _ tt tt)))))))))))))))))
    where
      or : (n : ℕ) (x y : Option Plain) → ResolvedOk x → ResolvedOk y → ResolvedOk (cond (eqb op n) x y)
      or n x y h k = either ResolvedOk (eqb op n) x y h k

  plainly_ok : (o : Option Plain) (p : ℕ) → ResolvedOk o → FetchedOk (plainly o p)
  unfolding plainly
  plainly_ok none p k = tt
  plainly_ok (some i) p k = k

  neutral_ok : (op : ℕ) (ns : List ℕ) (p : ℕ) → Bytes ns → FetchedOk (plainly (resolve es op ns) p)
  neutral_ok op ns p b = plainly_ok (resolve es op ns) p (resolve_ok op ns b)

  -- ---- a tree
  first_ok : (s : ℕ) (c : Code) (F : Fetched) → Valid c → s + bits c < 2 ^ 24 → FetchedOk F → FetchedOk (first es s c F)
  unfolding first Valid bits
  first_ok s done F v h f = f
  first_ok s (neutral op ns r) F v h f = neutral_ok op ns _ v.2
  first_ok s (return r) F v h f = tt
  first_ok s (call n r) F v h f = tt
  first_ok s (unless_false x y r) F v h f = tt
  first_ok s (make_cont n x r) F v h f = (v.0, omega arith)

  look_by_ok : (c : Code) (s : ℕ) (F : Fetched) (p : ℕ) → Valid c → s + bits c < 2 ^ 24 → FetchedOk F → FetchedOk (beyond es c s F p)
      → FetchedOk (look_by es (beyond es c) s c F p)
  look_by_ok c s F p v h f b = either FetchedOk (eqb p s) (first es s c F) (beyond es c s F p) (first_ok s c F v h f) b

  beyond_ok : (c : Code) (s : ℕ) (F : Fetched) (p : ℕ) → Valid c → s + bits c < 2 ^ 24 → FetchedOk F → FetchedOk (beyond es c s F p)
  unfolding beyond Valid bits
  beyond_ok done s F p v h f = tt
  beyond_ok (neutral op ns r) s F p v h f = look_by_ok r _ F p v.3 (omega arith) f (beyond_ok r _ F p v.3 (omega arith) f)
  beyond_ok (return r) s F p v h f = look_by_ok r _ F p v (omega arith) f (beyond_ok r _ F p v (omega arith) f)
  beyond_ok (call n r) s F p v h f = look_by_ok r _ F p v.1 (omega arith) f (beyond_ok r _ F p v.1 (omega arith) f)
  beyond_ok (unless_false x y r) s F p v h f =
      let after : FetchedOk (first es (s + 5 + bits x + bits y) r F) = first_ok _ r F v.2 (omega arith) f in
      either FetchedOk (ltb p (s + 5 + bits x)) _ _ (look_by_ok x _ _ p v.0 (omega arith) after (beyond_ok x _ _ p v.0 (omega arith) after))
      (either FetchedOk (ltb p (s + 5 + bits x + bits y)) _ _ (look_by_ok y _ _ p v.1 (omega arith) after (beyond_ok y _ _ p v.1 (omega arith) after))
      (look_by_ok r _ F p v.2 (omega arith) f (beyond_ok r _ F p v.2 (omega arith) f)))
  beyond_ok (make_cont n x r) s F p v h f =
      either FetchedOk (ltb p (s + 13 + bits x)) _ _ (look_by_ok x _ F p v.1 (omega arith) f (beyond_ok x _ F p v.1 (omega arith) f))
      (look_by_ok r _ bad p v.2 (omega arith) tt (beyond_ok r _ bad p v.2 (omega arith) tt))

  look_ok : (s : ℕ) (c : Code) (F : Fetched) (p : ℕ) → Valid c → s + bits c < 2 ^ 24 → FetchedOk F → FetchedOk (look es s c F p)
  unfolding look
  look_ok s c F p v h f = look_by_ok c s F p v h f (beyond_ok c s F p v h f)

  -- ---- linear code
  -- the operand bytes of make-cont are there, or one of them is 0
  transfer_ok : (op next : ℕ) (w : List ℕ) (F : Fetched) → get_or w 2 0 < 2 ^ 8 → next + offset_in w < 2 ^ 24 → FetchedOk F → FetchedOk (transfer op w next F)
  unfolding transfer
  transfer_ok op next w F n h k =
      either FetchedOk (eqb op 1) returns _ tt
      (either FetchedOk (eqb op 2) (calls (get_or w 0 0)) _ tt
      (either FetchedOk (eqb op 3) (branches 0 next (next + offset_in w)) _ tt
      (either FetchedOk (eqb op 4) (saves (get_or w 2 0) (next + offset_in w) next) _ (n, h)
      (either FetchedOk (eqb op 5) (jumps (next + offset_in w)) F tt k))))

  decode_ok : (q : ℕ) (w : List ℕ) → Bytes w → (0 < length w → q < 262144) → FetchedOk (decode es q w)
  unfolding decode Bytes
  decode_ok q [] b k = tt
  decode_ok q (op ∷ w) b k =
      let at : (i : ℕ) → get_or w i 0 < 256 = bytes_at w b.1 in
      either FetchedOk (leb (operand_bytes op) (length w)) _ bad
      (transfer_ok op _ w _ (at 2) (omega (arith, at 0, at 1, k (omega arith), operand_bytes_few op))
      (neutral_ok op (take (operand_bytes op) w) _ (bytes_take (operand_bytes op) w b.1)))
      tt

-- ---- programs
template_ok : {T own : ℕ} {t : Template} → TemplateOk T own t → (p : ℕ) → FetchedOk (look t.entries t.start t.code bad p)
template_ok {T} {own} {t} k p = look_ok own T t.entries k.entries_ok t.start t.code bad p k.code_ok (omega arith) tt

linear_ok : {T own : ℕ} {t : Linear} → LinearOk T own t → (q : ℕ) → FetchedOk (decode t.entries q (drop q t.code))
linear_ok {T} {own} {t} k q =
    decode_ok own T t.entries k.entries_ok q (drop q t.code) (bytes_drop q t.code k.code_ok) (λ h. omega (arith, length-drop q t.code))

no_template_ok : TemplateOk 0 0 no_template
unfolding Valid bits
no_template_ok = record { entries_ok = tt; code_ok = tt; within = omega arith }

no_linear_ok : LinearOk 0 0 no_linear
unfolding Bytes
no_linear_ok = record { entries_ok = tt; code_ok = (omega arith, tt); short = omega arith }

pub tree_program_ok : (T : ℕ) (ts : List Template) → ((t : ℕ) → t < length ts → TemplateOk T t (get_or ts t no_template)) → ProgramOk (tree_program ts)
unfolding tree_at
tree_program_ok T ts k t p =
    by_lt t (length ts)
    (λ h. template_ok (k t h) p)
    (λ h. rw (get_or-eq_default ts no_template h) (template_ok no_template_ok p))

pub linear_program_ok : (T : ℕ) (ts : List Linear) → ((t : ℕ) → t < length ts → LinearOk T t (get_or ts t no_linear)) → ProgramOk (linear_program ts)
unfolding linear_at
linear_program_ok T ts k t q =
    by_lt t (length ts)
    (λ h. linear_ok (k t h) q)
    (λ h. rw (get_or-eq_default ts no_linear h) (linear_ok no_linear_ok q))
