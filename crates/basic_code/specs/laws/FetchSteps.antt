-- What `fetch` answers, by what the fields are read as: one law for each way through it. Assumes nothing.
use Prim.Native.Nat.{ℕ, zero, suc, ◌/◌, ◌%◌, ◌≤◌, ◌<◌, ◌^◌}
use Rattle.std.proofs.Common.{arith, sym, ap, ◌∙◌}
use Rattle.std.specs.Prelude.{◌≡◌, Bool, ◌&&◌, List, length, Some, None, Ok, Err}
use Rattle.std.proofs.Math.Path.{refl}
use Rattle.std.proofs.Math.Bool.{true, false, cond}
use Rattle.std.proofs.Math.Option.{Option, none, some}
use borrow.Author.Tests.{eq-eqb, ne_eqb, eqb-false}
use Rattle.std.proofs.Math.Dec.{eqb}
use Rattle.cells.specs.declared.BitPlace.{BitPlace}
use Rattle.fields.specs.Field.{field_read}
use Rattle.fields.specs.laws.Laws.{value_of}
use Rattle.files.specs.Codes.{shape_of}
use Rattle.files.specs.Entries.{entry_at}
use Rattle.files.specs.EntriesRead.{entry_told}
use Rattle.links.specs.Links.{link_at}
use Rattle.cells.specs.laws.Laws.{clash}
use Rattle.rules.specs.declared.Plain.{Plain}
use Rattle.rules.specs.declared.Plain.TheVariants.{Literal, Closure, Global, SetGlobal}
use Rattle.machines.specs.Fetched.{plain, bad, returns, plainly}
use Rattle.machines.specs.Slots.{slot_resolve, resolved_as}
use Rattle.std.specs.Prelude.{Option as OrNone, None, Some}
use Rattle.basic_code.specs.declared.BasicInstruction.TheVariants.{Return, Call, Branch, Save, Ready, Bad}
use Rattle.basic_code.specs.Fetch.{read_as, with_read, literal_by, shaped_as, code_as, instruction_at, end_as, here_as, fetched_at}
use Rattle.files.specs.declared.Refusal.{Refusal}

-- ---- a code that names no entry, by how it was resolved
module _ (o : Option Plain) (y : OrNone Plain) (e : y ≡ resolved_as o) (p : BitPlace) where
  pub ready_read : (i : Plain) → y ≡ Some i → read_as (Ready i p) ≡ plainly o p.0
  unfolding read_as plainly resolved_as
  ready_read i h = by o (sym h ∙ e)
    where
      by : (z : Option Plain) → Some i ≡ resolved_as z → plain i p.0 ≡ plainly z p.0
      by none k = clash (cc)
      by (some j) k = let z : i ≡ j = cc in rw z

  pub unready_read : y ≡ None → read_as Bad ≡ plainly o p.0
  unfolding read_as plainly resolved_as
  unready_read h = by o (sym h ∙ e)
    where
      by : (z : Option Plain) → None ≡ resolved_as z → bad ≡ plainly z p.0
      by none k = refl
      by (some j) k = clash (cc)

-- ---- an instruction whose code v stands at p and ends at q
module _ (s L : List ℕ) (p v q : ℕ) where
  pub operand_cut : (k : ℕ) → 2 ≤ k → k ≤ 3 → field_read s q 8 ≡ None → read_as Bad ≡ shaped_as s L p v q k
  unfolding shaped_as with_read read_as
  operand_cut zero h i e = absurd (omega arith)
  operand_cut (suc zero) h i e = absurd (omega arith)
  operand_cut (suc (suc zero)) h i e = rw e refl
  operand_cut (suc (suc (suc zero))) h i e = rw e refl
  operand_cut (suc (suc (suc (suc k)))) h i e = absurd (omega arith)

  module _ (a : ℕ) (q₁ : BitPlace) (e : field_read s q 8 ≡ Some (a, q₁)) where
    pub call_read : v ≡ 2 → read_as (Call a) ≡ shaped_as s L p v q 2
    unfolding shaped_as with_read read_as
    call_read h = rw (e, eq-eqb v 2 h) refl

    pub one_read : (v ≡ 2 → ⊥) → plainly (slot_resolve (λ _. 0) v a 0) q₁.0 ≡ shaped_as s L p v q 2
    unfolding shaped_as with_read read_as
    one_read h = rw (e, ne_eqb v 2 h) refl

    pub second_cut : field_read s q₁.0 8 ≡ None → read_as Bad ≡ shaped_as s L p v q 3
    unfolding shaped_as with_read read_as
    second_cut f = rw (e, f) refl

    pub two_read : (b : ℕ) (q₂ : BitPlace) → field_read s q₁.0 8 ≡ Some (b, q₂)
        → plainly (slot_resolve (λ _. 0) v a b) q₂.0 ≡ shaped_as s L p v q 3
    unfolding shaped_as with_read read_as
    two_read b q₂ f = rw (e, f) refl

    pub save_read : (r : BitPlace) → r.0 ≡ link_at L p → read_as (Save a q₁ r) ≡ shaped_as s L p v q 5
    unfolding shaped_as with_read read_as
    save_read r h = rw (e, h) refl

  pub save_cut : field_read s q 8 ≡ None → read_as Bad ≡ shaped_as s L p v q 5
  unfolding shaped_as with_read read_as
  save_cut e = rw e refl

-- ---- by the code, of shape k
module _ (s L : List ℕ) (p v : ℕ) (q : BitPlace) (k : ℕ) (h : k ≡ shape_of v) where
  pub shape_is : shaped_as s L p v q.0 k ≡ shaped_as s L p v q.0 (shape_of v)
  shape_is = ap (shaped_as s L p v q.0) h

  pub return_read : k ≡ 1 → v ≡ 1 → read_as Return ≡ shaped_as s L p v q.0 (shape_of v)
  unfolding shaped_as read_as
  return_read i j = rw (← h, i, eq-eqb v 1 j) refl

  pub none_read_lem : k ≡ 1 → (v ≡ 1 → ⊥) → plainly (slot_resolve (λ _. 0) v 0 0) q.0 ≡ shaped_as s L p v q.0 (shape_of v)
  unfolding shaped_as read_as
  none_read_lem i j = rw (← h, i, ne_eqb v 1 j) refl

  pub branch_read : k ≡ 4 → (r : BitPlace) → r.0 ≡ link_at L p
      → read_as (Branch q r) ≡ shaped_as s L p v q.0 (shape_of v)
  unfolding shaped_as read_as
  branch_read i r j = rw (← h, i, j) refl

  pub no_code : (k ≡ 1 → ⊥) → (k ≡ 2 → ⊥) → (k ≡ 3 → ⊥) → (k ≡ 4 → ⊥) → (k ≡ 5 → ⊥)
      → read_as Bad ≡ shaped_as s L p v q.0 (shape_of v)
  unfolding shaped_as read_as
  no_code n₁ n₂ n₃ n₄ n₅ = by k refl ∙ shape_is
    where
      by : (m : ℕ) → k ≡ m → bad ≡ shaped_as s L p v q.0 m
      by zero i = refl
      by (suc zero) i = absurd (n₁ i)
      by (suc (suc zero)) i = absurd (n₂ i)
      by (suc (suc (suc zero))) i = absurd (n₃ i)
      by (suc (suc (suc (suc zero)))) i = absurd (n₄ i)
      by (suc (suc (suc (suc (suc zero))))) i = absurd (n₅ i)
      by (suc (suc (suc (suc (suc (suc m)))))) i = refl

-- a field that was read ends within the file
pub read_fits : (s : List ℕ) (p : ℕ) (n : ℕ) (q : BitPlace) → length s ≤ 65536 → field_read s p 8 ≡ Some (n, q) → q.0 < 2 ^ 24
read_fits s p n q h e = let v = value_of s p 8 n q e in omega arith

-- ---- codes that carry something
module _ (s L : List ℕ) (p v q : ℕ) where
  pub literal_read : (x : ℕ) (z : BitPlace) → v ≡ 6 → entry_told (entry_at s 0 0 q) ≡ Ok (x, z)
      → read_as (Ready (Literal x) z) ≡ code_as s L p v q
  unfolding code_as literal_by read_as
  literal_read x z h e = rw (h, e) refl

  pub literal_none : (why : Refusal BitPlace) → v ≡ 6 → entry_told (entry_at s 0 0 q) ≡ Err why → read_as Bad ≡ code_as s L p v q
  unfolding code_as literal_by read_as
  literal_none why h e = rw (h, e) refl

  pub closure_read : (n : ℕ) (z : BitPlace) → v ≡ 7 → n ≡ link_at L p % 64 → z.0 ≡ link_at L p / 64
      → read_as (Ready (Closure n) z) ≡ code_as s L p v q
  unfolding code_as read_as
  closure_read n z h i j = rw (h, i, j) refl

  pub global_read : (g : ℕ) (z : BitPlace) → v ≡ 8 → field_read s q 8 ≡ Some (g, z)
      → read_as (Ready (Global g) z) ≡ code_as s L p v q
  unfolding code_as with_read read_as
  global_read g z h e = rw (h, e) refl

  pub set_global_read : (g : ℕ) (z : BitPlace) → v ≡ 9 → field_read s q 8 ≡ Some (g, z)
      → read_as (Ready (SetGlobal g) z) ≡ code_as s L p v q
  unfolding code_as with_read read_as
  set_global_read g z h e = rw (h, e) refl

  pub global_cut : 8 ≤ v → v ≤ 9 → field_read s q 8 ≡ None → read_as Bad ≡ code_as s L p v q
  unfolding code_as with_read read_as
  global_cut h k e = rw (ne_eqb v 6 (λ z. omega arith), ne_eqb v 7 (λ z. omega arith), e) (by (eqb v 8) (eqb v 9) refl refl)
    where
      by : (a b : Bool) → eqb v 8 ≡ a → eqb v 9 ≡ b → bad ≡ cond a bad (cond b bad (shaped_as s L p v q (shape_of v)))
      by true b i j = refl
      by false true i j = refl
      by false false i j = absurd (omega (arith, eqb-false v 8 i, eqb-false v 9 j))

  pub other_read : (v ≡ 6 → ⊥) → (v ≡ 7 → ⊥) → (v ≡ 8 → ⊥) → (v ≡ 9 → ⊥) → shaped_as s L p v q (shape_of v) ≡ code_as s L p v q
  unfolding code_as
  other_read a b c d = rw (ne_eqb v 6 a, ne_eqb v 7 b, ne_eqb v 8 c, ne_eqb v 9 d) refl

-- ---- fetching
module _ (s L : List ℕ) (p : ℕ) where
  pub nowhere_led : p ≡ 0 → read_as Bad ≡ end_as s L p
  unfolding end_as read_as
  nowhere_led e = rw (eq-eqb p 0 e) refl

  pub cut_led : (p ≡ 0 → ⊥) → field_read s p 5 ≡ None → read_as Bad ≡ end_as s L p
  unfolding end_as instruction_at with_read read_as
  cut_led n e = rw (ne_eqb p 0 n, e) refl

  pub code_led : (p ≡ 0 → ⊥) → (v : ℕ) (q : BitPlace) → field_read s p 5 ≡ Some (v, q) → code_as s L p v q.0 ≡ end_as s L p
  unfolding end_as instruction_at with_read
  code_led n v q e = rw (ne_eqb p 0 n, e) refl

  pub cut_here : field_read s p 5 ≡ None → read_as Bad ≡ here_as s L p (field_read s p 5)
  unfolding here_as read_as
  cut_here e = rw e refl

  module _ (v : ℕ) (q : BitPlace) (e : field_read s p 5 ≡ Some (v, q)) where
    pub end_here : v ≡ 0 → (r : BitPlace) → r.0 ≡ link_at L p → end_as s L r.0 ≡ here_as s L p (field_read s p 5)
    unfolding here_as
    end_here h r k = rw (e, eq-eqb v 0 h, k) refl

    pub code_here : (v ≡ 0 → ⊥) → code_as s L p v q.0 ≡ here_as s L p (field_read s p 5)
    unfolding here_as
    code_here h = rw (e, ne_eqb v 0 h) refl

  pub no_template_lem : (t : ℕ) → (t ≡ 0 → ⊥) → p ≡ 0 → read_as Return ≡ fetched_at s L t p
  unfolding fetched_at read_as
  no_template_lem t h e = rw (ne_eqb t 0 h, eq-eqb p 0 e) refl

  pub here_away : (t : ℕ) → (p ≡ 0 → ⊥) → here_as s L p (field_read s p 5) ≡ fetched_at s L t p
  unfolding fetched_at
  here_away t h = rw (ne_eqb p 0 h) refl

  pub here_0 : (t : ℕ) → t ≡ 0 → here_as s L p (field_read s p 5) ≡ fetched_at s L t p
  unfolding fetched_at
  here_0 t h = rw (eq-eqb t 0 h) (by (eqb p 0))
    where
      by : (b : Bool) → here_as s L p (field_read s p 5) ≡ cond (b && false) returns (here_as s L p (field_read s p 5))
      by true = refl
      by false = refl
