-- What stands at a place, one law for each outcome. Assumes nothing.
use Prim.Native.Nat.{ℕ, zero, suc, ◌+◌, ◌*◌, ◌-◌, ◌/◌, ◌%◌, ◌<◌, ◌≤◌}
use mathlib.Core.Path.{◌≡◌, refl, sym, ap, ◌∙◌, subst}
use mathlib.Core.List.{List, [], ◌∷◌}
use native.Mathlib.Omega.{arith}
use native.Mathlib.Nat.{add-zero, sub-zero, zero-sub, suc-sub-suc}
use lib.ListN.{length, get_or, take, drop, length-take, length-drop, drop_of_length-le, get_or-eq_default}
use lib.Seq.{take-nil, drop-cons, drop-drop, get_or-take, get_or-drop}
use borrow.Author.Tests.{le-leb, lt-leb, ne_eqb}
use mathlib.Core.Bool.{true, false}
use Rattle.cells.specs.laws.Laws.{clash}
use Rattle.runs.specs.Runs.{part}
use Rattle.files.specs.Codes.{operand_bytes}
use Rattle.machines.specs.Fetched.{Fetched, returns, calls, branches, saves, jumps, bad, plainly, offset_in, transfer}
use Rattle.machines.specs.Slots.{slot_at, slot_resolve}
use Rattle.linear_code.specs.Neutral.{is_transfer}
use Rattle.linear_code.specs.Bytes.{whole_bytes, code_bytes, decode_bytes, code_from, fetch_bytes, code_start, code_length, Within, AllWithin}

-- ---- the `left` bytes at i of a file
module _ (s : List ℕ) (i left : ℕ) (fits : i + left ≤ length s) where
  pub part_length : length (part s i left) ≡ left
  part_length = rw (length-take, length-drop) (omega arith)

  part_at : (k : ℕ) → k < left → get_or (part s i left) k 0 ≡ get_or s (i + k) 0
  part_at k h = get_or-take left (drop i s) k 0 h ∙ get_or-drop i s k 0

  part_first : 0 < left → get_or (part s i left) 0 0 ≡ get_or s i 0
  part_first h = part_at 0 h ∙ ap (λ (n : ℕ). get_or s n 0) (add-zero i)

  pub operand_there : (k : ℕ) → k < left → get_or s (i + k) 0 ≡ get_or (part s i left) k 0
  operand_there k h = sym (part_at k h)

  pub operand_past : (k : ℕ) → left ≤ k → 0 ≡ get_or (part s i left) k 0
  operand_past k h = sym (get_or-eq_default (part s i left) 0 (rw part_length h))

  pub first_there : 1 ≤ left → get_or s i 0 ≡ get_or (part s i left) 0 0
  first_there h = sym (part_first h)

  pub offset_there : (o : ℕ) → o ≡ 256 * get_or s i 0 + get_or s (i + 1) 0 → 2 ≤ left → o ≡ offset_in (part s i left)
  offset_there o e h = e ∙ rw (part_first (omega arith), part_at 1 h)

-- ---- an instruction
-- the operand bytes of a code that is known
pub has_operands : (op k n left : ℕ) → operand_bytes k ≡ n → op ≡ k → operand_bytes op ≤ left → n ≤ left
has_operands op k n left i e h = subst (λ (z : ℕ). z ≤ left) (ap operand_bytes e ∙ i) h

module _ (slot : ℕ → ℕ) (op next : ℕ) (w : List ℕ) where
  pub whole_return : op ≡ 1 → returns ≡ whole_bytes slot op w next
  unfolding whole_bytes transfer
  whole_return e = rw e

  pub whole_call : (n : ℕ) → op ≡ 2 → n ≡ get_or w 0 0 → calls n ≡ whole_bytes slot op w next
  unfolding whole_bytes transfer
  whole_call n e i = rw (e, i)

  pub whole_branch : (p o : ℕ) → op ≡ 3 → p ≡ next + o → o ≡ offset_in w → branches 0 next p ≡ whole_bytes slot op w next
  unfolding whole_bytes transfer
  whole_branch p o e i j = rw (e, i, j)

  pub whole_save : (n p o : ℕ) → op ≡ 4 → n ≡ get_or w 2 0 → p ≡ next + o → o ≡ offset_in w → saves n p next ≡ whole_bytes slot op w next
  unfolding whole_bytes transfer
  whole_save n p o e i j k = rw (e, i, j, k)

  pub whole_jump : (p o : ℕ) → op ≡ 5 → p ≡ next + o → o ≡ offset_in w → jumps p ≡ whole_bytes slot op w next
  unfolding whole_bytes transfer
  whole_jump p o e i j = rw (e, i, j)

  pub whole_other : (a b : ℕ) → (op ≡ 1 → ⊥) → (op ≡ 2 → ⊥) → (op ≡ 3 → ⊥) → (op ≡ 4 → ⊥) → (op ≡ 5 → ⊥) → a ≡ get_or w 0 0 → b ≡ get_or w 1 0
      → plainly (slot_resolve slot op a b) next ≡ whole_bytes slot op w next
  unfolding whole_bytes transfer
  whole_other a b h₁ h₂ h₃ h₄ h₅ i j = rw (ne_eqb op 1 h₁, ne_eqb op 2 h₂, ne_eqb op 3 h₃, ne_eqb op 4 h₄, ne_eqb op 5 h₅, i, j)

-- a neutral code is none of the others
not_transfer : (op k : ℕ) → is_transfer k ≡ true → is_transfer op ≡ false → op ≡ k → ⊥
not_transfer op k t f e = let z : is_transfer op ≡ true = rw e t in clash (cc)

pub is_neutral_lem : (op : ℕ) → (op ≡ 1 → ⊥) → (op ≡ 2 → ⊥) → (op ≡ 3 → ⊥) → (op ≡ 4 → ⊥) → (op ≡ 5 → ⊥) → is_transfer op ≡ false
unfolding is_transfer
is_neutral_lem op h₁ h₂ h₃ h₄ h₅ = rw (ne_eqb op 1 h₁, ne_eqb op 2 h₂, ne_eqb op 3 h₃, ne_eqb op 4 h₄, ne_eqb op 5 h₅)

pub whole_neutral : (slot : ℕ → ℕ) (op next : ℕ) (w : List ℕ) (a b : ℕ) → is_transfer op ≡ false → a ≡ get_or w 0 0 → b ≡ get_or w 1 0
    → plainly (slot_resolve slot op a b) next ≡ whole_bytes slot op w next
unfolding is_transfer
whole_neutral slot op next w a b h =
    whole_other slot op next w a b (not_transfer op 1 refl h) (not_transfer op 2 refl h) (not_transfer op 3 refl h) (not_transfer op 4 refl h)
    (not_transfer op 5 refl h)

-- a code at q, and the `left` bytes at i after it
module _ (s : List ℕ) (i left : ℕ) (fits : i + left ≤ length s) (slot : ℕ → ℕ) (q op n : ℕ) (c : n ≡ operand_bytes op) where
  pub op_cut : left < n → bad ≡ code_bytes slot q op (part s i left)
  unfolding code_bytes
  op_cut h = rw (lt-leb (operand_bytes op) (length (part s i left)) (omega (arith, part_length s i left fits)))

  pub op_whole : (x : Fetched) (next : ℕ) → n ≤ left → next ≡ q + (1 + n) → x ≡ whole_bytes slot op (part s i left) next
      → x ≡ code_bytes slot q op (part s i left)
  unfolding code_bytes
  op_whole x next h e h' = h' ∙ rw (le-leb (operand_bytes op) (length (part s i left)) (omega (arith, part_length s i left fits)), e, c)

-- ---- a place of a template's code
drop_take : (k n : ℕ) (l : List ℕ) → drop k (take n l) ≡ take (n - k) (drop k l)
drop_take zero n l = rw (sub-zero n)
drop_take (suc k) zero l = rw (zero-sub (suc k))
drop_take (suc k) (suc n) [] = sym (take-nil (suc n - suc k))
drop_take (suc k) (suc n) (x ∷ l) = rw (suc-sub-suc n k) (drop_take k n l)

module _ (s table : List ℕ) (t start len q : ℕ) (k : Within s start len) where
  -- the code's bytes from q on
  from_there : q < len → drop q (part s start len) ≡ get_or s (start + q) 0 ∷ part s (start + q + 1) (len - q - 1)
  from_there h =
      let e₁ : start + suc q ≡ start + q + 1 = omega arith in
      let e₂ : len - suc q ≡ len - q - 1 = omega arith in
      drop-cons (part s start len) q 0 (rw (part_length s start len k.inside) h)
      ∙ rw (part_at s start len k.inside q h, drop_take (suc q) len (drop start s), drop-drop (suc q) start s, e₁, e₂)

  -- the bytes after the code at q
  abbrev after : List ℕ
  after = part s (start + q + 1) (len - q - 1)

  fetch_there : (x : Fetched) → q < len → x ≡ code_bytes (slot_at table t) q (get_or s (start + q) 0) after → x ≡ fetch_bytes s table t start len q
  unfolding fetch_bytes code_from decode_bytes
  fetch_there x h e = rw (ne_eqb start 0 (λ z. omega (arith, k.there z)), from_there h) e

  -- the instruction at i, of which `left` bytes are left
  pub fetch_known : (x : Fetched) (i left op : ℕ) → i ≡ start + q → left ≡ len - q → (left ≡ 0 → ⊥) → op ≡ get_or s i 0
      → x ≡ code_bytes (slot_at table t) q op (part s (i + 1) (left - 1)) → x ≡ fetch_bytes s table t start len q
  fetch_known x i left op at e some o h = fetch_there x (omega (arith, some)) (h ∙ rw (o, at, e))

  pub fetch_past : len ≤ q → (start ≡ 0 → ⊥) → bad ≡ fetch_bytes s table t start len q
  unfolding fetch_bytes code_from decode_bytes
  fetch_past h z = rw (ne_eqb start 0 z, drop_of_length-le (part s start len) {i = q} (rw (part_length s start len k.inside) h))

  pub fetch_absent : start ≡ 0 → q ≡ 0 → returns ≡ fetch_bytes s table t start len q
  unfolding fetch_bytes code_from decode_bytes code_bytes whole_bytes transfer operand_bytes
  fetch_absent z y = rw (z, y)

  pub fetch_past_absent : start ≡ 0 → (q ≡ 0 → ⊥) → bad ≡ fetch_bytes s table t start len q
  unfolding fetch_bytes code_from decode_bytes
  fetch_past_absent z y = rw (z, drop_of_length-le {A = ℕ} (1 ∷ []) {i = q} (omega arith))

-- ---- a place of a template, whose slot 0 is x
module _ (s table : List ℕ) (t x : ℕ) (e : x ≡ slot_at table t 0) where
  pub code_within : AllWithin s table → Within s (x % 0x100000000) (x / 0x100000000)
  unfolding code_start code_length
  code_within w = rw e (w.within t)

  pub code_fetched : (q : ℕ) (y : Fetched) → y ≡ fetch_bytes s table t (x % 0x100000000) (x / 0x100000000) q → y ≡ fetch_bytes s table t (code_start table t) (code_length table t) q
  unfolding code_start code_length
  code_fetched q y h = h ∙ rw e
