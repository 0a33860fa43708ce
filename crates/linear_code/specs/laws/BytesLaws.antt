-- What the bytes and the table's slots say is what the entries say. Assumes nothing.
use Rattle.std.specs.Prelude.{ℕ, zero, suc, ◌<◌, ◌≤◌, ◌≡◌, Bool, true, false, cond, eqb, length, get_or, take}
use Rattle.std.proofs.Math.Path.{refl}
use Rattle.std.proofs.Common.{sym, ap, ap₂, ◌∙◌, arith, get_or-take, eqb-true}
use mathlib.Core.List.{List, [], ◌∷◌}
use Rattle.std.proofs.Math.Option.{Option, some}
use Rattle.files.specs.Codes.{operand_bytes}
use Rattle.files.specs.Entries.{Entry}
use Rattle.rules.specs.declared.Plain.{Plain}
use Rattle.rules.specs.declared.Plain.TheVariants.{Global, SetGlobal, Local, SetLocal, MakeEnv, CheckArgs}
use Rattle.machines.specs.Fetched.{Named, as_literal, as_closure, as_global, rule_of, resolve, decode}
use Rattle.machines.specs.Slots.{slot_names, slot_resolve}
use Rattle.machines.specs.laws.Slots.{RowStands, slot_resolve_lem}
use Rattle.linear_code.specs.Bytes.{whole_bytes, code_bytes, decode_bytes, AllBytes}

first_byte : (k : ℕ) (w : List ℕ) → AllBytes w → get_or (take k w) 0 0 < 256
first_byte zero w h = omega arith
first_byte (suc k) [] h = omega arith
first_byte (suc k) (x ∷ w) h = h 0

-- ---- a rule looks at no more operands than its code has
module _ (named : ℕ → Named) (op : ℕ) (w : List ℕ) where
  abbrev own : List ℕ
  own = take (operand_bytes op) w

  -- operand i of code k is one that it has
  operand_same : (k i : ℕ) → i < operand_bytes k → op ≡ k → get_or w i 0 ≡ get_or own i 0
  operand_same k i h e = sym (get_or-take (operand_bytes op) w i 0 (rw e h))

  or : (k : ℕ) {x x' y y' : Option Plain} → (op ≡ k → x ≡ x') → y ≡ y' → cond (eqb op k) x y ≡ cond (eqb op k) x' y'
  or k {x} {x'} {y} {y'} f e = by (eqb op k) refl
    where
      by : (b : Bool) → eqb op k ≡ b → cond b x y ≡ cond b x' y'
      by true i = f (eqb-true op k i)
      by false i = e

  -- a rule with no operand, one or two
  with_none : {x : Option Plain} (k : ℕ) → op ≡ k → x ≡ x
  with_none k e = refl

  with_one : (f : ℕ → Option Plain) (k : ℕ) → 0 < operand_bytes k → op ≡ k → f (get_or w 0 0) ≡ f (get_or own 0 0)
  with_one f k h e = ap f (operand_same k 0 h e)

  with_two : (f : ℕ → ℕ → Option Plain) (k : ℕ) → 1 < operand_bytes k → op ≡ k → f (get_or w 0 0) (get_or w 1 0) ≡ f (get_or own 0 0) (get_or own 1 0)
  with_two f k h e = ap₂ f (operand_same k 0 (omega arith) e) (operand_same k 1 h e)

  rule_uses : rule_of named op (get_or w 0 0) (get_or w 1 0) ≡ rule_of named op (get_or own 0 0) (get_or own 1 0)
  unfolding rule_of operand_bytes
  rule_uses =
      or 6 (with_one (λ a. as_literal (named a)) 6 (omega arith))
      (or 7 (with_one (λ a. as_closure (named a)) 7 (omega arith))
      (or 8 (with_one (λ a. as_global Global (named a)) 8 (omega arith))
      (or 9 (with_one (λ a. as_global SetGlobal (named a)) 9 (omega arith))
      (or 10 (with_two (λ a b. some (Local a b)) 10 (omega arith))
      (or 11 (with_two (λ a b. some (SetLocal a b)) 11 (omega arith))
      (or 12 (with_none 12)
      (or 13 (with_one (λ a. some (MakeEnv a)) 13 (omega arith))
      (or 15 (with_none 15)
      (or 16 (with_one (λ a. some (CheckArgs a)) 16 (omega arith))
      (or 18 (with_none 18)
      (or 19 (with_none 19)
      (or 20 (with_none 20)
      (or 21 (with_none 21)
      (or 22 (with_none 22) refl))))))))))))))

module _ (slot : ℕ → ℕ) (es : List Entry) (row : RowStands slot es) (q : ℕ) where
  resolve_bytes : (op : ℕ) (w : List ℕ) → AllBytes w → slot_resolve slot op (get_or w 0 0) (get_or w 1 0) ≡ resolve es op (take (operand_bytes op) w)
  unfolding slot_resolve
  resolve_bytes op w h =
      rule_uses (λ n. slot_names (slot n)) op w ∙ slot_resolve_lem slot es op (take (operand_bytes op) w) row (first_byte (operand_bytes op) w h)

  -- THE LAW
  pub decode_bytes_lem : (w : List ℕ) → AllBytes w → decode_bytes slot q w ≡ decode es q w
  unfolding decode_bytes code_bytes whole_bytes decode
  decode_bytes_lem [] h = refl
  decode_bytes_lem (op ∷ w) h = rw (resolve_bytes op w (λ i. h (suc i)))
