-- What stands first in a list says where another goes: there, past an instruction, or within a saved list. Assumes nothing.
use Rattle.std.specs.Prelude.{ℕ, suc, ◌+◌, ◌*◌, ◌-◌, ◌≤◌, ◌<◌, ◌≡◌, List, ◌++◌}
use native.Mathlib.Omega.{arith}
use Rattle.std.proofs.Math.Path.{refl, ap}
use Rattle.std.proofs.Common.{sym, ◌∙◌}
use Rattle.std.proofs.Math.ListN.{length, length-append}
use Rattle.cells.specs.laws.Laws.{clash}
use Rattle.cells.specs.declared.BitPlace.{BitPlace}
use Rattle.fields.specs.Field.{field_at}
use Rattle.files.specs.Codes.{shape_of}
use Rattle.files.specs.Code.{Code, done, neutral, return, call, unless_false, make_cont, bits}
use Rattle.files.specs.Valid.{Valid}
use Rattle.files.specs.Reading.{got, list_at}
use Rattle.files.specs.laws.ReadingLaws.{least_bits}
use Rattle.files.specs.laws.AllGot.{field_got_lem}
use Rattle.files.specs.Linear.{bits_of}
use Rattle.readback.specs.Bits.{Stands}
use Rattle.readback.specs.laws.Bits.{length_bits, stands_left, stands_right, field_stands}
use Rattle.tree_file.specs.File.{operands_bits, list_bits, levels}
use Rattle.tree_file.specs.laws.Lengths.{operands_length, list_length}
use Rattle.tree_file.proofs.theorems.Back.{neutral_shape}
use Rattle.join.specs.declared.Joint.{Joint}
use Rattle.join.specs.declared.Turn.TheVariants.{There, Past, Within}
use Rattle.join.specs.Adjoin.{joint_bits, joint_depth}
use Rattle.join.specs.Operands.{CodeAt, joint_of, turn_of}
use Rattle.join.specs.laws.OperandsLaws.{code_read}

-- the shape of the code that a list begins with
head_shape : Code → ℕ
head_shape done = 0
head_shape (neutral op ns y) = suc (length ns)
head_shape (return y) = 1
head_shape (call n y) = 2
head_shape (unless_false y₁ y₂ y) = 4
head_shape (make_cont n y b) = 5

module _ (s : List ℕ) (p : ℕ) where
  code_is : (v : ℕ) (b : List ℕ) → v < 32 → Stands s p (bits_of 5 v ++ b) → field_at s p 5 ≡ v
  code_is v b lt h = sym (field_got_lem s p 5 (field_stands s p 5 v lt (stands_left (bits_of 5 v) b h))).0

  head_is : (c : Code) → Valid c → Stands s p (list_bits c) → shape_of (field_at s p 5) ≡ head_shape c
  unfolding list_bits head_shape Valid shape_of
  head_is done v h = ap shape_of (sym (field_got_lem s p 5 (field_stands s p 5 0 (omega arith) h)).0)
  head_is (neutral op ns y) v h =
      let n = neutral_shape op (length ns) v.0 v.1 in
      ap shape_of (code_is op (operands_bits ns) n.fits (stands_left (bits_of 5 op ++ operands_bits ns) (list_bits y) h)) ∙ n.shape
  head_is (return y) v h = ap shape_of (code_is 1 (list_bits y) (omega arith) h)
  head_is (call n y) v h = ap shape_of (code_is 2 (bits_of 8 n) (omega arith) (stands_left (bits_of 5 2 ++ bits_of 8 n) (list_bits y) h))
  head_is (unless_false y₁ y₂ y) v h =
      ap shape_of (code_is 3 (list_bits y₁ ++ list_bits y₂) (omega arith) (stands_left (bits_of 5 3 ++ (list_bits y₁ ++ list_bits y₂)) (list_bits y) h))
  head_is (make_cont n y b) v h =
      ap shape_of (code_is 4 (bits_of 8 n ++ list_bits y) (omega arith) (stands_left (bits_of 5 4 ++ (bits_of 8 n ++ list_bits y)) (list_bits b) h))

-- ---- what a turn answers, by the shape
turn_at_end : (p : ℕ) (c : Code) → head_shape c ≡ 0 → There ≡ turn_of p c
unfolding head_shape turn_of
turn_at_end p done e = refl
turn_at_end p (neutral op ns y) e = absurd (omega arith)
turn_at_end p (return y) e = absurd (omega arith)
turn_at_end p (call n y) e = absurd (omega arith)
turn_at_end p (unless_false y₁ y₂ y) e = absurd (omega arith)
turn_at_end p (make_cont n y b) e = absurd (omega arith)

few_operands : (op : ℕ) (ns : List ℕ) (y : Code) → Valid (neutral op ns y) → length ns ≤ 2
unfolding Valid
few_operands op ns y v = (neutral_shape op (length ns) v.0 v.1).few

head_known : (c : Code) → Valid c → head_shape c ≤ 5
unfolding head_shape
head_known done v = omega arith
head_known (neutral op ns y) v = omega (arith, few_operands op ns y v)
head_known (return y) v = omega arith
head_known (call n y) v = omega arith
head_known (unless_false y₁ y₂ y) v = omega arith
head_known (make_cont n y b) v = omega arith

turn_at_cont : (p : ℕ) (c : Code) → Valid c → head_shape c ≡ 5 → (q : BitPlace) → q.0 ≡ p + 13 → Within q ≡ turn_of p c
unfolding head_shape turn_of
turn_at_cont p done v e q f = absurd (omega arith)
turn_at_cont p (neutral op ns y) v e q f = absurd (omega (arith, few_operands op ns y v))
turn_at_cont p (return y) v e q f = absurd (omega arith)
turn_at_cont p (call n y) v e q f = absurd (omega arith)
turn_at_cont p (unless_false y₁ y₂ y) v e q f = absurd (omega arith)
turn_at_cont p (make_cont n y b) v e q f = ap (λ (x : ℕ). Within (record { 0 = x })) f

turn_at_plain : (p k : ℕ) (c : Code) → k ≡ head_shape c → (k ≡ 0 → ⊥) → (k ≡ 4 → ⊥) → (k ≡ 5 → ⊥) → (q : BitPlace) → q.0 ≡ p + (5 + 8 * (k - 1))
    → Past q ≡ turn_of p c
unfolding head_shape turn_of
turn_at_plain p k done e z a b q f = absurd (z e)
turn_at_plain p k (neutral op ns y) e z a b q f = ap (λ (x : ℕ). Past (record { 0 = x })) (f ∙ rw e (omega arith))
turn_at_plain p k (return y) e z a b q f = ap (λ (x : ℕ). Past (record { 0 = x })) (f ∙ rw e (omega arith))
turn_at_plain p k (call n y) e z a b q f = ap (λ (x : ℕ). Past (record { 0 = x })) (f ∙ rw e (omega arith))
turn_at_plain p k (unless_false y₁ y₂ y) e z a b q f = absurd (a e)
turn_at_plain p k (make_cont n y c) e z a b q f = absurd (b e)

-- where parts of an instruction stand
part : {s : List ℕ} {p : ℕ} (a b : List ℕ) (n q : ℕ) → Stands s p (a ++ b) → length a ≡ n → p + n ≡ q → Stands s q b
part a b n q h e f = rw (← f, ← e) (stands_right a b h)

module _ (s : List ℕ) (l p : ℕ) where
  -- the arms of a conditional
  record Arms (c : Code) : Type 0 where
    pub first : Code
    pub second : Code
    pub first_at : CodeAt s (l - 1) (p + 5)
    pub first_is : first_at.code ≡ first
    pub second_at : CodeAt s (l - 1) (p + 5 + bits first)
    pub second_is : second_at.code ≡ second
    pub below : 1 ≤ l
    pub turn : turn_of p c ≡ Past (record { 0 = p + 5 + bits first + bits second })

  arms : (c : Code) → Valid c → levels c ≤ l → Stands s p (list_bits c) → head_shape c ≡ 4 → Arms c
  unfolding head_shape turn_of Valid levels list_bits
  arms done v d h e = absurd (omega arith)
  arms (neutral op ns y) v d h e = absurd (omega (arith, few_operands op ns y v))
  arms (return y) v d h e = absurd (omega arith)
  arms (call n y) v d h e = absurd (omega arith)
  arms (unless_false x y r) v d h e =
      let k : Stands s p (bits_of 5 3 ++ (list_bits x ++ list_bits y)) = stands_left (bits_of 5 3 ++ (list_bits x ++ list_bits y)) (list_bits r) h in
      let hx : Stands s (p + 5) (list_bits x ++ list_bits y) = part (bits_of 5 3) (list_bits x ++ list_bits y) 5 (p + 5) k (length_bits 5 3) refl in
      record {
        first = x;
        second = y;
        first_at = record { code = x; stands = stands_left (list_bits x) (list_bits y) hx; valid = v.0; deep = omega arith };
        first_is = refl;
        second_at =
            record { code = y; stands = part (list_bits x) (list_bits y) (bits x) (p + 5 + bits x) hx (list_length x) refl; valid = v.1; deep = omega arith };
        second_is = refl;
        below = omega arith;
        turn = refl;
      }
  arms (make_cont n y b) v d h e = absurd (omega arith)

  -- ---- what a turn says of the rest
  -- the joint of c is that of the list at q, with m levels left below it, which is so much deeper
  pub record Walk (c : Code) (m q deeper : ℕ) : Type 0 where
    pub next : CodeAt s m q
    pub bits_on : p + joint_bits c ≡ q + joint_bits next.code
    pub depth_on : joint_depth c ≡ deeper + joint_depth next.code
    pub on : p < q

  pub walk_there : (c : Code) → turn_of p c ≡ There → (joint_bits c ≡ 0) × (joint_depth c ≡ 0)
  unfolding turn_of joint_bits joint_depth
  walk_there done e = (refl, refl)
  walk_there (neutral op ns y) e = clash (cc)
  walk_there (return y) e = clash (cc)
  walk_there (call n y) e = clash (cc)
  walk_there (unless_false y₁ y₂ y) e = clash (cc)
  walk_there (make_cont n y b) e = clash (cc)

  past_is : {x y : BitPlace} → Past x ≡ Past y → x.0 ≡ y.0
  past_is {x} {y} e = let f : x ≡ y = cc in ap (λ (z : BitPlace). z.0) f

  within_is : {x y : BitPlace} → Within x ≡ Within y → x.0 ≡ y.0
  within_is {x} {y} e = let f : x ≡ y = cc in ap (λ (z : BitPlace). z.0) f

  -- past n bits of an instruction
  rest : (c y : Code) (i : List ℕ) (n q : ℕ) → Valid y → levels y ≤ l → Stands s p (i ++ list_bits y) → length i ≡ n → p + n ≡ q → 0 < n
      → joint_bits c ≡ n + joint_bits y → joint_depth c ≡ joint_depth y → Walk c l q 0
  rest c y i n q v d h e f some b k =
      record {
        next = record { code = y; stands = part i (list_bits y) n q h e f; valid = v; deep = d };
        bits_on = omega arith;
        depth_on = k ∙ omega arith;
        on = omega arith;
      }

  pub walk_past : (c : Code) → Valid c → levels c ≤ l → Stands s p (list_bits c) → (q : BitPlace) → turn_of p c ≡ Past q → Walk c l q.0 0
  unfolding turn_of Valid levels list_bits joint_bits joint_depth
  walk_past done v d h q e = clash (cc)
  walk_past (neutral op ns y) v d h q e =
      let n : length (bits_of 5 op ++ operands_bits ns) ≡ 5 + 8 * length ns =
      length-append (bits_of 5 op) (operands_bits ns) ∙ rw (length_bits 5 op, operands_length ns) refl in
      rest (neutral op ns y) y (bits_of 5 op ++ operands_bits ns) (5 + 8 * length ns) q.0 v.3 d h n (past_is e) (omega arith) refl refl
  walk_past (return y) v d h q e = rest (return y) y (bits_of 5 1) 5 q.0 v d h (length_bits 5 1) (past_is e) (omega arith) refl refl
  walk_past (call n y) v d h q e =
      let m : length (bits_of 5 2 ++ bits_of 8 n) ≡ 13 = length-append (bits_of 5 2) (bits_of 8 n) ∙ rw (length_bits 5 2, length_bits 8 n) refl in
      rest (call n y) y (bits_of 5 2 ++ bits_of 8 n) 13 q.0 v.1 d h m (past_is e) (omega arith) refl refl
  walk_past (unless_false x y r) v d h q e =
      let i = bits_of 5 3 ++ (list_bits x ++ list_bits y) in
      let n : length i ≡ 5 + bits x + bits y =
      length-append (bits_of 5 3) (list_bits x ++ list_bits y)
      ∙ rw (length_bits 5 3, length-append (list_bits x) (list_bits y), list_length x, list_length y) (omega arith) in
      let f : p + 5 + bits x + bits y ≡ q.0 = past_is e in
      rest (unless_false x y r) r i (5 + bits x + bits y) q.0 v.2 (omega arith) h n (omega arith) (omega arith) refl refl
  walk_past (make_cont n y b) v d h q e = clash (cc)

  pub walk_within : (c : Code) → Valid c → levels c ≤ l → Stands s p (list_bits c) → (q : BitPlace) → turn_of p c ≡ Within q
      → (1 ≤ l) × Walk c (l - 1) q.0 1
  unfolding turn_of Valid levels list_bits joint_bits joint_depth
  walk_within done v d h q e = clash (cc)
  walk_within (neutral op ns y) v d h q e = clash (cc)
  walk_within (return y) v d h q e = clash (cc)
  walk_within (call n y) v d h q e = clash (cc)
  walk_within (unless_false x y r) v d h q e = clash (cc)
  walk_within (make_cont n y b) v d h q e =
      let k : Stands s p (bits_of 5 4 ++ (bits_of 8 n ++ list_bits y)) = stands_left (bits_of 5 4 ++ (bits_of 8 n ++ list_bits y)) (list_bits b) h in
      let hn : Stands s (p + 5) (bits_of 8 n ++ list_bits y) = part (bits_of 5 4) (bits_of 8 n ++ list_bits y) 5 (p + 5) k (length_bits 5 4) refl in
      let f : p + 13 ≡ q.0 = within_is e in
      let st : Stands s q.0 (list_bits y) = part (bits_of 8 n) (list_bits y) 8 q.0 hn (length_bits 8 n) (omega arith) in (
        omega arith,
        record {
          next = record { code = y; stands = st; valid = v.1; deep = omega arith };
          bits_on = omega arith;
          depth_on = omega arith;
          on = omega arith;
        },
      )

-- ---- as the functions use it
-- the code there can be read
pub code_inside : {s : List ℕ} {l p : ℕ} (w : CodeAt s l p) → p + bits w.code ≤ 8 * length s
code_inside {s} {l} {p} w = let h : p + length (list_bits w.code) ≤ 8 * length s = w.stands.fits in omega (arith, list_length w.code)

pub code_five : {s : List ℕ} {l p : ℕ} → CodeAt s l p → p + 5 ≤ 8 * length s
code_five w = omega (arith, code_inside w, least_bits w.code)

module _ {s : List ℕ} {l p : ℕ} (w : CodeAt s l p) (k : ℕ) (shape : k ≡ shape_of (field_at s p 5)) where
  shape_is : k ≡ head_shape w.code
  shape_is = shape ∙ head_is s p w.code w.valid w.stands

  pub code_known : k ≤ 5
  code_known = rw shape_is (head_known w.code w.valid)

  pub code_there : k ≡ 0 → There ≡ turn_of p w.code
  code_there e = turn_at_end p w.code (sym shape_is ∙ e)

  pub code_within : k ≡ 5 → (q : BitPlace) → q.0 ≡ p + 13 → Within q ≡ turn_of p w.code
  code_within e = turn_at_cont p w.code w.valid (sym shape_is ∙ e)

  pub code_plain : (k ≡ 0 → ⊥) → (k ≡ 4 → ⊥) → (k ≡ 5 → ⊥) → (q : BitPlace) → q.0 ≡ p + (5 + 8 * (k - 1)) → Past q ≡ turn_of p w.code
  code_plain = turn_at_plain p k w.code shape_is

  module _ (four : k ≡ 4) where
    these : Arms s l p w.code
    these = arms s l p w.code w.valid w.deep w.stands (sym shape_is ∙ four)

    pub arms_below : 1 ≤ l
    arms_below = these.below

    -- x is the place past the first arm, y that past the second
    module _ (at : ℕ) (x y : BitPlace) (at_is : at ≡ p + 5) (first : (c : Code) (q : ℕ) → list_at s (l - 1) at ≡ got c q → x.0 ≡ q) where
      first_next : x.0 ≡ p + 5 + bits these.first
      first_next =
          first these.first (p + 5 + bits these.first)
          (ap (list_at s (l - 1)) at_is ∙ code_read these.first_at ∙ rw these.first_is refl)

      pub code_arms : ((c : Code) (q : ℕ) → list_at s (l - 1) x.0 ≡ got c q → y.0 ≡ q) → Past y ≡ turn_of p w.code
      code_arms second =
          let e = second these.second (p + 5 + bits these.first + bits these.second)
          (ap (list_at s (l - 1)) first_next ∙ code_read these.second_at ∙ rw these.second_is refl) in
          ap (λ (q : ℕ). Past (record { 0 = q })) e ∙ sym these.turn

-- ---- the loop: the joint of the list at `at` is that of the list at p, with l levels left below it
pub record Walked (s : List ℕ) (at : ℕ) (w : CodeAt s 15 at) (l p : ℕ) : Type 0 where
  pub now : CodeAt s l p
  pub place : at + joint_bits w.code ≡ p + joint_bits now.code
  pub depth : joint_depth w.code + l ≡ 15 + joint_depth now.code

module _ (s : List ℕ) (at : ℕ) (w : CodeAt s 15 at) where
  pub walked_none : Walked s at w 15 at
  walked_none = record { now = w; place = refl; depth = omega arith }

  module _ {l p : ℕ} (k : Walked s at w l p) where
    abbrev c : Code
    c = k.now.code

    pub walked_past : (q : BitPlace) → Past q ≡ turn_of p c → Walked s at w l q.0 × (p < q.0)
    walked_past q e =
        let a = walk_past s l p c k.now.valid k.now.deep k.now.stands q (sym e) in
        (record { now = a.next; place = k.place ∙ a.bits_on; depth = omega (arith, k.depth, a.depth_on) }, a.on)

    pub walked_within : (q : BitPlace) → Within q ≡ turn_of p c → (1 ≤ l) × Walked s at w (l - 1) q.0 × (p < q.0)
    walked_within q e =
        let b = walk_within s l p c k.now.valid k.now.deep k.now.stands q (sym e) in
        let a = b.1 in
        (b.0, record { now = a.next; place = k.place ∙ a.bits_on; depth = omega (arith, k.depth, a.depth_on, b.0) }, a.on)

    pub walked_there : There ≡ turn_of p c → (j : Joint) → j.place.0 ≡ p → j.depth ≡ 15 - l → j ≡ joint_of at w.code
    unfolding joint_of
    walked_there e j f g =
        let z = walk_there s l p c (sym e) in
        let a : j.place.0 ≡ at + joint_bits w.code = omega (arith, k.place, z.0) in
        let b : j.depth ≡ joint_depth w.code = omega (arith, k.depth, z.1) in
        ap (λ (x : ℕ). record { place = record { 0 = x }; depth = j.depth }) a
        ∙ ap (λ (x : ℕ). record { place = record { 0 = at + joint_bits w.code }; depth = x }) b
