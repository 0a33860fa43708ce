-- What stands at a place of a list, by where in the list the place is; and of linear code. Assumes nothing.
use Rattle.std.specs.Prelude.{ℕ, zero, suc, ◌+◌, ◌*◌, ◌≤◌, ◌<◌, ◌≡◌, refl, List, [], ◌∷◌, Bool, true, false, ◌&&◌, leb, eqb, length, get_or}
use Rattle.std.proofs.Common.{arith}
use borrow.Author.Tests.{eq-eqb, ne_eqb, lt-ltb, le-ltb, leb-true}
use Rattle.std.proofs.Math.Bool.{and-eq-true_iff}
use Rattle.files.specs.Codes.{linear_bytes, operand_bytes}
use Rattle.files.specs.Code.{Code, neutral, unless_false, make_cont, bits}
use Rattle.files.specs.Entries.{Entry}
use Rattle.machines.specs.Fetched.{Fetched, bad, first, look, beyond, transfer}

module _ (es : List Entry) (s p : ℕ) where
  pub look_first : (c : Code) (F : Fetched) → p ≡ s → look es s c F p ≡ first es s c F
  unfolding look
  look_first c F h = rw (eq-eqb p s h)

  look_beyond : (c : Code) (F : Fetched) → s < p → look es s c F p ≡ beyond es c s F p
  unfolding look
  look_beyond c F h = rw (ne_eqb p s (λ e. omega arith))

  pub look_neutral : (op : ℕ) (ns : List ℕ) (r : Code) (F : Fetched) → s < p
      → look es s (neutral op ns r) F p ≡ look es (s + (5 + 8 * length ns)) r F p
  unfolding look beyond
  look_neutral op ns r F h = look_beyond (neutral op ns r) F h

  module _ (x y r : Code) (F : Fetched) (h : s + 5 ≤ p) where
    abbrev after : ℕ
    after = s + 5 + bits x + bits y

    pub look_first_arm : p < s + 5 + bits x → look es s (unless_false x y r) F p ≡ look es (s + 5) x (first es after r F) p
    unfolding look beyond
    look_first_arm l = rw (look_beyond (unless_false x y r) F (omega arith), lt-ltb p (s + 5 + bits x) l)

    pub look_second_arm : s + 5 + bits x ≤ p → p < after → look es s (unless_false x y r) F p ≡ look es (s + 5 + bits x) y (first es after r F) p
    unfolding look beyond
    look_second_arm g l = rw (look_beyond (unless_false x y r) F (omega arith), le-ltb p (s + 5 + bits x) g, lt-ltb p after l)

    pub look_after_arms : after ≤ p → look es s (unless_false x y r) F p ≡ look es after r F p
    unfolding look beyond
    look_after_arms g = rw (look_beyond (unless_false x y r) F (omega arith), le-ltb p (s + 5 + bits x) (omega arith), le-ltb p after g)

  module _ (n : ℕ) (x r : Code) (F : Fetched) (h : s + 13 ≤ p) where
    pub look_saved : p < s + 13 + bits x → look es s (make_cont n x r) F p ≡ look es (s + 13) x F p
    unfolding look beyond
    look_saved l = rw (look_beyond (make_cont n x r) F (omega arith), lt-ltb p (s + 13 + bits x) l)

    pub look_after_saved : s + 13 + bits x ≤ p → look es s (make_cont n x r) F p ≡ look es (s + 13 + bits x) r bad p
    unfolding look beyond
    look_after_saved g = rw (look_beyond (make_cont n x r) F (omega arith), le-ltb p (s + 13 + bits x) g)

-- a code above 5 goes on to the next instruction
pub transfer_other : (op next : ℕ) (w : List ℕ) (F : Fetched) → 6 ≤ op → transfer op w next F ≡ F
unfolding transfer
transfer_other op next w F h =
    let past : (n : ℕ) → n < 6 → eqb op n ≡ false = λ n l. ne_eqb op n (λ z. omega arith) in
    rw (past 1 (omega arith), past 2 (omega arith), past 3 (omega arith), past 4 (omega arith), past 5 (omega arith))

-- ---- no code has more than three operand bytes: tried over the whole table, and so at each code
few : List ℕ → Bool
few [] = true
few (n ∷ l) = leb n 3 && few l

few_at : (l : List ℕ) → few l ≡ true → (op : ℕ) → get_or l op 0 ≤ 3
unfolding few
few_at [] h op = omega arith
few_at (n ∷ l) h zero = leb-true n 3 ((and-eq-true_iff (leb n 3) (few l)).0 h).0
few_at (n ∷ l) h (suc op) = few_at l ((and-eq-true_iff (leb n 3) (few l)).0 h).1 op

pub operand_bytes_few : (op : ℕ) → operand_bytes op ≤ 3
unfolding operand_bytes few
operand_bytes_few op = few_at linear_bytes refl op
