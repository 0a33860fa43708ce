-- Runs of stores, and what an instruction leaves of a list's flat code to write. Assumes nothing.
use Rattle.std.specs.Prelude.{ℕ, zero, suc, ◌+◌, ◌/◌, ◌%◌, ◌≤◌, ◌≡◌, refl, Bool, true, false, cond, ◌&&◌, List, [], ◌∷◌, ◌++◌, length, set}
use Rattle.std.specs.Prelude.{get_or, eqb}
use Rattle.std.proofs.Common.{zero-add, add-one, arith, sym, ap, ◌∙◌, append_assoc, append-nil, leb-true, eqb-true, length-append}
use Rattle.std.proofs.Math.Numerals.{add-two}
use Rattle.std.proofs.Math.Bool.{and-eq-true_iff}
use Rattle.std.proofs.lemmas.List.Edits.{sets}
use Rattle.cells.specs.laws.Laws.{clash}
use Rattle.cells.specs.laws.Lists.{sets_append}
use Rattle.fields.specs.Field.{field_at}
use Rattle.fields.specs.laws.Laws.{line_code, line_first, line_second}
use Rattle.files.specs.Codes.{shape_of}
use Rattle.files.specs.Code.{Code, Instr, neutral_i, return_i, call_i, unless_i, cont_i, put, simple}
use Rattle.files.specs.Grammar.{is_closed}
use Rattle.files.specs.Flat.{offset, conditional, flat, fits_offset, arms_fit, offsets_fit}
use Rattle.files.specs.laws.RowFilled.{set_sets}
use Rattle.lists.specs.Pass.{operands_at}
use Rattle.emit.specs.Written.{gap, jump_bytes, arms_bytes, saved_bytes, line_bytes, front_bytes, back_bytes}

-- ---- runs of stores
-- in two parts that do not meet
pub sets_comm : (xs ys o : List ℕ) (i j : ℕ) → i + length xs ≤ j → sets (sets o i xs) j ys ≡ sets (sets o j ys) i xs
sets_comm [] ys o i j h = refl
sets_comm (x ∷ xs) ys o i j h = sets_comm xs ys (set o i x) (suc i) j (omega arith) ∙ ap (λ (l : List ℕ). sets l (suc i) xs) (set_sets ys o i j x (omega arith))

-- of four parts, one after the other
pub sets_four : (a b c d o : List ℕ) (f : ℕ)
    → sets o f (a ++ (b ++ (c ++ d))) ≡ sets (sets (sets (sets o f a) (f + length a) b) (f + length a + length b) c) (f + length a + length b + length c) d
sets_four a b c d o f =
    sets_append a (b ++ (c ++ d)) o f ∙ sets_append b (c ++ d) (sets o f a) (f + length a)
    ∙ sets_append c d (sets (sets o f a) (f + length a) b) (f + length a + length b)

-- ---- the operands that are left, from f to the end
pub operands_length : (s : List ℕ) (p n : ℕ) → length (operands_at s p n) ≡ n
unfolding operands_at
operands_length s p zero = refl
operands_length s p (suc n) = ap suc (operands_length s (p + 8) n)

-- ---- an instruction: its bytes before those of the rest, and after
conditional_arms : (b : Bool) (x y r : List ℕ) → conditional b x y r ≡ ((3 ∷ offset (gap b + length x)) ++ (x ++ (jump_bytes b (length y) ++ y))) ++ r
unfolding conditional gap jump_bytes
conditional_arms true x y r = rw (zero-add (length x), append_assoc (3 ∷ offset (length x)) (x ++ y) r, append_assoc x y r) refl
conditional_arms false x y r =
    rw (
      append_assoc (3 ∷ offset (3 + length x)) (x ++ ((5 ∷ offset (length y)) ++ y)) r,
      append_assoc x ((5 ∷ offset (length y)) ++ y) r,
      append_assoc
          (5 ∷ offset (length y)) y r,
    ) refl

pub flat_put : (i : Instr) (c : Code) → flat (put i c) ≡ front_bytes i (length (flat c)) ++ (flat c ++ back_bytes i)
unfolding put flat front_bytes back_bytes arms_bytes saved_bytes
flat_put (neutral_i op ns) c = rw append-nil refl
flat_put return_i c = rw append-nil refl
flat_put (call_i n) c = rw append-nil refl
flat_put (unless_i x y) c = rw append-nil (conditional_arms (is_closed x) (flat x) (flat y) (flat c))
flat_put (cont_i n x) c = refl

pub jump_length : (b : Bool) (n : ℕ) → length (jump_bytes b n) ≡ gap b
unfolding jump_bytes gap
jump_length true n = refl
jump_length false n = refl

pub arms_length : (x y : Code) → length (arms_bytes x y) ≡ 3 + length (flat x) + gap (is_closed x) + length (flat y)
unfolding arms_bytes gap jump_bytes
arms_length x y = go (is_closed x)
  where
    go : (b : Bool)
        → length ((3 ∷ offset (gap b + length (flat x))) ++ (flat x ++ (jump_bytes b (length (flat y)) ++ flat y))) ≡ 3 + length (flat x) + gap b + length
        (flat y)
    go true = simp length-append (omega arith)
    go false = simp length-append (omega arith)

-- an instruction without lists is its code and its operands
pub simple_bytes : (v : ℕ) (ns : List ℕ) (m : ℕ) → shape_of v ≡ 1 + length ns → (front_bytes (simple v ns) m ≡ v ∷ ns) × (back_bytes (simple v ns) ≡ [])
unfolding simple front_bytes back_bytes shape_of
simple_bytes v ns m e = go (eqb v 1) (eqb v 2) refl refl
  where
    none : (ns : List ℕ) → length ns ≡ 0 → ns ≡ []
    none [] h = refl
    none (n ∷ ns) h = absurd (omega arith)

    one : (ns : List ℕ) → length ns ≡ 1 → ns ≡ get_or ns 0 0 ∷ []
    one [] h = absurd (omega arith)
    one (n ∷ []) h = refl
    one (n ∷ k ∷ ns) h = absurd (omega arith)

    go : (x y : Bool) → eqb v 1 ≡ x → eqb v 2 ≡ y
        → (front_bytes (cond x return_i (cond y (call_i (get_or ns 0 0)) (neutral_i v ns))) m ≡ v ∷ ns) ×
        (back_bytes (cond x return_i (cond y (call_i (get_or ns 0 0)) (neutral_i v ns))) ≡ [])
    go true y k l =
        let z : 1 ≡ 1 + length ns = ap shape_of (sym (eqb-true v 1 k)) ∙ e in
        (rw (eqb-true v 1 k, none ns (omega arith)) refl, refl)
    go false true k l =
        let z : 2 ≡ 1 + length ns = ap shape_of (sym (eqb-true v 2 l)) ∙ e in
        (rw (eqb-true v 2 l) (ap (λ (l : List ℕ). 2 ∷ l) (sym (one ns (omega arith)))), refl)
    go false false k l = (refl, refl)

-- ---- what is left to write after an instruction
pub rest_written : (i : Instr) (c : Code) (f : ℕ) (o : List ℕ)
    → sets o f (flat (put i c)) ≡ sets
    (sets (sets o f (front_bytes i (length (flat c)))) (f + length (front_bytes i (length (flat c))) + length (flat c)) (back_bytes i))
    (f + length (front_bytes i (length (flat c)))) (flat c)
rest_written i c f o =
    let a = front_bytes i (length (flat c)) in
    ap (sets o f) (flat_put i c) ∙ sets_append a (flat c ++ back_bytes i) o f ∙ sets_append (flat c) (back_bytes i) (sets o f a) (f + length a)
    ∙ sets_comm (flat c) (back_bytes i) (sets o f a) (f + length a) (f + length a + length (flat c)) (omega arith)

pub put_length : (i : Instr) (c : Code) → length (flat (put i c)) ≡ length (front_bytes i (length (flat c))) + length (flat c) + length (back_bytes i)
put_length i c = rw (
  flat_put i c,
  length-append (front_bytes i (length (flat c))) (flat c ++ back_bytes i),
  length-append (flat c) (back_bytes i),
) (omega arith)

-- ---- offsets that fit
pub fits_arms : (x y c : Code) → offsets_fit (put (unless_i x y) c) ≡ true
    → (arms_fit (is_closed x) (length (flat x)) (length (flat y)) ≡ true) × (offsets_fit x ≡ true) × (offsets_fit y ≡ true) × (offsets_fit c ≡ true)
unfolding put offsets_fit
fits_arms x y c h =
    let a = (and-eq-true_iff (arms_fit (is_closed x) (length (flat x)) (length (flat y))) (offsets_fit x && (offsets_fit y && offsets_fit c))).0 h in
    let b = (and-eq-true_iff (offsets_fit x) (offsets_fit y && offsets_fit c)).0 a.1 in
    let d = (and-eq-true_iff (offsets_fit y) (offsets_fit c)).0 b.1 in
    (a.0, b.0, d.0, d.1)

pub fits_saved : (n : ℕ) (x c : Code) → offsets_fit (put (cont_i n x) c) ≡ true → (length (flat c) ≤ 65535) × (offsets_fit x ≡ true) × (offsets_fit c ≡ true)
unfolding put offsets_fit
fits_saved n x c h =
    let a = (and-eq-true_iff (fits_offset (length (flat c))) (offsets_fit x && offsets_fit c)).0 h in
    let b = (and-eq-true_iff (offsets_fit x) (offsets_fit c)).0 a.1 in
    (leb-true (length (flat c)) 65535 a.0, b.0, b.1)

pub fits_rest : (i : Instr) (c : Code) → offsets_fit (put i c) ≡ true → offsets_fit c ≡ true
unfolding put offsets_fit
fits_rest (neutral_i op ns) c h = h
fits_rest return_i c h = h
fits_rest (call_i n) c h = h
fits_rest (unless_i x y) c h = (fits_arms x y c h).3
fits_rest (cont_i n x) c h = (fits_saved n x c h).2

pub fits_jumps : (b : Bool) (x y : ℕ) → arms_fit b x y ≡ true → (gap b + x ≤ 65535) × (b ≡ false → y ≤ 65535)
unfolding arms_fit gap
fits_jumps true x y h = (omega (arith, leb-true x 65535 h), λ e. clash (cc))
fits_jumps false x y h = let a = (and-eq-true_iff (fits_offset (3 + x)) (fits_offset y)).0 h in (leb-true (3 + x) 65535 a.0, λ e. leb-true y 65535 a.1)

-- an instruction's code, and then its operands: none, one or two
pub none_written : (line n f : ℕ) (o : List ℕ) → n ≡ 0 → set o f (line / 65536) ≡ sets o f (line_bytes line n)
unfolding line_bytes
none_written line n f o e = rw e refl

pub one_written : (line n f : ℕ) (o : List ℕ) → n ≡ 1 → set (set o f (line / 65536)) (f + 1) (line / 256 % 256) ≡ sets o f (line_bytes line n)
unfolding line_bytes
one_written line n f o e = rw (e, add-one) refl

pub two_written : (line n f : ℕ) (o : List ℕ) → n ≡ 2
    → set (set (set o f (line / 65536)) (f + 1) (line / 256 % 256)) (f + 2) (line % 256) ≡ sets o f (line_bytes line n)
unfolding line_bytes
two_written line n f o e = rw (e, add-one, add-two) refl

-- they are those that stand at its place
pub line_bytes_lem : (s : List ℕ) (p line n : ℕ) → line ≡ field_at s p 21 → n ≤ 2 → line_bytes line n ≡ field_at s p 5 ∷ operands_at s (p + 5) n
unfolding line_bytes operands_at
line_bytes_lem s p line zero e h = rw (line_code s p line e) refl
line_bytes_lem s p line (suc zero) e h = rw (line_code s p line e, line_first s p line e) refl
line_bytes_lem s p line (suc (suc zero)) e h =
    let i : p + 5 + 8 ≡ p + 13 = omega arith in
    rw (line_code s p line e, line_first s p line e, line_second s p line e, i) refl
line_bytes_lem s p line (suc (suc (suc n))) e h = absurd (omega arith)
