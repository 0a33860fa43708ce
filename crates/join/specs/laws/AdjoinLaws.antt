-- The laws of open-adjoin: associativity, flat code, offsets, levels, open and closed, renumbering, and the bits of what is joined. Assumes nothing.
use Rattle.std.specs.Prelude.{ℕ, ◌+◌, ◌≤◌, max, ◌≡◌, refl, Bool, true, false, ◌&&◌, ◌||◌, List, ◌∷◌, ◌++◌, length, get_or}
use Rattle.std.proofs.Common.{arith, sym, ap, ◌∙◌, append_assoc, length-append}
use Rattle.std.proofs.Math.Bool.{and-eq-true_iff}
use Rattle.cells.specs.laws.Laws.{clash}
use Rattle.files.specs.Code.{Code, done, neutral, return, call, unless_false, make_cont, bits}
use Rattle.files.specs.Grammar.{is_empty, is_open, is_closed, each_neutral}
use Rattle.files.specs.Flat.{conditional, flat, fits_offset, arms_fit, offsets_fit}
use Rattle.files.specs.Valid.{Valid}
use Rattle.files.specs.Linear.{bits_of}
use Rattle.readback.specs.laws.Bits.{AreBits, length_bits}
use Rattle.readback.specs.laws.Lists.{none_are, bits_are, append_are}
use Rattle.tree_file.specs.File.{operands_bits, list_bits, levels}
use Rattle.tree_file.specs.laws.Lengths.{operands_length, list_length, list_are, operands_are}
use Rattle.rewrite.specs.Reindex.{reindex}
use Rattle.rewrite.specs.Tokens.{body_bits}
use Rattle.rewrite.specs.laws.TokensLaws.{body_end}
use Rattle.join.specs.Adjoin.{open_adjoin, joint_bits, joint_depth, front_bits, back_bits}

-- ---- associativity (document 000, lemma 1, 3)
pub adjoin_assoc : (y z w : Code) → open_adjoin (open_adjoin y z) w ≡ open_adjoin y (open_adjoin z w)
unfolding open_adjoin
adjoin_assoc done z w = refl
adjoin_assoc (neutral op ns y) z w = ap (neutral op ns) (adjoin_assoc y z w)
adjoin_assoc (return y) z w = ap return (adjoin_assoc y z w)
adjoin_assoc (call n y) z w = ap (call n) (adjoin_assoc y z w)
adjoin_assoc (unless_false y₁ y₂ y) z w = ap (unless_false y₁ y₂) (adjoin_assoc y z w)
adjoin_assoc (make_cont n y b) z w = ap (λ (x : Code). make_cont n x b) (adjoin_assoc y z w)

-- THE LAW of flat code: the prologue's, and then the file's
conditional_on : (b : Bool) (x y r w : List ℕ) → conditional b x y (r ++ w) ≡ conditional b x y r ++ w
unfolding conditional
conditional_on true x y r w = simp append_assoc
conditional_on false x y r w = simp append_assoc

pub adjoin_flat : (y w : Code) → flat (open_adjoin y w) ≡ flat y ++ flat w
unfolding open_adjoin flat
adjoin_flat done w = refl
adjoin_flat (neutral op ns y) w = rw (adjoin_flat y w) (ap (λ (l : List ℕ). op ∷ l) (sym (append_assoc ns (flat y) (flat w))))
adjoin_flat (return y) w = rw (adjoin_flat y w)
adjoin_flat (call n y) w = rw (adjoin_flat y w)
adjoin_flat (unless_false y₁ y₂ y) w = rw (adjoin_flat y w) (conditional_on (is_closed y₁) (flat y₁) (flat y₂) (flat y) (flat w))
adjoin_flat (make_cont n y b) w = rw (adjoin_flat y w) (simp append_assoc)

-- no offset of either changes
shuffle : (a b c d : Bool) → (a && (b && (c && d))) ≡ ((a && (b && c)) && d)
shuffle true true true d = refl
shuffle true true false d = refl
shuffle true false c d = refl
shuffle false b c d = refl

shuffle_saved : (a b c d : Bool) → (a && ((b && d) && c)) ≡ ((a && (b && c)) && d)
shuffle_saved true true true true = refl
shuffle_saved true true true false = refl
shuffle_saved true true false true = refl
shuffle_saved true true false false = refl
shuffle_saved true false c d = refl
shuffle_saved false b c d = refl

pub adjoin_offsets : (y w : Code) → offsets_fit (open_adjoin y w) ≡ (offsets_fit y && offsets_fit w)
unfolding open_adjoin offsets_fit
adjoin_offsets done w = refl
adjoin_offsets (neutral op ns y) w = adjoin_offsets y w
adjoin_offsets (return y) w = adjoin_offsets y w
adjoin_offsets (call n y) w = adjoin_offsets y w
adjoin_offsets (unless_false y₁ y₂ y) w =
    let a = arms_fit (is_closed y₁) (length (flat y₁)) (length (flat y₂)) in
    rw (adjoin_offsets y w) (four a (offsets_fit y₁) (offsets_fit y₂) (offsets_fit y) (offsets_fit w))
  where
    four : (a b c d e : Bool) → (a && (b && (c && (d && e)))) ≡ ((a && (b && (c && d))) && e)
    four true b c d e = shuffle b c d e
    four false b c d e = refl
adjoin_offsets (make_cont n y b) w =
    rw (adjoin_offsets y w) (shuffle_saved (fits_offset (length (flat b))) (offsets_fit y) (offsets_fit b) (offsets_fit w))

-- levels
pub adjoin_levels : (y w : Code) → levels (open_adjoin y w) ≡ max (levels y) (joint_depth y + levels w)
unfolding open_adjoin levels joint_depth
adjoin_levels done w = omega arith
adjoin_levels (neutral op ns y) w = adjoin_levels y w
adjoin_levels (return y) w = adjoin_levels y w
adjoin_levels (call n y) w = adjoin_levels y w
adjoin_levels (unless_false y₁ y₂ y) w = rw (adjoin_levels y w) (omega arith)
adjoin_levels (make_cont n y b) w = rw (adjoin_levels y w) (omega arith)

pub depth_levels : (y : Code) → joint_depth y ≤ levels y
unfolding joint_depth levels
depth_levels done = omega arith
depth_levels (neutral op ns y) = depth_levels y
depth_levels (return y) = depth_levels y
depth_levels (call n y) = depth_levels y
depth_levels (unless_false y₁ y₂ y) = omega (arith, depth_levels y)
depth_levels (make_cont n y b) = omega (arith, depth_levels y)

-- ---- open and closed (lemma 1, 2): what is joined is as w is
and_true : (a : Bool) → (a && true) ≡ a
and_true true = refl
and_true false = refl

or_false : (a : Bool) → (a || false) ≡ a
or_false true = refl
or_false false = refl

pub adjoin_some : (y w : Code) → is_empty w ≡ false → is_empty (open_adjoin y w) ≡ false
unfolding open_adjoin is_empty
adjoin_some done w k = k
adjoin_some (neutral op ns y) w k = refl
adjoin_some (return y) w k = refl
adjoin_some (call n y) w k = refl
adjoin_some (unless_false y₁ y₂ y) w k = refl
adjoin_some (make_cont n y b) w k = refl

-- y is open or empty, w is not empty
pub adjoin_open : (y w : Code) → (is_empty y || is_open y) ≡ true → is_empty w ≡ false → is_open (open_adjoin y w) ≡ is_open w
unfolding open_adjoin is_empty is_open is_closed
adjoin_open done w h k = refl
adjoin_open (neutral op ns y) w h k = rw (adjoin_some y w k, adjoin_open y w h k) refl
adjoin_open (return y) w h k = clash (cc)
adjoin_open (call n y) w h k = clash (cc)
adjoin_open (unless_false y₁ y₂ y) w h k =
    let a = (and-eq-true_iff (is_open y₁ && is_open y₂) (is_empty y || is_open y)).0 h in
    rw (a.0, adjoin_some y w k, adjoin_open y w a.1 k) refl
adjoin_open (make_cont n y b) w h k =
    let a = (and-eq-true_iff (is_empty y || is_open y) (is_closed b)).0 h in
    rw (adjoin_some y w k, adjoin_open y w a.0 k, a.1) (and_true (is_open w))

pub adjoin_closed : (y w : Code) → (is_empty y || is_open y) ≡ true → is_empty w ≡ false → is_closed (open_adjoin y w) ≡ is_closed w
unfolding open_adjoin is_empty is_open is_closed
adjoin_closed done w h k = refl
adjoin_closed (neutral op ns y) w h k = adjoin_closed y w h k
adjoin_closed (return y) w h k = clash (cc)
adjoin_closed (call n y) w h k = clash (cc)
adjoin_closed (unless_false y₁ y₂ y) w h k =
    let a = (and-eq-true_iff (is_open y₁ && is_open y₂) (is_empty y || is_open y)).0 h in
    rw (a.0, adjoin_some y w k, adjoin_closed y w a.1 k) (or_false (is_closed w))
adjoin_closed (make_cont n y b) w h k =
    let a = (and-eq-true_iff (is_empty y || is_open y) (is_closed b)).0 h in
    rw (adjoin_closed y w a.0 k, a.1) (and_true (is_closed w))

-- ---- renumbered, valid, indexed
pub adjoin_reindex : (f : ℕ → ℕ) (y w : Code) → reindex f (open_adjoin y w) ≡ open_adjoin (reindex f y) (reindex f w)
unfolding open_adjoin reindex
adjoin_reindex f done w = refl
adjoin_reindex f (neutral op ns y) w = rw (adjoin_reindex f y w)
adjoin_reindex f (return y) w = rw (adjoin_reindex f y w)
adjoin_reindex f (call n y) w = rw (adjoin_reindex f y w)
adjoin_reindex f (unless_false y₁ y₂ y) w = rw (adjoin_reindex f y w)
adjoin_reindex f (make_cont n y b) w = rw (adjoin_reindex f y w)

pub adjoin_valid : (y w : Code) → Valid y → Valid w → Valid (open_adjoin y w)
unfolding open_adjoin Valid
adjoin_valid done w v u = u
adjoin_valid (neutral op ns y) w v u = (v.0, v.1, v.2, adjoin_valid y w v.3 u)
adjoin_valid (return y) w v u = adjoin_valid y w v u
adjoin_valid (call n y) w v u = (v.0, adjoin_valid y w v.1 u)
adjoin_valid (unless_false y₁ y₂ y) w v u = (v.0, v.1, adjoin_valid y w v.2 u)
adjoin_valid (make_cont n y b) w v u = (v.0, adjoin_valid y w v.1 u, v.2)

pub adjoin_each : (ok : ℕ → ℕ → Bool) (y w : Code) → each_neutral ok y ≡ true → each_neutral ok w ≡ true → each_neutral ok (open_adjoin y w) ≡ true
unfolding open_adjoin each_neutral
adjoin_each ok done w e g = g
adjoin_each ok (neutral op ns y) w e g =
    let a = (and-eq-true_iff (ok op (get_or ns 0 0)) (each_neutral ok y)).0 e in
    rw (a.0, adjoin_each ok y w a.1 g) refl
adjoin_each ok (return y) w e g = adjoin_each ok y w e g
adjoin_each ok (call n y) w e g = adjoin_each ok y w e g
adjoin_each ok (unless_false y₁ y₂ y) w e g =
    let a = (and-eq-true_iff (each_neutral ok y₁ && each_neutral ok y₂) (each_neutral ok y)).0 e in
    rw (a.0, adjoin_each ok y w a.1 g) refl
adjoin_each ok (make_cont n y b) w e g =
    let a = (and-eq-true_iff (each_neutral ok y) (each_neutral ok b)).0 e in
    rw (adjoin_each ok y w a.0 g, a.1) refl

-- ---- bits
pub front_back : (y : Code) → list_bits y ≡ front_bits y ++ back_bits y
unfolding list_bits front_bits back_bits
front_back done = refl
front_back (neutral op ns y) = rw (front_back y) (sym (append_assoc (bits_of 5 op ++ operands_bits ns) (front_bits y) (back_bits y)))
front_back (return y) = rw (front_back y) (sym (append_assoc (bits_of 5 1) (front_bits y) (back_bits y)))
front_back (call n y) = rw (front_back y) (sym (append_assoc (bits_of 5 2 ++ bits_of 8 n) (front_bits y) (back_bits y)))
front_back (unless_false y₁ y₂ y) =
    ap (λ (l : List ℕ). (bits_of 5 3 ++ (list_bits y₁ ++ list_bits y₂)) ++ l) (front_back y)
    ∙ sym (append_assoc (bits_of 5 3 ++ (list_bits y₁ ++ list_bits y₂)) (front_bits y) (back_bits y))
front_back (make_cont n y b) =
    ap (λ (l : List ℕ). (bits_of 5 4 ++ (bits_of 8 n ++ l)) ++ list_bits b) (front_back y) ∙ simp append_assoc

pub adjoin_bits : (y w : Code) → list_bits (open_adjoin y w) ≡ front_bits y ++ (body_bits w ++ back_bits y)
unfolding open_adjoin list_bits front_bits back_bits
adjoin_bits done w = body_end w
adjoin_bits (neutral op ns y) w = rw (adjoin_bits y w) (sym (append_assoc (bits_of 5 op ++ operands_bits ns) (front_bits y) (body_bits w ++ back_bits y)))
adjoin_bits (return y) w = rw (adjoin_bits y w) (sym (append_assoc (bits_of 5 1) (front_bits y) (body_bits w ++ back_bits y)))
adjoin_bits (call n y) w = rw (adjoin_bits y w) (sym (append_assoc (bits_of 5 2 ++ bits_of 8 n) (front_bits y) (body_bits w ++ back_bits y)))
adjoin_bits (unless_false y₁ y₂ y) w =
    ap (λ (l : List ℕ). (bits_of 5 3 ++ (list_bits y₁ ++ list_bits y₂)) ++ l) (adjoin_bits y w)
    ∙ sym (append_assoc (bits_of 5 3 ++ (list_bits y₁ ++ list_bits y₂)) (front_bits y) (body_bits w ++ back_bits y))
adjoin_bits (make_cont n y b) w =
    ap (λ (l : List ℕ). (bits_of 5 4 ++ (bits_of 8 n ++ l)) ++ list_bits b) (adjoin_bits y w) ∙ simp append_assoc

pub front_length : (y : Code) → length (front_bits y) ≡ joint_bits y
unfolding front_bits joint_bits
front_length done = refl
front_length (neutral op ns y) = simp (length-append, length_bits, operands_length ns, front_length y) (omega arith)
front_length (return y) = simp (length-append, length_bits, front_length y) (omega arith)
front_length (call n y) = simp (length-append, length_bits, front_length y) (omega arith)
front_length (unless_false y₁ y₂ y) = simp (length-append, length_bits, list_length y₁, list_length y₂, front_length y) (omega arith)
front_length (make_cont n y b) = simp (length-append, length_bits, front_length y) (omega arith)

pub front_are : (y : Code) → AreBits (front_bits y)
unfolding front_bits
front_are done = none_are
front_are (neutral op ns y) = append_are (append_are (bits_are 5 op) (operands_are ns)) (front_are y)
front_are (return y) = append_are (bits_are 5 1) (front_are y)
front_are (call n y) = append_are (append_are (bits_are 5 2) (bits_are 8 n)) (front_are y)
front_are (unless_false y₁ y₂ y) = append_are (append_are (bits_are 5 3) (append_are (list_are y₁) (list_are y₂))) (front_are y)
front_are (make_cont n y b) = append_are (append_are (bits_are 5 4) (bits_are 8 n)) (front_are y)

pub back_are : (y : Code) → AreBits (back_bits y)
unfolding back_bits
back_are done = bits_are 5 0
back_are (neutral op ns y) = back_are y
back_are (return y) = back_are y
back_are (call n y) = back_are y
back_are (unless_false y₁ y₂ y) = back_are y
back_are (make_cont n y b) = append_are (back_are y) (list_are b)

pub back_length : (y : Code) → joint_bits y + length (back_bits y) ≡ bits y
back_length y = omega (arith, list_length y, ap length (front_back y) ∙ length-append (front_bits y) (back_bits y), front_length y)
