-- A list is good where it is formed and valid, its levels are there and its offsets fit; and its flat code is bytes. Assumes nothing.
use Rattle.std.specs.Prelude.{ℕ, zero, suc, ◌+◌, ◌≤◌, ◌≡◌, refl, Bool, true, false, ◌&&◌, List, length, leb}
use Rattle.std.proofs.Common.{arith, leb-true, le-leb}
use Rattle.files.specs.Code.{Code, done, neutral, return, call, unless_false, make_cont}
use Rattle.files.specs.Grammar.{is_empty, is_closed}
use Rattle.files.specs.Flat.{flat, conditional, arms_fit, offsets_fit}
use Rattle.files.specs.Valid.{Bytes, Valid}
use Rattle.readback.specs.laws.Bytes as bytes
use Rattle.tree_file.specs.File.{levels}
use Rattle.back.specs.laws.Formed.{Formed, nothing, before, returning, calling, closed_arms, open_arms, saving, both}
use Rattle.back.specs.laws.Formed as formed
use Rattle.back.specs.laws.Good.{Good, ended, plain, returned, called, shut, arms, cont}

-- ---- what has bytes is not empty
pub not_empty : (c : Code) → 1 ≤ length (flat c) → is_empty c ≡ false
unfolding is_empty flat
not_empty done h = absurd (omega arith)
not_empty (neutral op ns r) h = refl
not_empty (return r) h = refl
not_empty (call n r) h = refl
not_empty (unless_false x y r) h = refl
not_empty (make_cont n x r) h = refl

some_conditional : (b : Bool) (x y r : List ℕ) → 1 ≤ length (conditional b x y r)
unfolding conditional
some_conditional true x y r = omega arith
some_conditional false x y r = omega arith

pub some_bytes : (c : Code) → is_empty c ≡ false → 1 ≤ length (flat c)
unfolding is_empty flat
some_bytes done e = let z : ◌≡◌ {A = ℕ} 0 1 = cc in absurd (omega arith)
some_bytes (neutral op ns r) e = omega arith
some_bytes (return r) e = omega arith
some_bytes (call n r) e = omega arith
some_bytes (unless_false x y r) e = some_conditional (is_closed x) (flat x) (flat y) (flat r)
some_bytes (make_cont n x r) e = omega arith

-- ---- what a good list is
pub good_formed : {l : ℕ} {k : Bool} {c : Code} → Good l k c → Formed k c
good_formed ended = nothing
good_formed (plain n o b g) = before (good_formed g)
good_formed returned = returning
good_formed (called h) = calling
good_formed (shut g h f) = closed_arms (good_formed g) (good_formed h)
good_formed (arms {x = x} {y = y} g h r e f i j) = open_arms (good_formed g) (good_formed h) (not_empty x e) (not_empty y f) (good_formed r)
good_formed (cont g r n f) = saving (good_formed g) (good_formed r)

pub closed_is : {l : ℕ} {k : Bool} {c : Code} → Good l k c → is_closed c ≡ k
closed_is g = formed.closed_is (good_formed g)

pub good_valid : {l : ℕ} {k : Bool} {c : Code} → Good l k c → Valid c
unfolding Valid
good_valid ended = tt
good_valid (plain n o b g) = (n, o, b, good_valid g)
good_valid returned = tt
good_valid (called h) = (h, tt)
good_valid (shut g h f) = (good_valid g, good_valid h, tt)
good_valid (arms g h r e f i j) = (good_valid g, good_valid h, good_valid r)
good_valid (cont g r n f) = (n, good_valid g, good_valid r)

pub good_levels : {l : ℕ} {k : Bool} {c : Code} → Good l k c → levels c ≤ l
unfolding levels
good_levels ended = omega arith
good_levels (plain n o b g) = good_levels g
good_levels returned = omega arith
good_levels (called h) = omega arith
good_levels (shut g h f) = omega (arith, good_levels g, good_levels h)
good_levels (arms g h r e f i j) = omega (arith, good_levels g, good_levels h, good_levels r)
good_levels (cont g r n f) = omega (arith, good_levels g, good_levels r)

pub good_offsets : {l : ℕ} {k : Bool} {c : Code} → Good l k c → offsets_fit c ≡ true
unfolding offsets_fit arms_fit
good_offsets ended = refl
good_offsets (plain n o b g) = good_offsets g
good_offsets returned = refl
good_offsets (called h) = refl
good_offsets (shut {x = x} g h f) = rw (closed_is g, le-leb (length (flat x)) 65535 f, good_offsets g, good_offsets h)
good_offsets (arms {x = x} {y = y} g h r e f i j) =
    rw (closed_is g, le-leb (3 + length (flat x)) 65535 i, le-leb (length (flat y)) 65535 j, good_offsets g, good_offsets h, good_offsets r)
good_offsets (cont {r = r} g h n f) = rw (le-leb (length (flat r)) 65535 f, good_offsets g, good_offsets h)

-- ---- what is a good list
pub good : {k : Bool} {c : Code} (l : ℕ) → Formed k c → Valid c → levels c ≤ l → offsets_fit c ≡ true → Good l k c
unfolding Valid levels offsets_fit arms_fit
good l nothing v d f = ended
good l (before g) v d f = plain v.0 v.1 v.2 (good l g v.3 d f)
good l returning v d f = returned
good l calling v d f = called v.0
good zero (closed_arms g h) v d f = absurd (omega arith)
good (suc l) (closed_arms {x} {y} g h) v d f =
    let a = both (leb (length (flat x)) 65535) (offsets_fit x && (offsets_fit y && true)) (rw (formed.closed_is g) at f) in
    let b = both (offsets_fit x) (offsets_fit y && true) a.1 in
    shut (good l g v.0 (omega arith) b.0) (good l h v.1 (omega arith) (both (offsets_fit y) true b.1).0) (leb-true (length (flat x)) 65535 a.0)
good zero (open_arms g h a b r) v d f = absurd (omega arith)
good (suc l) (open_arms {x = x} {y = y} {r = r} g h a b i) v d f =
    let m = leb (3 + length (flat x)) 65535 in
    let n = leb (length (flat y)) 65535 in
    let e = both (m && n) (offsets_fit x && (offsets_fit y && offsets_fit r)) (rw (formed.closed_is g) at f) in
    let e₁ = both m n e.0 in
    let e₂ = both (offsets_fit x) (offsets_fit y && offsets_fit r) e.1 in
    let e₃ = both (offsets_fit y) (offsets_fit r) e₂.1 in
    arms (good l g v.0 (omega arith) e₂.0) (good l h v.1 (omega arith) e₃.0) (good (suc l) i v.2 (omega arith) e₃.1) (some_bytes x a)
    (some_bytes y b)
    (leb-true (3 + length (flat x)) 65535 e₁.0)
    (leb-true (length (flat y)) 65535 e₁.1)
good zero (saving g h) v d f = absurd (omega arith)
good (suc l) (saving {x = x} {r = r} g h) v d f =
    let a = both (leb (length (flat r)) 65535) (offsets_fit x && offsets_fit r) f in
    let b = both (offsets_fit x) (offsets_fit r) a.1 in
    cont (good l g v.1 (omega arith) b.0) (good (suc l) h v.2 (omega arith) b.1) v.0 (leb-true (length (flat r)) 65535 a.0)

-- flat code is bytes
pub flat_bytes : {l : ℕ} {k : Bool} {c : Code} → Good l k c → Bytes (flat c)
flat_bytes {c = c} g = bytes.flat_bytes c (good_valid g) (good_offsets g)
