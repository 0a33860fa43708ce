-- The way back from flat code finds the list (request 13), so no two lists of one category flatten alike. Assumes nothing.
use Rattle.std.specs.Prelude.{ℕ, zero, suc, ◌+◌, ◌*◌, ◌/◌, ◌%◌, ◌≤◌, ◌<◌, ◌≡◌, refl, Bool, true, false, List, [], ◌∷◌, ◌++◌}
use Rattle.std.proofs.Common.{arith, ap, ◌∙◌, sym, append_assoc, append-nil}
use Rattle.std.proofs.Math.Nat.{div-add-mod}
use Rattle.std.proofs.Math.Option.{Option, some}
use borrow.Author.Tests.{le-leb}
use Rattle.std.proofs.Math.ListN.{length, length-append}
use Rattle.std.proofs.Math.Seq.{take_at, drop_at, take-append_seam, drop-append_seam}
use Rattle.files.specs.Codes.{is_neutral, operands, shape_of}
use Rattle.files.specs.Code.{Code, done, neutral, unless_false, make_cont}
use Rattle.files.specs.Flat.{flat, conditional}
use Rattle.back.specs.Unflat.{ends_in_jump, on, test, neutral_back, open_arms, closed_arms, arms_back, unless_back, cont_back, view, end_back, first_back, unflat}
use Rattle.back.specs.laws.Good.{Good, ended, plain, returned, called, shut, arms, cont}
use Rattle.back.specs.laws.GoodLaws.{closed_is}
use Rattle.back.proofs.theorems.Jumps.{with_jump, jump_length, before_is, offset_is, no_jump, jump_ends}

offset_back : (n : ℕ) → 256 * (n / 256) + n % 256 ≡ n
offset_back n = div-add-mod n 256

-- g: what is known of shorter regions
module _ (go : ℕ → Bool → List ℕ → Option Code) where
  neutral_back_lem : {l op : ℕ} {k : Bool} {ns : List ℕ} {r : Code} → operands op ≡ length ns → go l k (flat r) ≡ some r
      → neutral_back go l k op (ns ++ flat r) ≡ some (neutral op ns r)
  unfolding neutral_back test on
  neutral_back_lem {l} {op} {k} {ns} {r} e g =
      let h : length ns ≤ length (ns ++ flat r) = simp length-append (omega arith) in
      rw (e, le-leb (length ns) (length (ns ++ flat r)) h, drop-append_seam ns (flat r), take-append_seam ns (flat r), g)

  shut_back : {l : ℕ} {x y : Code} → ends_in_jump (flat x) ≡ false → go l true (flat x) ≡ some x → go l true (flat y) ≡ some y
      → unless_back go (suc l) true (length (flat x)) (flat x ++ flat y) ≡ some (unless_false x y done)
  unfolding unless_back arms_back closed_arms test on
  shut_back {l} {x} {y} j g h =
      let f : length (flat x) ≤ length (flat x ++ flat y) = simp length-append (omega arith) in
      rw (le-leb (length (flat x)) (length (flat x ++ flat y)) f, drop-append_seam (flat x) (flat y), take-append_seam (flat x) (flat y), j, g, h)

  open_back : {l : ℕ} {k : Bool} {x y r : Code} (a b : ℕ) → ends_in_jump (with_jump (flat x) a b) ≡ true → 256 * a + b ≡ length (flat y)
      → 1 ≤ length (flat x) → 1 ≤ length (flat y)
      → go l false (flat x) ≡ some x → go l false (flat y) ≡ some y → go (suc l) k (flat r) ≡ some r
      → unless_back go (suc l) k (3 + length (flat x)) (with_jump (flat x) a b ++ (flat y ++ flat r)) ≡ some (unless_false x y r)
  unfolding unless_back arms_back open_arms test on
  open_back {l} {k} {x} {y} {r} a b j m e f g h i =
      let v = with_jump (flat x) a b in
      let w = flat y ++ flat r in
      let s : 3 + length (flat x) ≤ length (v ++ w) = omega (arith, length-append v w, jump_length (flat x) a b) in
      let t : length (flat y) ≤ length w = omega (arith, length-append (flat y) (flat r)) in
      rw (
        le-leb (3 + length (flat x)) (length (v ++ w)) s,
        take_at v w (3 + length (flat x)) (jump_length (flat x) a b),
        drop_at v w (3 + length (flat x)) (jump_length (flat x) a b),
        j,
        before_is (flat x) a b,
        offset_is (flat x) a b,
        m,
        le-leb 1 (length (flat x)) e,
        le-leb 1 (length (flat y)) f,
        le-leb (length (flat y)) (length w) t,
        g,
        take-append_seam (flat y) (flat r),
        drop-append_seam (flat y) (flat r),
        h,
        i,
      )

  cont_back_lem : {l n : ℕ} {k : Bool} {x r : Code} → go l k (flat x) ≡ some x → go (suc l) true (flat r) ≡ some r
      → cont_back go (suc l) k (length (flat r)) n (flat r ++ flat x) ≡ some (make_cont n x r)
  unfolding cont_back test on
  cont_back_lem {l} {n} {k} {x} {r} g h =
      let f : length (flat r) ≤ length (flat r ++ flat x) = simp length-append (omega arith) in
      rw (le-leb (length (flat r)) (length (flat r ++ flat x)) f, drop-append_seam (flat r) (flat x), take-append_seam (flat r) (flat x), g, h)

-- the list is found, with more bytes allowed than it has
pub unflat_flat : (f : ℕ) {l : ℕ} {k : Bool} {c : Code} → Good l k c → length (flat c) < f → unflat f l k (flat c) ≡ some c
unfolding unflat flat conditional first_back end_back view test is_neutral shape_of ends_in_jump
unflat_flat zero g h = absurd (omega arith)
unflat_flat (suc f) ended h = refl
unflat_flat (suc f) (plain {l} {op} {k} {ns} {r} n o b g) h =
    rw n (neutral_back_lem (unflat f) o (unflat_flat f g (omega (arith, length-append ns (flat r)))))
unflat_flat (suc f) returned h = refl
unflat_flat (suc f) (called i) h = refl
unflat_flat (suc f) (shut {x = x} {y = y} g i j) h =
    let h' = rw (closed_is g, append-nil (flat y)) at h in
    let e = length-append (flat x) (flat y) in
    rw (closed_is g, append-nil (flat y), offset_back (length (flat x)))
    (shut_back (unflat f) (no_jump g 0) (unflat_flat f g (omega arith)) (unflat_flat f i (omega arith)))
unflat_flat (suc f) (arms {x = x} {y = y} {r = r} g i j a b d e) h =
    let w : List ℕ = flat y ++ flat r in
    let p : ℕ = length (flat y) / 256 in
    let q : ℕ = length (flat y) % 256 in
    let h' = rw (closed_is g) at h in
    let m = length-append (flat x) (5 ∷ p ∷ q ∷ w) in
    let n = length-append (flat y) (flat r) in
    rw (closed_is g, offset_back (3 + length (flat x)), ← (append_assoc (flat x) (5 ∷ p ∷ q ∷ []) w))
    (open_back (unflat f) p q (jump_ends p q g) (offset_back (length (flat y))) a b (unflat_flat f g (omega arith)) (unflat_flat f i (omega arith))
    (unflat_flat f j (omega arith)))
unflat_flat (suc f) (cont {x = x} {r = r} g i n j) h =
    let e = length-append (flat r) (flat x) in
    rw (offset_back (length (flat r))) (cont_back_lem (unflat f) (unflat_flat f g (omega arith)) (unflat_flat f i (omega arith)))

-- so flat code has one list of a category
pub one_list : {l : ℕ} {k : Bool} {c d : Code} → Good l k c → Good l k d → flat c ≡ flat d → c ≡ d
one_list {l} {k} {c} {d} g h e =
    let n : ℕ = suc (length (flat c)) in
    let a : unflat n l k (flat c) ≡ some c = unflat_flat n g (omega arith) in
    let b : unflat n l k (flat d) ≡ some d = unflat_flat n h (omega (arith, ap length e)) in
    let z : some c ≡ some d = sym a ∙ (ap (unflat n l k) e ∙ b) in
    cc
