-- `lists::run_size` meets its contract: each code's two bits. Assumes nothing.
use Prim.Native.Nat.{ℕ, ◌*◌, ◌/◌, ◌%◌, ◌^◌, ◌≤◌, ◌<◌}
use mathlib.Core.Path.{◌≡◌, refl, sym}
use mathlib.Core.Bool.{Bool, true, false, not, ◌&&◌, ◌||◌, and-eq-true_iff}
use native.Mathlib.Omega.{arith}
use borrow.Author.Tests.{eqb-true, eqb-false, leb-true}
use lib.Dec.{eqb, leb}
use Rattle.std.specs.Prelude.{Some}
use Rattle.cells.specs.laws.Laws.{clash}
use Rattle.files.specs.Codes.{shape_of}
use Rattle.lists.specs.Pass.{run_shape}
use Rattle.lists.specs.laws.Each.{below, below_at}
use Rattle.lists.proofs.run_size.Goals as goal

suits : ℕ → ℕ → Bool
suits v k = eqb k 0 || (eqb (shape_of v) k && (leb k 3 && (leb 6 v && not (eqb v 7))))

told : (v k : ℕ) → suits v k ≡ true → run_shape v k
unfolding suits run_shape
told v k e h = go (eqb k 0) refl e
  where
    go : (b : Bool) → eqb k 0 ≡ b → (b || (eqb (shape_of v) k && (leb k 3 && (leb 6 v && not (eqb v 7))))) ≡ true
        → (shape_of v ≡ k) × (k ≤ 3) × (6 ≤ v) × (v ≡ 7 → ⊥)
    go true z e = let x : k ≡ 0 = eqb-true k 0 z in absurd (omega arith)
    go false z e =
        let x = (and-eq-true_iff (eqb (shape_of v) k) _).0 e in
        let y = (and-eq-true_iff (leb k 3) _).0 x.1 in
        let w = (and-eq-true_iff (leb 6 v) _).0 y.1 in
        (eqb-true _ _ x.0, leb-true k 3 y.0, leb-true 6 v w.0, eqb-false v 7 (seven (eqb v 7) w.1))
      where
        seven : (b : Bool) → not b ≡ true → b ≡ false
        seven true e = sym e
        seven false e = refl

all : (w v : ℕ) → v < 32 → below (λ v. suits v (w / 2 ^ (2 * v) % 4)) 32 ≡ true → run_shape v (w / 2 ^ (2 * v) % 4)
all w v i h = told v (w / 2 ^ (2 * v) % 4) (below_at (λ v. suits v (w / 2 ^ (2 * v) % 4)) 32 h v i)

as_told : (n k v : ℕ) → Some n ≡ Some k → (n ≡ 0 → ⊥) → run_shape v n → (1 ≤ k) × run_shape v k
as_told n k v e some r = let same : n ≡ k = cc in rw (← same) (omega arith, r)

pub returns-then-bytes-eq0 : goal.returns-then-bytes-eq0
returns-then-bytes-eq0 c k e = clash (cc)

pub returns-else-bytes-eq0 : goal.returns-else-bytes-eq0
unfolding suits below shape_of
returns-else-bytes-eq0 c k e =
    let place : c.args.line / 32768 / 2 * 2 ≡ 2 * (c.args.line / 65536) = omega arith in
    as_told _ k _ e c.if-bytes-eq0.false (rw place (all _ (c.args.line / 65536) (omega (arith, c.requires)) refl))
