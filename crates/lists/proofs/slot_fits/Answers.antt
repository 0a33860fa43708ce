-- `lists::slot_fits` meets its contract: for each tag and code, whether it suits. Assumes nothing.
use Prim.Native.Nat.{ℕ, ◌+◌, ◌*◌, ◌/◌, ◌%◌, ◌^◌, ◌≤◌, ◌<◌}
use mathlib.Core.Path.{◌≡◌, refl}
use mathlib.Core.Bool.{Bool, true, false, cond, ◌&&◌, and-eq-true_iff}
use native.Mathlib.Omega.{arith}
use borrow.Author.Tests.{eqb-true}
use lib.Dec.{eqb, leb}
use Rattle.lists.specs.Facts.{slot_fits}
use Rattle.lists.specs.laws.Each.{each, below, below_at}
use Rattle.lists.proofs.slot_fits.Goals as goal

suits : ℕ → ℕ → Bool
suits v t = cond (eqb v 6) (leb 1 t && leb t 6) (cond (eqb v 7) (eqb t 12) (eqb t 11))

bit : (b : Bool) → eqb (cond b 1 0) 1 ≡ b
bit true = refl
bit false = refl

-- by a word's bits
agrees : ℕ → ℕ → Bool
agrees w v = below (λ t. eqb (w / 2 ^ (4 * t + v % 4) % 2) (cond (suits v t) 1 0)) 16

told : (w v : ℕ) → agrees w v ≡ true → (t : ℕ) → t < 16 → eqb (w / 2 ^ (4 * t + v % 4) % 2) 1 ≡ suits v t
unfolding agrees
told w v e t h =
    let z : w / 2 ^ (4 * t + v % 4) % 2 ≡ cond (suits v t) 1 0 =
    eqb-true _ _ (below_at (λ t. eqb (w / 2 ^ (4 * t + v % 4) % 2) (cond (suits v t) 1 0)) 16 e t h) in
    rw z (bit (suits v t))

all : (w t : ℕ) → t < 16 → (v : ℕ) → 6 ≤ v → v ≤ 9 → (agrees w 6 && (agrees w 7 && (agrees w 8 && agrees w 9))) ≡ true
    → eqb (w / 2 ^ (4 * t + v % 4) % 2) 1 ≡ suits v t
all w t h v i j e =
    let a = (and-eq-true_iff (agrees w 6) _).0 e in
    let b = (and-eq-true_iff (agrees w 7) _).0 a.1 in
    let c = (and-eq-true_iff (agrees w 8) _).0 b.1 in
    each (λ v. eqb (w / 2 ^ (4 * t + v % 4) % 2) 1 ≡ suits v t) 6 4
    (told w 6 a.0 t h, (told w 7 b.0 t h, (told w 8 c.0 t h, (told w 9 c.1 t h, tt)))) v i (omega arith)

pub returns : goal.returns
unfolding slot_fits suits agrees below
returns c h = all _ _ (omega arith) _ h.0 h.1 refl
