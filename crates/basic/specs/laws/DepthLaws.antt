-- A list that is read with some levels left has no more levels below its own. Assumes nothing.
use Prim.Native.Nat.{ℕ, zero, suc, ◌+◌, ◌≤◌, max}
use native.Mathlib.Omega.{arith}
use Rattle.std.specs.Prelude.{◌≡◌, refl, List}
use Rattle.files.specs.Code.{Code, put, simple}
use Rattle.files.specs.Entries.{Entry}
use Rattle.files.specs.Reading.{got}
use Rattle.files.specs.laws.AllGot.{refused_got}
use Rattle.tree_file.specs.File.{levels}
use Rattle.basic.specs.Basic.{Basic, ended, plain, carries, closure, branch, save}
use Rattle.basic.specs.Reading.{list_at}
use Rattle.basic.specs.Tabulated.{inside, indexed}
use Rattle.basic.specs.Valid.{PlainOk, return_ok, call_ok, neutral_ok, Ok, below}
use Rattle.basic.specs.laws.LevelLaws.{Parts, ended_parts, plain_parts, carries_parts, closure_parts, branch_parts, save_parts, list_parts}
use Rattle.basic.specs.laws.ForestLaws.{simple_return, simple_call, simple_neutral}

-- how many levels a list has below its own, with those of its closures' lists
unfoldable pub depth : Basic → ℕ
depth ended = 0
depth (plain v ns r) = depth r
depth (carries v e r) = depth r
depth (closure x r) = max (suc (depth x)) (depth r)
depth (branch x y r) = max (suc (max (depth x) (depth y))) (depth r)
depth (save n x r) = max (suc (depth x)) (depth r)

module _ (s : List ℕ) where
  -- a list one level deeper
  deeper : (c : Basic) (l p q : ℕ) → below s l p ≡ got c q → ((k : ℕ) → list_at s k p ≡ got c q → depth c ≤ k) → suc (depth c) ≤ l
  unfolding below
  deeper c zero p q e f = refused_got e
  deeper c (suc l) p q e f = omega (arith, f l e)

  parts_depth : (c : Basic) (l p q : ℕ) → Parts s l p q c → depth c ≤ l
  unfolding depth
  parts_depth ended l p q (ended_parts e) = omega arith
  parts_depth (plain v ns r) l p q (plain_parts z e f) = parts_depth r l z q (list_parts s l z f)
  parts_depth (carries v x r) l p q (carries_parts z e f) = parts_depth r l z q (list_parts s l z f)
  parts_depth (closure x r) l p q (closure_parts z u e f g) =
      let a = deeper x l z u f (λ k h. parts_depth x k z u (list_parts s k z h)) in
      omega (arith, a, parts_depth r l u q (list_parts s l u g))
  parts_depth (branch x y r) l p q (branch_parts z u w e f g h) =
      let a = deeper x l z u f (λ k i. parts_depth x k z u (list_parts s k z i)) in
      let b = deeper y l u w g (λ k i. parts_depth y k u w (list_parts s k u i)) in
      omega (arith, a, b, parts_depth r l w q (list_parts s l w h))
  parts_depth (save n x r) l p q (save_parts z u e f g) =
      let a = deeper x l z u f (λ k h. parts_depth x k z u (list_parts s k z h)) in
      omega (arith, a, parts_depth r l u q (list_parts s l u g))

  -- THE LAW
  pub list_depth : (l p : ℕ) {c : Basic} {q : ℕ} → list_at s l p ≡ got c q → depth c ≤ l
  list_depth l p {c} {q} e = parts_depth c l p q (list_parts s l p e)

-- ---- a template's own list has no more levels
plain_levels : (v : ℕ) (ns : List ℕ) → PlainOk v ns → (c : Code) → levels (put (simple v ns) c) ≡ levels c
unfolding put levels
plain_levels v ns return_ok c = rw simple_return refl
plain_levels v ns (call_ok {n} h) c = rw (simple_call n) refl
plain_levels v ns (neutral_ok h i j k) c = rw (simple_neutral v ns h) refl

pub own_levels : (es : List Entry) (n : ℕ) (c : Basic) → Ok c → levels (indexed es n c) ≤ depth c
unfolding indexed levels depth Ok
own_levels es n ended ok = omega arith
own_levels es n (plain v ns r) ok = omega (arith, plain_levels v ns ok.0 (indexed es n r), own_levels es n r ok.1)
own_levels es n (carries v e r) ok = own_levels es n r ok.1
own_levels es n (closure x r) ok = omega (arith, own_levels es (suc n + inside x) r ok.1)
own_levels es n (branch x y r) ok =
    omega (arith, own_levels es n x ok.0, own_levels es (n + inside x) y ok.1, own_levels es (n + inside x + inside y) r ok.2)
own_levels es n (save m x r) ok = omega (arith, own_levels es n x ok.1, own_levels es (n + inside x) r ok.2)
