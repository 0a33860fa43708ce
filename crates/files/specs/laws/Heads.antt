-- What an instruction is read as, by what its fields and its lists are read as: one law for each way through it. Assumes nothing.
use Prim.Native.Nat.{ℕ, zero, suc, ◌-◌, ◌≤◌}
use Rattle.std.proofs.Common.{sub-one, arith}
use Rattle.std.specs.Prelude.{◌≡◌, List, [], ◌∷◌, Some, None}
use Rattle.std.proofs.Math.Path.{refl}
use Rattle.cells.specs.declared.BitPlace.{BitPlace}
use Rattle.fields.specs.Field.{field_read}
use Rattle.files.specs.Codes.{shape_of}
use Rattle.files.specs.Code.{Code, unless_i, cont_i, simple}
use Rattle.files.specs.Reading.{Got, got, refused, item, bad, Deep, bottom, below, with_field, with_list, with_deep, shaped, head_at, deep_of, list_at}

-- ---- the code
module _ (s : List ℕ) (deep : Deep) (p : ℕ) where
  pub code_cut : field_read s p 5 ≡ None → head_at s deep p ≡ bad 2 p
  unfolding head_at with_field
  code_cut e = rw e refl

  pub code_read : (v : ℕ) (q : BitPlace) (k : ℕ) → field_read s p 5 ≡ Some (v, q) → shape_of v ≡ k → head_at s deep p ≡ shaped s deep p v q.0 k
  unfolding head_at with_field
  code_read v q k e h = rw (e, h) refl

  pub no_code : (v q k : ℕ) → 6 ≤ k → shaped s deep p v q k ≡ bad 3 p
  unfolding shaped
  no_code v q zero h = absurd (omega arith)
  no_code v q (suc zero) h = absurd (omega arith)
  no_code v q (suc (suc zero)) h = absurd (omega arith)
  no_code v q (suc (suc (suc zero))) h = absurd (omega arith)
  no_code v q (suc (suc (suc (suc zero)))) h = absurd (omega arith)
  no_code v q (suc (suc (suc (suc (suc zero))))) h = absurd (omega arith)
  no_code v q (suc (suc (suc (suc (suc (suc k)))))) h = refl

-- ---- operands
module _ (s : List ℕ) (deep : Deep) (p v q : ℕ) where
  pub one_cut : field_read s q 8 ≡ None → shaped s deep p v q 2 ≡ bad 2 q
  unfolding shaped with_field
  one_cut e = rw e refl

  pub one_read : (a : ℕ) (q₁ : BitPlace) → field_read s q 8 ≡ Some (a, q₁) → shaped s deep p v q 2 ≡ item (simple v (a ∷ [])) q₁.0
  unfolding shaped with_field
  one_read a q₁ e = rw e refl

  pub first_cut : field_read s q 8 ≡ None → shaped s deep p v q 3 ≡ bad 2 q
  unfolding shaped with_field
  first_cut e = rw e refl

  pub second_cut : (a : ℕ) (q₁ : BitPlace) → field_read s q 8 ≡ Some (a, q₁) → field_read s q₁.0 8 ≡ None → shaped s deep p v q 3 ≡ bad 2 q₁.0
  unfolding shaped with_field
  second_cut a q₁ e f = rw (e, f) refl

  pub two_read : (a : ℕ) (q₁ : BitPlace) (b : ℕ) (q₂ : BitPlace) → field_read s q 8 ≡ Some (a, q₁) → field_read s q₁.0 8 ≡ Some (b, q₂)
      → shaped s deep p v q 3 ≡ item (simple v (a ∷ b ∷ [])) q₂.0
  unfolding shaped with_field
  two_read a q₁ b q₂ e f = rw (e, f) refl

-- ---- lists
pub last_level : (s : List ℕ) (l : ℕ) → l ≡ 0 → deep_of s l ≡ bottom
unfolding deep_of
last_level s l h = rw h refl

pub deep_down : (s : List ℕ) (l : ℕ) → (l ≡ 0 → ⊥) → deep_of s l ≡ below (list_at s (l - 1))
unfolding deep_of list_at
deep_down s zero h = absurd (h refl)
deep_down s (suc l) h = rw sub-one refl

-- f is how a list one level deeper is read
module _ (s : List ℕ) (f : ℕ → Got Code) (p v q : ℕ) where
  pub first_arm_refused : (n x : ℕ) → f q ≡ refused n x → shaped s (below f) p v q 4 ≡ bad n x
  unfolding shaped with_deep with_list
  first_arm_refused n x e = rw e refl

  pub second_arm_refused : (a : Code) (m n x : ℕ) → f q ≡ got a m → f m ≡ refused n x → shaped s (below f) p v q 4 ≡ bad n x
  unfolding shaped with_deep with_list
  second_arm_refused a m n x e g = rw (e, g) refl

  pub conditional_read : (a : Code) (m : ℕ) (b : Code) (r : ℕ) → f q ≡ got a m → f m ≡ got b r → shaped s (below f) p v q 4 ≡ item (unless_i a b) r
  unfolding shaped with_deep with_list
  conditional_read a m b r e g = rw (e, g) refl

  pub count_cut : field_read s q 8 ≡ None → shaped s (below f) p v q 5 ≡ bad 2 q
  unfolding shaped with_deep with_field
  count_cut e = rw e refl

  pub saved_refused : (n : ℕ) (m : BitPlace) (k x : ℕ) → field_read s q 8 ≡ Some (n, m) → f m.0 ≡ refused k x → shaped s (below f) p v q 5 ≡ bad k x
  unfolding shaped with_deep with_field with_list
  saved_refused n m k x e g = rw (e, g) refl

  pub make_cont_read : (n : ℕ) (m : BitPlace) (a : Code) (r : ℕ) → field_read s q 8 ≡ Some (n, m) → f m.0 ≡ got a r
      → shaped s (below f) p v q 5 ≡ item (cont_i n a) r
  unfolding shaped with_deep with_field with_list
  make_cont_read n m a r e g = rw (e, g) refl
