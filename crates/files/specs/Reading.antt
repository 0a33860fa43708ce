-- Reading a code list (document 01, 'Two files'; refusals 2, 3 and 4).
use Rattle.std.specs.Prelude.{ℕ, zero, suc, ◌*◌, List, [], ◌∷◌, length, Option, Some, None}
use Rattle.cells.specs.Numbers.{cut_field, invalid_field, too_deep}
use Rattle.fields.specs.Field.{field_read}
use Rattle.files.specs.Codes.{shape_of}
use Rattle.files.specs.Code.{Code, done, Instr, unless_i, cont_i, simple, put}
use Rattle.cells.specs.declared.BitPlace.{BitPlace}

-- what was read, and the place past it; or a refusal's number and place
pub data Got (A : Type 0) : Type 0 where
  got : A → ℕ → Got A
  refused : ℕ → ℕ → Got A

-- what begins a list: its end, with the place past it; an instruction, with the place past it; or a refusal
pub data Head : Type 0 where
  stop : ℕ → Head
  item : Instr → ℕ → Head
  bad : ℕ → ℕ → Head

-- how a list one level deeper is read; at the last level there is none
pub data Deep : Type 0 where
  bottom : Deep
  below : (ℕ → Got Code) → Deep

-- on with a field's value and the place past it, or refused 2 at its first bit
unfoldable pub with_field : ℕ → (ℕ → ℕ → Head) → Option (ℕ × BitPlace) → Head
with_field p k (Some (v, q)) = k v q.0
with_field p k None = bad cut_field p

unfoldable pub with_list : (Code → ℕ → Head) → Got Code → Head
with_list k (got c q) = k c q
with_list k (refused n p) = bad n p

-- 4 at the code that would open level 17
unfoldable pub with_deep : ℕ → ((ℕ → Got Code) → Head) → Deep → Head
with_deep p k bottom = bad too_deep p
with_deep p k (below f) = k f

module _ (s : List ℕ) (deep : Deep) where
  -- the instruction at p whose code v ends at q, by the code's shape
  unfoldable pub shaped : ℕ → ℕ → ℕ → ℕ → Head
  shaped p v q zero = stop q
  shaped p v q (suc zero) = item (simple v []) q
  shaped p v q (suc (suc zero)) = with_field q (λ a q₁. item (simple v (a ∷ [])) q₁) (field_read s q 8)
  shaped p v q (suc (suc (suc zero))) = with_field q (λ a q₁. with_field q₁ (λ b q₂. item (simple v (a ∷ b ∷ [])) q₂) (field_read s q₁ 8)) (field_read s q 8)
  shaped p v q (suc (suc (suc (suc zero)))) = with_deep p (λ f. with_list (λ x q₁. with_list (λ y q₂. item (unless_i x y) q₂) (f q₁)) (f q)) deep
  shaped p v q (suc (suc (suc (suc (suc zero))))) =
      with_deep p (λ f. with_field q (λ n q₁. with_list (λ x q₂. item (cont_i n x) q₂) (f q₁)) (field_read s q 8)) deep
  shaped p v q (suc (suc (suc (suc (suc (suc k)))))) = bad invalid_field p

  -- what stands at p
  unfoldable pub head_at : ℕ → Head
  head_at p = with_field p (λ v q. shaped p v q (shape_of v)) (field_read s p 5)

-- an instruction before what the rest is read as
unfoldable pub before : Instr → Got Code → Got Code
before i (got c q) = got (put i c) q
before i (refused n p) = refused n p

unfoldable pub after : (ℕ → Got Code) → Head → Got Code
after r (stop q) = got done q
after r (item i q) = before i (r q)
after r (bad n p) = refused n p

-- a list at p, of fewer instructions than the first number
unfoldable pub items : List ℕ → Deep → ℕ → ℕ → Got Code
items s deep zero p = refused cut_field p
items s deep (suc f) p = after (items s deep f) (head_at s deep p)

-- how a list is read with so many levels left below the one that holds it
unfoldable pub deep_of : List ℕ → ℕ → Deep
deep_of s zero = bottom
deep_of s (suc l) = below (items s (deep_of s l) (suc (8 * length s)))

-- the list at p, with so many levels left below it; a list has fewer instructions than the file has bits
unfoldable pub list_at : List ℕ → ℕ → ℕ → Got Code
list_at s l p = items s (deep_of s l) (suc (8 * length s)) p
