-- Reading a basic file (document 02, request 6): one list, its code 0, zero bits to the byte. Refusals 1 to 5.
use Rattle.std.specs.Prelude.{ℕ, zero, suc, ◌*◌, ◌||◌, List, [], ◌∷◌, length, leb}
use Rattle.std.proofs.Math.Bool.{cond}
use Rattle.std.proofs.Math.Dec.{eqb}
use Rattle.cells.specs.Numbers.{too_long, cut_field, invalid_field, too_deep}
use Rattle.files.specs.Codes.{shape_of}
use Rattle.files.specs.Reading.{Got, got, refused}
use Rattle.files.specs.Entries.{global, then, field, valid, constant_at}
use Rattle.files.specs.Tree.{padded_end}
use Rattle.basic.specs.Basic.{Basic, ended, plain, carries, closure, branch, save, Token, ended_t, plain_t, carries_t, closure_t, branch_t, save_t}

-- ---- one code
-- an instruction at p that holds lists, in a list with l levels left below it: 4 where there are none
unfoldable pub holding : ℕ → ℕ → Got Token → Got Token
holding zero p g = refused too_deep p
holding (suc l) p g = g

module _ (s : List ℕ) where
  -- literal: a constant entry, kind 1 (else 3 at the kind), a tag (bad: 3 at the tag), the value
  unfoldable pub literal_at : ℕ → Got Token
  literal_at q = then (field s q 2) (λ k r. valid q (eqb k 1) (then (field s r 3) (λ t z. then (constant_at s r t z) (λ e u. got (carries_t 6 e) u))))

  -- global and set-global!, code v: a global's number
  unfoldable pub global_at : ℕ → ℕ → Got Token
  global_at v q = then (field s q 8) (λ g r. got (carries_t v (global g)) r)

  -- the code v at p, which ends at q, by its shape: as in a tree
  unfoldable pub shaped_at : ℕ → ℕ → ℕ → ℕ → ℕ → Got Token
  shaped_at l p v q zero = got ended_t q
  shaped_at l p v q (suc zero) = got (plain_t v []) q
  shaped_at l p v q (suc (suc zero)) = then (field s q 8) (λ a r. got (plain_t v (a ∷ [])) r)
  shaped_at l p v q (suc (suc (suc zero))) = then (field s q 8) (λ a r. then (field s r 8) (λ b z. got (plain_t v (a ∷ b ∷ [])) z))
  shaped_at l p v q (suc (suc (suc (suc zero)))) = holding l p (got branch_t q)
  shaped_at l p v q (suc (suc (suc (suc (suc zero))))) = holding l p (then (field s q 8) (λ n r. got (save_t n) r))
  shaped_at l p v q (suc (suc (suc (suc (suc (suc k)))))) = refused invalid_field p

  -- codes 6 to 9 carry what a tree's indices name; the others are as in a tree
  unfoldable pub code_at : ℕ → ℕ → ℕ → ℕ → Got Token
  unfolding holding literal_at global_at shaped_at
  code_at l p v q =
      cond (eqb v 6) (literal_at q)
      (cond (eqb v 7) (holding l p (got closure_t q))
      (cond (eqb v 8 || eqb v 9) (global_at v q)
      (shaped_at l p v q (shape_of v))))

  -- the code at p, in a list with l levels left below it
  unfoldable pub token_at : ℕ → ℕ → Got Token
  unfolding code_at
  token_at l p = then (field s p 5) (λ v q. code_at l p v q)

-- ---- a list
-- what follows a code that ends at q: its lists, each read by deep, and then the rest of the list, read by rest
unfoldable pub onward : (ℕ → Got Basic) → (ℕ → Got Basic) → Token → ℕ → Got Basic
onward deep rest ended_t q = got ended q
onward deep rest (plain_t v ns) q = then (rest q) (λ c r. got (plain v ns c) r)
onward deep rest (carries_t v e) q = then (rest q) (λ c r. got (carries v e c) r)
onward deep rest closure_t q = then (deep q) (λ x r. then (rest r) (λ c z. got (closure x c) z))
onward deep rest branch_t q = then (deep q) (λ x r. then (deep r) (λ y z. then (rest z) (λ c u. got (branch x y c) u)))
onward deep rest (save_t n) q = then (deep q) (λ x r. then (rest r) (λ c z. got (save n x c) z))

-- the list at p, with l levels left below it, of fewer instructions than the last number
unfoldable pub items : List ℕ → ℕ → (ℕ → Got Basic) → ℕ → ℕ → Got Basic
unfolding token_at onward
items s l deep zero p = refused cut_field p
items s l deep (suc f) p = then (token_at s l p) (onward deep (items s l deep f))

-- the list at p, with l levels left below it; a closure's list is one level deeper, as arms and saved lists are; a list has fewer instructions than the
-- file has bits
unfoldable pub list_at : List ℕ → ℕ → ℕ → Got Basic
unfolding items
list_at s zero p = items s zero (refused too_deep) (suc (8 * length s)) p
list_at s (suc l) p = items s (suc l) (list_at s l) (suc (8 * length s)) p

-- ---- the file
-- 1, then whichever of 2 to 5 comes first in reading order; the list is level 1 of 16
unfoldable pub basic_read : List ℕ → Got Basic
unfolding list_at
basic_read s = cond (leb (length s) 65536) (then (list_at s 15 0) (λ c q. padded_end s c q)) (refused too_long 0)
