-- The templates of basic code, as lists within the file's list and as the tabulator's. Assumes nothing.
use Prim.Native.Nat.{ℕ, zero, suc, ◌+◌, ◌≤◌}
use native.Mathlib.Omega.{arith}
use Rattle.std.specs.Prelude.{◌≡◌, refl, length, get_or}
use Rattle.std.proofs.Common.{sym, ◌∙◌}
use Rattle.std.proofs.Math.Path.{ap}
use mathlib.Core.List.{List, [], ◌∷◌, ◌++◌, map}
use Rattle.std.proofs.Math.ListN.{get_or-map}
use Rattle.files.specs.Code.{put, simple}
use Rattle.files.specs.Tree.{Template}
use Rattle.tree_file.specs.File.{template_bits, placed}
use Rattle.basic.specs.Basic.{Basic, ended, plain, carries, closure, branch, save, bits}
use Rattle.basic.specs.Valid.{Ok, return_ok}
use Rattle.basic.specs.Tabulated.{inside, entries_of, indexed, template_of, closures, tabulated}
use Rattle.machines.specs.Fetched.{no_template}
use Rattle.basic_program.specs.Program.{Body, bodies, all_bodies, no_body}

-- ---- the tabulator's
pub templated : Body → Template
templated b = template_of b.next b.list

map_both : (xs ys : List Body) → map templated (xs ++ ys) ≡ map templated xs ++ map templated ys
map_both [] ys = refl
map_both (x ∷ xs) ys = rw (map_both xs ys) refl

closures_are : (n s : ℕ) (c : Basic) → closures n c ≡ map templated (bodies n s c)
unfolding closures bodies templated
closures_are n s ended = refl
closures_are n s (plain v ns r) = closures_are n _ r
closures_are n s (carries v e r) = closures_are n _ r
closures_are n s (closure x r) =
    ap (λ l. template_of (suc n) x ∷ l)
    (rw (
      map_both (bodies (suc n) (s + 5) x) (bodies (suc n + inside x) (s + 5 + bits x) r),
      closures_are (suc n) (s + 5) x,
      closures_are (suc n + inside x) (s + 5 + bits x) r,
    ) refl)
closures_are n s (branch x y r) =
    rw (
      map_both (bodies n (s + 5) x) (bodies (n + inside x) (s + 5 + bits x) y ++ bodies (n + inside x + inside y) (s + 5 + bits x + bits y) r),
      map_both (bodies (n + inside x) (s + 5 + bits x) y) (bodies (n + inside x + inside y) (s + 5 + bits x + bits y) r),
      closures_are n (s + 5) x,
      closures_are (n + inside x) (s + 5 + bits x) y,
      closures_are (n + inside x + inside y) (s + 5 + bits x + bits y) r,
    ) refl
closures_are n s (save m x r) =
    rw (
      map_both (bodies n (s + 13) x) (bodies (n + inside x) (s + 13 + bits x) r),
      closures_are n (s + 13) x,
      closures_are (n + inside x) (s + 13 + bits x) r,
    ) refl

tabulated_are : (c : Basic) → tabulated c ≡ map templated (all_bodies c)
unfolding tabulated all_bodies templated
tabulated_are c = ap (λ l. template_of 1 c ∷ l) (closures_are 1 0 c)

-- what is not there is a return in both
none_templated : templated no_body ≡ no_template
unfolding templated template_of entries_of indexed put simple
none_templated = refl

pub template_is : (c : Basic) (t : ℕ) → get_or (tabulated c) t no_template ≡ templated (get_or (all_bodies c) t no_body)
template_is c t =
    ap (λ l. get_or l t no_template) (tabulated_are c) ∙ ap (λ d. get_or (map templated (all_bodies c)) t d) (sym none_templated)
    ∙ get_or-map templated (all_bodies c) t no_body

-- placing templates moves nothing but their starts
placed_entries : (p : ℕ) (ts : List Template) (t : ℕ) → (get_or (placed p ts) t no_template).entries ≡ (get_or ts t no_template).entries
unfolding placed
placed_entries p [] t = refl
placed_entries p (x ∷ ts) zero = refl
placed_entries p (x ∷ ts) (suc t) = placed_entries (p + length (template_bits x)) ts t

placed_code : (p : ℕ) (ts : List Template) (t : ℕ) → (get_or (placed p ts) t no_template).code ≡ (get_or ts t no_template).code
unfolding placed
placed_code p [] t = refl
placed_code p (x ∷ ts) zero = refl
placed_code p (x ∷ ts) (suc t) = placed_code (p + length (template_bits x)) ts t

module _ (p : ℕ) (c : Basic) (t : ℕ) where
  abbrev here : Body
  here = get_or (all_bodies c) t no_body

  pub entries_are : (get_or (placed p (tabulated c)) t no_template).entries ≡ entries_of here.next here.list
  unfolding templated template_of
  entries_are = placed_entries p (tabulated c) t ∙ ap (λ (x : Template). x.entries) (template_is c t)

  pub code_is : (get_or (placed p (tabulated c)) t no_template).code ≡ indexed (entries_of here.next here.list) here.next here.list
  unfolding templated template_of
  code_is = placed_code p (tabulated c) t ∙ ap (λ (x : Template). x.code) (template_is c t)

-- ---- within the file's list, whose bits are b
pub record BodyOk (b : ℕ) (x : Body) : Type 0 where
  pub ok : Ok x.list
  pub within : x.start + bits x.list ≤ b

module _ (b : ℕ) where
  unfoldable pub AllOk : List Body → Type 0
  AllOk [] = Unit
  AllOk (x ∷ xs) = BodyOk b x × AllOk xs

  all_both : (xs ys : List Body) → AllOk xs → AllOk ys → AllOk (xs ++ ys)
  unfolding AllOk
  all_both [] ys h k = k
  all_both (x ∷ xs) ys h k = (h.0, all_both xs ys h.1 k)

  bodies_ok : (n s : ℕ) (c : Basic) → Ok c → s + bits c ≤ b → AllOk (bodies n s c)
  unfolding bodies AllOk Ok bits
  bodies_ok n s ended o h = tt
  bodies_ok n s (plain v ns r) o h = bodies_ok n _ r o.1 (omega arith)
  bodies_ok n s (carries v e r) o h = bodies_ok n _ r o.1 (omega arith)
  bodies_ok n s (closure x r) o h = (
    record { ok = o.0; within = omega arith },
    all_both (bodies (suc n) (s + 5) x) (bodies (suc n + inside x) (s + 5 + bits x) r) (bodies_ok (suc n) (s + 5) x o.0 (omega arith))
        (bodies_ok (suc n + inside x) (s + 5 + bits x) r o.1 (omega arith)),
  )
  bodies_ok n s (branch x y r) o h =
      all_both (bodies n (s + 5) x) (bodies (n + inside x) (s + 5 + bits x) y ++ bodies (n + inside x + inside y) (s + 5 + bits x + bits y) r)
      (bodies_ok n (s + 5) x o.0 (omega arith))
      (all_both (bodies (n + inside x) (s + 5 + bits x) y) (bodies (n + inside x + inside y) (s + 5 + bits x + bits y) r)
      (bodies_ok (n + inside x) (s + 5 + bits x) y o.1 (omega arith))
      (bodies_ok (n + inside x + inside y) (s + 5 + bits x + bits y) r o.2 (omega arith)))
  bodies_ok n s (save m x r) o h =
      all_both (bodies n (s + 13) x) (bodies (n + inside x) (s + 13 + bits x) r) (bodies_ok n (s + 13) x o.1 (omega arith))
      (bodies_ok (n + inside x) (s + 13 + bits x) r o.2 (omega arith))

  all_at : (xs : List Body) (t : ℕ) → AllOk xs → 10 ≤ b → BodyOk b (get_or xs t no_body)
  unfolding AllOk Ok bits
  all_at [] t h k = record { ok = (return_ok, tt); within = k }
  all_at (x ∷ xs) zero h k = h.0
  all_at (x ∷ xs) (suc t) h k = all_at xs t h.1 k

  pub body_ok : (c : Basic) (t : ℕ) → Ok c → bits c ≤ b → 10 ≤ b → BodyOk b (get_or (all_bodies c) t no_body)
  unfolding all_bodies AllOk
  body_ok c t o h k = all_at (all_bodies c) t (record { ok = o; within = omega arith }, bodies_ok 1 0 c o (omega arith)) k
