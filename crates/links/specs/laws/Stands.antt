-- A list that is read stands in the file: each field of it is read at its place. Assumes nothing.
use Prim.Native.Nat.{ℕ, zero, suc, ◌+◌, ◌*◌, ◌≤◌}
use native.Mathlib.Omega.{arith}
use Rattle.std.specs.Prelude.{◌≡◌, Bool, cond, ◌&&◌, get_or, Some}
use Rattle.std.proofs.Math.Path.{refl, ap}
use Rattle.std.proofs.Common.{sym, ◌∙◌}
use Rattle.std.proofs.Math.Bool.{true, false, and-eq-true_iff}
use mathlib.Core.List.{List, [], ◌∷◌}
use borrow.Author.Tests.{eqb-true, eqb-false, eq-eqb}
use Rattle.std.proofs.Math.ListN.{length}
use Rattle.std.proofs.Math.Dec.{eqb}
use Rattle.fields.specs.Field.{field_at, field_read}
use Rattle.fields.specs.laws.Laws.{read_cases, whole}
use Rattle.files.specs.Codes.{shapes, shape_of}
use Rattle.files.specs.Code.{Code, done, neutral, return, call, unless_false, make_cont, Instr, neutral_i, return_i, call_i, unless_i, cont_i, put, simple}
use Rattle.files.specs.Code.{bits}
use Rattle.files.specs.Reading.{Got, got, refused, Head, stop, item, bad}
use Rattle.files.specs.Reading.{with_field, with_list, with_deep, shaped, head_at, before, after, items, deep_of, list_at}
use Rattle.files.specs.laws.ReadingLaws.{bits_i, bits_put, past_five}

-- the field of w bits at p is read as v
abbrev pub Reads : List ℕ → ℕ → ℕ → ℕ → Type 0
Reads s p w v = field_read s p w ≡ Some (v, record { 0 = p + w })

unfoldable pub Operands : List ℕ → ℕ → List ℕ → Type 0
Operands s p [] = Unit
Operands s p (n ∷ ns) = Reads s p 8 n × Operands s (p + 8) ns

-- a neutral code has as many operands as it takes
abbrev pub Takes : ℕ → List ℕ → Type 0
Takes op ns = (6 ≤ op) × (shape_of op ≡ 1 + length ns) × (length ns ≤ 2)

-- the list c stands in s at p, with l levels left below it
unfoldable pub ListStands : List ℕ → ℕ → ℕ → Code → Type 0
ListStands s l p done = Reads s p 5 0
ListStands s l p (neutral op ns r) = Reads s p 5 op × Takes op ns × Operands s (p + 5) ns × ListStands s l (p + (5 + 8 * length ns)) r
ListStands s l p (return r) = Reads s p 5 1 × ListStands s l (p + 5) r
ListStands s l p (call n r) = Reads s p 5 2 × Reads s (p + 5) 8 n × ListStands s l (p + 13) r
ListStands s zero p (unless_false x y r) = ⊥
ListStands s (suc l) p (unless_false x y r) =
    Reads s p 5 3 × ListStands s l (p + 5) x × ListStands s l (p + 5 + bits x) y × ListStands s (suc l) (p + 5 + bits x + bits y) r
ListStands s zero p (make_cont n x r) = ⊥
ListStands s (suc l) p (make_cont n x r) = Reads s p 5 4 × Reads s (p + 5) 8 n × ListStands s l (p + 13) x × ListStands s (suc l) (p + 13 + bits x) r

-- ---- the same of one instruction, and of what is read
unfoldable StandsI : List ℕ → ℕ → ℕ → Instr → Type 0
StandsI s l p (neutral_i op ns) = Reads s p 5 op × Takes op ns × Operands s (p + 5) ns
StandsI s l p return_i = Reads s p 5 1
StandsI s l p (call_i n) = Reads s p 5 2 × Reads s (p + 5) 8 n
StandsI s zero p (unless_i x y) = ⊥
StandsI s (suc l) p (unless_i x y) = Reads s p 5 3 × ListStands s l (p + 5) x × ListStands s l (p + 5 + bits x) y
StandsI s zero p (cont_i n x) = ⊥
StandsI s (suc l) p (cont_i n x) = Reads s p 5 4 × Reads s (p + 5) 8 n × ListStands s l (p + 13) x

abbrev StandsHead : List ℕ → ℕ → ℕ → Head → Type 0
StandsHead s l p (stop q) = Reads s p 5 0 × (q ≡ p + 5)
StandsHead s l p (item i q) = StandsI s l p i × (q ≡ p + bits_i i)
StandsHead s l p (bad n x) = Unit

abbrev StandsGot : List ℕ → ℕ → ℕ → Got Code → Type 0
StandsGot s l p (got c q) = ListStands s l p c × (q ≡ p + bits c)
StandsGot s l p (refused n x) = Unit

-- an instruction before the list that stands after it
stands_put : (s : List ℕ) (l p : ℕ) (i : Instr) (c : Code) → StandsI s l p i → ListStands s l (p + bits_i i) c → ListStands s l p (put i c)
unfolding put ListStands StandsI bits_i
stands_put s l p (neutral_i op ns) c h r = (h.0, h.1, h.2, r)
stands_put s l p return_i c h r = (h, r)
stands_put s l p (call_i n) c h r = (h.0, h.1, r)
stands_put s zero p (unless_i x y) c h r = h
stands_put s (suc l) p (unless_i x y) c h r = let e : p + (5 + bits x + bits y) ≡ p + 5 + bits x + bits y = omega arith in (h.0, h.1, h.2, rw e at r)
stands_put s zero p (cont_i n x) c h r = h
stands_put s (suc l) p (cont_i n x) c h r = let e : p + (13 + bits x) ≡ p + 13 + bits x = omega arith in (h.0, h.1, h.2, rw e at r)

before_stands : (s : List ℕ) (l p q : ℕ) (i : Instr) (x : Got Code) → StandsI s l p i → q ≡ p + bits_i i → StandsGot s l q x → StandsGot s l p (before i x)
unfolding before
before_stands s l p q i (got c z) h e r = (stands_put s l p i c h (rw e at r.0), omega (arith, bits_put i c))
before_stands s l p q i (refused n z) h e r = tt

after_stands : (s : List ℕ) (l p : ℕ) (r : ℕ → Got Code) (h : Head) → ((q : ℕ) → StandsGot s l q (r q)) → StandsHead s l p h → StandsGot s l p (after r h)
unfolding after ListStands bits
after_stands s l p r (stop q) f i = i
after_stands s l p r (item k q) f i = before_stands s l p q k (r q) i.0 i.1 (f q)
after_stands s l p r (bad n x) f i = tt

-- ---- a code by its shape: 0, 3 and 4 are alone in theirs
-- in a list whose first index is i only index j holds k
only : ℕ → ℕ → ℕ → List ℕ → Bool
only k j i [] = true
only k j i (x ∷ xs) = cond (eqb x k) (eqb i j) true && only k j (suc i) xs

only_there : (k j i : ℕ) (xs : List ℕ) (v d : ℕ) → (d ≡ k → ⊥) → only k j i xs ≡ true → get_or xs v d ≡ k → i + v ≡ j
unfolding only
only_there k j i [] v d n o e = absurd (n e)
only_there k j i (x ∷ xs) zero d n o e =
    let h : cond (eqb x k) (eqb i j) true ≡ true = ((and-eq-true_iff (cond (eqb x k) (eqb i j) true) (only k j (suc i) xs)).0 o).0 in
    let z : eqb i j ≡ true = rw (eq-eqb x k e) at h in
    omega (arith, eqb-true i j z)
only_there k j i (x ∷ xs) (suc v) d n o e =
    omega (arith, only_there k j (suc i) xs v d n ((and-eq-true_iff (cond (eqb x k) (eqb i j) true) (only k j (suc i) xs)).0 o).1 e)

code_of_shape : (k j v : ℕ) → (6 ≡ k → ⊥) → only k j 0 shapes ≡ true → shape_of v ≡ k → v ≡ j
unfolding shape_of
code_of_shape k j v n o e = omega (arith, only_there k j 0 shapes v 6 n o e)

-- ---- reading
module _ (s : List ℕ) where
  pub field_stands : (P : Head → Type 0) (p w : ℕ) (k : ℕ → ℕ → Head) → P (bad 2 p) → ((v : ℕ) → Reads s p w v → P (k v (p + w)))
      → P (with_field p k (field_read s p w))
  unfolding with_field
  field_stands P p w k ends f = read_cases s p w (λ x. P (with_field p k x)) ends (λ h. f (field_at s p w) (sym (whole s p w h)))

  simple_stands : (l p v : ℕ) (ns : List ℕ) → shape_of v ≡ 1 + length ns → length ns ≤ 2 → Reads s p 5 v → Operands s (p + 5) ns
      → StandsHead s l p (item (simple v ns) (p + (5 + 8 * length ns)))
  unfolding simple StandsI bits_i Operands shape_of
  simple_stands l p v ns e h c o = go (eqb v 1) (eqb v 2) refl refl
    where
      go : (x y : Bool) → eqb v 1 ≡ x → eqb v 2 ≡ y
          → StandsHead s l p (item (cond x return_i (cond y (call_i (get_or ns 0 0)) (neutral_i v ns))) (p + (5 + 8 * length ns)))
      go true y i j = let z : v ≡ 1 = eqb-true v 1 i in let k : shape_of 1 ≡ 1 + length ns = ap shape_of (sym z) ∙ e in (rw z at c, omega arith)
      go false true i j =
          let z : v ≡ 2 = eqb-true v 2 j in
          let k : shape_of 2 ≡ 1 + length ns = ap shape_of (sym z) ∙ e in
          ((rw z at c, one ns (omega arith) o), omega arith)
        where
          one : (ns : List ℕ) → length ns ≡ 1 → Operands s (p + 5) ns → Reads s (p + 5) 8 (get_or ns 0 0)
          one [] k o = absurd (omega arith)
          one (n ∷ ns) k o = o.0
      go false false i j = ((c, (past_five v (omega arith) (omega arith) (eqb-false v 1 i) (eqb-false v 2 j), e, h), o), refl)

  list_stands : (P : Head → Type 0) (l p : ℕ) (k : Code → ℕ → Head) (x : Got Code) → ((n z : ℕ) → P (bad n z)) → StandsGot s l p x
      → ((c : Code) → ListStands s l p c → P (k c (p + bits c))) → P (with_list k x)
  unfolding with_list
  list_stands P l p k (got c q) ends h f = rw h.1 (f c h.0)
  list_stands P l p k (refused n z) ends h f = ends n z

  -- what is known of the lists one level deeper
  abbrev Inner : ℕ → Type 0
  Inner zero = Unit
  Inner (suc l) = (p : ℕ) → StandsGot s l p (list_at s l p)

  conditional_stands : (l p : ℕ) → Inner l → Reads s p 5 3 → StandsHead s l p (shaped s (deep_of s l) p 3 (p + 5) 4)
  unfolding shaped with_deep deep_of list_at StandsI bits_i
  conditional_stands zero p i c = tt
  conditional_stands (suc l) p i c =
      list_stands (StandsHead s (suc l) p) l (p + 5) _ (list_at s l (p + 5)) (λ n z. tt) (i (p + 5))
      (λ x h. list_stands (StandsHead s (suc l) p) l (p + 5 + bits x) _ (list_at s l (p + 5 + bits x)) (λ n z. tt) (i (p + 5 + bits x))
      (λ y k. ((c, h, k), omega arith)))

  make_cont_stands : (l p : ℕ) → Inner l → Reads s p 5 4 → StandsHead s l p (shaped s (deep_of s l) p 4 (p + 5) 5)
  unfolding shaped with_deep deep_of list_at StandsI bits_i
  make_cont_stands zero p i c = tt
  make_cont_stands (suc l) p i c =
      field_stands (StandsHead s (suc l) p) (p + 5) 8 _ tt
      (λ n o.
      let e : p + 5 + 8 ≡ p + 13 = omega arith in
      rw e (list_stands (StandsHead s (suc l) p) l (p + 13) _ (list_at s l (p + 13)) (λ n z. tt) (i (p + 13)) (λ x h. ((c, o, h), omega arith))))

  shaped_stands : (l p v k : ℕ) → Inner l → shape_of v ≡ k → Reads s p 5 v → StandsHead s l p (shaped s (deep_of s l) p v (p + 5) k)
  unfolding shaped Operands only
  shaped_stands l p v zero i e c = (rw (code_of_shape 0 0 v (λ z. omega arith) refl e) at c, refl)
  shaped_stands l p v (suc zero) i e c = let z : p + (5 + 8 * 0) ≡ p + 5 = omega arith in rw z at (simple_stands l p v [] e (omega arith) c tt)
  shaped_stands l p v (suc (suc zero)) i e c =
      field_stands (StandsHead s l p) (p + 5) 8 _ tt
      (λ a o. let z : p + (5 + 8 * 1) ≡ p + 5 + 8 = omega arith in rw z at (simple_stands l p v (a ∷ []) e (omega arith) c (o, tt)))
  shaped_stands l p v (suc (suc (suc zero))) i e c =
      field_stands (StandsHead s l p) (p + 5) 8 _ tt
      (λ a o.
      field_stands (StandsHead s l p) (p + 5 + 8) 8 _ tt
      (λ b q. let z : p + (5 + 8 * 2) ≡ p + 5 + 8 + 8 = omega arith in rw z at (simple_stands l p v (a ∷ b ∷ []) e (omega arith) c (o, (q, tt)))))
  shaped_stands l p v (suc (suc (suc (suc zero)))) i e c =
      let z = code_of_shape 4 3 v (λ z. omega arith) refl e in (conditional_stands l p i (rw z at c))
  shaped_stands l p v (suc (suc (suc (suc (suc zero))))) i e c =
      let z = code_of_shape 5 4 v (λ z. omega arith) refl e in (make_cont_stands l p i (rw z at c))
  shaped_stands l p v (suc (suc (suc (suc (suc (suc k)))))) i e c = tt

  head_stands : (l p : ℕ) → Inner l → StandsHead s l p (head_at s (deep_of s l) p)
  unfolding head_at
  head_stands l p i = field_stands (StandsHead s l p) p 5 _ tt (λ v c. shaped_stands l p v (shape_of v) i refl c)

  items_stands : (l : ℕ) → Inner l → (f p : ℕ) → StandsGot s l p (items s (deep_of s l) f p)
  unfolding items
  items_stands l i zero p = tt
  items_stands l i (suc f) p = after_stands s l p (items s (deep_of s l) f) (head_at s (deep_of s l) p) (items_stands l i f) (head_stands l p i)

  inner : (l : ℕ) → Inner l
  unfolding list_at
  inner zero = tt
  inner (suc l) = items_stands l (inner l) (suc (8 * length s))

  -- THE LAW: a list that is read stands in the file
  pub list_stands_there : (l p : ℕ) (c : Code) (q : ℕ) → list_at s l p ≡ got c q → ListStands s l p c
  list_stands_there l p c q e = (rw e at (inner (suc l) p)).0
