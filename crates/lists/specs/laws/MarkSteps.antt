-- What the readers of lists leave in the marks at each step, by what is read there. Assumes nothing.
use Rattle.std.specs.Prelude.{ℕ, ◌+◌, ◌*◌, ◌≤◌, ◌≡◌, Bool, cond, length, get_or, eqb, Option, Some, None, Ok}
use native.Mathlib.Omega.{arith}
use Rattle.std.proofs.Math.Path.{refl, sym, ap}
use Rattle.std.proofs.Common.{◌∙◌}
use Rattle.std.proofs.Math.Bool.{true, false}
use mathlib.Core.List.{List, [], ◌∷◌}
use Rattle.cells.specs.declared.BitPlace.{BitPlace}
use Rattle.cells.specs.laws.Laws.{clash}
use Rattle.fields.specs.Field.{field_read}
use Rattle.fields.specs.laws.Laws.{value_of}
use Rattle.files.specs.Code.{Code, done, Instr, neutral_i, return_i, call_i, unless_i, cont_i, put, simple, bits}
use Rattle.files.specs.Reading.{Got, got, refused, Head, stop, item, bad, with_field, shaped, head_at, before, after, deep_of, list_at}
use Rattle.files.specs.Flat.{flat}
use Rattle.files.specs.laws.Heads.{conditional_read, make_cont_read}
use Rattle.files.specs.laws.ReadingLaws.{bits_i, Past, head_past, deep_past, list_step, list_bits_lem}
use Rattle.lists.specs.declared.Facts.{Facts}
use Rattle.lists.specs.declared.Keep.{Keep}
use Rattle.lists.specs.declared.Keep.TheVariants.{Sizes, Pasts}
use Rattle.lists.specs.declared.Added.{Added}
use Rattle.lists.specs.Facts.{facts_of, listed}
use Rattle.lists.specs.Pass.{itemed, simple_at, deep_at}
use Rattle.lists.specs.Marks.{size_mark, mark_of, mark_by, mark, marked_in, marked, marked_instr, list_marked, head_marked}
use Rattle.lists.specs.laws.Each.{each}
use Rattle.lists.specs.laws.PassLaws.{closed_class}
use Rattle.lists.specs.laws.ReadLaws.{listed_done, listed_size}
use Rattle.lists.specs.declared.Item.TheVariants.{End, More}

module _ (k : Keep) where
  -- one instruction and the rest
  marks_put : (M : List ℕ) (p : ℕ) (i : Instr) (r : Code) → marked_in k M p (put i r) ≡ marked_in k (marked_instr k M (p + 5) i) (p + bits_i i) r
  unfolding put marked_in marked_instr marked bits_i
  marks_put M p (neutral_i op ns) r = refl
  marks_put M p return_i r = refl
  marks_put M p (call_i n) r = refl
  marks_put M p (unless_i x y) r = let e : p + (5 + bits x + bits y) ≡ p + 5 + bits x + bits y = omega arith in rw e refl
  marks_put M p (cont_i n x) r =
      let e : p + (13 + bits x) ≡ p + 13 + bits x = omega arith in
      let f : p + 5 + 8 ≡ p + 13 = omega arith in
      rw (e, f) refl

  -- ---- an instruction without lists
  simple_same : (M : List ℕ) (a v : ℕ) (ns : List ℕ) → M ≡ marked_instr k M a (simple v ns)
  unfolding simple marked_instr
  simple_same M a v ns = go (eqb v 1) (eqb v 2)
    where
      go : (b d : Bool) → M ≡ marked_instr k M a (cond b return_i (cond d (call_i (get_or ns 0 0)) (neutral_i v ns)))
      go true d = refl
      go false true = refl
      go false false = refl

  with_operand : (M : List ℕ) (a p : ℕ) (f : ℕ → ℕ → Head) (x : Option (ℕ × BitPlace)) → ((v q : ℕ) → head_marked k M M a (f v q))
      → head_marked k M M a (with_field p f x)
  unfolding head_marked with_field
  with_operand M a p f (Some (v, q)) h = h v q.0
  with_operand M a p f None h = tt

  pub simple_marked : (M s : List ℕ) (a v q n : ℕ) → 1 ≤ n → n ≤ 3 → head_marked k M M a (simple_at s v q n)
  unfolding head_marked shaped
  simple_marked M s a v q n h i =
      each (λ n. head_marked k M M a (simple_at s v q n)) 1 3 (
        simple_same M a v [],
        (
          with_operand M a q _ (field_read s q 8) (λ x z. simple_same M a v (x ∷ [])),
          (with_operand M a q _ (field_read s q 8) (λ x z. with_operand M a z _ (field_read s z 8) (λ y w. simple_same M a v (x ∷ y ∷ []))), tt),
        ),
      )
      n h (omega arith)

  -- the place where the code ends is 5 bits on
  pub code_marked : (s M M' : List ℕ) (p v : ℕ) (u : BitPlace) {g h : Head} → field_read s p 5 ≡ Some (v, u) → g ≡ h → head_marked k M M' u.0 h
      → head_marked k M M' (p + 5) g
  code_marked s M M' p v u e f m = rw (f, ← (value_of s p 5 v u e).1.0) m

  -- ---- instructions with lists
  module _ (s : List ℕ) (l a : ℕ) (M : List ℕ) where
    pub arms_marked : (M₁ M₂ : List ℕ) (x y : Code) (m q : ℕ) → list_at s l a ≡ got x m → list_at s l m ≡ got y q → list_marked k M M₁ a (list_at s l a)
        → list_marked k M₁ M₂ m (list_at s l m) → head_marked k M M₂ a (deep_at s l a 4)
    unfolding head_marked list_marked marked_instr
    arms_marked M₁ M₂ x y m q e f g h =
        let i : M₁ ≡ marked k M a x = rw e at g in
        let j : M₂ ≡ marked k M₁ m y = rw f at h in
        rw (conditional_read _ _ _ _ _ _ _ _ _ e f) (j ∙ rw (i, (list_bits_lem s l a x m e).0) refl)

    pub saved_marked : (M₁ : List ℕ) (n : ℕ) (m : BitPlace) (x : Code) (q : ℕ) → field_read s a 8 ≡ Some (n, m) → m.0 ≡ a + 8 → list_at s l m.0 ≡ got x q
        → list_marked k M M₁ m.0 (list_at s l m.0) → head_marked k M M₁ a (deep_at s l a 5)
    unfolding head_marked list_marked marked_instr
    saved_marked M₁ n m x q e z f g =
        let i : M₁ ≡ marked k M m.0 x = rw f at g in
        rw (make_cont_read _ _ _ _ _ _ _ _ _ e f) (i ∙ rw z refl)

  -- ---- a list
  -- what is left of the list c at p₀, where the marks were M₀ and past it is q, when the reader is at p and the marks are M
  pub record Rest (s : List ℕ) (l : ℕ) (M₀ : List ℕ) (p₀ : ℕ) (M : List ℕ) (p : ℕ) (c : Code) (q : ℕ) : Type 0 where
    pub rest : Code
    pub read : list_at s l p ≡ got rest q
    pub same : marked_in k M₀ p₀ c ≡ marked_in k M p rest

  module _ (s : List ℕ) (l : ℕ) (M₀ : List ℕ) (p₀ : ℕ) where
    abbrev pub Marking : List ℕ → ℕ → Type 0
    Marking M p = (c : Code) (q : ℕ) → list_at s l p₀ ≡ got c q → Rest s l M₀ p₀ M p c q

    pub marking_begun : Marking M₀ p₀
    marking_begun c q e = record { rest = c; read = e; same = refl }

    module _ (table : List ℕ) (own : ℕ) {M : List ℕ} {p : ℕ} (going : Marking M p) where
      -- one instruction more
      pub marking_more : (M' : List ℕ) (u : BitPlace) (o : Added) → itemed table own (head_at s (deep_of s l) p) ≡ Ok (More u o)
          → head_marked k M M' (p + 5) (head_at s (deep_of s l) p) → Marking M' u.0
      unfolding itemed head_marked after before
      marking_more M' u o e h c q r =
          let g = going c q r in
          go (head_at s (deep_of s l) p) (head_past s (deep_of s l) (deep_past s l) p) e h g (sym (list_step s l p) ∙ g.read)
        where
          more : (i : Instr) (x : Got Code) → list_at s l u.0 ≡ x → u.0 ≡ p + bits_i i → M' ≡ marked_instr k M (p + 5) i → (g : Rest s l M₀ p₀ M p c q)
              → before i x ≡ got g.rest q → Rest s l M₀ p₀ M' u.0 c q
          more i (got z w) a b m g f =
              let n : put i z ≡ g.rest = cc in
              let v : w ≡ q = cc in
              record {
                rest = z;
                read = a ∙ ap (got z) v;
                same = g.same ∙ ap (marked_in k M p) (sym n) ∙ marks_put M p i z ∙ rw (m, b) refl;
              }
          more i (refused n w) a b m g f = clash (cc)

          go : (h : Head) → Past (8 * length s) p h → itemed table own h ≡ Ok (More u o) → head_marked k M M' (p + 5) h → (g : Rest s l M₀ p₀ M p c q)
              → after (list_at s l) h ≡ got g.rest q → Rest s l M₀ p₀ M' u.0 c q
          go (stop x) w e m g f = clash (cc)
          go (item i x) w e m g f =
              let a : ◌≡◌ {A = BitPlace} (record { 0 = x }) u = cc in
              let b : x ≡ u.0 = ap (λ (y : BitPlace). y.0) a in
              more i (list_at s l u.0) refl (sym b ∙ w.0) m g (ap (λ (y : ℕ). before i (list_at s l y)) (sym b) ∙ f)
          go (bad n x) w e m g f = clash (cc)

      -- the list's end
      pub marking_end : (M' : List ℕ) (u : BitPlace) → itemed table own (head_at s (deep_of s l) p) ≡ Ok (End u)
          → head_marked k M M' (p + 5) (head_at s (deep_of s l) p)
          → (c : Code) (q : ℕ) → list_at s l p₀ ≡ got c q → M' ≡ marked_in k M₀ p₀ c
      unfolding itemed head_marked after marked_in
      marking_end M' u e h c q r =
          let g = going c q r in
          go (head_at s (deep_of s l) p) e h g (sym (list_step s l p) ∙ g.read)
        where
          go : (h : Head) → itemed table own h ≡ Ok (End u) → head_marked k M M' (p + 5) h → (g : Rest s l M₀ p₀ M p c q)
              → after (list_at s l) h ≡ got g.rest q → M' ≡ marked_in k M₀ p₀ c
          go (stop x) e m g f = let n : done ≡ g.rest = cc in m ∙ sym (g.same ∙ ap (marked_in k M p) (sym n))
          go (item i x) e m g f = clash (cc)
          go (bad n x) e m g f = clash (cc)

-- a list that is read is small, and near
pub listed_near : (table : List ℕ) (own : ℕ) (s : List ℕ) (l p : ℕ) (u : BitPlace) (f : Facts) → length s ≤ 65536
    → listed table own (list_at s l p) ≡ Ok (u, f) → (f.size ≤ 1048576) × (u.0 ≤ 524288)
listed_near table own s l p u f h e =
    let x = listed_done table own (list_at s l p) u f e in (listed_size table own s l p u f h e, omega (arith, list_bits_lem s l p x.0 u.0 x.1))

-- by a list's facts
mark_by_lem : (k : Keep) (table : List ℕ) (own : ℕ) (c : Code) (q : ℕ) → mark_by k (facts_of table own c) q ≡ mark_of k c q
unfolding mark_by mark_of facts_of
mark_by_lem Sizes table own c q = ap (λ (b : Bool). size_mark b (length (flat c))) (sym (closed_class c))
mark_by_lem Pasts table own c q = refl

-- a list's own mark, when all inside it have theirs
pub list_marked_lem : (k : Keep) (table : List ℕ) (own : ℕ) (s : List ℕ) (l : ℕ) (M₀ M M' : List ℕ) (p v : ℕ) (u : BitPlace) (f : Facts)
    → ((c : Code) (q : ℕ) → list_at s l p ≡ got c q → M ≡ marked_in k M₀ p c) → listed table own (list_at s l p) ≡ Ok (u, f) → v ≡ mark_by k f u.0
    → M' ≡ mark M p v → list_marked k M₀ M' p (list_at s l p)
unfolding list_marked marked
list_marked_lem k table own s l M₀ M M' p v u f inside e w m =
    let x = listed_done table own (list_at s l p) u f e in
    let b = list_bits_lem s l p x.0 u.0 x.1 in
    let z : v ≡ mark_of k x.0 (p + bits x.0) =
    w ∙ ap (λ (y : Facts). mark_by k y u.0) (sym x.2) ∙ mark_by_lem k table own x.0 u.0 ∙ ap (mark_of k x.0) b.0 in
    rw x.1 (m ∙ rw (inside x.0 u.0 x.1, z) refl)
