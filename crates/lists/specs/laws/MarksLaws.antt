-- What the marks of a list say, once they are made: the marks of other lists stay, since lists lie side by side or in one another. Assumes
-- nothing.
use Rattle.std.specs.Prelude.{ℕ, ◌+◌, ◌*◌, ◌/◌, ◌≤◌, ◌≡◌, List, get_or}
use native.Mathlib.Omega.{arith}
use Rattle.std.proofs.Math.Path.{refl}
use Rattle.std.proofs.Common.{◌∙◌, get_or-set_same}
use Rattle.std.proofs.Math.ListN.{length, length-set}
use Rattle.std.proofs.Math.Seq.{get_or-set_other}
use Rattle.files.specs.Code.{Code, done, neutral, return, call, unless_false, make_cont, bits, Instr, neutral_i, return_i, call_i, unless_i, cont_i, put}
use Rattle.files.specs.laws.ReadingLaws.{least_bits, bits_i}
use Rattle.lists.specs.declared.Keep.{Keep}
use Rattle.lists.specs.Marks.{mark_of, mark_at, mark, marked_in, marked, HasIn, Has}

-- ---- which marks are whose
-- mark i is of no place from p up to q
abbrev pub Outside : ℕ → ℕ → ℕ → Type 0
Outside p q i = p ≤ 5 * i + 4 → 5 * i + 5 ≤ q → ⊥

-- M' has the marks that M has of places from p up to q
abbrev pub Same : ℕ → ℕ → List ℕ → List ℕ → Type 0
Same p q M M' = (i : ℕ) → p ≤ 5 * i + 4 → 5 * i + 5 ≤ q → get_or M' i 0 ≡ get_or M i 0

module _ (k : Keep) where
  pub marked_length : (M : List ℕ) (p : ℕ) (c : Code) → length (marked_in k M p c) ≡ length M
  unfolding marked_in
  marked_length M p done = refl
  marked_length M p (neutral op ns r) = marked_length M _ r
  marked_length M p (return r) = marked_length M _ r
  marked_length M p (call n r) = marked_length M _ r
  marked_length M p (unless_false x y r) =
      let m = p + 5 + bits x in
      let M₁ = marked_in k M (p + 5) x in
      let M₂ = mark M₁ (p + 5) (mark_of k x m) in
      let M₃ = marked_in k M₂ m y in
      let M₄ = mark M₃ m (mark_of k y (m + bits y)) in
      marked_length M₄ (m + bits y) r ∙ length-set M₃ (m / 5) _ ∙ marked_length M₂ m y ∙ length-set M₁ ((p + 5) / 5) _ ∙ marked_length M (p + 5) x
  marked_length M p (make_cont n x r) =
      let M₁ = marked_in k M (p + 13) x in
      let M₂ = mark M₁ (p + 13) (mark_of k x (p + 13 + bits x)) in
      marked_length M₂ (p + 13 + bits x) r ∙ length-set M₁ ((p + 13) / 5) _ ∙ marked_length M (p + 13) x

  pub marked_long : (M : List ℕ) (p : ℕ) (c : Code) → length (marked k M p c) ≡ length M
  unfolding marked
  marked_long M p c = length-set (marked_in k M p c) (p / 5) _ ∙ marked_length M p c

  -- the marks of other places stay
  own_kept : (M : List ℕ) (p : ℕ) (c : Code) (v i : ℕ) → Outside p (p + bits c) i → get_or (mark M p v) i 0 ≡ get_or M i 0
  own_kept M p c v i h = let b = least_bits c in get_or-set_other M (p / 5) i v 0 (λ e. h (omega arith) (omega arith))

  pub inside_kept : (M : List ℕ) (p : ℕ) (c : Code) (i : ℕ) → Outside p (p + bits c) i → get_or (marked_in k M p c) i 0 ≡ get_or M i 0
  unfolding marked_in bits
  inside_kept M p done i h = refl
  inside_kept M p (neutral op ns r) i h = inside_kept M _ r i (λ a b. h (omega arith) (omega arith))
  inside_kept M p (return r) i h = inside_kept M _ r i (λ a b. h (omega arith) (omega arith))
  inside_kept M p (call n r) i h = inside_kept M _ r i (λ a b. h (omega arith) (omega arith))
  inside_kept M p (unless_false x y r) i h =
      let m = p + 5 + bits x in
      let M₁ = marked_in k M (p + 5) x in
      let M₂ = mark M₁ (p + 5) (mark_of k x m) in
      let M₃ = marked_in k M₂ m y in
      let M₄ = mark M₃ m (mark_of k y (m + bits y)) in
      let f : Outside (p + 5) m i = λ a b. h (omega arith) (omega arith) in
      let g : Outside m (m + bits y) i = λ a b. h (omega arith) (omega arith) in
      inside_kept M₄ (m + bits y) r i (λ a b. h (omega arith) (omega arith)) ∙ own_kept M₃ m y _ i g ∙ inside_kept M₂ m y i g
      ∙ own_kept M₁ (p + 5) x _ i f ∙ inside_kept M (p + 5) x i f
  inside_kept M p (make_cont n x r) i h =
      let f : Outside (p + 13) (p + 13 + bits x) i = λ a b. h (omega arith) (omega arith) in
      let M₁ = marked_in k M (p + 13) x in
      let M₂ = mark M₁ (p + 13) (mark_of k x (p + 13 + bits x)) in
      inside_kept M₂ (p + 13 + bits x) r i (λ a b. h (omega arith) (omega arith)) ∙ own_kept M₁ (p + 13) x _ i f ∙ inside_kept M (p + 13) x i f

  pub marked_kept : (M : List ℕ) (p : ℕ) (c : Code) (i : ℕ) → Outside p (p + bits c) i → get_or (marked k M p c) i 0 ≡ get_or M i 0
  unfolding marked
  marked_kept M p c i h = own_kept (marked_in k M p c) p c _ i h ∙ inside_kept M p c i h

  -- ---- a list has its marks where they are the same
  own_still : (M M' : List ℕ) (p : ℕ) (c : Code) (v : ℕ) → Same p (p + bits c) M M' → mark_at M p ≡ v → mark_at M' p ≡ v
  own_still M M' p c v s h = let b = least_bits c in s (p / 5) (omega arith) (omega arith) ∙ h

  pub still_in : (M M' : List ℕ) (p : ℕ) (c : Code) → Same (p + 5) (p + bits c) M M' → HasIn k M p c → HasIn k M' p c
  unfolding HasIn bits
  still_in M M' p done s h = tt
  still_in M M' p (neutral op ns r) s h = still_in M M' (p + (5 + 8 * length ns)) r (λ i a b. s i (omega arith) (omega arith)) h
  still_in M M' p (return r) s h = still_in M M' _ r (λ i a b. s i (omega arith) (omega arith)) h
  still_in M M' p (call n r) s h = still_in M M' _ r (λ i a b. s i (omega arith) (omega arith)) h
  still_in M M' p (unless_false x y r) s h =
      let f : Same (p + 5) (p + 5 + bits x) M M' = λ i a b. s i (omega arith) (omega arith) in
      let g : Same (p + 5 + bits x) (p + 5 + bits x + bits y) M M' = λ i a b. s i (omega arith) (omega arith) in (
        (own_still M M' _ x _ f h.0.0, still_in M M' _ x (λ i a b. f i (omega arith) b) h.0.1),
        (own_still M M' _ y _ g h.1.0, still_in M M' _ y (λ i a b. g i (omega arith) b) h.1.1),
        still_in M M' _ r (λ i a b. s i (omega arith) (omega arith)) h.2,
      )
  still_in M M' p (make_cont n x r) s h =
      let f : Same (p + 13) (p + 13 + bits x) M M' = λ i a b. s i (omega arith) (omega arith) in (
        (own_still M M' _ x _ f h.0.0, still_in M M' _ x (λ i a b. f i (omega arith) b) h.0.1),
        still_in M M' _ r (λ i a b. s i (omega arith) (omega arith)) h.1,
      )

  pub still_has : (M M' : List ℕ) (p : ℕ) (c : Code) → Same p (p + bits c) M M' → Has k M p c → Has k M' p c
  still_has M M' p c s h = (own_still M M' p c _ s h.0, still_in M M' p c (λ i a b. s i (omega arith) b) h.1)

  -- ---- THE LAW: what is marked has its marks
  whole : (M : List ℕ) (p : ℕ) (c : Code) → p + bits c ≤ 5 * length M → HasIn k (marked_in k M p c) p c → Has k (marked k M p c) p c
  unfolding marked
  whole M p c room h =
      let b = least_bits c in
      let n = marked_length M p c in
      let N = marked_in k M p c in
      let v = mark_of k c (p + bits c) in
      (get_or-set_same N (p / 5) v 0 (omega arith), still_in N (mark N p v) p c (λ i a b. get_or-set_other N (p / 5) i v 0 (λ e. omega arith)) h)

  marked_in_lem : (M : List ℕ) (p : ℕ) (c : Code) → p + bits c ≤ 5 * length M → HasIn k (marked_in k M p c) p c
  unfolding marked_in marked HasIn bits
  marked_in_lem M p done room = tt
  marked_in_lem M p (neutral op ns r) room = marked_in_lem M _ r (omega arith)
  marked_in_lem M p (return r) room = marked_in_lem M _ r (omega arith)
  marked_in_lem M p (call n r) room = marked_in_lem M _ r (omega arith)
  marked_in_lem M p (unless_false x y r) room =
      let m = p + 5 + bits x in
      let q = p + 5 + bits x + bits y in
      let M₁ = marked k M (p + 5) x in
      let M₂ = marked k M₁ m y in
      let M₃ = marked_in k M₂ q r in
      let n₁ : length M₁ ≡ length M = marked_long M (p + 5) x in
      let n₂ : length M₂ ≡ length M₁ = marked_long M₁ m y in
      let hx : Has k M₁ (p + 5) x = whole M (p + 5) x (omega arith) (marked_in_lem M (p + 5) x (omega arith)) in
      let hy : Has k M₂ m y = whole M₁ m y (omega arith) (marked_in_lem M₁ m y (omega arith)) in
      let s₁ : Same (p + 5) m M₁ M₃ =
      λ i a b. inside_kept M₂ q r i (λ a' b'. omega arith) ∙ marked_kept M₁ m y i (λ a' b'. omega arith) in
      let s₂ : Same m q M₂ M₃ = λ i a b. inside_kept M₂ q r i (λ a' b'. omega arith) in
      (still_has M₁ M₃ (p + 5) x s₁ hx, still_has M₂ M₃ m y s₂ hy, marked_in_lem M₂ q r (omega arith))
  marked_in_lem M p (make_cont n x r) room =
      let q = p + 13 + bits x in
      let M₁ = marked k M (p + 13) x in
      let M₂ = marked_in k M₁ q r in
      let n₁ : length M₁ ≡ length M = marked_long M (p + 13) x in
      let hx : Has k M₁ (p + 13) x = whole M (p + 13) x (omega arith) (marked_in_lem M (p + 13) x (omega arith)) in
      let s₁ : Same (p + 13) q M₁ M₂ = λ i a b. inside_kept M₁ q r i (λ a' b'. omega arith) in
      (still_has M₁ M₂ (p + 13) x s₁ hx, marked_in_lem M₁ q r (omega arith))

  pub marked_holds : (M : List ℕ) (p : ℕ) (c : Code) → p + bits c ≤ 5 * length M → Has k (marked k M p c) p c
  marked_holds M p c room = whole M p c room (marked_in_lem M p c room)

  -- ---- an instruction and the rest
  pub has_rest : (M : List ℕ) (p : ℕ) (i : Instr) (r : Code) → HasIn k M p (put i r) → HasIn k M (p + bits_i i) r
  unfolding HasIn put bits_i
  has_rest M p (neutral_i op ns) r h = h
  has_rest M p return_i r h = h
  has_rest M p (call_i n) r h = h
  has_rest M p (unless_i x y) r h = let e : p + (5 + bits x + bits y) ≡ p + 5 + bits x + bits y = omega arith in rw e h.2
  has_rest M p (cont_i n x) r h = let e : p + (13 + bits x) ≡ p + 13 + bits x = omega arith in rw e h.1

  pub has_arms : (M : List ℕ) (p : ℕ) (x y r : Code) → HasIn k M p (put (unless_i x y) r) → Has k M (p + 5) x × Has k M (p + 5 + bits x) y
  unfolding HasIn put
  has_arms M p x y r h = (h.0, h.1)

  pub has_saved : (M : List ℕ) (p n : ℕ) (x r : Code) → HasIn k M p (put (cont_i n x) r) → Has k M (p + 13) x
  unfolding HasIn put
  has_saved M p n x r h = h.0
