-- What the links of a list say, once they are made: a link is never overwritten, since places only grow. Assumes nothing.
use Rattle.std.specs.Prelude.{ℕ, ◌+◌, ◌*◌, ◌/◌, ◌≤◌, ◌≡◌, List, length, get_or}
use Rattle.std.proofs.Common.{arith, ◌∙◌, length-set, get_or-set_same, get_or-set_other}
use Rattle.files.specs.Code.{Code, done, neutral, return, call, unless_false, make_cont, bits}
use Rattle.files.specs.laws.ReadingLaws.{least_bits}
use Rattle.lists.specs.laws.MarksLaws.{Outside}
use Rattle.links.specs.Links.{link_at, link, linked}

-- L has the links of the list c that begins at p, whose end is at e, and after which execution goes on at f
unfoldable pub Linked : List ℕ → ℕ → ℕ → ℕ → Code → Type 0
Linked L p e f done = link_at L p ≡ f
Linked L p e f (neutral op ns r) = Linked L (p + (5 + 8 * length ns)) e f r
Linked L p e f (return r) = Linked L (p + 5) e f r
Linked L p e f (call n r) = Linked L (p + 13) e f r
Linked L p e f (unless_false x y r) =
    (link_at L p ≡ p + 5 + bits x)
    × Linked L (p + 5) (p + bits x) (p + 5 + bits x + bits y) x
    × Linked L (p + 5 + bits x) (p + bits x + bits y) (p + 5 + bits x + bits y) y
    × Linked L (p + 5 + bits x + bits y) e f r
Linked L p e f (make_cont n x r) =
    (link_at L p ≡ p + 13 + bits x) × Linked L (p + 13) (p + 8 + bits x) e x × Linked L (p + 13 + bits x) e f r

pub linked_length : (L : List ℕ) (p e f : ℕ) (c : Code) → length (linked L p e f c) ≡ length L
unfolding linked
linked_length L p e f done = length-set L (p / 5) f
linked_length L p e f (neutral op ns r) = linked_length L (p + (5 + 8 * length ns)) e f r
linked_length L p e f (return r) = linked_length L _ e f r
linked_length L p e f (call n r) = linked_length L _ e f r
linked_length L p e f (unless_false x y r) =
    let a = link L p (p + 5 + bits x) in
    let b = linked a (p + 5) (p + bits x) (p + 5 + bits x + bits y) x in
    let d = linked b (p + 5 + bits x) (p + bits x + bits y) (p + 5 + bits x + bits y) y in
    linked_length d (p + 5 + bits x + bits y) e f r ∙ linked_length b (p + 5 + bits x) (p + bits x + bits y) (p + 5 + bits x + bits y) y
    ∙ linked_length a (p + 5) (p + bits x) (p + 5 + bits x + bits y) x ∙ length-set L (p / 5) _
linked_length L p e f (make_cont n x r) =
    let a = link L p (p + 13 + bits x) in
    let b = linked a (p + 13) (p + 8 + bits x) e x in
    linked_length b (p + 13 + bits x) e f r ∙ linked_length a (p + 13) (p + 8 + bits x) e x ∙ length-set L (p / 5) _

-- the links of places before p
abbrev pub Before : ℕ → ℕ → Type 0
Before p i = 5 * i + 5 ≤ p

-- L' has the links that L has before p
abbrev pub Kept : ℕ → List ℕ → List ℕ → Type 0
Kept p L L' = (i : ℕ) → Before p i → get_or L' i 0 ≡ get_or L i 0

pub link_other : (L : List ℕ) (p q m : ℕ) → p + 5 ≤ q → (i : ℕ) → Outside p q i → get_or (link L p m) i 0 ≡ get_or L i 0
link_other L p q m b i h = get_or-set_other L (p / 5) i m 0 (λ e. h (omega arith) (omega arith))

-- the links of places outside a list stay
pub linked_other : (L : List ℕ) (p e f : ℕ) (c : Code) (i : ℕ) → Outside p (p + bits c) i → get_or (linked L p e f c) i 0 ≡ get_or L i 0
unfolding linked bits
linked_other L p e f done i h = link_other L p (p + 5) f (omega arith) i h
linked_other L p e f (neutral op ns r) i h = linked_other L (p + (5 + 8 * length ns)) e f r i (λ a b. h (omega arith) (omega arith))
linked_other L p e f (return r) i h = linked_other L _ e f r i (λ a b. h (omega arith) (omega arith))
linked_other L p e f (call n r) i h = linked_other L _ e f r i (λ a b. h (omega arith) (omega arith))
linked_other L p e f (unless_false x y r) i h =
    let least = least_bits r in
    let a = link L p (p + 5 + bits x) in
    let b = linked a (p + 5) (p + bits x) (p + 5 + bits x + bits y) x in
    let d = linked b (p + 5 + bits x) (p + bits x + bits y) (p + 5 + bits x + bits y) y in
    linked_other d (p + 5 + bits x + bits y) e f r i (λ k j. h (omega arith) (omega arith))
    ∙ linked_other b (p + 5 + bits x) (p + bits x + bits y) (p + 5 + bits x + bits y) y i (λ k j. h (omega arith) (omega arith))
    ∙ linked_other a (p + 5) (p + bits x) (p + 5 + bits x + bits y) x i (λ k j. h (omega arith) (omega arith))
    ∙ link_other L p (p + (5 + bits x + bits y + bits r)) _ (omega arith) i h
linked_other L p e f (make_cont n x r) i h =
    let a = link L p (p + 13 + bits x) in
    let b = linked a (p + 13) (p + 8 + bits x) e x in
    linked_other b (p + 13 + bits x) e f r i (λ k j. h (omega arith) (omega arith))
    ∙ linked_other a (p + 13) (p + 8 + bits x) e x i (λ k j. h (omega arith) (omega arith))
    ∙ link_other L p (p + (13 + bits x + bits r)) _ (omega arith) i h

pub linked_kept : (L : List ℕ) (p e f : ℕ) (c : Code) → Kept p L (linked L p e f c)
linked_kept L p e f c i h = linked_other L p e f c i (λ a b. omega arith)

-- what later lists do not touch stays
pub still_linked : (L L' : List ℕ) (p e f : ℕ) (c : Code) → Kept (p + bits c) L L' → Linked L p e f c → Linked L' p e f c
unfolding Linked bits
still_linked L L' p e f done k h = k (p / 5) (omega arith) ∙ h
still_linked L L' p e f (neutral op ns r) k h = still_linked L L' (p + (5 + 8 * length ns)) e f r (λ i b. k i (omega arith)) h
still_linked L L' p e f (return r) k h = still_linked L L' _ e f r (λ i b. k i (omega arith)) h
still_linked L L' p e f (call n r) k h = still_linked L L' _ e f r (λ i b. k i (omega arith)) h
still_linked L L' p e f (unless_false x y r) k h = (
  k (p / 5) (omega arith) ∙ h.0,
  still_linked L L' _ _ _ x (λ i b. k i (omega arith)) h.1,
  still_linked L L' _ _ _ y (λ i b. k i (omega arith)) h.2,
  still_linked L L' _ e f r (λ i b. k i (omega arith)) h.3,
)
still_linked L L' p e f (make_cont n x r) k h =
    (k (p / 5) (omega arith) ∙ h.0, still_linked L L' _ _ _ x (λ i b. k i (omega arith)) h.1, still_linked L L' _ e f r (λ i b. k i (omega arith)) h.2)

-- THE LAW: what is linked has its links
pub linked_holds : (L : List ℕ) (p e f : ℕ) (c : Code) → p + bits c ≤ 5 * length L → Linked (linked L p e f c) p e f c
unfolding linked Linked bits
linked_holds L p e f done h = get_or-set_same L (p / 5) f 0 (omega arith)
linked_holds L p e f (neutral op ns r) h = linked_holds L _ e f r (omega arith)
linked_holds L p e f (return r) h = linked_holds L _ e f r (omega arith)
linked_holds L p e f (call n r) h = linked_holds L _ e f r (omega arith)
linked_holds L p e f (unless_false x y r) h =
    let q = p + 5 + bits x + bits y in
    let L₀ = link L p (p + 5 + bits x) in
    let L₁ = linked L₀ (p + 5) (p + bits x) q x in
    let L₂ = linked L₁ (p + 5 + bits x) (p + bits x + bits y) q y in
    let L₃ = linked L₂ q e f r in
    let n₀ : length L₀ ≡ length L = length-set L (p / 5) _ in
    let n₁ : length L₁ ≡ length L₀ = linked_length L₀ _ _ _ x in
    let n₂ : length L₂ ≡ length L₁ = linked_length L₁ _ _ _ y in
    let k₁ : Kept (p + 5) L₀ L₁ = linked_kept L₀ _ _ _ x in
    let k₂ : Kept (p + 5 + bits x) L₁ L₂ = linked_kept L₁ _ _ _ y in
    let k₃ : Kept q L₂ L₃ = linked_kept L₂ q e f r in
    let g : link_at L₀ p ≡ p + 5 + bits x = get_or-set_same L (p / 5) _ 0 (omega arith) in (
      k₃ (p / 5) (omega arith) ∙ k₂ (p / 5) (omega arith) ∙ k₁ (p / 5) (omega arith) ∙ g,
      still_linked L₁ L₃ _ _ _ x (λ i b. k₃ i (omega arith) ∙ k₂ i b) (linked_holds L₀ _ _ _ x (omega arith)),
      still_linked L₂ L₃ _ _ _ y k₃ (linked_holds L₁ _ _ _ y (omega arith)),
      linked_holds L₂ q e f r (omega arith),
    )
linked_holds L p e f (make_cont n x r) h =
    let q = p + 13 + bits x in
    let L₀ = link L p q in
    let L₁ = linked L₀ (p + 13) (p + 8 + bits x) e x in
    let L₂ = linked L₁ q e f r in
    let n₀ : length L₀ ≡ length L = length-set L (p / 5) _ in
    let n₁ : length L₁ ≡ length L₀ = linked_length L₀ _ _ _ x in
    let k₁ : Kept (p + 13) L₀ L₁ = linked_kept L₀ _ _ _ x in
    let k₂ : Kept q L₁ L₂ = linked_kept L₁ q e f r in
    let g : link_at L₀ p ≡ q = get_or-set_same L (p / 5) _ 0 (omega arith) in (
      k₂ (p / 5) (omega arith) ∙ k₁ (p / 5) (omega arith) ∙ g,
      still_linked L₁ L₂ _ _ _ x k₂ (linked_holds L₀ _ _ _ x (omega arith)),
      linked_holds L₁ q e f r (omega arith),
    )
