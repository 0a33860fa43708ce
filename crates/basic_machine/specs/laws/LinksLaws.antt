-- What the links of a list say, once they are made: a link is never overwritten, since places only grow. Assumes nothing.
use Rattle.std.specs.Prelude.{ℕ, suc, ◌+◌, ◌*◌, ◌/◌, ◌≤◌, ◌≡◌, List, length}
use Rattle.std.proofs.Common.{arith, ◌∙◌, length-set, get_or-set_same, get_or-set_other}
use Rattle.links.specs.Links.{link_at, link}
use Rattle.links.specs.laws.LinksLaws.{Kept}
use Rattle.basic.specs.Basic.{Basic, ended, plain, carries, closure, branch, save, carried_bits, bits}
use Rattle.basic.specs.Tabulated.{inside}
use Rattle.basic_machine.specs.Links.{onward, linked}

-- L has the links of the list c that begins at p, after which execution goes on at f
unfoldable pub Linked : List ℕ → ℕ → ℕ → ℕ → Basic → Type 0
Linked L n f p ended = link_at L p ≡ f
Linked L n f p (plain v ns r) = Linked L n f (p + (5 + 8 * length ns)) r
Linked L n f p (carries v e r) = Linked L n f (p + (5 + carried_bits e)) r
Linked L n f p (closure x r) =
    (link_at L p ≡ 64 * (p + 5 + bits x) + n) × Linked L (suc n) 0 (p + 5) x × Linked L (suc n + inside x) f (p + 5 + bits x) r
Linked L n f p (branch x y r) =
    (link_at L p ≡ p + 5 + bits x)
    × Linked L n (onward r f (p + 5 + bits x + bits y)) (p + 5) x
    × Linked L (n + inside x) (onward r f (p + 5 + bits x + bits y)) (p + 5 + bits x) y
    × Linked L (n + inside x + inside y) f (p + 5 + bits x + bits y) r
Linked L n f p (save m x r) =
    (link_at L p ≡ p + 13 + bits x) × Linked L n f (p + 13) x × Linked L (n + inside x) 0 (p + 13 + bits x) r

pub linked_length : (L : List ℕ) (n f p : ℕ) (c : Basic) → length (linked L n f p c) ≡ length L
unfolding linked
linked_length L n f p ended = length-set L (p / 5) f
linked_length L n f p (plain v ns r) = linked_length L n f (p + (5 + 8 * length ns)) r
linked_length L n f p (carries v e r) = linked_length L n f _ r
linked_length L n f p (closure x r) =
    let a = link L p (64 * (p + 5 + bits x) + n) in
    let b = linked a (suc n) 0 (p + 5) x in
    linked_length b (suc n + inside x) f (p + 5 + bits x) r ∙ linked_length a (suc n) 0 (p + 5) x ∙ length-set L (p / 5) _
linked_length L n f p (branch x y r) =
    let a = link L p (p + 5 + bits x) in
    let b = linked a n (onward r f (p + 5 + bits x + bits y)) (p + 5) x in
    let d = linked b (n + inside x) (onward r f (p + 5 + bits x + bits y)) (p + 5 + bits x) y in
    linked_length d (n + inside x + inside y) f (p + 5 + bits x + bits y) r
    ∙ linked_length b (n + inside x) (onward r f (p + 5 + bits x + bits y)) (p + 5 + bits x) y
    ∙ linked_length a n (onward r f (p + 5 + bits x + bits y)) (p + 5) x ∙ length-set L (p / 5) _
linked_length L n f p (save m x r) =
    let a = link L p (p + 13 + bits x) in
    let b = linked a n f (p + 13) x in
    linked_length b (n + inside x) 0 (p + 13 + bits x) r ∙ linked_length a n f (p + 13) x ∙ length-set L (p / 5) _

link_kept : (L : List ℕ) (p q : ℕ) → Kept p L (link L p q)
link_kept L p q i h = get_or-set_other L (p / 5) i q 0 (λ e. omega arith)

linked_kept : (L : List ℕ) (n f p : ℕ) (c : Basic) → Kept p L (linked L n f p c)
unfolding linked
linked_kept L n f p ended i h = link_kept L p f i h
linked_kept L n f p (plain v ns r) i h = linked_kept L n f (p + (5 + 8 * length ns)) r i (omega arith)
linked_kept L n f p (carries v e r) i h = linked_kept L n f _ r i (omega arith)
linked_kept L n f p (closure x r) i h =
    let a = link L p (64 * (p + 5 + bits x) + n) in
    let b = linked a (suc n) 0 (p + 5) x in
    linked_kept b (suc n + inside x) f (p + 5 + bits x) r i (omega arith) ∙ linked_kept a (suc n) 0 (p + 5) x i (omega arith) ∙ link_kept L p _ i h
linked_kept L n f p (branch x y r) i h =
    let a = link L p (p + 5 + bits x) in
    let b = linked a n (onward r f (p + 5 + bits x + bits y)) (p + 5) x in
    let d = linked b (n + inside x) (onward r f (p + 5 + bits x + bits y)) (p + 5 + bits x) y in
    linked_kept d (n + inside x + inside y) f (p + 5 + bits x + bits y) r i (omega arith)
    ∙ linked_kept b (n + inside x) (onward r f (p + 5 + bits x + bits y)) (p + 5 + bits x) y i (omega arith)
    ∙ linked_kept a n (onward r f (p + 5 + bits x + bits y)) (p + 5) x i (omega arith) ∙ link_kept L p _ i h
linked_kept L n f p (save m x r) i h =
    let a = link L p (p + 13 + bits x) in
    let b = linked a n f (p + 13) x in
    linked_kept b (n + inside x) 0 (p + 13 + bits x) r i (omega arith) ∙ linked_kept a n f (p + 13) x i (omega arith) ∙ link_kept L p _ i h

-- what later lists do not touch stays
still_linked : (L L' : List ℕ) (n f p : ℕ) (c : Basic) → Kept (p + bits c) L L' → Linked L n f p c → Linked L' n f p c
unfolding Linked bits
still_linked L L' n f p ended k h = k (p / 5) (omega arith) ∙ h
still_linked L L' n f p (plain v ns r) k h = still_linked L L' n f (p + (5 + 8 * length ns)) r (λ i b. k i (omega arith)) h
still_linked L L' n f p (carries v e r) k h = still_linked L L' n f _ r (λ i b. k i (omega arith)) h
still_linked L L' n f p (closure x r) k h = (
  k (p / 5) (omega arith) ∙ h.0,
  still_linked L L' (suc n) 0 (p + 5) x (λ i b. k i (omega arith)) h.1,
  still_linked L L' (suc n + inside x) f (p + 5 + bits x) r (λ i b. k i (omega arith)) h.2,
)
still_linked L L' n f p (branch x y r) k h = (
  k (p / 5) (omega arith) ∙ h.0,
  still_linked L L' n (onward r f (p + 5 + bits x + bits y)) (p + 5) x (λ i b. k i (omega arith)) h.1,
  still_linked L L' (n + inside x) (onward r f (p + 5 + bits x + bits y)) (p + 5 + bits x) y (λ i b. k i (omega arith)) h.2,
  still_linked L L' (n + inside x + inside y) f (p + 5 + bits x + bits y) r (λ i b. k i (omega arith)) h.3,
)
still_linked L L' n f p (save m x r) k h = (
  k (p / 5) (omega arith) ∙ h.0,
  still_linked L L' n f (p + 13) x (λ i b. k i (omega arith)) h.1,
  still_linked L L' (n + inside x) 0 (p + 13 + bits x) r (λ i b. k i (omega arith)) h.2,
)

-- an instruction with one list x before the rest r: its link to q is kept
module _ (L : List ℕ) (p u : ℕ) (n₁ f₁ p₁ : ℕ) (x : Basic) (n₂ f₂ : ℕ) (r : Basic) (after : p + 5 ≤ p₁) (room : p₁ + bits x + bits r ≤ 5 * length L) where
  abbrev L₀ : List ℕ
  L₀ = link L p u

  abbrev L₁ : List ℕ
  L₁ = linked L₀ n₁ f₁ p₁ x

  abbrev L₂ : List ℕ
  L₂ = linked L₁ n₂ f₂ (p₁ + bits x) r

  link_stays : link_at L₂ p ≡ u
  link_stays =
      linked_kept L₁ n₂ f₂ (p₁ + bits x) r (p / 5) (omega arith) ∙ linked_kept L₀ n₁ f₁ p₁ x (p / 5) (omega arith)
      ∙ get_or-set_same L (p / 5) u 0 (omega arith)

  list_stays : Linked L₁ n₁ f₁ p₁ x → Linked L₂ n₁ f₁ p₁ x
  list_stays h = still_linked L₁ L₂ n₁ f₁ p₁ x (linked_kept L₁ n₂ f₂ (p₁ + bits x) r) h

-- THE LAW: what is linked has its links
pub linked_holds : (L : List ℕ) (n f p : ℕ) (c : Basic) → p + bits c ≤ 5 * length L → Linked (linked L n f p c) n f p c
unfolding linked Linked bits
linked_holds L n f p ended h = get_or-set_same L (p / 5) f 0 (omega arith)
linked_holds L n f p (plain v ns r) h = linked_holds L n f _ r (omega arith)
linked_holds L n f p (carries v e r) h = linked_holds L n f _ r (omega arith)
linked_holds L n f p (closure x r) h =
    let u = 64 * (p + 5 + bits x) + n in
    let n₀ : length (link L p u) ≡ length L = length-set L (p / 5) u in
    let n₁ = linked_length (link L p u) (suc n) 0 (p + 5) x in (
      link_stays L p u (suc n) 0 (p + 5) x (suc n + inside x) f r (omega arith) (omega arith),
      list_stays L p u (suc n) 0 (p + 5) x (suc n + inside x) f r (omega arith) (omega arith) (linked_holds (link L p u) (suc n) 0 (p + 5) x (omega arith)),
      linked_holds (linked (link L p u) (suc n) 0 (p + 5) x) (suc n + inside x) f (p + 5 + bits x) r (omega arith),
    )
linked_holds L n f p (branch x y r) h =
    let q = p + 5 + bits x + bits y in
    let g = onward r f q in
    let L₀ = link L p (p + 5 + bits x) in
    let L₁ = linked L₀ n g (p + 5) x in
    let L₂ = linked L₁ (n + inside x) g (p + 5 + bits x) y in
    let L₃ = linked L₂ (n + inside x + inside y) f q r in
    let n₀ : length L₀ ≡ length L = length-set L (p / 5) _ in
    let n₁ : length L₁ ≡ length L₀ = linked_length L₀ _ _ _ x in
    let n₂ : length L₂ ≡ length L₁ = linked_length L₁ _ _ _ y in
    let k₁ : Kept (p + 5) L₀ L₁ = linked_kept L₀ _ _ _ x in
    let k₂ : Kept (p + 5 + bits x) L₁ L₂ = linked_kept L₁ _ _ _ y in
    let k₃ : Kept q L₂ L₃ = linked_kept L₂ _ _ q r in
    let z : link_at L₀ p ≡ p + 5 + bits x = get_or-set_same L (p / 5) _ 0 (omega arith) in (
      k₃ (p / 5) (omega arith) ∙ k₂ (p / 5) (omega arith) ∙ k₁ (p / 5) (omega arith) ∙ z,
      still_linked L₁ L₃ _ _ _ x (λ i b. k₃ i (omega arith) ∙ k₂ i b) (linked_holds L₀ _ _ _ x (omega arith)),
      still_linked L₂ L₃ _ _ _ y k₃ (linked_holds L₁ _ _ _ y (omega arith)),
      linked_holds L₂ _ _ q r (omega arith),
    )
linked_holds L n f p (save m x r) h =
    let u = p + 13 + bits x in
    let n₀ : length (link L p u) ≡ length L = length-set L (p / 5) u in
    let n₁ = linked_length (link L p u) n f (p + 13) x in (
      link_stays L p u n f (p + 13) x (n + inside x) 0 r (omega arith) (omega arith),
      list_stays L p u n f (p + 13) x (n + inside x) 0 r (omega arith) (omega arith) (linked_holds (link L p u) n f (p + 13) x (omega arith)),
      linked_holds (linked (link L p u) n f (p + 13) x) (n + inside x) 0 (p + 13 + bits x) r (omega arith),
    )
