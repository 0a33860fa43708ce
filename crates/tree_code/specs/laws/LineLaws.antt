-- An instruction by the 21 bits at its place: its code, and what may be operands. Assumes nothing.
use Prim.Native.Nat.{ℕ, zero, suc, ◌+◌, ◌*◌, ◌/◌, ◌%◌, ◌^◌, ◌≤◌, ◌<◌}
use Rattle.std.proofs.Common.{arith, ◌∙◌, subst}
use Rattle.std.specs.Prelude.{◌≡◌, Bool, true, cond, ◌&&◌, ◌||◌, List, [], ◌∷◌, map, get_or, Some}
use Rattle.std.proofs.Math.Path.{refl, sym, ap}
use Rattle.std.proofs.Math.Bool.{false, and-eq-true_iff}
use Rattle.std.proofs.Math.Option.{none}
use borrow.Author.Tests.{eq-eqb, ne_eqb, eqb-true, eqb-false}
use Rattle.std.proofs.Math.ListN.{length}
use Rattle.std.proofs.Math.Dec.{eqb}
use Rattle.rules.specs.laws.Lists.{by_lt}
use Rattle.cells.specs.declared.BitPlace.{BitPlace}
use Rattle.fields.specs.Field.{field_at, field_read}
use Rattle.fields.specs.laws.Laws.{cut, whole, field_small, line_code, line_first, line_second}
use Rattle.files.specs.Codes.{CodeRow, codes, shape, shape_of}
use Rattle.lists.specs.laws.ReadLaws.{line_read as code_read}
use Rattle.links.specs.Links.{link_at}
use Rattle.machines.specs.Fetched.{Fetched, bad, plainly, rule_of}
use Rattle.machines.specs.Slots.{slot_at, slot_resolve}
use Rattle.tree_code.specs.Fetch.{tree_bytes, transfer_as, with_read, shaped_as, instruction_at}

-- ---- the table of codes
-- operand bytes by the shape of a code
bytes_by : ℕ → ℕ
bytes_by zero = 0
bytes_by (suc zero) = 0
bytes_by (suc (suc zero)) = 1
bytes_by (suc (suc (suc zero))) = 2
bytes_by (suc (suc (suc (suc zero)))) = 0
bytes_by (suc (suc (suc (suc (suc zero))))) = 1
bytes_by (suc (suc (suc (suc (suc (suc k)))))) = 0

agree : List CodeRow → Bool
agree [] = true
agree (r ∷ l) = eqb r.tree (bytes_by (shape r)) && agree l

agree_at : (l : List CodeRow) → agree l ≡ true → (v : ℕ) → v < length l → get_or (map (λ r. r.tree) l) v 0 ≡ bytes_by (get_or (map shape l) v 6)
unfolding agree
agree_at [] h v i = absurd (omega arith)
agree_at (r ∷ l) h zero i = eqb-true r.tree (bytes_by (shape r)) ((and-eq-true_iff (eqb r.tree (bytes_by (shape r))) (agree l)).0 h).0
agree_at (r ∷ l) h (suc v) i = agree_at l ((and-eq-true_iff (eqb r.tree (bytes_by (shape r))) (agree l)).0 h).1 v (omega arith)

bytes_by_lem : (v : ℕ) → v < 32 → tree_bytes v ≡ bytes_by (shape_of v)
unfolding tree_bytes shape_of agree bytes_by
bytes_by_lem v h = agree_at codes refl v h

-- two bits of the word w for each number of a list, from the k-th on
unfoldable pub packed : ℕ → ℕ → List ℕ → Bool
packed w k [] = true
packed w k (n ∷ l) = eqb (w / 2 ^ (2 * k) % 4) n && packed w (suc k) l

packed_at : (w k : ℕ) (l : List ℕ) → packed w k l ≡ true → (v : ℕ) → v < length l → w / 2 ^ (2 * (k + v)) % 4 ≡ get_or l v 0
unfolding packed
packed_at w k [] h v i = absurd (omega arith)
packed_at w k (n ∷ l) h zero i =
    let e : k + 0 ≡ k = omega arith in
    rw e (eqb-true (w / 2 ^ (2 * k) % 4) n ((and-eq-true_iff (eqb (w / 2 ^ (2 * k) % 4) n) (packed w (suc k) l)).0 h).0)
packed_at w k (n ∷ l) h (suc v) i =
    let e : k + suc v ≡ suc k + v = omega arith in
    rw e (packed_at w (suc k) l ((and-eq-true_iff (eqb (w / 2 ^ (2 * k) % 4) n) (packed w (suc k) l)).0 h).1 v (omega arith))

pub counts_packed : (w : ℕ) → packed w 0 (map (λ r. r.tree) codes) ≡ true → (v : ℕ) → v < 32 → w / 2 ^ (2 * v) % 4 ≡ tree_bytes v
unfolding tree_bytes
counts_packed w e v h =
    let i : v ≡ 0 + v = omega arith in
    ap (λ (n : ℕ). w / 2 ^ (2 * n) % 4) i ∙ packed_at w 0 (map (λ r. r.tree) codes) e v h

-- ---- a neutral code looks at the operands that it has alone
data Kept (slot : ℕ → ℕ) (v a b : ℕ) : ℕ → Type 0 where
  none_kept : slot_resolve slot v a b ≡ slot_resolve slot v 0 0 → Kept slot v a b 1
  one_kept : slot_resolve slot v a b ≡ slot_resolve slot v a 0 → Kept slot v a b 2
  two_kept : Kept slot v a b 3
  not_kept : slot_resolve slot v a b ≡ none → Kept slot v a b 6

kept : (slot : ℕ → ℕ) (v a b : ℕ) → 6 ≤ v → v < 32 → Kept slot v a b (shape_of v)
unfolding slot_resolve shape_of
kept slot v a b h l =
    (at_code 6 h (one_kept refl) λ h.
    (at_code 7 h (one_kept refl) λ h.
    (at_code 8 h (one_kept refl) λ h.
    (at_code 9 h (one_kept refl) λ h.
    (at_code 10 h two_kept λ h.
    (at_code 11 h two_kept λ h.
    (at_code 12 h (none_kept refl) λ h.
    (at_code 13 h (one_kept refl) λ h.
    (at_code 14 h (not_kept refl) λ h.
    (at_code 15 h (none_kept refl) λ h.
    (at_code 16 h (one_kept refl) λ h.
    (at_code 17 h (not_kept refl) λ h.
    (at_code 18 h (none_kept refl) λ h.
    (at_code 19 h (none_kept refl) λ h.
    (at_code 20 h (none_kept refl) λ h.
    (at_code 21 h (none_kept refl) λ h.
    (at_code 22 h (none_kept refl) λ h.
    (at_code 23 h (none_kept refl) λ h.
    (at_code 24 h (none_kept refl) λ h.
    (at_code 25 h (none_kept refl) λ h.
    (at_code 26 h (not_kept refl) λ h.
    (at_code 27 h (not_kept refl) λ h.
    (at_code 28 h (not_kept refl) λ h.
    (at_code 29 h (not_kept refl) λ h.
    (at_code 30 h (not_kept refl) λ h.
    (at_code 31 h (not_kept refl) λ h.
    absurd (omega arith)))))))))))))))))))))))))))
  where
    at_code : (n : ℕ) → n ≤ v → Kept slot n a b (shape_of n) → (suc n ≤ v → Kept slot v a b (shape_of v)) → Kept slot v a b (shape_of v)
    at_code n h x more = pick (eqb v n) refl
      where
        pick : (t : Bool) → eqb v n ≡ t → Kept slot v a b (shape_of v)
        pick true e = subst (λ (u : ℕ). Kept slot u a b (shape_of u)) (sym (eqb-true v n e)) x
        pick false e = let k : v ≡ n → ⊥ = eqb-false v n e in more (omega arith)

-- ---- the line
module _ (s : List ℕ) (p line : ℕ) (is : line ≡ field_at s p 21) where
  -- the code is read, and is that of a list's end or is not
  pub line_read : p + 5 ≤ 8 * length s → field_read s p 5 ≡ Some (line / 65536, record { 0 = p + 5 })
  line_read h = code_read s p line is h (record { 0 = p + 5 }) refl

  -- ---- an instruction of which the code v is whole
  module _ (L table : List ℕ) (t v n : ℕ) (code : v ≡ line / 65536) (count : n ≡ tree_bytes v) where
    below : v < 32
    below = omega (arith, code, line_code s p line is, field_small s p 5)

    count_by_lem : n ≡ bytes_by (shape_of v)
    count_by_lem = count ∙ bytes_by_lem v below

    -- the instruction is the one that its code's shape says
    shaped_there : (x : Fetched) → p + 5 ≤ 8 * length s → x ≡ shaped_as s L table t p v (p + 5) (shape_of v) → x ≡ instruction_at s L table t p
    unfolding instruction_at with_read
    shaped_there x h e =
        let f : field_read s p 5 ≡ Some (v, record { 0 = p + 5 }) = line_read h ∙ ap (λ (u : ℕ). Some (u, record { 0 = p + 5 })) (sym code) in rw f e

    read_at : (q : ℕ) → q + 8 ≤ 8 * length s → field_read s q 8 ≡ Some (field_at s q 8, record { 0 = q + 8 })
    read_at q h = sym (whole s q 8 h)

    pub line_cut : 8 * length s < p + (5 + 8 * n) → bad ≡ instruction_at s L table t p
    unfolding instruction_at with_read shaped_as bytes_by
    line_cut h = by_lt (8 * length s) (p + 5) (λ l. rw (sym (cut s p 5 l)) refl) (λ i. shaped_there bad i (inside i (shape_of v) count_by_lem))
      where
        inside : p + 5 ≤ 8 * length s → (k : ℕ) → n ≡ bytes_by k → bad ≡ shaped_as s L table t p v (p + 5) k
        inside i zero c = refl
        inside i (suc zero) c = absurd (omega arith)
        inside i (suc (suc zero)) c = rw (sym (cut s (p + 5) 8 (omega (arith, c)))) refl
        inside i (suc (suc (suc zero))) c =
            by_lt (8 * length s) (p + 5 + 8) (λ l. rw (sym (cut s (p + 5) 8 l)) refl)
            (λ j. rw (read_at (p + 5) j, sym (cut s (p + 5 + 8) 8 (omega (arith, c)))) refl)
        inside i (suc (suc (suc (suc zero)))) c = absurd (omega arith)
        inside i (suc (suc (suc (suc (suc zero))))) c = rw (sym (cut s (p + 5) 8 (omega (arith, c)))) refl
        inside i (suc (suc (suc (suc (suc (suc k)))))) c = refl

    -- it is whole, and q is the place past it
    module _ (q : ℕ) (fits : p + (5 + 8 * n) ≤ 8 * length s) (past : q ≡ p + (5 + 8 * n)) where
      first_read : 1 ≤ n → field_read s (p + 5) 8 ≡ Some (line / 256 % 256, record { 0 = p + 5 + 8 })
      first_read h = read_at (p + 5) (omega arith) ∙ ap (λ (a : ℕ). Some (a, record { 0 = p + 5 + 8 })) (sym (line_first s p line is))

      pub line_transfer : v < 6 → (x : Fetched) → x ≡ transfer_as (link_at L p) v (line / 256 % 256) q → x ≡ instruction_at s L table t p
      unfolding transfer_as shaped_as shape_of bytes_by with_read
      line_transfer h x e = shaped_there x (omega arith) (e ∙ by v refl h)
        where
          counted : (u : ℕ) → v ≡ u → n ≡ bytes_by (shape_of u)
          counted u e = count_by_lem ∙ ap (λ (w : ℕ). bytes_by (shape_of w)) e

          by : (u : ℕ) → v ≡ u → u < 6 → transfer_as (link_at L p) u (line / 256 % 256) q ≡ shaped_as s L table t p u (p + 5) (shape_of u)
          by zero e l = refl
          by (suc zero) e l = refl
          by (suc (suc zero)) e l = let c : n ≡ 1 = counted 2 e in rw (first_read (omega arith)) refl
          by (suc (suc (suc zero))) e l = let c : n ≡ 0 = counted 3 e in let z : q ≡ p + 5 = omega arith in rw z refl
          by (suc (suc (suc (suc zero)))) e l =
              let c : n ≡ 1 = counted 4 e in let z : q ≡ p + 5 + 8 = omega arith in rw (first_read (omega arith), z) refl
          by (suc (suc (suc (suc (suc zero))))) e l = refl
          by (suc (suc (suc (suc (suc (suc u)))))) e l = absurd (omega arith)

      pub line_neutral : 6 ≤ v → plainly (slot_resolve (slot_at table t) v (line / 256 % 256) (line % 256)) q ≡ instruction_at s L table t p
      unfolding plainly shaped_as bytes_by with_read
      line_neutral h = shaped_there _ (omega arith) (by (shape_of v) count_by_lem (kept (slot_at table t) v (line / 256 % 256) (line % 256) h below))
        where
          no_return : eqb v 1 ≡ false
          no_return = ne_eqb v 1 (λ z. omega arith)

          no_call : eqb v 2 ≡ false
          no_call = ne_eqb v 2 (λ z. omega arith)

          by : (k : ℕ) → n ≡ bytes_by k → Kept (slot_at table t) v (line / 256 % 256) (line % 256) k
              → plainly (slot_resolve (slot_at table t) v (line / 256 % 256) (line % 256)) q ≡ shaped_as s L table t p v (p + 5) k
          by k c (none_kept e) = let z : q ≡ p + 5 = omega (arith, past, c) in rw (no_return, e, z) refl
          by k c (one_kept e) = let z : q ≡ p + 5 + 8 = omega (arith, past, c) in rw (first_read (omega (arith, c)), no_call, e, z) refl
          by k c two_kept =
              let z : q ≡ p + 5 + 8 + 8 = omega (arith, past, c) in
              let i : p + 13 ≡ p + 5 + 8 = omega arith in
              let f : field_read s (p + 5 + 8) 8 ≡ Some (line % 256, record { 0 = p + 5 + 8 + 8 }) =
              read_at (p + 5 + 8) (omega (arith, c))
              ∙ ap (λ (b : ℕ). Some (b, record { 0 = p + 5 + 8 + 8 })) (sym (line_second s p line is ∙ ap (λ (x : ℕ). field_at s x 8) i))
              in
              rw (first_read (omega (arith, c)), f, z) refl
          by k c (not_kept e) = rw e refl
