-- The laws of reading a list: it is its first instruction and then the list after it; it ends as many bits on as it has, within the file;
-- its code is valid. Assumes nothing.
use Prim.Native.Nat.{ℕ, zero, suc, ◌+◌, ◌*◌, ◌-◌, ◌≤◌, ◌<◌, ◌^◌}
use native.Mathlib.Omega.{arith}
use Rattle.std.specs.Prelude.{◌≡◌, Bool, true, false, cond, get_or, eqb}
use Rattle.std.proofs.Math.Path.{refl}
use Rattle.std.proofs.Common.{sym, ap, ◌∙◌, le-leb, eqb-true, length-append}
use mathlib.Core.List.{List, [], ◌∷◌}
use Rattle.std.proofs.lemmas.Bool.{eqb-false}
use Rattle.std.proofs.Math.ListN.{length}
use Rattle.fields.specs.Field.{field_read}
use Rattle.fields.specs.laws.Laws.{read_cases, field_small}
use Rattle.files.specs.Codes.{shape_of, is_neutral, operands}
use Rattle.files.specs.Code.{Code, done, neutral, return, call, unless_false, make_cont, Instr, neutral_i, return_i, call_i, unless_i, cont_i, put}
use Rattle.files.specs.Code.{simple, bits}
use Rattle.files.specs.Reading.{Got, got, refused, Head, stop, item, bad, Deep, bottom, below}
use Rattle.files.specs.Reading.{with_field, with_list, with_deep, shaped, head_at, before, after, items, deep_of, list_at}
use Rattle.files.specs.Grammar.{is_closed}
use Rattle.files.specs.Flat.{conditional, flat}
use Rattle.files.specs.Valid.{Bytes, Valid, ValidInstr}

-- ---- bits and validity of one instruction
-- how many bits an instruction takes
unfoldable pub bits_i : Instr → ℕ
bits_i (neutral_i op ns) = 5 + 8 * length ns
bits_i return_i = 5
bits_i (call_i n) = 13
bits_i (unless_i x y) = 5 + bits x + bits y
bits_i (cont_i n x) = 13 + bits x

pub bits_put : (i : Instr) (c : Code) → bits (put i c) ≡ bits_i i + bits c
unfolding bits bits_i put
bits_put (neutral_i op ns) c = refl
bits_put return_i c = refl
bits_put (call_i n) c = refl
bits_put (unless_i x y) c = refl
bits_put (cont_i n x) c = refl

-- a list takes at least the five bits of its end
pub least_bits : (c : Code) → 5 ≤ bits c
unfolding bits
least_bits done = omega arith
least_bits (neutral op ns r) = omega arith
least_bits (return r) = omega arith
least_bits (call n r) = omega arith
least_bits (unless_false x y r) = omega arith
least_bits (make_cont n x r) = omega arith

pub valid_put : (i : Instr) (c : Code) → ValidInstr i → Valid c → Valid (put i c)
unfolding Valid ValidInstr put
valid_put (neutral_i op ns) c h v = (h.0, h.1, h.2, v)
valid_put return_i c h v = v
valid_put (call_i n) c h v = (h, v)
valid_put (unless_i x y) c h v = (h.0, h.1, v)
valid_put (cont_i n x) c h v = (h.0, h.1, v)

-- a code that is no list's end, no unless-false and no make-cont is return, call or neutral
pub past_five : (v : ℕ) → 1 ≤ shape_of v → shape_of v ≤ 3 → (v ≡ 1 → ⊥) → (v ≡ 2 → ⊥) → 6 ≤ v
unfolding shape_of
past_five zero h i a b = absurd (omega arith)
past_five (suc zero) h i a b = absurd (a refl)
past_five (suc (suc zero)) h i a b = absurd (b refl)
past_five (suc (suc (suc zero))) h i a b = absurd (omega arith)
past_five (suc (suc (suc (suc zero)))) h i a b = absurd (omega arith)
past_five (suc (suc (suc (suc (suc zero))))) h i a b = absurd (omega arith)
past_five (suc (suc (suc (suc (suc (suc v)))))) h i a b = omega arith

pub first_byte : (ns : List ℕ) → Bytes ns → get_or ns 0 0 < 256
unfolding Bytes
first_byte [] b = omega arith
first_byte (n ∷ ns) b = b.0

abbrev Simple : List ℕ → Instr → Type 0
Simple ns i = (bits_i i ≡ 5 + 8 * length ns) × ValidInstr i

simple_read : (v : ℕ) (ns : List ℕ) → shape_of v ≡ 1 + length ns → length ns ≤ 2 → Bytes ns → Simple ns (simple v ns)
unfolding simple bits_i ValidInstr is_neutral operands shape_of
simple_read v ns e h b = go (eqb v 1) (eqb v 2) refl refl
  where
    go : (x y : Bool) → eqb v 1 ≡ x → eqb v 2 ≡ y → Simple ns (cond x return_i (cond y (call_i (get_or ns 0 0)) (neutral_i v ns)))
    go true y k l = let z : shape_of 1 ≡ 1 + length ns = ap shape_of (sym (eqb-true v 1 k)) ∙ e in (omega arith, tt)
    go false true k l = let z : shape_of 2 ≡ 1 + length ns = ap shape_of (sym (eqb-true v 2 l)) ∙ e in (omega arith, first_byte ns b)
    go false false k l =
        let z : 6 ≤ v = past_five v (omega arith) (omega arith) (eqb-false v 1 k) (eqb-false v 2 l) in
        (refl, (rw (le-leb 6 v z, le-leb (shape_of v) 3 (omega arith)) refl, omega arith, b))

-- ---- what is read ends as many bits on as it has, within n, and is valid
abbrev pub Past : ℕ → ℕ → Head → Type 0
Past n p (stop q) = (q ≡ p + 5) × (q ≤ n)
Past n p (item i q) = (q ≡ p + bits_i i) × (q ≤ n) × ValidInstr i
Past n p (bad m x) = Unit

abbrev pub PastList : ℕ → ℕ → Got Code → Type 0
PastList n p (got c q) = (q ≡ p + bits c) × (q ≤ n) × Valid c
PastList n p (refused m x) = Unit

abbrev pub PastDeep : ℕ → Deep → Type 0
PastDeep n bottom = Unit
PastDeep n (below f) = (p : ℕ) → PastList n p (f p)

list_past : (n p₀ p : ℕ) (k : Code → ℕ → Head) (x : Got Code) → PastList n p x → ((c : Code) (q : ℕ) → q ≡ p + bits c → q ≤ n → Valid c → Past n p₀ (k c q))
    → Past n p₀ (with_list k x)
unfolding with_list
list_past n p₀ p k (got c q) i f = f c q i.0 i.1 i.2
list_past n p₀ p k (refused m x) i f = tt

deep_then : (n p : ℕ) (k : (ℕ → Got Code) → Head) (d : Deep) → PastDeep n d → ((f : ℕ → Got Code) → ((x : ℕ) → PastList n x (f x)) → Past n p (k f))
    → Past n p (with_deep p k d)
unfolding with_deep
deep_then n p k bottom i h = tt
deep_then n p k (below f) i h = h f i

before_past : (n p q : ℕ) (i : Instr) (x : Got Code) → q ≡ p + bits_i i → ValidInstr i → PastList n q x → PastList n p (before i x)
unfolding before
before_past n p q i (got c r) h v j = (omega (arith, bits_put i c), j.1, valid_put i c v j.2)
before_past n p q i (refused m r) h v j = tt

after_past : (n p : ℕ) (r : ℕ → Got Code) (h : Head) → ((q : ℕ) → PastList n q (r q)) → Past n p h → PastList n p (after r h)
unfolding after bits Valid
after_past n p r (stop q) f i = (i.0, i.1, tt)
after_past n p r (item k q) f i = before_past n p q k (r q) i.0 i.2 (f q)
after_past n p r (bad m x) f i = tt

pub some_bits : (k : Instr) → 5 ≤ bits_i k
unfolding bits_i
some_bits (neutral_i op ns) = omega arith
some_bits return_i = omega arith
some_bits (call_i n) = omega arith
some_bits (unless_i x y) = omega arith
some_bits (cont_i n x) = omega arith

after_same : (n p : ℕ) (r r' : ℕ → Got Code) (h : Head) → Past n p h → ((q : ℕ) → p < q → q ≤ n → r q ≡ r' q) → after r h ≡ after r' h
unfolding after
after_same n p r r' (stop q) i e = refl
after_same n p r r' (item k q) i e = ap (before k) (e q (omega (arith, some_bits k)) i.1)
after_same n p r r' (bad m x) i e = refl

module _ (s : List ℕ) where
  field_past : (p₀ p w : ℕ) (k : ℕ → ℕ → Head) → ((v q : ℕ) → v < 2 ^ w → p + w ≡ q → q ≤ 8 * length s → Past (8 * length s) p₀ (k v q))
      → Past (8 * length s) p₀ (with_field p k (field_read s p w))
  unfolding with_field
  field_past p₀ p w k f = read_cases s p w (λ x. Past (8 * length s) p₀ (with_field p k x)) tt (λ i. f _ (p + w) (field_small s p w) refl i)

  module _ (deep : Deep) (good : PastDeep (8 * length s) deep) where
    simple_past : (p v q : ℕ) (ns : List ℕ) → shape_of v ≡ 1 + length ns → length ns ≤ 2 → Bytes ns → p + 5 + 8 * length ns ≡ q → q ≤ 8 * length s
        → Past (8 * length s) p (item (simple v ns) q)
    simple_past p v q ns e h b i j = let z = simple_read v ns e h b in (omega arith, j, z.1)

    shaped_past : (p v q k : ℕ) → shape_of v ≡ k → p + 5 ≡ q → q ≤ 8 * length s → Past (8 * length s) p (shaped s deep p v q k)
    unfolding shaped bits_i ValidInstr Bytes
    shaped_past p v q zero e h i = (omega arith, i)
    shaped_past p v q (suc zero) e h i = simple_past p v q [] e (omega arith) tt (omega arith) i
    shaped_past p v q (suc (suc zero)) e h i = field_past p q 8 _ (λ a q₁ b h₁ i₁. simple_past p v q₁ (a ∷ []) e (omega arith) (b, tt) (omega arith) i₁)
    shaped_past p v q (suc (suc (suc zero))) e h i =
        field_past p q 8 _
        (λ a q₁ b h₁ i₁. field_past p q₁ 8 _ (λ a' q₂ b' h₂ i₂. simple_past p v q₂ (a ∷ a' ∷ []) e (omega arith) (b, (b', tt)) (omega arith) i₂))
    shaped_past p v q (suc (suc (suc (suc zero)))) e h i =
        deep_then _ p _ deep good
        (λ f g. list_past _ p q _ (f q) (g q) (λ x q₁ h₁ i₁ v₁. list_past _ p q₁ _ (f q₁) (g q₁) (λ y q₂ h₂ i₂ v₂. (omega arith, i₂, (v₁, v₂)))))
    shaped_past p v q (suc (suc (suc (suc (suc zero))))) e h i =
        deep_then _ p _ deep good (λ f g. field_past p q 8 _ (λ n q₁ b h₁ i₁. list_past _ p q₁ _ (f q₁) (g q₁) (λ x q₂ h₂ i₂ v₂. (omega arith, i₂, (b, v₂)))))
    shaped_past p v q (suc (suc (suc (suc (suc (suc k)))))) e h i = tt

    pub head_past : (p : ℕ) → Past (8 * length s) p (head_at s deep p)
    unfolding head_at
    head_past p = field_past p p 5 _ (λ v q b h i. shaped_past p v q (shape_of v) refl h i)

    pub items_past : (f p : ℕ) → PastList (8 * length s) p (items s deep f p)
    unfolding items
    items_past zero p = tt
    items_past (suc f) p = after_past _ p (items s deep f) (head_at s deep p) (items_past f) (head_past p)

    items_fuel : (f g p : ℕ) → 8 * length s - p < f → 8 * length s - p < g → items s deep f p ≡ items s deep g p
    unfolding items
    items_fuel zero g p h i = absurd (omega arith)
    items_fuel (suc f) zero p h i = absurd (omega arith)
    items_fuel (suc f) (suc g) p h i =
        after_same _ p (items s deep f) (items s deep g) (head_at s deep p) (head_past p) (λ q a b. items_fuel f g q (omega arith) (omega arith))

  pub deep_past : (l : ℕ) → PastDeep (8 * length s) (deep_of s l)
  unfolding deep_of
  deep_past zero = tt
  deep_past (suc l) = items_past (deep_of s l) (deep_past l) (suc (8 * length s))

-- ---- the laws
-- a list is its first instruction and then the list after it: from here on nothing speaks of how many instructions there may be
pub list_step : (s : List ℕ) (l p : ℕ) → list_at s l p ≡ after (list_at s l) (head_at s (deep_of s l) p)
unfolding list_at items
list_step s l p =
    after_same _ p (items s (deep_of s l) (8 * length s)) (items s (deep_of s l) (suc (8 * length s))) (head_at s (deep_of s l) p)
    (head_past s (deep_of s l) (deep_past s l) p)
    (λ q a b. items_fuel s (deep_of s l) (deep_past s l) (8 * length s) (suc (8 * length s)) q (omega arith) (omega arith))

pub list_past_all : (s : List ℕ) (l p : ℕ) → PastList (8 * length s) p (list_at s l p)
unfolding list_at
list_past_all s l p = items_past s (deep_of s l) (deep_past s l) (suc (8 * length s)) p

pub list_bits_lem : (s : List ℕ) (l p : ℕ) (c : Code) (q : ℕ) → list_at s l p ≡ got c q → (q ≡ p + bits c) × (q ≤ 8 * length s)
list_bits_lem s l p c q e = let h = rw e at (list_past_all s l p) in (h.0, h.1)

pub list_valid : (s : List ℕ) (l p : ℕ) (c : Code) (q : ℕ) → list_at s l p ≡ got c q → Valid c
list_valid s l p c q e = let h = rw e at (list_past_all s l p) in h.2

-- ---- flat code is short: at most two bytes for five bits, and a list's code 0 has no byte
flat_conditional : (b : Bool) (x y r : List ℕ) → length (conditional b x y r) ≤ 6 + length x + length y + length r
unfolding conditional
flat_conditional true x y r = simp length-append (omega arith)
flat_conditional false x y r = simp length-append (omega arith)

pub flat_bits_end : (c : Code) → 5 * length (flat c) + 10 ≤ 2 * bits c
unfolding flat bits
flat_bits_end done = omega arith
flat_bits_end (neutral op ns r) = simp length-append (omega (arith, flat_bits_end r))
flat_bits_end (return r) = omega (arith, flat_bits_end r)
flat_bits_end (call n r) = omega (arith, flat_bits_end r)
flat_bits_end (unless_false x y r) = omega (arith, flat_conditional (is_closed x) (flat x) (flat y) (flat r), flat_bits_end x, flat_bits_end y, flat_bits_end r)
flat_bits_end (make_cont n x r) = simp length-append (omega (arith, flat_bits_end x, flat_bits_end r))

pub flat_bits : (c : Code) → 5 * length (flat c) ≤ 2 * bits c
flat_bits c = omega (arith, flat_bits_end c)
