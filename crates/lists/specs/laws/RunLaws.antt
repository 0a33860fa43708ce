-- A run of neutral instructions without lists, passed at one go: what it comes to for the list, its marks and its bits. Assumes nothing.
use Rattle.std.specs.Prelude.{ℕ, ◌+◌, ◌*◌, ◌-◌, ◌/◌, ◌%◌, ◌^◌, ◌≤◌, ◌≡◌, Bool, true, false, cond, ◌&&◌, List, length, eqb}
use Rattle.std.proofs.Common.{add-zero, add_assoc, arith, sym, ap, ◌∙◌, shr-shr}
use Rattle.std.proofs.Math.Path.{refl}
use Rattle.std.proofs.Math.Bool.{and-true, or-false, and_assoc}
use borrow.Author.Tests.{eqb-true, eqb-false, ne_eqb, le-ltb}
use Rattle.std.proofs.lemmas.Nat.{shl-shr}
use Rattle.std.proofs.Math.Pow.{field}
use Rattle.cells.specs.declared.BitPlace.{BitPlace}
use Rattle.fields.specs.Field.{field_at}
use Rattle.fields.specs.laws.Laws.{joined, line_in}
use Rattle.files.specs.Reading.{deep_of, list_at}
use Rattle.files.specs.laws.Heads.{code_read}
use Rattle.lists.specs.declared.Keep.{Keep}
use Rattle.lists.specs.declared.Added.{Added}
use Rattle.lists.specs.declared.State.{State}
use Rattle.lists.specs.Facts.{slot_named, slot_closes}
use Rattle.lists.specs.laws.SetsLaws.{unite_zero}
use Rattle.lists.specs.Pass.{simple_added, classes_after, is_save, state_after, listed_from, itemed, run_shape, Plain, Neutrals, none, more}
use Rattle.lists.specs.Pass.{run_after}
use Rattle.lists.specs.laws.ReadLaws.{line_read, simple_anywhere, line_whole, turn_more, turn_bits}
use Rattle.lists.specs.laws.MarkSteps.{simple_marked, Marking, marking_more}

-- ---- states
tail_more : (b : Bool) (t n m : ℕ) → cond b (cond b (t + n) t + m) (cond b (t + n) t) ≡ cond b (t + (n + m)) t
tail_more true t n m = add_assoc t n m
tail_more false t n m = refl

tail_none : (b : Bool) (t : ℕ) → cond b (t + 0) t ≡ t
tail_none true t = add-zero t
tail_none false t = refl

run_none : (st : State) → run_after st 0 true ≡ st
unfolding run_after
run_none st = rw (add-zero st.size, tail_none st.seen st.tail, and-true st.named) refl

run_more : (st : State) (n : ℕ) (b : Bool) (o : Added) → Plain o → state_after (run_after st n b) o ≡ run_after st (n + o.size) (b && o.named)
unfolding state_after run_after Plain classes_after is_save
run_more st n b o h =
    let z : n + o.size ≡ 0 → ⊥ = λ e. omega (arith, h.3) in
    rw (
      h.0,
      h.1,
      h.2,
      ne_eqb (n + o.size) 0 z,
      add_assoc st.size n o.size,
      or-false st.seen,
      tail_more st.seen st.tail n o.size,
      and_assoc st.named b o.named,
      and-true st.fits,
      unite_zero st.closes,
    ) refl

pub run_tail : (st : State) (n : ℕ) (b : Bool) → st.tail ≤ st.size → (run_after st n b).tail ≤ (run_after st n b).size
unfolding run_after
run_tail st n b h = go st.seen
  where
    go : (x : Bool) → cond x (st.tail + n) st.tail ≤ st.size + n
    go true = omega arith
    go false = omega arith

-- ---- a whole run
module _ (table : List ℕ) (own : ℕ) (s : List ℕ) (p : ℕ) where
  pub run_listed : {q n : ℕ} {b : Bool} → Neutrals table own s p q n b → (l : ℕ) (st : State)
      → listed_from table own st (list_at s l p) ≡ listed_from table own (run_after st n b) (list_at s l q)
  run_listed none l st = rw (run_none st) refl
  run_listed (more q n b r v k i j head u o e plain q' n' b' f g h) l st =
      run_listed r l st ∙ turn_more table own s l q (run_after st n b) u o (ap (itemed table own) (head l) ∙ sym e)
      ∙ rw (run_more st n b o plain, f, g, h) refl

  pub run_marking : {q n : ℕ} {b : Bool} → Neutrals table own s p q n b → (k : Keep) (l : ℕ) (M₀ : List ℕ) (p₀ : ℕ) (M : List ℕ)
      → Marking k s l M₀ p₀ M p → Marking k s l M₀ p₀ M q
  run_marking none k l M₀ p₀ M m = m
  run_marking (more q n b r v j a z head u o e plain q' n' b' f g h) k l M₀ p₀ M m =
      rw f (marking_more k s l M₀ p₀ table own (run_marking r k l M₀ p₀ M m) M u o (ap (itemed table own) (head l) ∙ sym e)
      (rw (head l) (simple_marked k M s (q + 5) v (q + 5) j a z)))

  pub run_bits : {q n : ℕ} {b : Bool} → Neutrals table own s p q n b → (5 * n + 2 * p ≤ 2 * q) × (1 ≤ n → q ≤ 8 * length s)
  run_bits none = (omega arith, λ h. absurd (omega arith))
  run_bits (more q n b r v k i j head u o e plain q' n' b' f g h) =
      let w = turn_bits table own s 0 q u o (ap (itemed table own) (head 0) ∙ sym e) in
      let x = (run_bits r).0 in
      (omega (arith, w, x, f, g), λ y. omega (arith, w, f))

-- ---- one more
-- what stands before the 21 bits is shifted out
pub shifted_out : (w r : ℕ) → r ≤ 43 → w * 2 ^ r % 2 ^ 64 / 2 ^ 43 ≡ w / 2 ^ (43 - r) % 2 ^ 21
shifted_out w r h =
    let e : 43 ≡ r + (43 - r) = omega arith in
    field (w * 2 ^ r) 21 43 ∙ ap (λ (x : ℕ). w * 2 ^ r / 2 ^ x % 2 ^ 21) e
    ∙ ap (λ (x : ℕ). x % 2 ^ 21) (sym (shr-shr (w * 2 ^ r) r (43 - r)) ∙ ap (λ (x : ℕ). x / 2 ^ (43 - r)) (shl-shr w r))

module _ (s : List ℕ) where
  -- the 64 bits `skip` bits before p, in two halves
  pub record Window (p skip high low : ℕ) : Type 0 where
    pub from : ℕ
    pub on : from + skip ≡ p
    pub near : skip ≤ 28
    pub first : high ≡ field_at s from 32
    pub second : low ≡ field_at s (from + 32) 32

  -- from the byte of p on, for a place some bits on
  pub window_at : (p bit b b' high low : ℕ) → bit ≡ p % 8 → b ≡ p / 8 → b' ≡ p / 8 → high ≡ field_at s (8 * b) 32 → low ≡ field_at s (8 * (b' + 4)) 32
      → (bits : ℕ) → bits ≤ 21 → (p' skip : ℕ) → p' ≡ p + bits → skip ≡ bit + bits → Window p' skip high low
  window_at p bit b b' high low a e e' x y bits h p' skip f g =
      let z : 8 * (b' + 4) ≡ 8 * b + 32 = omega arith in
      record { from = 8 * b; on = omega arith; near = omega arith; first = x; second = rw z at y }

  pub window_line : (p skip high low : ℕ) → Window p skip high low → (high * 0x100000000 + low) / 2 ^ (43 - skip) % 2 ^ 21 ≡ field_at s p 21
  window_line p skip high low w =
      let near = w.near in
      rw (joined s w.from 32 32 high low w.first w.second) (line_in s w.from skip p 64 (43 - skip) (omega arith) w.on)

module _ (table : List ℕ) (own : ℕ) where
  plain : (v k n : ℕ) → 6 ≤ v → (v ≡ 7 → ⊥) → Plain (simple_added table own v k n)
  unfolding Plain simple_added slot_closes
  plain v k n h i = rw (le-ltb v 6 h, ne_eqb v 7 i) (refl, refl, refl, omega arith)

  added_named : (v k n : ℕ) → 6 ≤ v → ((simple_added table own v k n).named ≡ slot_named table own v n) × ((simple_added table own v k n).size ≡ 1 + k)
  unfolding simple_added
  added_named v k n h = rw (le-ltb v 6 h) (refl, refl)

  module _ (s : List ℕ) (p q n : ℕ) (b : Bool) (r : Neutrals table own s p q n b) (line k : ℕ) (is : line ≡ field_at s q 21)
      (shape : run_shape (line / 65536) k) (i : 1 ≤ k) (room : q + 21 ≤ 8 * length s) where
    pub run_line : (u : BitPlace) → u.0 ≡ q + (8 * k - 3) → (n' : ℕ) → n' ≡ n + k → (x b' : Bool) → x ≡ slot_named table own (line / 65536) (line / 256 % 256)
        → b' ≡ (b && x) → Neutrals table own s p u.0 n' b'
    unfolding run_shape
    run_line u e n' f x b' g h =
        let t = shape i in
        let j : k ≤ 3 = t.1 in
        let a = added_named (line / 65536) (k - 1) (line / 256 % 256) t.2 in
        more q n b r (line / 65536) k i j
        (λ l. code_read s (deep_of s l) q _ (record { 0 = q + 5 }) k (line_read s q line is (omega arith) _ refl) t.0
        ∙ simple_anywhere s (deep_of s l) q (line / 65536) (q + 5) k i j)
        u (simple_added table own (line / 65536) (k - 1) (line / 256 % 256))
        (line_whole table own s q line k is t.0 u (omega arith) i j (omega arith) _ refl)
        (plain (line / 65536) (k - 1) (line / 256 % 256) t.2 t.3) u.0 n' b' refl (omega (arith, a.1)) (h ∙ rw (g, a.0) refl)

-- a list's sizes after a run
pub run_sizes : (table : List ℕ) (own : ℕ) (s : List ℕ) (p q n : ℕ) (b : Bool) → Neutrals table own s p q n b → (st : State) → 5 * st.size ≤ 2 * p
    → 5 * st.size ≤ 16 * length s → st.tail ≤ st.size
    → (5 * (run_after st n b).size ≤ 2 * q) × (5 * (run_after st n b).size ≤ 16 * length s) × ((run_after st n b).tail ≤ (run_after st n b).size)
unfolding run_after
run_sizes table own s p q n b r st h i j = go (eqb n 0) refl
  where
    go : (x : Bool) → eqb n 0 ≡ x
        → (5 * (st.size + n) ≤ 2 * q) × (5 * (st.size + n) ≤ 16 * length s) × ((run_after st n b).tail ≤ (run_after st n b).size)
    go true e =
        let z : n ≡ 0 = eqb-true n 0 e in
        let w = run_bits table own s p r in
        (omega (arith, w.0), omega (arith, z), run_tail st n b j)
    go false e =
        let z : n ≡ 0 → ⊥ = eqb-false n 0 e in
        let w = run_bits table own s p r in
        let near : q ≤ 8 * length s = w.1 (omega arith) in
        (omega (arith, w.0), omega (arith, w.0, near), run_tail st n b j)
