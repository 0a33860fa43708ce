-- One turn of the pass that makes links: what is left from the next instruction on. Assumes nothing.
use Prim.Native.Nat.{ℕ, suc, ◌+◌, ◌*◌, ◌≤◌, ◌<◌}
use native.Mathlib.Omega.{arith}
use Rattle.std.specs.Prelude.{◌≡◌, refl, List, length, set}
use Rattle.std.proofs.Common.{sym, ap, ◌∙◌}
use Rattle.cells.specs.declared.BitPlace.{BitPlace}
use Rattle.files.specs.laws.AllGot.{got_value}
use Rattle.links.specs.Links.{link}
use Rattle.basic.specs.Basic.{Basic, ended, plain, carries, closure, branch, save, bits}
use Rattle.basic.specs.Tabulated.{inside}
use Rattle.basic.specs.laws.ReadLaws.{list_facts}
use Rattle.basic_machine.specs.Links.{onward, linked, tabled}
use Rattle.basic_machine.specs.Pass.{Reads, Parted, end_p, plain_p, carries_p, closure_p, arms_p, saved_p, Fresh, Going}
use Rattle.basic_machine.specs.declared.Parts.{Parts}
use Rattle.basic_machine.specs.declared.Parts.TheVariants.{End, Simple, Closure, Arms, Saved, Bad}

-- a list that is read lies within the file
pub reads_within : (s : List ℕ) (p : ℕ) (c : Basic) → Reads s p c → p + bits c ≤ 8 * length s
reads_within s p c e = (list_facts s 15 p e).1

-- something stands there
unfoldable pub Found : Parts → Type 0
Found End = Unit
Found (Simple q) = Unit
Found (Closure a q i) = Unit
Found (Arms a m q i j) = Unit
Found (Saved a q i) = Unit
Found Bad = ⊥

pub parted_found : (s : List ℕ) (p : ℕ) {c : Basic} {r : Parts} → Parted s p c r → Found r
unfolding Found
parted_found s p end_p = tt
parted_found s p (plain_p q e h) = tt
parted_found s p (carries_p q e h) = tt
parted_found s p (closure_p a q i e₁ e₂ e₃ h k) = tt
parted_found s p (arms_p a m q i j e₁ e₂ e₃ e₄ e₅ h k l) = tt
parted_found s p (saved_p a q i e₁ e₂ e₃ h k) = tt

pub parted_as : (s : List ℕ) (p : ℕ) {c : Basic} {r r' : Parts} → r ≡ r' → Parted s p c r → Parted s p c r'
parted_as s p e h = rw (← e) h

pub onward_small : (c : Basic) (f q b : ℕ) → f ≤ b → q ≤ b → onward c f q ≤ b
unfolding onward
onward_small ended f q b h k = h
onward_small (plain v ns r) f q b h k = k
onward_small (carries v e r) f q b h k = k
onward_small (closure x r) f q b h k = k
onward_small (branch x y r) f q b h k = k
onward_small (save m x r) f q b h k = k

-- nothing is linked yet
pub begun : (s L T : List ℕ) (n f p : ℕ) → Fresh s p n → (c : Basic) → Reads s p c → Going s L T n f p c L T n f p
begun s L T n f p w c h =
    let e : inside w.code ≡ inside c = ap inside (got_value (sym w.reads ∙ h)).0 in
    record { rest = c; reads = h; links = refl; starts = refl; few = omega (arith, w.few) }

module _ (s L₀ T₀ : List ℕ) (n₀ f₀ p₀ : ℕ) (c₀ : Basic) (L T : List ℕ) (n f p : ℕ) where
  abbrev Goes : List ℕ → List ℕ → ℕ → ℕ → ℕ → Type 0
  Goes L T n f p = Going s L₀ T₀ n₀ f₀ p₀ c₀ L T n f p

  ended_is : (c : Basic) → Parted s p c End → (linked L n f p c ≡ link L p f) × (tabled T n p c ≡ T)
  unfolding linked tabled
  ended_is c end_p = (refl, refl)

  pub turn_end : (g : Goes L T n f p) → Parted s p g.rest End → {L' : List ℕ} → L' ≡ link L p f → (L' ≡ linked L₀ n₀ f₀ p₀ c₀) × (T ≡ tabled T₀ n₀ p₀ c₀)
  turn_end g h e = let k = ended_is g.rest h in (e ∙ sym (g.links ∙ k.0), sym (g.starts ∙ k.1))

  -- an instruction without lists
  pub turn_simple : (g : Goes L T n f p) (q : BitPlace) → Parted s p g.rest (Simple q) → Goes L T n f q.0 × (p < q.0)
  unfolding linked tabled inside
  turn_simple g q h = by g.rest g.links g.starts g.few h
    where
      by : (c : Basic) → linked L₀ n₀ f₀ p₀ c₀ ≡ linked L n f p c → tabled T₀ n₀ p₀ c₀ ≡ tabled T n p c → n + inside c ≤ 64 → Parted s p c (Simple q)
          → Goes L T n f q.0 × (p < q.0)
      by c e₁ e₂ w (plain_p {v = v} {ns = ns} {r = r} q' z k) = (record { rest = r; reads = k; links = rw z e₁; starts = rw z e₂; few = w }, omega arith)
      by c e₁ e₂ w (carries_p {v = v} {e = x} {r = r} q' z k) = (record { rest = r; reads = k; links = rw z e₁; starts = rw z e₂; few = w }, omega arith)

  -- a closure: its list, and what is left after that
  pub record ClosureTurn (a q i : ℕ) : Type 0 where
    pub fresh : Fresh s a (n + 1)
    pub below_64 : n + 1 + i ≤ 64
    pub on : p < a
    pub past : p < q
    pub within : q ≤ 8 * length s
    pub left : (L₁ L₂ T₁ T₂ : List ℕ) → L₁ ≡ link L p (64 * q + n) → T₁ ≡ set T (256 * n) a
        → ((c : Basic) → Reads s a c → (L₂ ≡ linked L₁ (n + 1) 0 a c) × (T₂ ≡ tabled T₁ (n + 1) a c)) → Goes L₂ T₂ (n + 1 + i) f q

  pub turn_closure : (g : Goes L T n f p) (a q : BitPlace) (i : ℕ) → Parted s p g.rest (Closure a q i) → ClosureTurn a.0 q.0 i
  unfolding linked tabled inside
  turn_closure g a q i h = by g.rest g.links g.starts g.few h
    where
      by : (c : Basic) → linked L₀ n₀ f₀ p₀ c₀ ≡ linked L n f p c → tabled T₀ n₀ p₀ c₀ ≡ tabled T n p c → n + inside c ≤ 64 → Parted s p c (Closure a q i)
          → ClosureTurn a.0 q.0 i
      by c e₁ e₂ w (closure_p {x = x} {r = r} a' q' i' z₁ z₂ z₃ k l) =
          let u : n + 1 ≡ suc n = omega arith in
          let v : n + 1 + i ≡ suc n + inside x = omega arith in
          let j = reads_within s q.0 r l in
          record {
            fresh = record { code = x; reads = k; few = omega arith };
            below_64 = omega arith;
            on = omega arith;
            past = omega arith;
            within = omega arith;
            left = λ L₁ L₂ T₁ T₂ d₁ d₂ d.
                let m = d x k in
                record {
                  rest = r;
                  reads = l;
                  links = e₁ ∙ rw (v, m.0, d₁, u, z₁, z₂) refl;
                  starts = e₂ ∙ rw (v, m.1, d₂, u, z₁, z₂) refl;
                  few = omega arith;
                };
          }

  -- a conditional: its arms, and what is left after them
  pub record ArmsTurn (a m q i j : ℕ) : Type 0 where
    pub first_fresh : Fresh s a n
    pub second_fresh : Fresh s m (n + i)
    pub small : (g₁ b : ℕ) → ((c : Basic) → Reads s q c → g₁ ≡ onward c f q) → f ≤ b → 8 * length s ≤ b → g₁ ≤ b
    pub below_64 : n + i + j ≤ 64
    pub on : p < a
    pub past : p < q
    pub middle : p < m
    pub within : q ≤ 8 * length s
    pub short : m ≤ q
    pub left : (g₁ : ℕ) → ((c : Basic) → Reads s q c → g₁ ≡ onward c f q) → (L₁ L₂ L₃ T₂ T₃ : List ℕ) → L₁ ≡ link L p m
        → ((c : Basic) → Reads s a c → (L₂ ≡ linked L₁ n g₁ a c) × (T₂ ≡ tabled T n a c))
        → ((c : Basic) → Reads s m c → (L₃ ≡ linked L₂ (n + i) g₁ m c) × (T₃ ≡ tabled T₂ (n + i) m c)) → Goes L₃ T₃ (n + i + j) f q

  pub turn_arms : (g : Goes L T n f p) (a m q : BitPlace) (i j : ℕ) → Parted s p g.rest (Arms a m q i j) → ArmsTurn a.0 m.0 q.0 i j
  unfolding linked tabled inside
  turn_arms g a m q i j h = by g.rest g.links g.starts g.few h
    where
      by : (c : Basic) → linked L₀ n₀ f₀ p₀ c₀ ≡ linked L n f p c → tabled T₀ n₀ p₀ c₀ ≡ tabled T n p c → n + inside c ≤ 64 → Parted s p c (Arms a m q i j)
          → ArmsTurn a.0 m.0 q.0 i j
      by c e₁ e₂ w (arms_p {x = x} {y = y} {r = r} a' m' q' i' j' z₁ z₂ z₃ z₄ z₅ k₁ k₂ l) =
          let o = reads_within s q.0 r l in
          record {
            first_fresh = record { code = x; reads = k₁; few = omega arith };
            second_fresh = record { code = y; reads = k₂; few = omega arith };
            small = λ g₁ b e h k. let u = onward_small r f q.0 b h (omega arith) in let v = e r l in omega arith;
            below_64 = omega arith;
            on = omega arith;
            past = omega arith;
            middle = omega arith;
            within = omega arith;
            short = omega arith;
            left = λ g₁ fo L₁ L₂ L₃ T₂ T₃ d₁ d d'.
                let b = d x k₁ in
                let b' = d' y k₂ in
                record {
                  rest = r;
                  reads = l;
                  links = e₁ ∙ rw (b'.0, b.0, d₁, fo r l, z₁, z₂, z₃, z₄, z₅) refl;
                  starts = e₂ ∙ rw (b'.1, b.1, z₁, z₂, z₃, z₄, z₅) refl;
                  few = omega arith;
                };
          }

  -- a make-cont: its saved list, and what is left after that
  pub record SavedTurn (a q i : ℕ) : Type 0 where
    pub fresh : Fresh s a n
    pub below_64 : n + i ≤ 64
    pub on : p < a
    pub past : p < q
    pub within : q ≤ 8 * length s
    pub left : (L₁ L₂ T₂ : List ℕ) → L₁ ≡ link L p q → ((c : Basic) → Reads s a c → (L₂ ≡ linked L₁ n f a c) × (T₂ ≡ tabled T n a c)) → Goes L₂ T₂ (n + i) 0 q

  pub turn_saved : (g : Goes L T n f p) (a q : BitPlace) (i : ℕ) → Parted s p g.rest (Saved a q i) → SavedTurn a.0 q.0 i
  unfolding linked tabled inside
  turn_saved g a q i h = by g.rest g.links g.starts g.few h
    where
      by : (c : Basic) → linked L₀ n₀ f₀ p₀ c₀ ≡ linked L n f p c → tabled T₀ n₀ p₀ c₀ ≡ tabled T n p c → n + inside c ≤ 64 → Parted s p c (Saved a q i)
          → SavedTurn a.0 q.0 i
      by c e₁ e₂ w (saved_p {n = k} {x = x} {r = r} a' q' i' z₁ z₂ z₃ l₁ l) =
          let o = reads_within s q.0 r l in
          record {
            fresh = record { code = x; reads = l₁; few = omega arith };
            below_64 = omega arith;
            on = omega arith;
            past = omega arith;
            within = omega arith;
            left = λ L₁ L₂ T₂ d₁ d.
                let b = d x l₁ in
                record {
                  rest = r;
                  reads = l;
                  links = e₁ ∙ rw (b.0, d₁, z₁, z₂, z₃) refl;
                  starts = e₂ ∙ rw (b.1, z₁, z₂, z₃) refl;
                  few = omega arith;
                };
          }

  pub turn_bad : (g : Goes L T n f p) → Parted s p g.rest Bad → ⊥
  unfolding Found
  turn_bad g h = parted_found s p h
