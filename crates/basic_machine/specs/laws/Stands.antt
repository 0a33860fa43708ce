-- The codes of a list that was read, each at its place. Assumes nothing.
use Prim.Native.Nat.{ℕ, zero, suc, ◌+◌, ◌*◌}
use Rattle.std.proofs.Common.{sym, ap, ◌∙◌}
use Rattle.std.specs.Prelude.{◌≡◌, Bool, ◌||◌, List}
use Rattle.std.proofs.Math.Bool.{true, false, cond}
use Rattle.std.proofs.Math.Dec.{eqb}
use Rattle.std.proofs.Math.ListN.{length}
use Rattle.files.specs.Codes.{shape_of}
use Rattle.files.specs.Reading.{Got, got}
use Rattle.files.specs.Entries.{Entry, then, field}
use Rattle.files.specs.laws.AllGot.{refused_got, got_value, then_led}
use Rattle.basic.specs.Basic.{Basic, ended, plain, carries, closure, branch, save, carried_bits, bits}
use Rattle.basic.specs.Basic.{Token, ended_t, plain_t, carries_t, closure_t, branch_t, save_t, token_bits}
use Rattle.basic.specs.Valid.{below}
use Rattle.basic.specs.Reading.{holding, literal_at, global_at, shaped_at, code_at, token_at, onward, list_at}
use Rattle.basic.specs.laws.ReadLaws.{token_facts, list_facts, list_step}

-- ---- a code is the same on every level that it may stand on
holding_any : (l p : ℕ) (g : Got Token) {t : Token} {q : ℕ} → holding l p g ≡ got t q → holding 15 p g ≡ got t q
unfolding holding
holding_any zero p g e = refused_got e
holding_any (suc l) p g e = e

module _ (s : List ℕ) (l p v r : ℕ) {t : Token} {q : ℕ} where
  shaped_any : (k : ℕ) → shaped_at s l p v r k ≡ got t q → shaped_at s 15 p v r k ≡ got t q
  unfolding shaped_at
  shaped_any zero e = e
  shaped_any (suc zero) e = e
  shaped_any (suc (suc zero)) e = e
  shaped_any (suc (suc (suc zero))) e = e
  shaped_any (suc (suc (suc (suc zero)))) e = holding_any l p _ e
  shaped_any (suc (suc (suc (suc (suc zero))))) e = holding_any l p _ e
  shaped_any (suc (suc (suc (suc (suc (suc k)))))) e = e

  code_any : code_at s l p v r ≡ got t q → code_at s 15 p v r ≡ got t q
  unfolding code_at
  code_any e = by (eqb v 6) (eqb v 7) (eqb v 8 || eqb v 9) e
    where
      by : (a b c : Bool) → cond a (literal_at s r) (cond b (holding l p (got closure_t r)) (cond c (global_at s v r) (shaped_at s l p v r (shape_of v))))
          ≡ got t q
          → cond a (literal_at s r) (cond b (holding 15 p (got closure_t r)) (cond c (global_at s v r) (shaped_at s 15 p v r (shape_of v)))) ≡ got t q
      by true b c e = e
      by false true c e = holding_any l p _ e
      by false false true e = e
      by false false false e = shaped_any (shape_of v) e

token_any : (s : List ℕ) (l p : ℕ) {t : Token} {q : ℕ} → token_at s l p ≡ got t q → token_at s 15 p ≡ got t q
unfolding token_at then
token_any s l p e = then_led (field s p 5) _ e (λ v r first on. rw first (code_any s l p v r on))

-- ---- what a list that was read begins with
module _ (s : List ℕ) (l a : ℕ) where
  data Led : Basic → ℕ → Type 0 where
    ended_l : {q : ℕ} → token_at s l a ≡ got ended_t q → Led ended q
    plain_l : {v : ℕ} {ns : List ℕ} {r : Basic} {p q : ℕ} → token_at s l a ≡ got (plain_t v ns) p → list_at s l p ≡ got r q → Led (plain v ns r) q
    carries_l : {v : ℕ} {e : Entry} {r : Basic} {p q : ℕ} → token_at s l a ≡ got (carries_t v e) p → list_at s l p ≡ got r q → Led (carries v e r) q
    closure_l : {x r : Basic} {p m q : ℕ} → token_at s l a ≡ got closure_t p → below s l p ≡ got x m → list_at s l m ≡ got r q → Led (closure x r) q
    branch_l : {x y r : Basic} {p m z q : ℕ} → token_at s l a ≡ got branch_t p → below s l p ≡ got x m → below s l m ≡ got y z → list_at s l z ≡ got r q
        → Led (branch x y r) q
    save_l : {n : ℕ} {x r : Basic} {p m q : ℕ} → token_at s l a ≡ got (save_t n) p → below s l p ≡ got x m → list_at s l m ≡ got r q → Led (save n x r) q

  into : {c d : Basic} {q z : ℕ} → ◌≡◌ {A = Got Basic} (got c z) (got d q) → Led c z → Led d q
  into e h = let g = got_value e in rw (← g.0, ← g.1) h

  led_by : (c : Basic) (q : ℕ) (t : Token) (p : ℕ) → token_at s l a ≡ got t p → onward (below s l) (list_at s l) t p ≡ got c q → Led c q
  unfolding onward
  led_by c q ended_t p f o = into o (ended_l f)
  led_by c q (plain_t v ns) p f o = then_led (list_at s l p) _ o (λ r z e o₁. into o₁ (plain_l f e))
  led_by c q (carries_t v x) p f o = then_led (list_at s l p) _ o (λ r z e o₁. into o₁ (carries_l f e))
  led_by c q closure_t p f o = then_led (below s l p) _ o (λ x m e o₁. then_led (list_at s l m) _ o₁ (λ r z e₁ o₂. into o₂ (closure_l f e e₁)))
  led_by c q branch_t p f o =
      then_led (below s l p) _ o
      (λ x m e o₁. then_led (below s l m) _ o₁ (λ y u e₁ o₂. then_led (list_at s l u) _ o₂ (λ r z e₂ o₃. into o₃ (branch_l f e e₁ e₂))))
  led_by c q (save_t n) p f o = then_led (below s l p) _ o (λ x m e o₁. then_led (list_at s l m) _ o₁ (λ r z e₁ o₂. into o₂ (save_l f e e₁)))

  led : (c : Basic) (q : ℕ) → list_at s l a ≡ got c q → Led c q
  led c q e = then_led (token_at s l a) _ (sym (list_step s l a) ∙ e) (λ t p first on. led_by c q t p first on)

-- ---- the codes of a list
module _ (s : List ℕ) where
  unfoldable pub Stands : ℕ → Basic → Type 0
  Stands a ended = token_at s 15 a ≡ got ended_t (a + 5)
  Stands a (plain v ns r) = (token_at s 15 a ≡ got (plain_t v ns) (a + (5 + 8 * length ns))) × Stands (a + (5 + 8 * length ns)) r
  Stands a (carries v e r) = (token_at s 15 a ≡ got (carries_t v e) (a + (5 + carried_bits e))) × Stands (a + (5 + carried_bits e)) r
  Stands a (closure x r) = (token_at s 15 a ≡ got closure_t (a + 5)) × Stands (a + 5) x × Stands (a + 5 + bits x) r
  Stands a (branch x y r) =
      (token_at s 15 a ≡ got branch_t (a + 5)) × Stands (a + 5) x × Stands (a + 5 + bits x) y × Stands (a + 5 + bits x + bits y) r
  Stands a (save m x r) = (token_at s 15 a ≡ got (save_t m) (a + 13)) × Stands (a + 13) x × Stands (a + 13 + bits x) r

  -- a code at its own place
  token_here : (l a : ℕ) {t : Token} {p : ℕ} → token_at s l a ≡ got t p → (token_at s 15 a ≡ got t (a + token_bits t)) × (p ≡ a + token_bits t)
  token_here l a {t} {p} e = let f = token_facts s l a e in (token_any s l a e ∙ ap (λ n. got t n) f.0, f.0)

  below_led : {C : Type 0} (l p : ℕ) {x : Basic} {q : ℕ} → below s l p ≡ got x q → ((k : ℕ) → list_at s k p ≡ got x q → C) → C
  unfolding below
  below_led zero p e f = refused_got e
  below_led (suc l) p e f = f l e

  below_past : (l p : ℕ) {x : Basic} {q : ℕ} → below s l p ≡ got x q → q ≡ p + bits x
  below_past l p {x} {q} e = below_led l p e (λ k h. (list_facts s k p h).0)

  -- a list where another place is known to be its first bit
  there : (c : Basic) (a b : ℕ) → a ≡ b → Stands a c → Stands b c
  there c a b e h = rw (← e) h

  -- THE LAW
  pub stands : (c : Basic) (l a q : ℕ) → list_at s l a ≡ got c q → Stands a c
  unfolding Stands token_bits
  stands ended l a q e = by (led s l a ended q e)
    where
      by : Led s l a ended q → token_at s 15 a ≡ got ended_t (a + 5)
      by (ended_l f) = (token_here l a f).0
  stands (plain v ns r) l a q e = by (led s l a (plain v ns r) q e) (λ p h. stands r l p q h)
    where
      by : Led s l a (plain v ns r) q → ((p : ℕ) → list_at s l p ≡ got r q → Stands p r)
          → (token_at s 15 a ≡ got (plain_t v ns) (a + (5 + 8 * length ns))) × Stands (a + (5 + 8 * length ns)) r
      by (plain_l {p = p} f g) ih = let k = token_here l a f in (k.0, there r p _ k.1 (ih p g))
  stands (carries v x r) l a q e = by (led s l a (carries v x r) q e) (λ p h. stands r l p q h)
    where
      by : Led s l a (carries v x r) q → ((p : ℕ) → list_at s l p ≡ got r q → Stands p r)
          → (token_at s 15 a ≡ got (carries_t v x) (a + (5 + carried_bits x))) × Stands (a + (5 + carried_bits x)) r
      by (carries_l {p = p} f g) ih = let k = token_here l a f in (k.0, there r p _ k.1 (ih p g))
  stands (closure x r) l a q e = by (led s l a (closure x r) q e) (λ k p m h. stands x k p m h) (λ p h. stands r l p q h)
    where
      by : Led s l a (closure x r) q → ((k p m : ℕ) → list_at s k p ≡ got x m → Stands p x) → ((p : ℕ) → list_at s l p ≡ got r q → Stands p r)
          → (token_at s 15 a ≡ got closure_t (a + 5)) × Stands (a + 5) x × Stands (a + 5 + bits x) r
      by (closure_l {p = p} {m = m} f g h) dx ih =
          let k = token_here l a f in
          let j = below_past l p g in
          (k.0, there x p _ k.1 (below_led l p g (λ n i. dx n p m i)), there r m _ (rw k.1 at j) (ih m h))
  stands (branch x y r) l a q e =
      by (led s l a (branch x y r) q e) (λ k p m h. stands x k p m h) (λ k p m h. stands y k p m h) (λ p h. stands r l p q h)
    where
      by : Led s l a (branch x y r) q → ((k p m : ℕ) → list_at s k p ≡ got x m → Stands p x) → ((k p m : ℕ) → list_at s k p ≡ got y m → Stands p y)
          → ((p : ℕ) → list_at s l p ≡ got r q → Stands p r)
          → (token_at s 15 a ≡ got branch_t (a + 5)) × Stands (a + 5) x × Stands (a + 5 + bits x) y × Stands (a + 5 + bits x + bits y) r
      by (branch_l {p = p} {m = m} {z = z} f g h i) dx dy ih =
          let k = token_here l a f in
          let j : m ≡ a + 5 + bits x = rw k.1 at (below_past l p g) in
          let u : z ≡ a + 5 + bits x + bits y = rw j at (below_past l m h) in (
            k.0,
            there x p _ k.1 (below_led l p g (λ n i. dx n p m i)),
            there y m _ j (below_led l m h (λ n i. dy n m z i)),
            there r z _ u (ih z i),
          )
  stands (save n x r) l a q e = by (led s l a (save n x r) q e) (λ k p m h. stands x k p m h) (λ p h. stands r l p q h)
    where
      by : Led s l a (save n x r) q → ((k p m : ℕ) → list_at s k p ≡ got x m → Stands p x) → ((p : ℕ) → list_at s l p ≡ got r q → Stands p r)
          → (token_at s 15 a ≡ got (save_t n) (a + 13)) × Stands (a + 13) x × Stands (a + 13 + bits x) r
      by (save_l {p = p} {m = m} f g h) dx ih =
          let k = token_here l a f in
          let j : m ≡ a + 13 + bits x = rw k.1 at (below_past l p g) in
          (k.0, there x p _ k.1 (below_led l p g (λ n i. dx n p m i)), there r m _ j (ih m h))
