-- What the pass that makes links finds, by the code at a place. Assumes nothing.
use Rattle.std.specs.Prelude.{ℕ, ◌+◌, ◌≡◌, List, Result, Ok}
use Rattle.std.proofs.Common.{arith, ◌∙◌}
use Rattle.std.proofs.Math.Path.{sym, ap}
use mathlib.Core.Logic.{◌⊎◌, inl, inr}
use Rattle.cells.specs.declared.BitPlace.{BitPlace}
use Rattle.files.specs.Reading.{Got, got, refused}
use Rattle.files.specs.Entries.{Entry, then}
use Rattle.files.specs.declared.Refusal.{Refusal}
use Rattle.files.specs.laws.AllGot.{refused_got, got_value, then_led}
use Rattle.basic.specs.Basic.{Basic, bits}
use Rattle.basic.specs.Basic.{Token, ended_t, plain_t, carries_t, closure_t, branch_t, save_t, token_bits}
use Rattle.basic.specs.Reading.{token_at, onward, list_at}
use Rattle.basic.specs.Tabulated.{inside}
use Rattle.basic.specs.Valid.{below}
use Rattle.basic.specs.declared.Facts.{Facts}
use Rattle.basic.specs.declared.Token.{Token as ToldToken}
use Rattle.basic.specs.declared.Token.TheVariants.{Ending, Plain, Literal, Global}
use Rattle.basic.specs.Told.{Told, told_ending, told_plain}
use Rattle.basic.specs.laws.ReadLaws.{token_facts, list_facts, list_step}
use Rattle.basic.specs.laws.LevelLaws.{below_15}
use Rattle.basic.specs.laws.StepLaws.{ListIs, turned_to, is_literal, is_global}
use Rattle.basic_machine.specs.Pass.{Reads, Parted, end_p, plain_p, carries_p, closure_p, arms_p, saved_p}
use Rattle.basic_machine.specs.declared.Parts.{Parts}
use Rattle.basic_machine.specs.declared.Parts.TheVariants.{End, Simple, Closure, Arms, Saved}

module _ (s : List ℕ) (p : ℕ) (c : Basic) (reads : Reads s p c) where
  -- the list by its first code
  after : (t : Token) (q : ℕ) → token_at s 15 p ≡ got t q → onward (below s 15) (list_at s 15) t q ≡ got c (p + bits c)
  unfolding then
  after t q e = sym (list_step s 15 p ∙ ap (λ g. then g (onward (below s 15) (list_at s 15))) e) ∙ reads

  whole : (a : ℕ) {z : ℕ} {d : Basic} → list_at s 15 a ≡ got d z → Reads s a d
  whole a {z} {d} e = e ∙ ap (λ n. got d n) (list_facts s 15 a e).0

  -- it is the one that was told of
  one : {a m : ℕ} {y : Basic} {q : BitPlace} {x : Facts} → ListIs s 15 a q x → below s 15 a ≡ got y m
      → (list_at s 15 a ≡ got y m) × (x.inside ≡ inside y) × (q.0 ≡ m)
  one {a} {m} {y} {q} {x} w e =
      let h = below_15 s a m y e in
      let g = got_value (sym w.read ∙ h) in
      (h, sym w.count ∙ ap inside g.0, g.1)

  pub end_parted : {q : ℕ} → token_at s 15 p ≡ got ended_t q → Parted s p c End
  unfolding onward
  end_parted {q} e = rw (← (got_value (after ended_t q e)).0) end_p

  pub plain_parted : {v : ℕ} {ns : List ℕ} (q : BitPlace) → token_at s 15 p ≡ got (plain_t v ns) q.0 → Parted s p c (Simple q)
  unfolding onward token_bits
  plain_parted {v} {ns} q e =
      then_led (list_at s 15 q.0) _ (after (plain_t v ns) q.0 e)
      (λ r z e₁ o. rw (← (got_value o).0) (plain_p q (token_facts s 15 p e).0 (whole q.0 e₁)))

  pub carries_parted : {v : ℕ} {x : Entry} (q : BitPlace) → token_at s 15 p ≡ got (carries_t v x) q.0 → Parted s p c (Simple q)
  unfolding onward token_bits
  carries_parted {v} {x} q e =
      then_led (list_at s 15 q.0) _ (after (carries_t v x) q.0 e)
      (λ r z e₁ o. rw (← (got_value o).0) (carries_p q (token_facts s 15 p e).0 (whole q.0 e₁)))

  module _ (a : BitPlace) where
    pub closure_parted : (q : BitPlace) (x : Facts) → ListIs s 15 a.0 q x → token_at s 15 p ≡ got closure_t a.0 → Parted s p c (Closure a q x.inside)
    unfolding onward token_bits
    closure_parted q x w e =
        then_led (below s 15 a.0) _ (after closure_t a.0 e)
        (λ y m e₁ o₁. then_led (list_at s 15 m) _ o₁
        (λ r z e₂ o₂.
        let k = one w e₁ in
        let b : a.0 ≡ p + 5 = (token_facts s 15 p e).0 in
        let d : m ≡ a.0 + bits y = (list_facts s 15 a.0 k.0).0 in
        let u : q.0 ≡ p + 5 + bits y = omega (arith, k.2) in
        let v : Reads s q.0 r = rw k.2 (whole m e₂) in
        rw (← (got_value o₂).0) (closure_p a q x.inside b u k.1 (whole a.0 k.0) v)))

    pub saved_parted : (n : ℕ) (q : BitPlace) (x : Facts) → ListIs s 15 a.0 q x → token_at s 15 p ≡ got (save_t n) a.0
        → Parted s p c (Saved a q x.inside)
    unfolding onward token_bits
    saved_parted n q x w e =
        then_led (below s 15 a.0) _ (after (save_t n) a.0 e)
        (λ y m e₁ o₁. then_led (list_at s 15 m) _ o₁
        (λ r z e₂ o₂.
        let k = one w e₁ in
        let b : a.0 ≡ p + 13 = (token_facts s 15 p e).0 in
        let d : m ≡ a.0 + bits y = (list_facts s 15 a.0 k.0).0 in
        let u : q.0 ≡ p + 13 + bits y = omega (arith, k.2) in
        let v : Reads s q.0 r = rw k.2 (whole m e₂) in
        rw (← (got_value o₂).0) (saved_p a q x.inside b u k.1 (whole a.0 k.0) v)))

    pub arms_parted : (m q : BitPlace) (x y : Facts) → ListIs s 15 a.0 m x → ListIs s 15 m.0 q y → token_at s 15 p ≡ got branch_t a.0
        → Parted s p c (Arms a m q x.inside y.inside)
    unfolding onward token_bits
    arms_parted m q x y w w' e =
        then_led (below s 15 a.0) _ (after branch_t a.0 e)
        (λ d m₁ e₁ o₁. then_led (below s 15 m₁) _ o₁
        (λ f z e₂ o₂. then_led (list_at s 15 z) _ o₂
        (λ r u e₃ o₃.
        let k = one w e₁ in
        let j : below s 15 m.0 ≡ got f z = rw k.2 e₂ in
        let i = one w' j in
        let b : a.0 ≡ p + 5 = (token_facts s 15 p e).0 in
        let g : m₁ ≡ a.0 + bits d = (list_facts s 15 a.0 k.0).0 in
        let h : z ≡ m.0 + bits f = (list_facts s 15 m.0 i.0).0 in
        let b₁ : m.0 ≡ p + 5 + bits d = omega (arith, k.2) in
        let b₂ : q.0 ≡ p + 5 + bits d + bits f = omega (arith, i.2) in
        let v : Reads s q.0 r = rw i.2 (whole z e₃) in
        rw (← (got_value o₃).0) (arms_p a m q x.inside y.inside b b₁ b₂ k.1 i.1 (whole a.0 k.0) (whole m.0 i.0) v))))

    -- what is not read is not there
    pub none_parted : {n z : ℕ} {r : Parts} → list_at s 15 a.0 ≡ refused n z → token_at s 15 p ≡ got closure_t a.0 → Parted s p c r
    unfolding onward
    none_parted h e = then_led (below s 15 a.0) _ (after closure_t a.0 e) (λ y m e₁ o. refused_got (sym h ∙ below_15 s a.0 m y e₁))

    pub none_saved : {n z k : ℕ} {r : Parts} → list_at s 15 a.0 ≡ refused n z → token_at s 15 p ≡ got (save_t k) a.0 → Parted s p c r
    unfolding onward
    none_saved {k = k} h e = then_led (below s 15 a.0) _ (after (save_t k) a.0 e) (λ y m e₁ o. refused_got (sym h ∙ below_15 s a.0 m y e₁))

    pub none_first : {n z : ℕ} {r : Parts} → list_at s 15 a.0 ≡ refused n z → token_at s 15 p ≡ got branch_t a.0 → Parted s p c r
    unfolding onward
    none_first h e = then_led (below s 15 a.0) _ (after branch_t a.0 e) (λ y m e₁ o. refused_got (sym h ∙ below_15 s a.0 m y e₁))

    pub none_second : {n z : ℕ} {r : Parts} (m : BitPlace) (x : Facts) → ListIs s 15 a.0 m x → list_at s 15 m.0 ≡ refused n z
        → token_at s 15 p ≡ got branch_t a.0
        → Parted s p c r
    unfolding onward
    none_second m x w h e =
        then_led (below s 15 a.0) _ (after branch_t a.0 e)
        (λ d m₁ e₁ o₁. then_led (below s 15 m₁) _ o₁
        (λ f z e₂ o₂. let k = one w e₁ in let j : below s 15 m.0 ≡ got f z = rw k.2 e₂ in refused_got (sym h ∙ below_15 s m.0 z f j)))

  pub none_refused : {n z : ℕ} {r : Parts} → token_at s 15 p ≡ refused n z → Parted s p c r
  unfolding then
  none_refused e = refused_got (sym (list_step s 15 p ∙ ap (λ g. then g (onward (below s 15) (list_at s 15))) e) ∙ reads)

-- ---- by what is told of a code
module _ (g : Got Token) where
  pub is_ending : (q : BitPlace) → Told g (Ok (Ending q)) → (v : ℕ) × (ns : List ℕ) × (g ≡ got (plain_t v ns) q.0)
  is_ending q (told_ending q' v ns h e) = (v, ns, e)

  pub is_plain : (q : BitPlace) → Told g (Ok (Plain q)) → (v : ℕ) × (ns : List ℕ) × (g ≡ got (plain_t v ns) q.0)
  is_plain q (told_plain q' v ns h e) = (v, ns, e)

module _ (s : List ℕ) (p : ℕ) (c : Basic) (reads : Reads s p c) {r : Result ToldToken (Refusal BitPlace)} {x : ToldToken} {q : BitPlace} (is : r ≡ Ok x) where
  -- a code without lists
  pub simple_parted : (x ≡ Ending q) ⊎ ((x ≡ Plain q) ⊎ (((t : ℕ) × (n : ℕ) × (x ≡ Literal t n q)) ⊎ ((v : ℕ) × (n : ℕ) × (x ≡ Global v n q))))
      → Told (token_at s 15 p) r → Parted s p c (Simple q)
  simple_parted (inl e) h = plain_parted s p c reads q (is_ending _ q (turned_to is e h)).2
  simple_parted (inr (inl e)) h = plain_parted s p c reads q (is_plain _ q (turned_to is e h)).2
  simple_parted (inr (inr (inl (t, n, e)))) h = carries_parted s p c reads q (is_literal _ _ _ _ (turned_to is e h))
  simple_parted (inr (inr (inr (v, n, e)))) h = carries_parted s p c reads q (is_global _ _ _ _ (turned_to is e h))
