-- The laws of reading basic code: a code and a list end as many bits on as they have, within the file, and are as they should be; a list is its first
-- code and what follows that. Assumes nothing.
use Prim.Native.Nat.{ℕ, zero, suc, ◌+◌, ◌*◌, ◌-◌, ◌≤◌, ◌<◌}
use native.Mathlib.Omega.{arith}
use Rattle.std.specs.Prelude.{◌≡◌, Bool, cond, ◌||◌, ltb}
use Rattle.std.proofs.Math.Path.{refl}
use Rattle.std.proofs.Common.{le-leb, eqb-true, ltb-true}
use Rattle.std.proofs.Math.Bool.{true, false}
use mathlib.Core.List.{List, [], ◌∷◌}
use Rattle.std.proofs.lemmas.Bool.{eqb-false}
use Rattle.std.proofs.Math.ListN.{length}
use Rattle.std.proofs.Math.Dec.{eqb}
use Rattle.fields.specs.Field.{field_at}
use Rattle.fields.specs.laws.Laws.{field_small}
use Rattle.files.specs.Codes.{shape_of, is_neutral, operands}
use Rattle.files.specs.Reading.{Got, got, refused}
use Rattle.files.specs.Entries.{constant, global, then, field, valid, tag_width, constant_at}
use Rattle.files.specs.Valid.{Bytes}
use Rattle.files.specs.laws.EntriesLaws.{then_field}
use Rattle.basic.specs.Basic.{Basic, ended, plain, carries, closure, branch, save, Token, ended_t, plain_t, carries_t, closure_t, branch_t, save_t}
use Rattle.basic.specs.Basic.{carried_bits, token_bits, bits}
use Rattle.basic.specs.Reading.{holding, literal_at, global_at, shaped_at, code_at, token_at, onward, items, list_at}
use Rattle.basic.specs.Valid.{PlainOk, return_ok, call_ok, neutral_ok, CarriesOk, literal_ok, global_ok, set_global_ok, TokenOk, Ok, below}

-- ---- one code
neutral_plain : (v : ℕ) (ns : List ℕ) → 10 ≤ v → shape_of v ≡ 1 + length ns → length ns ≤ 2 → Bytes ns → PlainOk v ns
unfolding is_neutral operands shape_of
neutral_plain v ns h e few b =
    neutral_ok {v = v} {ns = ns} h (rw (le-leb 6 v (omega arith), le-leb (shape_of v) 3 (omega arith)) refl) (omega arith) b

plain_ok : (v : ℕ) (ns : List ℕ) → shape_of v ≡ 1 + length ns → length ns ≤ 2 → Bytes ns
    → (v ≡ 6 → ⊥) → (v ≡ 7 → ⊥) → (v ≡ 8 → ⊥) → (v ≡ 9 → ⊥) → PlainOk v ns
unfolding shape_of is_neutral operands Bytes
plain_ok zero ns e h b a₆ a₇ a₈ a₉ = absurd (omega arith)
plain_ok (suc zero) [] e h b a₆ a₇ a₈ a₉ = return_ok
plain_ok (suc zero) (n ∷ ns) e h b a₆ a₇ a₈ a₉ = absurd (omega arith)
plain_ok (suc (suc zero)) [] e h b a₆ a₇ a₈ a₉ = absurd (omega arith)
plain_ok (suc (suc zero)) (n ∷ []) e h b a₆ a₇ a₈ a₉ = call_ok b.0
plain_ok (suc (suc zero)) (n ∷ m ∷ ns) e h b a₆ a₇ a₈ a₉ = absurd (omega arith)
plain_ok (suc (suc (suc zero))) ns e h b a₆ a₇ a₈ a₉ = absurd (omega arith)
plain_ok (suc (suc (suc (suc zero)))) ns e h b a₆ a₇ a₈ a₉ = absurd (omega arith)
plain_ok (suc (suc (suc (suc (suc zero))))) ns e h b a₆ a₇ a₈ a₉ = absurd (omega arith)
plain_ok (suc (suc (suc (suc (suc (suc zero)))))) ns e h b a₆ a₇ a₈ a₉ = absurd (a₆ refl)
plain_ok (suc (suc (suc (suc (suc (suc (suc zero))))))) ns e h b a₆ a₇ a₈ a₉ = absurd (a₇ refl)
plain_ok (suc (suc (suc (suc (suc (suc (suc (suc zero)))))))) ns e h b a₆ a₇ a₈ a₉ = absurd (a₈ refl)
plain_ok (suc (suc (suc (suc (suc (suc (suc (suc (suc zero))))))))) ns e h b a₆ a₇ a₈ a₉ = absurd (a₉ refl)
plain_ok (suc (suc (suc (suc (suc (suc (suc (suc (suc (suc v)))))))))) ns e h b a₆ a₇ a₈ a₉ =
    neutral_plain (suc (suc (suc (suc (suc (suc (suc (suc (suc (suc v)))))))))) ns (omega arith) e h b

module _ (s : List ℕ) where
  -- what is known of the code that is read at p
  unfoldable pub TokenPast : ℕ → Got Token → Type 0
  TokenPast p (got t q) = (q ≡ p + token_bits t) × (q ≤ 8 * length s) × TokenOk t
  TokenPast p (refused n x) = Unit

  holding_past : (l p x : ℕ) (g : Got Token) → TokenPast p g → TokenPast p (holding l x g)
  unfolding holding TokenPast
  holding_past zero p x g h = tt
  holding_past (suc l) p x g h = h

  constant_past : (p t x : ℕ) (b : Bool) → ltb t 6 ≡ b
      → TokenPast p (then (valid x b (then (field s (p + 5 + 2 + 3) (tag_width t)) (λ x r. got (constant t x) r))) (λ e u. got (carries_t 6 e) u))
  unfolding TokenPast then token_bits carried_bits TokenOk
  constant_past p t x true e =
      then_field (λ g. TokenPast p (then g (λ e u. got (carries_t 6 e) u))) s (p + 5 + 2 + 3) (tag_width t) _ tt
      (λ h. (omega arith, h, literal_ok (ltb-true t 6 e) (field_small s (p + 5 + 2 + 3) (tag_width t))))
  constant_past p t x false e = tt

  literal_past : (p : ℕ) → TokenPast p (literal_at s (p + 5))
  unfolding literal_at constant_at TokenPast
  literal_past p = then_field (TokenPast p) s (p + 5) 2 _ tt (λ h. go (eqb (field_at s (p + 5) 2) 1))
    where
      go : (b : Bool)
          → TokenPast p (valid (p + 5) b (then (field s (p + 5 + 2) 3) (λ t z. then (constant_at s (p + 5 + 2) t z) (λ e u. got (carries_t 6 e) u))))
      go true =
          then_field (TokenPast p) s (p + 5 + 2) 3 _ tt
          (λ h. constant_past p (field_at s (p + 5 + 2) 3) (p + 5 + 2) (ltb (field_at s (p + 5 + 2) 3) 6) refl)
      go false = tt

  global_past : (p v : ℕ) → ((g : ℕ) → g < 256 → CarriesOk v (global g)) → TokenPast p (global_at s v (p + 5))
  unfolding global_at TokenPast token_bits carried_bits TokenOk
  global_past p v ok = then_field (TokenPast p) s (p + 5) 8 _ tt (λ h. (omega arith, h, ok _ (field_small s (p + 5) 8)))

  module _ (l p v : ℕ) (a₆ : v ≡ 6 → ⊥) (a₇ : v ≡ 7 → ⊥) (a₈ : v ≡ 8 → ⊥) (a₉ : v ≡ 9 → ⊥) where
    shaped_past : (k : ℕ) → shape_of v ≡ k → p + 5 ≤ 8 * length s → TokenPast p (shaped_at s l p v (p + 5) k)
    unfolding shaped_at TokenPast token_bits TokenOk Bytes
    shaped_past zero e h = (refl, h, tt)
    shaped_past (suc zero) e h = (omega arith, h, plain_ok v [] e (omega arith) tt a₆ a₇ a₈ a₉)
    shaped_past (suc (suc zero)) e h =
        then_field (TokenPast p) s (p + 5) 8 _ tt
        (λ h₁. (omega arith, h₁, plain_ok v (_ ∷ []) e (omega arith) (field_small s (p + 5) 8, tt) a₆ a₇ a₈ a₉))
    shaped_past (suc (suc (suc zero))) e h =
        then_field (TokenPast p) s (p + 5) 8 _ tt
        (λ h₁. then_field (TokenPast p) s (p + 5 + 8) 8 _ tt
        (λ h₂. (omega arith, h₂, plain_ok v (_ ∷ _ ∷ []) e (omega arith) (field_small s (p + 5) 8, (field_small s (p + 5 + 8) 8, tt)) a₆ a₇ a₈ a₉)))
    shaped_past (suc (suc (suc (suc zero)))) e h = holding_past l p p _ (refl, h, tt)
    shaped_past (suc (suc (suc (suc (suc zero))))) e h =
        holding_past l p p _ (then_field (TokenPast p) s (p + 5) 8 _ tt (λ h₁. (omega arith, h₁, field_small s (p + 5) 8)))
    shaped_past (suc (suc (suc (suc (suc (suc k)))))) e h = tt

  code_past : (l p v : ℕ) → p + 5 ≤ 8 * length s → TokenPast p (code_at s l p v (p + 5))
  unfolding code_at TokenPast token_bits TokenOk
  code_past l p v h = go (eqb v 6) (eqb v 7) (eqb v 8) (eqb v 9) refl refl refl refl
    where
      go : (a b c d : Bool) → eqb v 6 ≡ a → eqb v 7 ≡ b → eqb v 8 ≡ c → eqb v 9 ≡ d
          → TokenPast p (cond a (literal_at s (p + 5)) (cond b (holding l p (got closure_t (p + 5)))
          (cond (c || d) (global_at s v (p + 5)) (shaped_at s l p v (p + 5) (shape_of v)))))
      go true b c d e₆ e₇ e₈ e₉ = literal_past p
      go false true c d e₆ e₇ e₈ e₉ = holding_past l p p _ (refl, h, tt)
      go false false true d e₆ e₇ e₈ e₉ = global_past p v (λ g lt. rw (eqb-true v 8 e₈) (global_ok lt))
      go false false false true e₆ e₇ e₈ e₉ = global_past p v (λ g lt. rw (eqb-true v 9 e₉) (set_global_ok lt))
      go false false false false e₆ e₇ e₈ e₉ =
          shaped_past l p v (eqb-false v 6 e₆) (eqb-false v 7 e₇) (eqb-false v 8 e₈) (eqb-false v 9 e₉) (shape_of v) refl h

  pub token_past : (l p : ℕ) → TokenPast p (token_at s l p)
  unfolding token_at TokenPast
  token_past l p = then_field (TokenPast p) s p 5 _ tt (λ h. code_past l p (field_at s p 5) h)

  pub token_facts : (l p : ℕ) {t : Token} {q : ℕ} → token_at s l p ≡ got t q → (q ≡ p + token_bits t) × (q ≤ 8 * length s) × TokenOk t
  unfolding TokenPast
  token_facts l p e = rw e at (token_past l p)

  -- ---- a list
  unfoldable pub ListPast : ℕ → Got Basic → Type 0
  ListPast p (got c q) = (q ≡ p + bits c) × (q ≤ 8 * length s) × Ok c
  ListPast p (refused n x) = Unit

  then_list : (p q : ℕ) (g : Got Basic) (f : Basic → ℕ → Got Basic) → ListPast q g
      → ((c : Basic) (r : ℕ) → r ≡ q + bits c → r ≤ 8 * length s → Ok c → ListPast p (f c r))
      → ListPast p (then g f)
  unfolding then ListPast
  then_list p q (got c r) f h k = k c r h.0 h.1 h.2
  then_list p q (refused n x) f h k = tt

  module _ (deep rest : ℕ → Got Basic) (d : (q : ℕ) → ListPast q (deep q)) (g : (q : ℕ) → ListPast q (rest q)) (p q : ℕ) where
    onward_past : (t : Token) → q ≡ p + token_bits t → q ≤ 8 * length s → TokenOk t → ListPast p (onward deep rest t q)
    unfolding onward ListPast token_bits TokenOk bits Ok
    onward_past ended_t e h ok = (e, h, tt)
    onward_past (plain_t v ns) e h ok = then_list p q (rest q) _ (g q) (λ c r e₁ h₁ k₁. (omega arith, h₁, (ok, k₁)))
    onward_past (carries_t v x) e h ok = then_list p q (rest q) _ (g q) (λ c r e₁ h₁ k₁. (omega arith, h₁, (ok, k₁)))
    onward_past closure_t e h ok =
        then_list p q (deep q) _ (d q) (λ x r e₁ h₁ k₁. then_list p r (rest r) _ (g r) (λ c z e₂ h₂ k₂. (omega arith, h₂, (k₁, k₂))))
    onward_past branch_t e h ok =
        then_list p q (deep q) _ (d q)
        (λ x r e₁ h₁ k₁. then_list p r (deep r) _ (d r) (λ y u e₂ h₂ k₂. then_list p u (rest u) _ (g u) (λ c z e₃ h₃ k₃. (omega arith, h₃, (k₁, k₂, k₃)))))
    onward_past (save_t n) e h ok =
        then_list p q (deep q) _ (d q) (λ x r e₁ h₁ k₁. then_list p r (rest r) _ (g r) (λ c z e₂ h₂ k₂. (omega arith, h₂, (ok, k₁, k₂))))

  then_token : (p : ℕ) (g : Got Token) (f : Token → ℕ → Got Basic) → TokenPast p g
      → ((t : Token) (q : ℕ) → q ≡ p + token_bits t → q ≤ 8 * length s → TokenOk t → ListPast p (f t q)) → ListPast p (then g f)
  unfolding then TokenPast ListPast
  then_token p (got t q) f h k = k t q h.0 h.1 h.2
  then_token p (refused n x) f h k = tt

  items_past : (l : ℕ) (deep : ℕ → Got Basic) → ((q : ℕ) → ListPast q (deep q)) → (f p : ℕ) → ListPast p (items s l deep f p)
  unfolding items ListPast
  items_past l deep d zero p = tt
  items_past l deep d (suc f) p =
      then_token p (token_at s l p) _ (token_past l p) (λ t q e h ok. onward_past deep (items s l deep f) d (items_past l deep d f) p q t e h ok)

  pub list_past : (l p : ℕ) → ListPast p (list_at s l p)
  unfolding list_at ListPast
  list_past zero p = items_past zero (refused 4) (λ q. tt) (suc (8 * length s)) p
  list_past (suc l) p = items_past (suc l) (list_at s l) (list_past l) (suc (8 * length s)) p

  pub list_facts : (l p : ℕ) {c : Basic} {q : ℕ} → list_at s l p ≡ got c q → (q ≡ p + bits c) × (q ≤ 8 * length s) × Ok c
  unfolding ListPast
  list_facts l p e = rw e at (list_past l p)

  -- ---- how many instructions a list may have does not matter
  then_same : (g : Got Basic) (f h : Basic → ℕ → Got Basic) → ((c : Basic) (q : ℕ) → g ≡ got c q → f c q ≡ h c q) → then g f ≡ then g h
  unfolding then
  then_same (got c q) f h k = k c q refl
  then_same (refused n x) f h k = refl

  pub token_least : (t : Token) → 5 ≤ token_bits t
  unfolding token_bits
  token_least ended_t = omega arith
  token_least (plain_t v ns) = omega arith
  token_least (carries_t v e) = omega arith
  token_least closure_t = omega arith
  token_least branch_t = omega arith
  token_least (save_t n) = omega arith

  pub list_least : (c : Basic) → 5 ≤ bits c
  unfolding bits
  list_least ended = omega arith
  list_least (plain v ns r) = omega arith
  list_least (carries v e r) = omega arith
  list_least (closure x r) = omega arith
  list_least (branch x y r) = omega arith
  list_least (save n x r) = omega arith

  module _ (deep r r' : ℕ → Got Basic) (d : (q : ℕ) → ListPast q (deep q)) (q₀ : ℕ) (same : (q : ℕ) → q₀ ≤ q → r q ≡ r' q) where
    after_deep : (q : ℕ) {c : Basic} {z : ℕ} → q₀ ≤ q → deep q ≡ got c z → q₀ ≤ z
    unfolding ListPast
    after_deep q {c} {z} h e = let k : ListPast q (got c z) = rw e at (d q) in omega (arith, k.0)

    onward_same : (t : Token) → onward deep r t q₀ ≡ onward deep r' t q₀
    unfolding onward
    onward_same ended_t = refl
    onward_same (plain_t v ns) = rw (same q₀ (omega arith)) refl
    onward_same (carries_t v e) = rw (same q₀ (omega arith)) refl
    onward_same closure_t = then_same (deep q₀) _ _ (λ x z e. rw (same z (after_deep q₀ (omega arith) e)) refl)
    onward_same branch_t =
        then_same (deep q₀) _ _ (λ x z e. then_same (deep z) _ _ (λ y u f. rw (same u (after_deep z (after_deep q₀ (omega arith) e) f)) refl))
    onward_same (save_t n) = then_same (deep q₀) _ _ (λ x z e. rw (same z (after_deep q₀ (omega arith) e)) refl)

  token_same : (p : ℕ) (deep r r' : ℕ → Got Basic) → ((q : ℕ) → ListPast q (deep q)) → ((q : ℕ) → p < q → p < 8 * length s → r q ≡ r' q)
      → (x : Got Token) → TokenPast p x
      → then x (onward deep r) ≡ then x (onward deep r')
  unfolding then TokenPast
  token_same p deep r r' d e (refused n x) k = refl
  token_same p deep r r' d e (got t q) k = let w = token_least t in onward_same deep r r' d q (λ z h. e z (omega (arith, k.0)) (omega (arith, k.0, k.1))) t

  items_fuel : (l : ℕ) (deep : ℕ → Got Basic) → ((q : ℕ) → ListPast q (deep q)) → (f g p : ℕ) → 8 * length s - p < f → 8 * length s - p < g
      → items s l deep f p ≡ items s l deep g p
  unfolding items
  items_fuel l deep d zero g p h i = absurd (omega arith)
  items_fuel l deep d (suc f) zero p h i = absurd (omega arith)
  items_fuel l deep d (suc f) (suc g) p h i =
      token_same p deep (items s l deep f) (items s l deep g) d (λ q lt w. items_fuel l deep d f g q (omega arith) (omega arith)) (token_at s l p)
      (token_past l p)

  pub below_past : (l p : ℕ) → ListPast p (below s l p)
  unfolding below ListPast
  below_past zero p = tt
  below_past (suc l) p = list_past l p

  -- ---- THE LAW: a list is its first code and what follows that
  pub list_step : (l p : ℕ) → list_at s l p ≡ then (token_at s l p) (onward (below s l) (list_at s l))
  unfolding list_at items below
  list_step zero p =
      token_same p (refused 4) (items s zero (refused 4) (8 * length s)) (items s zero (refused 4) (suc (8 * length s))) (below_past zero)
      (λ q lt w. items_fuel zero (refused 4) (below_past zero) (8 * length s) (suc (8 * length s)) q (omega arith) (omega arith)) (token_at s zero p)
      (token_past zero p)
  list_step (suc l) p =
      token_same p (list_at s l) (items s (suc l) (list_at s l) (8 * length s)) (items s (suc l) (list_at s l) (suc (8 * length s))) (list_past l)
      (λ q lt w. items_fuel (suc l) (list_at s l) (list_past l) (8 * length s) (suc (8 * length s)) q (omega arith) (omega arith)) (token_at s (suc l) p)
      (token_past (suc l) p)
