-- What the readers of a code of basic code do at each step, by what was read there. Assumes nothing.
use Prim.Native.Nat.{ℕ, zero, suc, ◌*◌, ◌≤◌, ◌<◌}
use Rattle.std.proofs.Common.{arith}
use Rattle.std.specs.Prelude.{◌≡◌, Bool, true, false, ◌&&◌, length, get_or, leb, eqb, Result, Ok, Err}
use Rattle.std.proofs.Math.Path.{refl}
use Rattle.std.proofs.Math.Bool.{and-eq-true_iff}
use mathlib.Core.List.{List, [], ◌∷◌}
use borrow.Author.Tests.{leb-true, eqb-true, eqb-false, eq-eqb, ne_eqb, lt-ltb, le-ltb}
use Rattle.cells.specs.declared.BitPlace.{BitPlace}
use Rattle.files.specs.Codes.{shapes, shape_of}
use Rattle.files.specs.Reading.{Got, got, refused}
use Rattle.files.specs.Entries.{global, then, field, tag_width, constant_at}
use Rattle.files.specs.laws.EntriesLaws.{width_none}
use Rattle.files.specs.laws.EntriesSteps.{no_field}
use Rattle.files.specs.declared.Refusal.{Refusal}
use Rattle.files.specs.Refusal.{refusal}
use Rattle.basic.specs.declared.Token.{Token as ToldToken}
use Rattle.basic.specs.declared.Token.TheVariants.{End, Literal, Global, Closure, Branch, Save}
use Rattle.basic.specs.Basic.{Token, plain_t, carries_t, closure_t, branch_t, save_t}
use Rattle.basic.specs.Reading.{holding, literal_at, global_at, shaped_at, code_at, token_at}
use Rattle.basic.specs.Told.{Told, told_end, told_literal, told_global, told_closure, told_branch, told_save, told_refused}

-- ---- the constant whose tag t stands at p and ends at q; w bits follow
module _ (s : List ℕ) (p t : ℕ) (q : BitPlace) (w : ℕ) (h : t < 6) (k : tag_width t ≡ w) where
  pub constant_read : (x : ℕ) (z : BitPlace) → field s q.0 w ≡ got x z.0
      → Told (then (constant_at s p t q.0) (λ e u. got (carries_t 6 e) u)) (Ok (Literal t x z))
  unfolding constant_at then
  constant_read x z e = told_literal z t x (rw (lt-ltb t 6 h, k, e) refl)

  pub constant_cut : {x : Refusal BitPlace} → field s q.0 w ≡ refused x.0 x.1.0 → Told (then (constant_at s p t q.0) (λ e u. got (carries_t 6 e) u)) (Err x)
  unfolding constant_at then
  constant_cut {x} e = told_refused x (rw (lt-ltb t 6 h, k, e) refl)

pub constant_plain : (s : List ℕ) (p t : ℕ) (q : BitPlace) → q.0 ≤ 8 * length s → t < 4
    → Told (then (constant_at s p t q.0) (λ e u. got (carries_t 6 e) u)) (Ok (Literal t 0 q))
constant_plain s p t q l h = constant_read s p t q 0 (omega arith) (width_none t (λ e. omega arith) (λ e. omega arith)) 0 q (no_field s q.0 l)

pub constant_bad : (s : List ℕ) (p : BitPlace) (t q : ℕ) → 6 ≤ t → Told (then (constant_at s p.0 t q) (λ e u. got (carries_t 6 e) u)) (Err (refusal 3 p))
unfolding constant_at then
constant_bad s p t q h = told_refused (refusal 3 p) (rw (le-ltb t 6 h) refl)

-- ---- a literal whose code ends at q
module _ (s : List ℕ) (q : BitPlace) where
  pub kind_cut : {x : Refusal BitPlace} → field s q.0 2 ≡ refused x.0 x.1.0 → Told (literal_at s q.0) (Err x)
  unfolding literal_at then
  kind_cut {x} e = told_refused x (rw e refl)

  module _ (k : ℕ) (z : BitPlace) (e : field s q.0 2 ≡ got k z.0) where
    pub kind_bad : (k ≡ 1 → ⊥) → Told (literal_at s q.0) (Err (refusal 3 q))
    unfolding literal_at then
    kind_bad h = told_refused (refusal 3 q) (rw (e, ne_eqb k 1 h) refl)

    pub tag_cut : k ≡ 1 → {x : Refusal BitPlace} → field s z.0 3 ≡ refused x.0 x.1.0 → Told (literal_at s q.0) (Err x)
    unfolding literal_at then
    tag_cut h {x} f = told_refused x (rw (e, eq-eqb k 1 h, f) refl)

    pub tag_read : k ≡ 1 → (t : ℕ) (u : BitPlace) {r : Result ToldToken (Refusal BitPlace)} → field s z.0 3 ≡ got t u.0
        → Told (then (constant_at s z.0 t u.0) (λ e u. got (carries_t 6 e) u)) r → Told (literal_at s q.0) r
    unfolding literal_at then
    tag_read h t u f told = rw (e, eq-eqb k 1 h, f) told

-- ---- a number whose code ends at q
module _ (s : List ℕ) (q : BitPlace) where
  pub number_cut : (f : ℕ → Token) {x : Refusal BitPlace} → field s q.0 8 ≡ refused x.0 x.1.0 → Told (then (field s q.0 8) (λ n z. got (f n) z)) (Err x)
  unfolding then
  number_cut f {x} e = told_refused x (rw e refl)

  pub global_read : (v g : ℕ) (z : BitPlace) → field s q.0 8 ≡ got g z.0 → Told (global_at s v q.0) (Ok (Global v g z))
  unfolding global_at then
  global_read v g z e = told_global z v g (rw e refl)

  pub save_read : (n : ℕ) (z : BitPlace) → field s q.0 8 ≡ got n z.0 → Told (then (field s q.0 8) (λ n z. got (save_t n) z)) (Ok (Save z))
  unfolding then
  save_read n z e = told_save z n (rw e refl)

  pub global_cut : (v : ℕ) {x : Refusal BitPlace} → field s q.0 8 ≡ refused x.0 x.1.0 → Told (global_at s v q.0) (Err x)
  unfolding global_at
  global_cut v e = number_cut (λ g. carries_t v (global g)) e

-- ---- operands
module _ (s : List ℕ) (l p v : ℕ) (q : BitPlace) {r : Result ToldToken (Refusal BitPlace)} where
  pub no_operands : (k : ℕ) → k ≡ 1 → ((g : Got Token) (ns : List ℕ) → g ≡ got (plain_t v ns) q.0 → Told g r) → Told (shaped_at s l p v q.0 k) r
  unfolding shaped_at
  no_operands k e f = rw e (f _ [] refl)

  module _ (a : ℕ) (z : BitPlace) (e : field s q.0 8 ≡ got a z.0) where
    pub one_operand : (k : ℕ) → k ≡ 2 → ((g : Got Token) (ns : List ℕ) → g ≡ got (plain_t v ns) z.0 → Told g r) → Told (shaped_at s l p v q.0 k) r
    unfolding shaped_at then
    one_operand k h f = rw (h, e) (f _ (a ∷ []) refl)

    pub two_operands : (b : ℕ) (u : BitPlace) (k : ℕ) → k ≡ 3 → field s z.0 8 ≡ got b u.0
        → ((g : Got Token) (ns : List ℕ) → g ≡ got (plain_t v ns) u.0 → Told g r) → Told (shaped_at s l p v q.0 k) r
    unfolding shaped_at then
    two_operands b u k h i f = rw (h, e, i) (f _ (a ∷ b ∷ []) refl)

module _ (s : List ℕ) (l p v : ℕ) (q : BitPlace) where
  pub first_cut : (k : ℕ) → 2 ≤ k → k ≤ 3 → {x : Refusal BitPlace} → field s q.0 8 ≡ refused x.0 x.1.0 → Told (shaped_at s l p v q.0 k) (Err x)
  unfolding shaped_at then
  first_cut zero h i {x} e = absurd (omega arith)
  first_cut (suc zero) h i {x} e = absurd (omega arith)
  first_cut (suc (suc zero)) h i {x} e = told_refused x (rw e refl)
  first_cut (suc (suc (suc zero))) h i {x} e = told_refused x (rw e refl)
  first_cut (suc (suc (suc (suc k)))) h i {x} e = absurd (omega arith)

  pub second_cut : (a : ℕ) (z : BitPlace) (k : ℕ) → k ≡ 3 → field s q.0 8 ≡ got a z.0 → {x : Refusal BitPlace} → field s z.0 8 ≡ refused x.0 x.1.0
      → Told (shaped_at s l p v q.0 k) (Err x)
  unfolding shaped_at then
  second_cut a z k h e {x} f = told_refused x (rw (h, e, f) refl)

-- ---- shapes are at most 6
up_to_six : List ℕ → Bool
up_to_six [] = true
up_to_six (x ∷ l) = leb x 6 && up_to_six l

small_at : (l : List ℕ) → up_to_six l ≡ true → (i : ℕ) → get_or l i 6 ≤ 6
unfolding up_to_six
small_at [] e i = omega arith
small_at (x ∷ l) e zero = leb-true x 6 ((and-eq-true_iff (leb x 6) (up_to_six l)).0 e).0
small_at (x ∷ l) e (suc i) = small_at l ((and-eq-true_iff (leb x 6) (up_to_six l)).0 e).1 i

pub shape_small : (v : ℕ) → shape_of v ≤ 6
unfolding shape_of up_to_six
shape_small v = small_at shapes refl v

-- ---- by its shape k
module _ (s : List ℕ) where
  shaped_last : (l p v q k : ℕ) → l ≡ 0 → 4 ≤ k → k ≤ 5 → shaped_at s l p v q k ≡ refused 4 p
  unfolding shaped_at holding
  shaped_last l p v q zero e h i = absurd (omega arith)
  shaped_last l p v q (suc zero) e h i = absurd (omega arith)
  shaped_last l p v q (suc (suc zero)) e h i = absurd (omega arith)
  shaped_last l p v q (suc (suc (suc zero))) e h i = absurd (omega arith)
  shaped_last l p v q (suc (suc (suc (suc zero)))) e h i = rw e refl
  shaped_last l p v q (suc (suc (suc (suc (suc zero))))) e h i = rw e refl
  shaped_last l p v q (suc (suc (suc (suc (suc (suc k)))))) e h i = absurd (omega arith)

  pub held : (l p : ℕ) (g : Got Token) → (l ≡ 0 → ⊥) → holding l p g ≡ g
  unfolding holding
  held zero p g h = absurd (h refl)
  held (suc l) p g h = refl

  shaped_arms : (l p v q : ℕ) → (l ≡ 0 → ⊥) → shaped_at s l p v q 4 ≡ got branch_t q
  unfolding shaped_at
  shaped_arms l p v q h = held l p _ h

  shaped_saves : (l p v q : ℕ) → (l ≡ 0 → ⊥) → shaped_at s l p v q 5 ≡ then (field s q 8) (λ n z. got (save_t n) z)
  unfolding shaped_at
  shaped_saves l p v q h = held l p _ h

module _ (s : List ℕ) (l : ℕ) (p : BitPlace) (v : ℕ) (q : BitPlace) (k : ℕ) where
  pub shaped_end : k ≡ 0 → Told (shaped_at s l p.0 v q.0 k) (Ok (End q))
  unfolding shaped_at
  shaped_end e = told_end q (rw e refl)

  pub shaped_deep : l ≡ 0 → 4 ≤ k → k ≤ 5 → Told (shaped_at s l p.0 v q.0 k) (Err (refusal 4 p))
  shaped_deep e h i = told_refused (refusal 4 p) (shaped_last s l p.0 v q.0 k e h i)

  pub shaped_branch : (l ≡ 0 → ⊥) → k ≡ 4 → Told (shaped_at s l p.0 v q.0 k) (Ok (Branch q))
  shaped_branch h e = told_branch q (rw e (shaped_arms s l p.0 v q.0 h))

  pub shaped_save : (l ≡ 0 → ⊥) → k ≡ 5 → {r : Result ToldToken (Refusal BitPlace)} → Told (then (field s q.0 8) (λ n z. got (save_t n) z)) r
      → Told (shaped_at s l p.0 v q.0 k) r
  shaped_save h e t = rw (e, shaped_saves s l p.0 v q.0 h) t

  pub shaped_bad : k ≡ 6 → Told (shaped_at s l p.0 v q.0 k) (Err (refusal 3 p))
  unfolding shaped_at
  shaped_bad e = told_refused (refusal 3 p) (rw e refl)

-- ---- a code at p, which is v and ends at q
pub code_cut : (s : List ℕ) (l : ℕ) (p : BitPlace) {x : Refusal BitPlace} → field s p.0 5 ≡ refused x.0 x.1.0 → Told (token_at s l p.0) (Err x)
unfolding token_at then
code_cut s l p {x} e = told_refused x (rw e refl)

module _ (s : List ℕ) (l : ℕ) (p : BitPlace) (v : ℕ) (q : BitPlace) (e : field s p.0 5 ≡ got v q.0) where
  pub code_literal : v ≡ 6 → {r : Result ToldToken (Refusal BitPlace)} → Told (literal_at s q.0) r → Told (token_at s l p.0) r
  unfolding token_at then code_at
  code_literal h t = rw (e, eq-eqb v 6 h) t

  pub code_deep : v ≡ 7 → l ≡ 0 → Told (token_at s l p.0) (Err (refusal 4 p))
  unfolding token_at then code_at holding
  code_deep h z = told_refused (refusal 4 p) (rw (e, ne_eqb v 6 (λ x. omega arith), eq-eqb v 7 h, z) refl)

  pub code_closure : v ≡ 7 → (l ≡ 0 → ⊥) → Told (token_at s l p.0) (Ok (Closure q))
  unfolding token_at then code_at
  code_closure h z = told_closure q (rw (e, ne_eqb v 6 (λ x. omega arith), eq-eqb v 7 h, held s l p.0 (got closure_t q.0) z) refl)

  pub code_global : v ≡ 8 → {r : Result ToldToken (Refusal BitPlace)} → Told (global_at s v q.0) r → Told (token_at s l p.0) r
  unfolding token_at then code_at
  code_global h t = rw (e, ne_eqb v 6 (λ x. omega arith), ne_eqb v 7 (λ x. omega arith), eq-eqb v 8 h) t

  pub code_set_global : v ≡ 9 → {r : Result ToldToken (Refusal BitPlace)} → Told (global_at s v q.0) r → Told (token_at s l p.0) r
  unfolding token_at then code_at
  code_set_global h t =
      rw (e, ne_eqb v 6 (λ x. omega arith), ne_eqb v 7 (λ x. omega arith), ne_eqb v 8 (λ x. omega arith), eq-eqb v 9 h) t

  pub code_number : 8 ≤ v → v < 10 → {r : Result ToldToken (Refusal BitPlace)} → Told (global_at s v q.0) r → Told (token_at s l p.0) r
  code_number h i {r} t = go (eqb v 8) refl
    where
      go : (b : Bool) → eqb v 8 ≡ b → Told (token_at s l p.0) r
      go true k = code_global (eqb-true v 8 k) t
      go false k = let n = eqb-false v 8 k in code_set_global (omega arith) t

  pub code_other : (v ≡ 6 → ⊥) → (v ≡ 7 → ⊥) → (v ≡ 8 → ⊥) → (v ≡ 9 → ⊥) → {r : Result ToldToken (Refusal BitPlace)}
      → Told (shaped_at s l p.0 v q.0 (shape_of v)) r → Told (token_at s l p.0) r
  unfolding token_at then code_at
  code_other h₆ h₇ h₈ h₉ t = rw (e, ne_eqb v 6 h₆, ne_eqb v 7 h₇, ne_eqb v 8 h₈, ne_eqb v 9 h₉) t
