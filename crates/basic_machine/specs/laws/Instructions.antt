-- What is fetched at a code of basic code that was read, by the code. Assumes nothing.
use Prim.Native.Nat.{ℕ, zero, suc, ◌/◌, ◌%◌}
use Rattle.std.proofs.Common.{arith, ◌∙◌, eqb-true, eq-eqb, ne_eqb}
use Rattle.std.proofs.Math.Path.{◌≡◌, refl, sym, ap}
use Rattle.std.specs.Prelude.{Bool, ◌||◌, List, ltb, get_or, Option, Some, None}
use Rattle.std.proofs.Math.Bool.{true, false, cond}
use Rattle.std.proofs.Math.Dec.{eqb}
use Rattle.cells.specs.laws.Laws.{clash}
use Rattle.fields.specs.Field.{field_read}
use Rattle.files.specs.Codes.{shape_of}
use Rattle.files.specs.Reading.{Got, got, refused}
use Rattle.files.specs.Entries.{constant, then, field_got, field, valid, tag_width, constant_at, kind_at, entry_at}
use Rattle.files.specs.EntriesRead.{entry_told}
use Rattle.files.specs.Table.{slot_of}
use Rattle.files.specs.laws.AllGot.{refused_got, got_value, then_led}
use Rattle.tree_file.proofs.theorems.Standing.{code_end}
use Rattle.links.specs.Links.{link_at}
use Rattle.rules.specs.declared.Plain.TheVariants.{Closure, Global, SetGlobal}
use Rattle.machines.specs.Fetched.{Fetched, plain, returns, calls, branches, saves, bad, named_by, as_literal, as_global, rule_of, plainly}
use Rattle.machines.specs.Slots.{slot_resolve}
use Rattle.basic.specs.Basic.{Token, ended_t, plain_t, carries_t, closure_t, branch_t, save_t}
use Rattle.basic.specs.Reading.{holding, literal_at, global_at, shaped_at, code_at, token_at}
use Rattle.basic_program.specs.Program.{carried}
use Rattle.basic_code.specs.Fetch.{with_read, literal_by, shaped_as, code_as, instruction_at, end_as, here_as}
use Rattle.cells.specs.declared.BitPlace.{BitPlace}

module _ (s L : List ℕ) (p : ℕ) where
  -- a code and the place past it, as an instruction at p
  unfoldable pub instruction_of : Token → ℕ → Fetched
  instruction_of ended_t q = bad
  instruction_of (plain_t v ns) q =
      cond (eqb v 1) returns (cond (eqb v 2) (calls (get_or ns 0 0)) (plainly (slot_resolve (λ _. 0) v (get_or ns 0 0) (get_or ns 1 0)) q))
  instruction_of (carries_t v e) q = plainly (carried v e) q
  instruction_of closure_t q = plain (Closure (link_at L p % 64)) (link_at L p / 64)
  instruction_of branch_t q = branches 0 q (link_at L p)
  instruction_of (save_t n) q = saves n q (link_at L p)

  -- what is fetched where a code is read
  unfoldable Is : Got Token → Fetched → Type 0
  Is (got k q) F = F ≡ instruction_of k q
  Is (refused n x) F = Unit

  with_field_lem : (q w : ℕ) (f : ℕ → ℕ → Got Token) (g : ℕ → ℕ → Fetched) → ((a r : ℕ) → Is (f a r) (g a r))
      → Is (then (field s q w) f) (with_read g (field_read s q w))
  unfolding then field field_got with_read Is
  with_field_lem q w f g h = by (field_read s q w)
    where
      by : (x : Option (ℕ × BitPlace)) → Is (then (field_got q x) f) (with_read g x)
      by (Some (a, r)) = h a r.0
      by None = tt

  held : (l : ℕ) (g : Got Token) (F : Fetched) → Is g F → Is (holding l p g) F
  unfolding holding Is
  held zero g F h = tt
  held (suc l) g F h = h

  -- ---- a literal
  constant_is : (r k z : ℕ) → Is (then (constant_at s r k z) (λ e u. got (carries_t 6 e) u)) (literal_by (entry_told (constant_at s r k z)))
  unfolding constant_at then field field_got entry_told literal_by Is instruction_of carried rule_of named_by as_literal plainly slot_of
  constant_is r k z = by (ltb k 6) (field_read s z (tag_width k))
    where
      by : (b : Bool) (x : Option (ℕ × BitPlace)) → Is (then (valid r b (then (field_got z x) (λ x u. got (constant k x) u))) (λ e u. got (carries_t 6 e) u))
          (literal_by (entry_told (valid r b (then (field_got z x) (λ x u. got (constant k x) u)))))
      by true (Some (a, u)) = refl
      by true None = tt
      by false x = tt

  literal_is : (q : ℕ) → Is (literal_at s q) (literal_by (entry_told (entry_at s 0 0 q)))
  unfolding literal_at entry_at kind_at then field field_got entry_told literal_by Is
  literal_is q = by (field_read s q 2)
    where
      tagged : (r : ℕ) (y : Option (ℕ × BitPlace)) → Is (then (field_got r y) (λ k z. then (constant_at s r k z) (λ e u. got (carries_t 6 e) u)))
          (literal_by (entry_told (then (field_got r y) (λ k z. constant_at s r k z))))
      tagged r (Some (k, z)) = constant_is r k z.0
      tagged r None = tt

      kind : (k r : ℕ) (b : Bool) → eqb k 1 ≡ b
          → Is (valid q b (then (field s r 3) (λ k z. then (constant_at s r k z) (λ e u. got (carries_t 6 e) u))))
          (literal_by (entry_told (kind_at s 0 0 q r k)))
      kind k r true e = rw (eqb-true k 1 e) (tagged r (field_read s r 3))
      kind k r false e = tt

      by : (x : Option (ℕ × BitPlace))
          → Is (then (field_got q x) (λ k r. valid q (eqb k 1) (then (field s r 3) (λ t z. then (constant_at s r t z) (λ e u. got (carries_t 6 e) u)))))
          (literal_by (entry_told (then (field_got q x) (λ k r. kind_at s 0 0 q r k))))
      by (Some (k, r)) = kind k r.0 (eqb k 1) refl
      by None = tt

  -- ---- the codes that carry nothing, by their shape
  module _ (l v q : ℕ) where
    away : (m k : ℕ) → shape_of v ≡ k → (shape_of m ≡ k → ⊥) → eqb v m ≡ false
    away m k e n = ne_eqb v m (λ h. n (ap shape_of (sym h) ∙ e))

    shaped_is : (k : ℕ) → shape_of v ≡ k → Is (shaped_at s l p v q k) (shaped_as s L p v q k)
    unfolding shaped_at shaped_as Is instruction_of shape_of
    shaped_is zero e = refl
    shaped_is (suc zero) e = rw (away 2 1 e (λ z. omega arith)) refl
    shaped_is (suc (suc zero)) e =
        with_field_lem q 8 _ _ (λ a r. rw (away 1 2 e (λ z. omega arith)) refl)
    shaped_is (suc (suc (suc zero))) e =
        with_field_lem q 8 _ _ (λ a r. with_field_lem r 8 _ _ (λ b u. rw (away 1 3 e (λ z. omega arith), away 2 3 e (λ z. omega arith)) refl))
    shaped_is (suc (suc (suc (suc zero)))) e = held l _ _ refl
    shaped_is (suc (suc (suc (suc (suc zero))))) e = held l _ _ (with_field_lem q 8 _ _ (λ a r. refl))
    shaped_is (suc (suc (suc (suc (suc (suc k)))))) e = tt

    code_is : Is (code_at s l p v q) (code_as s L p v q)
    unfolding code_at code_as global_at Is instruction_of carried rule_of named_by as_global plainly
    code_is = by (eqb v 6) (eqb v 7) (eqb v 8) (eqb v 9) refl refl
      where
        by : (a b c d : Bool) → eqb v 8 ≡ c → eqb v 9 ≡ d
            → Is (cond a (literal_at s q) (cond b (holding l p (got closure_t q)) (cond (c || d) (global_at s v q) (shaped_at s l p v q (shape_of v)))))
            (cond a (literal_by (entry_told (entry_at s 0 0 q))) (cond b (plain (Closure (link_at L p % 64)) (link_at L p / 64))
            (cond c (with_read (λ g r. plain (Global g) r) (field_read s q 8)) (cond d (with_read (λ g r. plain (SetGlobal g) r) (field_read s q 8))
            (shaped_as s L p v q (shape_of v))))))
        by true b c d e₈ e₉ = literal_is q
        by false true c d e₈ e₉ = held l _ _ refl
        by false false true d e₈ e₉ = rw (eqb-true v 8 e₈) (with_field_lem q 8 _ _ (λ g r. refl))
        by false false false true e₈ e₉ = rw (eqb-true v 9 e₉) (with_field_lem q 8 _ _ (λ g r. refl))
        by false false false false e₈ e₉ = shaped_is (shape_of v) refl

  token_is : (l : ℕ) → Is (token_at s l p) (instruction_at s L p)
  unfolding token_at instruction_at
  token_is l = with_field_lem p 5 _ _ (λ v q. code_is l v q)

  -- THE LAW
  pub instruction_is : {k : Token} {q : ℕ} → token_at s 15 p ≡ got k q → instruction_at s L p ≡ instruction_of k q
  unfolding Is
  instruction_is e = rw e at (token_is 15)

  -- ---- code 0 alone ends a list
  literal_no_end : {q : ℕ} (r : ℕ) → literal_at s r ≡ got ended_t q → ⊥
  unfolding literal_at
  literal_no_end {q} r e = then_led (field s r 2) _ e (λ k z f on. by z (eqb k 1) on)
    where
      by : (z : ℕ) (b : Bool) → valid r b (then (field s z 3) (λ t u. then (constant_at s z t u) (λ e w. got (carries_t 6 e) w))) ≡ got ended_t q → ⊥
      by z true on = then_led (field s z 3) _ on (λ t u f o. then_led (constant_at s z t u) _ o (λ x w g i. clash (cc)))
      by z false on = refused_got on

  held_no_end : (l : ℕ) (g : Got Token) {q : ℕ} → (g ≡ got ended_t q → ⊥) → holding l p g ≡ got ended_t q → ⊥
  unfolding holding
  held_no_end zero g n e = refused_got e
  held_no_end (suc l) g n e = n e

  shaped_end : (l v r q k : ℕ) → shaped_at s l p v r k ≡ got ended_t q → k ≡ 0
  unfolding shaped_at
  shaped_end l v r q zero e = refl
  shaped_end l v r q (suc zero) e = clash (cc)
  shaped_end l v r q (suc (suc zero)) e = then_led (field s r 8) _ e (λ a z f o. clash (cc))
  shaped_end l v r q (suc (suc (suc zero))) e = then_led (field s r 8) _ e (λ a z f o. then_led (field s z 8) _ o (λ b u g i. clash (cc)))
  shaped_end l v r q (suc (suc (suc (suc zero)))) e = absurd (held_no_end l _ (λ h. clash (cc)) e)
  shaped_end l v r q (suc (suc (suc (suc (suc zero))))) e =
      absurd (held_no_end l _ (λ h. then_led (field s r 8) _ h (λ a z f o. clash (cc))) e)
  shaped_end l v r q (suc (suc (suc (suc (suc (suc k)))))) e = refused_got e

  pub code_end_0 : (l v r q : ℕ) → code_at s l p v r ≡ got ended_t q → v ≡ 0
  unfolding code_at global_at
  code_end_0 l v r q e = by (eqb v 6) (eqb v 7) (eqb v 8 || eqb v 9) e
    where
      by : (a b c : Bool)
          → cond a (literal_at s r) (cond b (holding l p (got closure_t r)) (cond c (global_at s v r) (shaped_at s l p v r (shape_of v)))) ≡ got ended_t q
          → v ≡ 0
      by true b c e = absurd (literal_no_end r e)
      by false true c e = absurd (held_no_end l _ (λ h. clash (cc)) e)
      by false false true e = then_led (field s r 8) _ e (λ a z f o. clash (cc))
      by false false false e = code_end v (shaped_end l v r q (shape_of v) e)

  pub end_code : (r : ℕ) → code_at s 15 p 0 r ≡ got ended_t r
  unfolding code_at shaped_at shape_of
  end_code r = refl

  -- THE LAWS: at a list's end execution goes on where its link leads, and at an instruction it is there
  pub end_is : {q : ℕ} → token_at s 15 p ≡ got ended_t q → here_as s L p (field_read s p 5) ≡ end_as s L (link_at L p)
  unfolding token_at then field field_got here_as
  end_is {q} e = by (field_read s p 5) e
    where
      by : (x : Option (ℕ × BitPlace)) → then (field_got p x) (λ v r. code_at s 15 p v r) ≡ got ended_t q → here_as s L p x ≡ end_as s L (link_at L p)
      by (Some (v, r)) e = rw (eq-eqb v 0 (code_end_0 15 v r.0 q e)) refl
      by None e = refused_got e

  pub here_is : {k : Token} {q : ℕ} → token_at s 15 p ≡ got k q → ((q : ℕ) → ◌≡◌ {A = Got Token} (got k q) (got ended_t q) → ⊥)
      → here_as s L p (field_read s p 5) ≡ instruction_at s L p
  unfolding token_at then field field_got here_as instruction_at with_read
  here_is {k} {q} e n = by (field_read s p 5) e
    where
      by : (x : Option (ℕ × BitPlace)) → then (field_got p x) (λ v r. code_at s 15 p v r) ≡ got k q → here_as s L p x ≡ with_read (code_as s L p) x
      by (Some (v, r)) e = ap (λ b. cond b (end_as s L (link_at L p)) (code_as s L p v r.0)) (ne_eqb v 0 (λ z. n r.0 (same v r.0 z e)))
        where
          same : (v r : ℕ) → v ≡ 0 → code_at s 15 p v r ≡ got k q → ◌≡◌ {A = Got Token} (got k r) (got ended_t r)
          same v r z e = let h : got ended_t r ≡ got k q = sym (end_code r) ∙ (rw z at e) in let g : k ≡ ended_t = sym (got_value h).0 in rw g refl
      by None e = refused_got e
