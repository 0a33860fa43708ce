-- Places of basic code and of its tabulated code that correspond, and that the same stands at both. Assumes nothing.
use Rattle.std.specs.Prelude.{ℕ, suc, ◌+◌, ◌*◌, ◌≤◌, ◌<◌, ◌≡◌, ◌⊎◌, length, get_or}
use native.Mathlib.Omega.{arith}
use Rattle.std.proofs.Math.Path.{refl}
use Rattle.std.proofs.Common.{inr}
use Rattle.std.proofs.Math.Logic.{inl}
use mathlib.Core.List.{List, [], ◌∷◌}
use Rattle.std.proofs.Math.Option.{Option, none, some}
use borrow.Author.Tests.{eq-eqb, ne_eqb, lt-ltb, le-ltb}
use Rattle.files.specs.Code.{Code, put, simple, bits as treeBits}
use Rattle.files.specs.laws.ReadingLaws.{least_bits}
use Rattle.files.specs.Entries.{Entry, template}
use Rattle.files.specs.Grammar.{entry_of}
use Rattle.rules.specs.declared.Plain.{Plain}
use Rattle.rules.specs.declared.Plain.TheVariants.{Closure}
use Rattle.basic.specs.Basic.{Basic, ended, plain as plain_code, carries, closure, branch, save, carried_bits, bits}
use Rattle.basic.specs.Valid.{PlainOk, return_ok, call_ok, neutral_ok, CarriesOk, literal_ok, global_ok, set_global_ok, Ok}
use Rattle.basic.specs.Tabulated.{inside, index_of, indexed}
use Rattle.machines.specs.Fetched.{Fetched, plain, returns, calls, branches, saves, bad, named_by, as_closure, Named, rule_of, resolve, plainly}
use Rattle.machines.specs.Fetched.{first as treeFirst, beyond, look as treeLook}
use Rattle.machines.specs.laws.FetchedLaws.{look_first, look_neutral, look_first_arm, look_second_arm, look_after_arms, look_saved, look_after_saved}
use Rattle.basic_program.specs.Program.{plain_at, carried, first, look}
use Rattle.basic.proofs.theorems.EntryLaws.{Finds}

-- ---- the same instruction, and on at places that correspond
pub data Twin (P : ℕ → ℕ → Type 0) : Fetched → Fetched → Type 0 where
  plain_twin : {i : Plain} {p q : ℕ} → P p q → Twin P (plain i p) (plain i q)
  return_twin : Twin P returns returns
  call_twin : {n : ℕ} → Twin P (calls n) (calls n)
  branch_twin : {o o' p₁ p₂ q₁ q₂ : ℕ} → P p₁ q₁ → P p₂ q₂ → Twin P (branches o p₁ p₂) (branches o' q₁ q₂)
  save_twin : {n p₁ p₂ q₁ q₂ : ℕ} → n < 256 → P p₁ q₁ → P p₂ q₂ → Twin P (saves n p₁ p₂) (saves n q₁ q₂)
  bad_t : Twin P bad bad

-- ---- instructions without entries
pub no_names : (f g : ℕ → Named) (v a b : ℕ) → 10 ≤ v → rule_of f v a b ≡ rule_of g v a b
unfolding rule_of
no_names f g v a b h =
    rw (ne_eqb v 6 (λ e. omega arith), ne_eqb v 7 (λ e. omega arith), ne_eqb v 8 (λ e. omega arith), ne_eqb v 9 (λ e. omega arith)) refl

pub look_here : (c : Basic) (n s : ℕ) (F : Fetched) (p : ℕ) → p ≡ s → look n s c F p ≡ first n s c F
unfolding look first
look_here ended n s F p e = rw (eq-eqb p s e) refl
look_here (plain_code v ns r) n s F p e = rw (eq-eqb p s e) refl
look_here (carries v x r) n s F p e = rw (eq-eqb p s e) refl
look_here (closure x r) n s F p e = rw (eq-eqb p s e) refl
look_here (branch x y r) n s F p e = rw (eq-eqb p s e) refl
look_here (save m x r) n s F p e = rw (eq-eqb p s e) refl

module _ (es : List Entry) where
  -- p of the list c at s corresponds to q of its tabulated code at s'; n is the number of the first template in it
  unfoldable pub Spot : ℕ → ℕ → Basic → ℕ → ℕ → ℕ → Type 0
  Spot n s ended s' p q = (p ≡ s) × (q ≡ s')
  Spot n s (plain_code v ns r) s' p q = ((p ≡ s) × (q ≡ s')) ⊎ Spot n (s + (5 + 8 * length ns)) r (s' + (5 + 8 * length ns)) p q
  Spot n s (carries v e r) s' p q = ((p ≡ s) × (q ≡ s')) ⊎ Spot n (s + (5 + carried_bits e)) r (s' + 13) p q
  Spot n s (closure x r) s' p q = ((p ≡ s) × (q ≡ s')) ⊎ Spot (suc n + inside x) (s + 5 + bits x) r (s' + 13) p q
  Spot n s (branch x y r) s' p q =
      ((p ≡ s) × (q ≡ s')) ⊎ (Spot n (s + 5) x (s' + 5) p q ⊎ (Spot (n + inside x) (s + 5 + bits x) y (s' + 5 + treeBits (indexed es n x)) p q
      ⊎ Spot (n + inside x + inside y) (s + 5 + bits x + bits y) r (s' + 5 + treeBits (indexed es n x) + treeBits (indexed es (n + inside x) y)) p q))
  Spot n s (save m x r) s' p q =
      ((p ≡ s) × (q ≡ s')) ⊎ (Spot n (s + 13) x (s' + 13) p q ⊎ Spot (n + inside x) (s + 13 + bits x) r (s' + 13 + treeBits (indexed es n x)) p q)

  pub spot_first : (c : Basic) (n s s' : ℕ) → Spot n s c s' s s'
  unfolding Spot
  spot_first ended n s s' = (refl, refl)
  spot_first (plain_code v ns r) n s s' = inl (refl, refl)
  spot_first (carries v e r) n s s' = inl (refl, refl)
  spot_first (closure x r) n s s' = inl (refl, refl)
  spot_first (branch x y r) n s s' = inl (refl, refl)
  spot_first (save m x r) n s s' = inl (refl, refl)

  -- how many bits the code of an instruction without lists and what follows it take
  simple_bits : (v : ℕ) (ns : List ℕ) (d : Code) → PlainOk v ns → treeBits (put (simple v ns) d) ≡ 5 + 8 * length ns + treeBits d
  unfolding treeBits put simple
  simple_bits v ns d return_ok = refl
  simple_bits v ns d (call_ok h) = refl
  simple_bits v ns d (neutral_ok h e k b) = rw (ne_eqb v 1 (λ z. omega arith), ne_eqb v 2 (λ z. omega arith)) refl

  -- places of a list are within it
  pub record Within (s b s' b' p q : ℕ) : Type 0 where
    pub from : s ≤ p
    pub to : p + 5 ≤ s + b
    pub from' : s' ≤ q
    pub to' : q + 5 ≤ s' + b'

  pub least : (c : Basic) → 5 ≤ bits c
  unfolding bits
  least ended = omega arith
  least (plain_code v ns r) = omega arith
  least (carries v e r) = omega arith
  least (closure x r) = omega arith
  least (branch x y r) = omega arith
  least (save n x r) = omega arith

  within_first : (c : Basic) (n s s' p q : ℕ) → p ≡ s → q ≡ s' → Within s (bits c) s' (treeBits (indexed es n c)) p q
  within_first c n s s' p q e e' =
      let a = least c in
      let b = least_bits (indexed es n c) in
      record { from = omega arith; to = omega arith; from' = omega arith; to' = omega arith }

  pub spot_within : (c : Basic) (n s s' p q : ℕ) → Ok c → Spot n s c s' p q → Within s (bits c) s' (treeBits (indexed es n c)) p q
  unfolding Spot Ok bits indexed treeBits
  spot_within ended n s s' p q ok h = within_first ended n s s' p q h.0 h.1
  spot_within (plain_code v ns r) n s s' p q ok (inl h) = within_first (plain_code v ns r) n s s' p q h.0 h.1
  spot_within (plain_code v ns r) n s s' p q ok (inr h) =
      let w = spot_within r n _ _ p q ok.1 h in
      rw (simple_bits v ns (indexed es n r) ok.0)
      (record { from = omega (arith, w.from); to = omega (arith, w.to); from' = omega (arith, w.from'); to' = omega (arith, w.to') })
  spot_within (carries v e r) n s s' p q ok (inl h) = within_first (carries v e r) n s s' p q h.0 h.1
  spot_within (carries v e r) n s s' p q ok (inr h) =
      let w = spot_within r n _ _ p q ok.1 h in
      record { from = omega (arith, w.from); to = omega (arith, w.to); from' = omega (arith, w.from'); to' = omega (arith, w.to') }
  spot_within (closure x r) n s s' p q ok (inl h) = within_first (closure x r) n s s' p q h.0 h.1
  spot_within (closure x r) n s s' p q ok (inr h) =
      let w = spot_within r (suc n + inside x) _ _ p q ok.1 h in
      record { from = omega (arith, w.from); to = omega (arith, w.to); from' = omega (arith, w.from'); to' = omega (arith, w.to') }
  spot_within (branch x y r) n s s' p q ok (inl h) = within_first (branch x y r) n s s' p q h.0 h.1
  spot_within (branch x y r) n s s' p q ok (inr (inl h)) =
      let w = spot_within x n _ _ p q ok.0 h in
      record { from = omega (arith, w.from); to = omega (arith, w.to); from' = omega (arith, w.from'); to' = omega (arith, w.to') }
  spot_within (branch x y r) n s s' p q ok (inr (inr (inl h))) =
      let w = spot_within y (n + inside x) _ _ p q ok.1 h in
      record { from = omega (arith, w.from); to = omega (arith, w.to); from' = omega (arith, w.from'); to' = omega (arith, w.to') }
  spot_within (branch x y r) n s s' p q ok (inr (inr (inr h))) =
      let w = spot_within r (n + inside x + inside y) _ _ p q ok.2 h in
      record { from = omega (arith, w.from); to = omega (arith, w.to); from' = omega (arith, w.from'); to' = omega (arith, w.to') }
  spot_within (save m x r) n s s' p q ok (inl h) = within_first (save m x r) n s s' p q h.0 h.1
  spot_within (save m x r) n s s' p q ok (inr (inl h)) =
      let w = spot_within x n _ _ p q ok.1 h in
      record { from = omega (arith, w.from); to = omega (arith, w.to); from' = omega (arith, w.from'); to' = omega (arith, w.to') }
  spot_within (save m x r) n s s' p q ok (inr (inr h)) =
      let w = spot_within r (n + inside x) _ _ p q ok.2 h in
      record { from = omega (arith, w.from); to = omega (arith, w.to); from' = omega (arith, w.from'); to' = omega (arith, w.to') }

  -- ---- what stands at the places, P of those in the whole template
  module _ (P : ℕ → ℕ → Type 0) where
    plains : (o o' : Option Plain) (p q : ℕ) → o ≡ o' → P p q → Twin P (plainly o p) (plainly o' q)
    unfolding plainly
    plains o o' p q e h = rw (← e) (by o)
      where
        by : (o : Option Plain) → Twin P (plainly o p) (plainly o q)
        by none = bad_t
        by (some i) = plain_twin h

    unnamed : (v : ℕ) (ns : List ℕ) → 10 ≤ v → resolve [] v ns ≡ resolve es v ns
    unfolding resolve
    unnamed v ns l = no_names (λ n. named_by (entry_of [] n)) (λ n. named_by (entry_of es n)) v (get_or ns 0 0) (get_or ns 1 0) l

    -- return, call, or a neutral code that names no entry
    plain_like : (v : ℕ) (ns : List ℕ) (d : Code) (s s' : ℕ) (F : Fetched) → PlainOk v ns → P (s + (5 + 8 * length ns)) (s' + (5 + 8 * length ns))
        → Twin P (plain_at v ns (s + (5 + 8 * length ns))) (treeFirst es s' (put (simple v ns) d) F)
    unfolding plain_at treeFirst put simple
    plain_like v ns d s s' F return_ok h = return_twin
    plain_like v ns d s s' F (call_ok k) h = call_twin
    plain_like v ns d s s' F (neutral_ok l e k b) h =
        rw (ne_eqb v 1 (λ z. omega arith), ne_eqb v 2 (λ z. omega arith)) (plains (resolve [] v ns) (resolve es v ns) _ _ (unnamed v ns l) h)

    -- what carries an entry, and the index of that entry
    carried_like : (v : ℕ) (e : Entry) → CarriesOk v e → entry_of es (index_of e es) ≡ some e → carried v e ≡ resolve es v (index_of e es ∷ [])
    unfolding carried resolve rule_of
    carried_like v e (literal_ok h k) f = rw f refl
    carried_like v e (global_ok h) f = rw f refl
    carried_like v e (set_global_ok h) f = rw f refl

    closure_like : (n : ℕ) → entry_of es (index_of (template n) es) ≡ some (template n) → resolve es 7 (index_of (template n) es ∷ []) ≡ some (Closure n)
    unfolding resolve rule_of named_by as_closure
    closure_like n f = rw f refl

    -- the list c at s and its tabulated code at s', and what comes after them
    pub record Sits (n s s' : ℕ) (F F' : Fetched) (c : Basic) : Type 0 where
      pub ok : Ok c
      pub finds : Finds es n c
      pub places : (p q : ℕ) → Spot n s c s' p q → P p q
      pub follows : Twin P F F'

    head_like : (c : Basic) (n s s' : ℕ) (F F' : Fetched) → Sits n s s' F F' c → Twin P (first n s c F) (treeFirst es s' (indexed es n c) F')
    unfolding first treeFirst indexed Spot Ok Finds
    head_like ended n s s' F F' x = x.follows
    head_like (plain_code v ns r) n s s' F F' x =
        plain_like v ns (indexed es n r) s s' F' x.ok.0 (x.places _ _ (inr (spot_first r n _ _)))
    head_like (carries v e r) n s s' F F' x =
        plains _ _ _ _ (carried_like v e x.ok.0 x.finds.0) (x.places _ _ (inr (spot_first r n _ _)))
    head_like (closure y r) n s s' F F' x =
        rw (closure_like n x.finds.0) (plain_twin (x.places _ _ (inr (spot_first r (suc n + inside y) _ _))))
    head_like (branch y z r) n s s' F F' x =
        branch_twin (x.places _ _ (inr (inl (spot_first y n _ _)))) (x.places _ _ (inr (inr (inl (spot_first z (n + inside y) _ _)))))
    head_like (save m y r) n s s' F F' x =
        save_twin x.ok.0 (x.places _ _ (inr (inl (spot_first y n _ _)))) (x.places _ _ (inr (inr (spot_first r (n + inside y) _ _))))

    -- ---- the lists in a list
    module _ {n s s' : ℕ} {F F' : Fetched} where
      plain_of : {v : ℕ} {ns : List ℕ} {r : Basic} → Sits n s s' F F' (plain_code v ns r) → PlainOk v ns
      unfolding Ok
      plain_of x = x.ok.0

      plain_rest : {v : ℕ} {ns : List ℕ} {r : Basic} → Sits n s s' F F' (plain_code v ns r) → Sits n (s + (5 + 8 * length ns)) (s' + (5 + 8 * length ns)) F F' r
      unfolding Spot Ok Finds
      plain_rest x = record { ok = x.ok.1; finds = x.finds; places = λ p q h. x.places p q (inr h); follows = x.follows }

      carries_rest : {v : ℕ} {e : Entry} {r : Basic} → Sits n s s' F F' (carries v e r) → Sits n (s + (5 + carried_bits e)) (s' + 13) F F' r
      unfolding Spot Ok Finds
      carries_rest x = record { ok = x.ok.1; finds = x.finds.1; places = λ p q h. x.places p q (inr h); follows = x.follows }

      closure_rest : {y r : Basic} → Sits n s s' F F' (closure y r) → Sits (suc n + inside y) (s + 5 + bits y) (s' + 13) F F' r
      unfolding Spot Ok Finds
      closure_rest x = record { ok = x.ok.1; finds = x.finds.1; places = λ p q h. x.places p q (inr h); follows = x.follows }

      module _ {y z r : Basic} (x : Sits n s s' F F' (branch y z r)) where
        abbrev past : ℕ
        past = s + 5 + bits y + bits z

        abbrev past' : ℕ
        past' = s' + 5 + treeBits (indexed es n y) + treeBits (indexed es (n + inside y) z)

        branch_rest : Sits (n + inside y + inside z) past past' F F' r
        unfolding Spot Ok Finds
        branch_rest = record { ok = x.ok.2; finds = x.finds.2; places = λ p q h. x.places p q (inr (inr (inr h))); follows = x.follows }

        after : Twin P (first (n + inside y + inside z) past r F) (treeFirst es past' (indexed es (n + inside y + inside z) r) F')
        after = head_like r (n + inside y + inside z) past past' F F' branch_rest

        first_arm : Sits n (s + 5) (s' + 5) (first (n + inside y + inside z) past r F) (treeFirst es past' (indexed es (n + inside y + inside z) r) F') y
        unfolding Spot Ok Finds
        first_arm = record { ok = x.ok.0; finds = x.finds.0; places = λ p q h. x.places p q (inr (inl h)); follows = after }

        second_arm : Sits (n + inside y) (s + 5 + bits y) (s' + 5 + treeBits (indexed es n y))
            (first (n + inside y + inside z) past r F) (treeFirst es past' (indexed es (n + inside y + inside z) r) F') z
        unfolding Spot Ok Finds
        second_arm = record { ok = x.ok.1; finds = x.finds.1; places = λ p q h. x.places p q (inr (inr (inl h))); follows = after }

      module _ {m : ℕ} {y r : Basic} (x : Sits n s s' F F' (save m y r)) where
        saved : Sits n (s + 13) (s' + 13) F F' y
        unfolding Spot Ok Finds
        saved = record { ok = x.ok.1; finds = x.finds.0; places = λ p q h. x.places p q (inr (inl h)); follows = x.follows }

        save_rest : Sits (n + inside y) (s + 13 + bits y) (s' + 13 + treeBits (indexed es n y)) bad bad r
        unfolding Spot Ok Finds
        save_rest = record { ok = x.ok.2; finds = x.finds.1; places = λ p q h. x.places p q (inr (inr h)); follows = bad_t }

    -- ---- what stands at places that correspond
    here_like : (c : Basic) (n s s' : ℕ) (F F' : Fetched) → Sits n s s' F F' c → (p q : ℕ) → p ≡ s → q ≡ s'
        → Twin P (look n s c F p) (treeLook es s' (indexed es n c) F' q)
    here_like c n s s' F F' x p q e e' = rw (look_here c n s F p e, look_first es s' q (indexed es n c) F' e') (head_like c n s s' F F' x)

    simple_rest : (v : ℕ) (ns : List ℕ) (d : Code) (s q : ℕ) (F : Fetched) → PlainOk v ns → s < q
        → treeLook es s (put (simple v ns) d) F q ≡ treeLook es (s + (5 + 8 * length ns)) d F q
    unfolding put simple treeLook beyond
    simple_rest v ns d s q F return_ok h = rw (ne_eqb q s (λ z. omega arith)) refl
    simple_rest v ns d s q F (call_ok k) h = rw (ne_eqb q s (λ z. omega arith)) refl
    simple_rest v ns d s q F (neutral_ok l e k b) h =
        rw (ne_eqb v 1 (λ z. omega arith), ne_eqb v 2 (λ z. omega arith)) (look_neutral es s q v ns d F h)

    pub look_like : (c : Basic) (n s s' : ℕ) (F F' : Fetched) → Sits n s s' F F' c → (p q : ℕ) → Spot n s c s' p q
        → Twin P (look n s c F p) (treeLook es s' (indexed es n c) F' q)
    unfolding look indexed Spot
    look_like ended n s s' F F' x p q h = here_like ended n s s' F F' x p q h.0 h.1
    look_like (plain_code v ns r) n s s' F F' x p q (inl h) = here_like (plain_code v ns r) n s s' F F' x p q h.0 h.1
    look_like (plain_code v ns r) n s s' F F' x p q (inr h) =
        let y = plain_rest x in
        let w = spot_within r n _ _ p q y.ok h in
        rw (ne_eqb p s (λ z. omega (arith, w.from)), simple_rest v ns (indexed es n r) s' q F' (plain_of x) (omega (arith, w.from')))
        (look_like r n _ _ F F' y p q h)
    look_like (carries v e r) n s s' F F' x p q (inl h) = here_like (carries v e r) n s s' F F' x p q h.0 h.1
    look_like (carries v e r) n s s' F F' x p q (inr h) =
        let y = carries_rest x in
        let w = spot_within r n _ _ p q y.ok h in
        rw (ne_eqb p s (λ z. omega (arith, w.from)), look_neutral es s' q v (index_of e es ∷ []) (indexed es n r) F' (omega (arith, w.from')))
        (look_like r n _ _ F F' y p q h)
    look_like (closure a r) n s s' F F' x p q (inl h) = here_like (closure a r) n s s' F F' x p q h.0 h.1
    look_like (closure a r) n s s' F F' x p q (inr h) =
        let y = closure_rest x in
        let w = spot_within r (suc n + inside a) _ _ p q y.ok h in
        rw (
          ne_eqb p s (λ z. omega (arith, w.from)),
          look_neutral es s' q 7 (index_of (template n) es ∷ []) (indexed es (suc n + inside a) r) F' (omega (arith, w.from')),
        )
        (look_like r (suc n + inside a) _ _ F F' y p q h)
    look_like (branch a b r) n s s' F F' x p q (inl h) = here_like (branch a b r) n s s' F F' x p q h.0 h.1
    look_like (branch a b r) n s s' F F' x p q (inr (inl h)) =
        let y = first_arm x in
        let w = spot_within a n _ _ p q y.ok h in
        rw (
          ne_eqb p s (λ z. omega (arith, w.from)),
          lt-ltb p (s + 5 + bits a) (omega (arith, w.to)),
          look_first_arm es s' q (indexed es n a) (indexed es (n + inside a) b) (indexed es (n + inside a + inside b) r) F' (omega (arith, w.from'))
              (omega (arith, w.to')),
        )
        (look_like a n _ _ _ _ y p q h)
    look_like (branch a b r) n s s' F F' x p q (inr (inr (inl h))) =
        let y = second_arm x in
        let w = spot_within b (n + inside a) _ _ p q y.ok h in
        rw (
          ne_eqb p s (λ z. omega (arith, w.from)),
          le-ltb p (s + 5 + bits a) (omega (arith, w.from)),
          lt-ltb p (s + 5 + bits a + bits b) (omega (arith, w.to)),
          look_second_arm es s' q (indexed es n a) (indexed es (n + inside a) b) (indexed es (n + inside a + inside b) r) F' (omega (arith, w.from'))
              (omega (arith, w.from')) (omega (arith, w.to')),
        )
        (look_like b (n + inside a) _ _ _ _ y p q h)
    look_like (branch a b r) n s s' F F' x p q (inr (inr (inr h))) =
        let y = branch_rest x in
        let w = spot_within r (n + inside a + inside b) _ _ p q y.ok h in
        rw (
          ne_eqb p s (λ z. omega (arith, w.from)),
          le-ltb p (s + 5 + bits a) (omega (arith, w.from)),
          le-ltb p (s + 5 + bits a + bits b) (omega (arith, w.from)),
          look_after_arms es s' q (indexed es n a) (indexed es (n + inside a) b) (indexed es (n + inside a + inside b) r) F' (omega (arith, w.from'))
              (omega (arith, w.from')),
        )
        (look_like r (n + inside a + inside b) _ _ F F' y p q h)
    look_like (save m a r) n s s' F F' x p q (inl h) = here_like (save m a r) n s s' F F' x p q h.0 h.1
    look_like (save m a r) n s s' F F' x p q (inr (inl h)) =
        let y = saved x in
        let w = spot_within a n _ _ p q y.ok h in
        rw (
          ne_eqb p s (λ z. omega (arith, w.from)),
          lt-ltb p (s + 13 + bits a) (omega (arith, w.to)),
          look_saved es s' q m (indexed es n a) (indexed es (n + inside a) r) F' (omega (arith, w.from')) (omega (arith, w.to')),
        )
        (look_like a n _ _ F F' y p q h)
    look_like (save m a r) n s s' F F' x p q (inr (inr h)) =
        let y = save_rest x in
        let w = spot_within r (n + inside a) _ _ p q y.ok h in
        rw (
          ne_eqb p s (λ z. omega (arith, w.from)),
          le-ltb p (s + 13 + bits a) (omega (arith, w.from)),
          look_after_saved es s' q m (indexed es n a) (indexed es (n + inside a) r) F' (omega (arith, w.from')) (omega (arith, w.from')),
        )
        (look_like r (n + inside a) _ _ bad bad y p q h)
