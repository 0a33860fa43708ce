-- What the links find at each place of a list is what stands there. Assumes nothing.
use Rattle.std.specs.Prelude.{ℕ, suc, ◌+◌, ◌*◌, ◌/◌, ◌%◌, ◌≤◌, ◌<◌, ◌≡◌, length, get_or}
use Rattle.std.proofs.Common.{arith, inl, inr}
use Rattle.std.proofs.Math.Path.{refl}
use mathlib.Core.List.{List, []}
use Rattle.std.proofs.Math.Option.{Option, none, some}
use borrow.Author.Tests.{eq-eqb, ne_eqb, lt-ltb, le-ltb}
use Rattle.cells.specs.laws.Laws.{clash}
use Rattle.fields.specs.Field.{field_read}
use Rattle.files.specs.Code.{bits as treeBits}
use Rattle.files.specs.Entries.{Entry}
use Rattle.files.specs.Grammar.{entry_of}
use Rattle.links.specs.Links.{link_at}
use Rattle.rules.specs.declared.Plain.{Plain}
use Rattle.machines.specs.Fetched.{Fetched, bad, plainly, named_by, resolve}
use Rattle.machines.specs.Slots.{slot_names, slot_resolve}
use Rattle.basic.specs.Basic.{Basic, ended, plain, carries, closure, branch, save, carried_bits, bits}
use Rattle.basic.specs.Basic.{plain_t}
use Rattle.basic.specs.Valid.{PlainOk, return_ok, call_ok, neutral_ok, Ok}
use Rattle.basic.specs.Tabulated.{inside, indexed}
use Rattle.basic_program.specs.Program.{plain_at, carried, first, look}
use Rattle.basic_program.proofs.theorems.Spots.{Spot, spot_first, spot_within, Twin, plain_twin, return_twin, call_twin, branch_twin, save_twin, bad_t, no_names, look_here}
use Rattle.basic_code.specs.Fetch.{instruction_at, end_as, here_as}
use Rattle.basic_machine.specs.Links.{onward}
use Rattle.basic_machine.specs.laws.LinksLaws.{Linked}
use Rattle.basic_machine.specs.laws.Stands.{Stands}
use Rattle.basic_machine.specs.laws.Instructions.{instruction_of, instruction_is, end_is, here_is}

module _ (s L : List ℕ) (P : ℕ → ℕ → Type 0) where
  abbrev here : ℕ → Fetched
  here p = here_as s L p (field_read s p 5)

  -- execution goes on at f with F, or not at all
  pub data Follows (f : ℕ) (F : Fetched) : Type 0 where
    nowhere : f ≡ 0 → F ≡ bad → Follows f F
    there : (f ≡ 0 → ⊥) → Twin P (instruction_at s L f) F → Follows f F

  followed : {f : ℕ} {F : Fetched} → Follows f F → Twin P (end_as s L f) F
  unfolding end_as
  followed {f} {F} (nowhere e h) = rw (eq-eqb f 0 e, h) bad_t
  followed {f} {F} (there n h) = rw (ne_eqb f 0 n) h

  -- the list c that stands at a, with its links; after it execution goes on at f with F
  pub record Sits (n a z f : ℕ) (F : Fetched) (c : Basic) : Type 0 where
    pub ok : Ok c
    pub stands : Stands s a c
    pub links : Linked L n f a c
    pub few : n + inside c ≤ 64
    pub places : (p q : ℕ) → Spot [] n a c z p q → P p p
    pub follows : Follows f F

  plains : (o o' : Option Plain) (p : ℕ) → o ≡ o' → P p p → Twin P (plainly o p) (plainly o' p)
  unfolding plainly
  plains o o' p e h = rw (← e) (by o)
    where
      by : (o : Option Plain) → Twin P (plainly o p) (plainly o p)
      by none = bad_t
      by (some i) = plain_twin h

  plain_like : (v : ℕ) (ns : List ℕ) (a q : ℕ) → PlainOk v ns → P q q → Twin P (instruction_of s L a (plain_t v ns) q) (plain_at v ns q)
  unfolding instruction_of plain_at slot_resolve resolve
  plain_like v ns a q return_ok h = return_twin
  plain_like v ns a q (call_ok k) h = call_twin
  plain_like v ns a q (neutral_ok l e k b) h =
      rw (ne_eqb v 1 (λ z. omega arith), ne_eqb v 2 (λ z. omega arith))
      (plains _ _ q (no_names (λ n. slot_names 0) (λ n. named_by (entry_of [] n)) v (get_or ns 0 0) (get_or ns 1 0) l) h)

  packed : (u x n : ℕ) → u ≡ 64 * x + n → n < 64 → (u % 64 ≡ n) × (u / 64 ≡ x)
  packed u x n e h = (omega arith, omega arith)

  -- what begins a list that is not empty
  head : (c : Basic) (n a z f : ℕ) (F : Fetched) → Sits n a z f F c → (c ≡ ended → ⊥) → Twin P (instruction_at s L a) (first n a c F)
  unfolding first Stands Linked Spot Ok inside instruction_of
  head ended n a z f F x other = absurd (other refl)
  head (plain v ns r) n a z f F x other =
      rw (instruction_is s L a x.stands.0) (plain_like v ns a _ x.ok.0 (x.places _ _ (inr (spot_first [] r n _ _))))
  head (carries v e r) n a z f F x other =
      rw (instruction_is s L a x.stands.0) (plains (carried v e) (carried v e) _ refl (x.places _ _ (inr (spot_first [] r n _ _))))
  head (closure y r) n a z f F x other =
      let k = packed (link_at L a) (a + 5 + bits y) n x.links.0 (omega (arith, x.few)) in
      rw (instruction_is s L a x.stands.0, k.0, k.1) (plain_twin (x.places _ _ (inr (spot_first [] r (suc n + inside y) _ _))))
  head (branch y w r) n a z f F x other =
      rw (instruction_is s L a x.stands.0, x.links.0)
      (branch_twin (x.places _ _ (inr (inl (spot_first [] y n _ _)))) (x.places _ _ (inr (inr (inl (spot_first [] w (n + inside y) _ _))))))
  head (save m y r) n a z f F x other =
      rw (instruction_is s L a x.stands.0, x.links.0)
      (save_twin x.ok.0 (x.places _ _ (inr (inl (spot_first [] y n _ _)))) (x.places _ _ (inr (inr (spot_first [] r (n + inside y) _ _)))))

  -- it is no list's end
  head_here : (c : Basic) (n a z f : ℕ) (F : Fetched) → Sits n a z f F c → Twin P (here a) (first n a c F)
  unfolding first Stands Linked
  head_here ended n a z f F x = rw (end_is s L a x.stands, x.links) (followed x.follows)
  head_here (plain v ns r) n a z f F x = rw (here_is s L a x.stands.0 (λ q h. clash (cc))) (head (plain v ns r) n a z f F x (λ h. clash (cc)))
  head_here (carries v e r) n a z f F x = rw (here_is s L a x.stands.0 (λ q h. clash (cc))) (head (carries v e r) n a z f F x (λ h. clash (cc)))
  head_here (closure y r) n a z f F x = rw (here_is s L a x.stands.0 (λ q h. clash (cc))) (head (closure y r) n a z f F x (λ h. clash (cc)))
  head_here (branch y w r) n a z f F x = rw (here_is s L a x.stands.0 (λ q h. clash (cc))) (head (branch y w r) n a z f F x (λ h. clash (cc)))
  head_here (save m y r) n a z f F x = rw (here_is s L a x.stands.0 (λ q h. clash (cc))) (head (save m y r) n a z f F x (λ h. clash (cc)))

  -- what follows arms: the rest of their conditional
  rest_follows : (c : Basic) (n a z f : ℕ) (F : Fetched) → (a ≡ 0 → ⊥) → Sits n a z f F c → Follows (onward c f a) (first n a c F)
  unfolding onward first
  rest_follows ended n a z f F h x = x.follows
  rest_follows (plain v ns r) n a z f F h x = there h (head (plain v ns r) n a z f F x (λ h. clash (cc)))
  rest_follows (carries v e r) n a z f F h x = there h (head (carries v e r) n a z f F x (λ h. clash (cc)))
  rest_follows (closure y r) n a z f F h x = there h (head (closure y r) n a z f F x (λ h. clash (cc)))
  rest_follows (branch y w r) n a z f F h x = there h (head (branch y w r) n a z f F x (λ h. clash (cc)))
  rest_follows (save m y r) n a z f F h x = there h (head (save m y r) n a z f F x (λ h. clash (cc)))

  -- ---- the lists in a list
  module _ {n a z f : ℕ} {F : Fetched} where
    plain_rest : {v : ℕ} {ns : List ℕ} {r : Basic} → Sits n a z f F (plain v ns r) → Sits n (a + (5 + 8 * length ns)) (z + (5 + 8 * length ns)) f F r
    unfolding Spot Ok Stands Linked inside
    plain_rest x = record {
      ok = x.ok.1;
      stands = x.stands.1;
      links = x.links;
      few = x.few;
      places = λ p q h. x.places p q (inr h);
      follows = x.follows;
    }

    carries_rest : {v : ℕ} {e : Entry} {r : Basic} → Sits n a z f F (carries v e r) → Sits n (a + (5 + carried_bits e)) (z + 13) f F r
    unfolding Spot Ok Stands Linked inside
    carries_rest x = record {
      ok = x.ok.1;
      stands = x.stands.1;
      links = x.links;
      few = x.few;
      places = λ p q h. x.places p q (inr h);
      follows = x.follows;
    }

    closure_rest : {y r : Basic} → Sits n a z f F (closure y r) → Sits (suc n + inside y) (a + 5 + bits y) (z + 13) f F r
    unfolding Spot Ok Stands Linked inside
    closure_rest x = record {
      ok = x.ok.1;
      stands = x.stands.2;
      links = x.links.2;
      few = omega (arith, x.few);
      places = λ p q h. x.places p q (inr h);
      follows = x.follows;
    }

    module _ {y w r : Basic} (x : Sits n a z f F (branch y w r)) where
      abbrev past : ℕ
      past = a + 5 + bits y + bits w

      abbrev after : Fetched
      after = first (n + inside y + inside w) past r F

      branch_rest : Sits (n + inside y + inside w) past (z + 5 + treeBits (indexed [] n y) + treeBits (indexed [] (n + inside y) w)) f F r
      unfolding Spot Ok Stands Linked inside
      branch_rest = record {
        ok = x.ok.2;
        stands = x.stands.3;
        links = x.links.3;
        few = omega (arith, x.few);
        places = λ p q h. x.places p q (inr (inr (inr h)));
        follows = x.follows;
      }

      after_arms : Follows (onward r f past) after
      after_arms = rest_follows r (n + inside y + inside w) past _ f F (λ e. omega arith) branch_rest

      first_arm : Sits n (a + 5) (z + 5) (onward r f past) after y
      unfolding Spot Ok Stands Linked inside
      first_arm = record {
        ok = x.ok.0;
        stands = x.stands.1;
        links = x.links.1;
        few = omega (arith, x.few);
        places = λ p q h. x.places p q (inr (inl h));
        follows = after_arms;
      }

      second_arm : Sits (n + inside y) (a + 5 + bits y) (z + 5 + treeBits (indexed [] n y)) (onward r f past) after w
      unfolding Spot Ok Stands Linked inside
      second_arm = record {
        ok = x.ok.1;
        stands = x.stands.2;
        links = x.links.2;
        few = omega (arith, x.few);
        places = λ p q h. x.places p q (inr (inr (inl h)));
        follows = after_arms;
      }

    module _ {m : ℕ} {y r : Basic} (x : Sits n a z f F (save m y r)) where
      saved : Sits n (a + 13) (z + 13) f F y
      unfolding Spot Ok Stands Linked inside
      saved = record {
        ok = x.ok.1;
        stands = x.stands.1;
        links = x.links.1;
        few = omega (arith, x.few);
        places = λ p q h. x.places p q (inr (inl h));
        follows = x.follows;
      }

      save_rest : Sits (n + inside y) (a + 13 + bits y) (z + 13 + treeBits (indexed [] n y)) 0 bad r
      unfolding Spot Ok Stands Linked inside
      save_rest = record {
        ok = x.ok.2;
        stands = x.stands.2;
        links = x.links.2;
        few = omega (arith, x.few);
        places = λ p q h. x.places p q (inr (inr h));
        follows = nowhere refl refl;
      }

  -- ---- at every place
  at_first : (c : Basic) (n a z f : ℕ) (F : Fetched) → Sits n a z f F c → (p : ℕ) → p ≡ a → Twin P (here p) (look n a c F p)
  at_first c n a z f F x p e = rw (look_here c n a F p e, e) (head_here c n a z f F x)

  -- THE LAW
  pub look_found : (c : Basic) (n a z f : ℕ) (F : Fetched) → Sits n a z f F c → (p q : ℕ) → Spot [] n a c z p q → Twin P (here p) (look n a c F p)
  unfolding look Spot
  look_found ended n a z f F x p q h = at_first ended n a z f F x p h.0
  look_found (plain v ns r) n a z f F x p q (inl h) = at_first (plain v ns r) n a z f F x p h.0
  look_found (plain v ns r) n a z f F x p q (inr h) =
      let y = plain_rest x in
      let w = spot_within [] r n _ _ p q y.ok h in
      rw (ne_eqb p a (λ e. omega (arith, w.from))) (look_found r n _ _ f F y p q h)
  look_found (carries v e r) n a z f F x p q (inl h) = at_first (carries v e r) n a z f F x p h.0
  look_found (carries v e r) n a z f F x p q (inr h) =
      let y = carries_rest x in
      let w = spot_within [] r n _ _ p q y.ok h in
      rw (ne_eqb p a (λ e. omega (arith, w.from))) (look_found r n _ _ f F y p q h)
  look_found (closure b r) n a z f F x p q (inl h) = at_first (closure b r) n a z f F x p h.0
  look_found (closure b r) n a z f F x p q (inr h) =
      let y = closure_rest x in
      let w = spot_within [] r (suc n + inside b) _ _ p q y.ok h in
      rw (ne_eqb p a (λ e. omega (arith, w.from))) (look_found r (suc n + inside b) _ _ f F y p q h)
  look_found (branch b d r) n a z f F x p q (inl h) = at_first (branch b d r) n a z f F x p h.0
  look_found (branch b d r) n a z f F x p q (inr (inl h)) =
      let y = first_arm x in
      let w = spot_within [] b n _ _ p q y.ok h in
      rw (ne_eqb p a (λ e. omega (arith, w.from)), lt-ltb p (a + 5 + bits b) (omega (arith, w.to))) (look_found b n _ _ _ _ y p q h)
  look_found (branch b d r) n a z f F x p q (inr (inr (inl h))) =
      let y = second_arm x in
      let w = spot_within [] d (n + inside b) _ _ p q y.ok h in
      rw (
        ne_eqb p a (λ e. omega (arith, w.from)),
        le-ltb p (a + 5 + bits b) (omega (arith, w.from)),
        lt-ltb p (a + 5 + bits b + bits d) (omega (arith, w.to)),
      )
      (look_found d (n + inside b) _ _ _ _ y p q h)
  look_found (branch b d r) n a z f F x p q (inr (inr (inr h))) =
      let y = branch_rest x in
      let w = spot_within [] r (n + inside b + inside d) _ _ p q y.ok h in
      rw (
        ne_eqb p a (λ e. omega (arith, w.from)),
        le-ltb p (a + 5 + bits b) (omega (arith, w.from)),
        le-ltb p (a + 5 + bits b + bits d) (omega (arith, w.from)),
      )
      (look_found r (n + inside b + inside d) _ _ f F y p q h)
  look_found (save m b r) n a z f F x p q (inl h) = at_first (save m b r) n a z f F x p h.0
  look_found (save m b r) n a z f F x p q (inr (inl h)) =
      let y = saved x in
      let w = spot_within [] b n _ _ p q y.ok h in
      rw (ne_eqb p a (λ e. omega (arith, w.from)), lt-ltb p (a + 13 + bits b) (omega (arith, w.to))) (look_found b n _ _ f F y p q h)
  look_found (save m b r) n a z f F x p q (inr (inr h)) =
      let y = save_rest x in
      let w = spot_within [] r (n + inside b) _ _ p q y.ok h in
      rw (ne_eqb p a (λ e. omega (arith, w.from)), le-ltb p (a + 13 + bits b) (omega (arith, w.from))) (look_found r (n + inside b) _ _ 0 bad y p q h)
