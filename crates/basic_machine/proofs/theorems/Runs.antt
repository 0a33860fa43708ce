-- A run by the links and the table of an accepted basic file is a run of its basic code: the two programs are in step (lockstep), at equal places at which
-- execution can be. Assumes nothing.
use Prim.Native.Nat.{ℕ, zero, suc, ◌+◌, ◌*◌, ◌≤◌, ◌<◌, ◌^◌}
use native.Mathlib.Omega.{arith}
use Rattle.std.specs.Prelude.{◌≡◌, Bool, ◌&&◌, length, get_or}
use Rattle.std.proofs.Math.Path.{refl, ap}
use Rattle.std.proofs.Math.Bool.{true, false, cond, not}
use mathlib.Core.List.{List, [], ◌∷◌, ◌++◌}
use Rattle.std.proofs.Common.{ne_eqb, eq-eqb, eqb-true}
use Rattle.std.proofs.Math.Dec.{eqb}
use Rattle.std.proofs.Math.ListN.{get_or-eq_default}
use Rattle.fields.specs.Field.{field_read}
use Rattle.rules.specs.laws.Lists.{by_lt}
use Rattle.owners.specs.declared.Owner.{Owner}
use Rattle.machines.specs.Fetched.{Fetched, bad, returns}
use Rattle.machines.specs.Machine.{Program, no_counts, Ended}
use Rattle.machines.specs.Runs.{reported, start_state, program_run}
use Rattle.machines.specs.Steps.{ran_from}
use Rattle.machines.specs.Slots.{slot_at}
use Rattle.lockstep.proofs.theorems.Frames.{Savable}
use Rattle.lockstep.specs.laws.InStep.{Fetches, plain_f, return_f, call_f, branch_f, save_f, bad_f, Paired, EndedR, no_counts_lem, run_alike}
use Rattle.lockstep.proofs.theorems.Same.{same_but_places, same_data, start_same}
use Rattle.basic.specs.Basic.{Basic, ended, plain, carries, closure, branch, save, bits}
use Rattle.basic.specs.Valid.{Ok}
use Rattle.basic.specs.Tabulated.{inside}
use Rattle.basic_program.specs.Program.{Body, body, bodies, all_bodies, no_body, look, first, plain_at, basic_at, basic_program}
use Rattle.basic_program.proofs.theorems.Spots.{Spot, spot_first, spot_within, Twin, plain_twin, return_twin, call_twin, branch_twin, save_twin, bad_t}
use Rattle.basic_code.specs.Fetch.{here_as, fetched_at, basic_linked}
use Rattle.basic_machine.specs.laws.LinksLaws.{Linked}
use Rattle.basic_machine.specs.laws.Stands.{Stands}
use Rattle.basic_machine.proofs.theorems.Found.{look_found, nowhere}

-- ---- each template's list, with its codes and its links
module _ (s L : List ℕ) where
  pub record Good (x : Body) : Type 0 where
    pub ok : Ok x.list
    pub stands : Stands s x.start x.list
    pub links : Linked L x.next 0 x.start x.list
    pub few : x.next + inside x.list ≤ 64
    pub short : x.start + bits x.list ≤ 8 * 65536

  -- those of closures begin past the file's first code
  unfoldable Closures : List Body → Type 0
  Closures [] = Unit
  Closures (x ∷ xs) = Good x × (5 ≤ x.start) × Closures xs

  both : (xs ys : List Body) → Closures xs → Closures ys → Closures (xs ++ ys)
  unfolding Closures
  both [] ys h k = k
  both (x ∷ xs) ys h k = (h.0, h.1, both xs ys h.2 k)

  -- of a list c at a
  closures_good : (n f a : ℕ) (c : Basic) → Ok c → Stands s a c → Linked L n f a c → n + inside c ≤ 64 → a + bits c ≤ 8 * 65536 → Closures (bodies n a c)
  unfolding bodies Closures Ok Stands Linked inside bits
  closures_good n f a ended o h k w z = tt
  closures_good n f a (plain v ns r) o h k w z = closures_good n f _ r o.1 h.1 k w (omega arith)
  closures_good n f a (carries v e r) o h k w z = closures_good n f _ r o.1 h.1 k w (omega arith)
  closures_good n f a (closure x r) o h k w z = (
    record { ok = o.0; stands = h.1; links = k.1; few = omega arith; short = omega arith },
    omega arith,
    both (bodies (suc n) (a + 5) x) (bodies (suc n + inside x) (a + 5 + bits x) r)
        (closures_good (suc n) 0 (a + 5) x o.0 h.1 k.1 (omega arith) (omega arith))
        (closures_good (suc n + inside x) f (a + 5 + bits x) r o.1 h.2 k.2 (omega arith) (omega arith)),
  )
  closures_good n f a (branch x y r) o h k w z =
      both (bodies n (a + 5) x) (bodies (n + inside x) (a + 5 + bits x) y ++ bodies (n + inside x + inside y) (a + 5 + bits x + bits y) r)
      (closures_good n _ (a + 5) x o.0 h.1 k.1 (omega arith) (omega arith))
      (both (bodies (n + inside x) (a + 5 + bits x) y) (bodies (n + inside x + inside y) (a + 5 + bits x + bits y) r)
      (closures_good (n + inside x) _ (a + 5 + bits x) y o.1 h.2 k.2 (omega arith) (omega arith))
      (closures_good (n + inside x + inside y) f (a + 5 + bits x + bits y) r o.2 h.3 k.3 (omega arith) (omega arith)))
  closures_good n f a (save m x r) o h k w z =
      both (bodies n (a + 13) x) (bodies (n + inside x) (a + 13 + bits x) r)
      (closures_good n f (a + 13) x o.1 h.1 k.1 (omega arith) (omega arith))
      (closures_good (n + inside x) 0 (a + 13 + bits x) r o.2 h.2 k.2 (omega arith) (omega arith))

  closures_at : (xs : List Body) (t : ℕ) → Closures xs → t < length xs → Good (get_or xs t no_body) × (5 ≤ (get_or xs t no_body).start)
  unfolding Closures
  closures_at [] t h l = absurd (omega arith)
  closures_at (x ∷ xs) zero h l = (h.0, h.1)
  closures_at (x ∷ xs) (suc t) h l = closures_at xs t h.2 (omega arith)

-- the file's list stands at bit 0 and has its links, and the table has where each template begins
module _ (s L table : List ℕ) (c : Basic) (whole : Good s L (body 1 0 c))
    (tabled : (t : ℕ) → slot_at table t 0 ≡ (get_or (all_bodies c) t no_body).start) (o : Owner) where
  abbrev P : Program
  P = basic_linked s L table

  abbrev Q : Program
  Q = basic_program c

  abbrev at : ℕ → Body
  at t = get_or (all_bodies c) t no_body

  none_left : (t : ℕ) → length (all_bodies c) ≤ t → t ≡ 0 → ⊥
  unfolding all_bodies
  none_left t l z = absurd (omega arith)

  closures : Closures s L (bodies 1 0 c)
  closures = closures_good s L 1 0 0 c whole.ok whole.stands whole.links whole.few whole.short

  good : (t : ℕ) → t < length (all_bodies c) → Good s L (at t)
  unfolding all_bodies
  good zero l = whole
  good (suc t) l = (closures_at s L (bodies 1 0 c) t closures (omega arith)).0

  -- only template 0 begins at place 0
  later : (t : ℕ) → t < length (all_bodies c) → (at t).start < 5 → t ≡ 0
  unfolding all_bodies
  later zero l h = refl
  later (suc t) l h = absurd (omega (arith, (closures_at s L (bodies 1 0 c) t closures (omega arith)).1))

  no_body_lem : (t : ℕ) → length (all_bodies c) ≤ t → at t ≡ no_body
  no_body_lem t h = get_or-eq_default (all_bodies c) no_body h

  -- ---- the places at which execution can be in template t; a template that is not there has place 0
  data Standing (t p : ℕ) : Type 0 where
    within : t < length (all_bodies c) → (q : ℕ) → Spot [] (at t).next (at t).start (at t).list 0 p q → Standing t p
    outside : length (all_bodies c) ≤ t → p ≡ 0 → Standing t p

  standing_fits : (t p : ℕ) → Standing t p → p < 2 ^ 24
  standing_fits t p (within l q h) =
      let g = good t l in
      let w = spot_within [] (at t).list (at t).next (at t).start 0 p q g.ok h in
      omega (arith, w.to, g.short)
  standing_fits t p (outside l e) = omega arith

  start_stands : (t : ℕ) → Standing t (at t).start
  start_stands t =
      by_lt t (length (all_bodies c))
      (λ l. within l 0 (spot_first [] (at t).list (at t).next (at t).start 0))
      (λ l. outside l (ap (λ (x : Body). x.start) (no_body_lem t l)))

  -- ---- the same is fetched
  Here : ℕ → ℕ → ℕ → Type 0
  Here t p q = (p ≡ q) × Standing t p

  here_fetched : (t p : ℕ) → (p ≡ 0 → t ≡ 0) → fetched_at s L t p ≡ here_as s L p (field_read s p 5)
  unfolding fetched_at
  here_fetched t p h = ap (λ b. cond b returns (here_as s L p (field_read s p 5))) (by (eqb p 0) refl)
    where
      by : (b : Bool) → eqb p 0 ≡ b → (b && not (eqb t 0)) ≡ false
      by true e = rw (eq-eqb t 0 (h (eqb-true p 0 e))) refl
      by false e = refl

  gone : (t : ℕ) → (t ≡ 0 → ⊥) → Twin (Here t) (fetched_at s L t 0) (look 1 0 (plain 1 [] ended) bad 0)
  unfolding fetched_at look first plain_at
  gone t h = rw (ne_eqb t 0 h) return_twin

  same_stands : (t p : ℕ) → Standing t p → Twin (Here t) (fetched_at s L t p) (basic_at c t p)
  unfolding basic_at Here
  same_stands t p (within l q h) =
      let g = good t l in
      let w = spot_within [] (at t).list (at t).next (at t).start 0 p q g.ok h in
      rw (here_fetched t p (λ e. later t l (omega (arith, w.from))))
      (look_found s L (Here t) (at t).list (at t).next (at t).start 0 0 bad
      (record {
        ok = g.ok;
        stands = g.stands;
        links = g.links;
        few = g.few;
        places = λ p q h. (refl, within l q h);
        follows = nowhere refl refl;
      }) p q h)
  same_stands t p (outside l e) = rw (e, no_body_lem t l) (gone t (none_left t l))

  -- equal places at which execution can be
  abbrev R : ℕ → ℕ → ℕ → ℕ → ℕ → Type 0
  R t p t' p' j = (t ≡ t') × (p ≡ p') × Standing t p × (t < 2 ^ 8) × (j ≡ 0)

  goes : (t p q : ℕ) → t < 2 ^ 8 → Here t p q → R t p t q 0
  unfolding Here
  goes t p q h r = (refl, r.0, r.1, h, refl)

  fetched : (t : ℕ) {F G : Fetched} → t < 2 ^ 8 → Twin (Here t) F G → Fetches R (same_but_places R o) ⊥ t t F G
  unfolding same_but_places Here
  fetched t h (plain_twin {p = p} {q = q} r) = plain_f refl (goes t p q h r)
  fetched t h return_twin = return_f
  fetched t h call_twin = call_f
  fetched t h (branch_twin {p₁ = p₁} {p₂ = p₂} {q₁ = q₁} {q₂ = q₂} r₁ r₂) = branch_f (λ z. absurd z) (goes t p₁ q₁ h r₁) (goes t p₂ q₂ h r₂)
  fetched t h (save_twin {n = n} {p₁ = p₁} {p₂ = p₂} {q₁ = q₁} {q₂ = q₂} l r₁ r₂) =
      let f : p₁ < 2 ^ 24 = standing_fits t p₁ r₁.1 in
      let e : p₁ ≡ q₁ = r₁.0 in
      let v : Savable R n t p₁ t q₁ 0 =
      record { n_fits = l; t_fits = h; p_fits = f; t'_fits = h; q_fits = omega arith; places = goes t p₁ q₁ h r₁ } in
      save_f v (goes t p₂ q₂ h r₂)
  fetched t h bad_t = bad_f

  paired : Paired R (same_but_places R o) ⊥ P Q
  unfolding same_but_places
  paired = record {
    fetches = λ {t} {p} r. rw (← r.0, ← r.1) (fetched t r.3 (same_stands t p r.2));
    starts = λ {t} r. rw (← r.0) (refl, tabled t, rw (tabled t) (start_stands t), r.1, refl);
  }

  ends_same : {x y : Ended} → EndedR R (same_but_places R o) ⊥ x y → reported x ≡ reported y
  unfolding reported same_but_places
  ends_same e = rw (e.same_ending, e.tallies.same_steps, same_data R (λ t p t' q j r. (r.0, r.1)) e.states.data_ok) refl

  -- THE LAW
  pub basic_run_lem : (b : ℕ) (g : List ℕ) → ran_from o P b 0 (start_state g (slot_at table 0 0)) ≡ reported (program_run o (basic_program c) b g)
  unfolding program_run ran_from start_state same_but_places
  basic_run_lem b g =
      rw (tabled 0)
      (ends_same
      (run_alike R (same_but_places R o) ⊥ P Q paired b no_counts no_counts (start_state g (Q.start 0)) (start_state g (Q.start 0))
      (no_counts_lem R (same_but_places R o) ⊥)
      (record { data_ok = start_same R g (Q.start 0) (Q.start 0); place_ok = (refl, refl, start_stands 0, omega arith, refl) })))
