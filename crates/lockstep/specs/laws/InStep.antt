-- Two programs that do the same at places that correspond, step by step: with the same budget they end alike, out of budget too, with the same
-- steps and jumps, and where that is exact the same first arms. Lockstep says more of forms whose steps differ, and nothing of a run out of budget.
-- Assumes nothing.
use Prim.Native.Nat.{ℕ, zero, suc, ◌+◌}
use native.Mathlib.Omega.{arith}
use Rattle.std.specs.Prelude.{◌≡◌, Bool, true, false, cond}
use Rattle.std.proofs.Math.Path.{refl}
use Rattle.std.proofs.Common.{ap, subst}
use Rattle.rules.specs.State.{Res}
use Rattle.rules.specs.Rules.{Data, Back, is_false}
use Rattle.rules.specs.laws.Related.{ResR, ok_r, wrong_r, BackR, none_b, some_b}
use Rattle.rules.specs.declared.Plain.{Plain}
use Rattle.machines.specs.Fetched.{Fetched, plain, returns, calls, branches, saves, jumps, bad}
use Rattle.machines.specs.Machine.{Program, State, at, Step, go, halt, stop, bind, returned, act, step}
use Rattle.machines.specs.Machine.{Counts, no_counts, jump_count, first_count, counted, Ended, next, run}
use Rattle.lockstep.specs.laws.Lockstep.{Kin, Agree, Match, plain_m, return_m, call_m, branch_m, save_m, hop_m, bad_m, now_m}

-- Exact: whether the two tell open conditionals alike
module _ (R : ℕ → ℕ → ℕ → ℕ → ℕ → Type 0) (K : Kin R) (Exact : Type 0) where
  -- at templates t and t': the two do the same, and go on at places that correspond
  pub data Fetches (t t' : ℕ) : Fetched → Fetched → Type 0 where
    plain_f : {i i' : Plain} {p q : ℕ} → K.IR i i' → R t p t' q 0 → Fetches t t' (plain i p) (plain i' q)
    return_f : Fetches t t' returns returns
    call_f : {n : ℕ} → Fetches t t' (calls n) (calls n)
    branch_f : {o o' p₁ p₂ q₁ q₂ : ℕ} → (Exact → o ≡ o') → R t p₁ t' q₁ 0 → R t p₂ t' q₂ 0 → Fetches t t' (branches o p₁ p₂) (branches o' q₁ q₂)
    save_f : {n p₁ p₂ q₁ q₂ : ℕ} → K.SR n t p₁ t' q₁ 0 → R t p₂ t' q₂ 0 → Fetches t t' (saves n p₁ p₂) (saves n q₁ q₂)
    jump_f : {p q : ℕ} → R t p t' q 0 → Fetches t t' (jumps p) (jumps q)
    bad_f : Fetches t t' bad bad

  pub record Paired (P₁ P₂ : Program) : Type 0 where
    pub fetches : {t p t' q : ℕ} → R t p t' q 0 → Fetches t t' (P₁.fetch t p) (P₂.fetch t' q)
    pub starts : {t t' : ℕ} → K.TR t t' → R t (P₁.start t) t' (P₂.start t') 0

  pub record StateR (s₁ s₂ : State) : Type 0 where
    pub data_ok : K.DR s₁.now s₂.now 0
    pub place_ok : R s₁.template s₁.place s₂.template s₂.place 0

  pub record CountsR (k₁ k₂ : Counts) : Type 0 where
    pub same_steps : k₁.steps ≡ k₂.steps
    pub same_jumps : k₁.jumps ≡ k₂.jumps
    pub same_firsts : Exact → k₁.firsts ≡ k₂.firsts

  pub no_counts_lem : CountsR no_counts no_counts
  no_counts_lem = record { same_steps = refl; same_jumps = refl; same_firsts = λ x. refl }

  pub record EndedR (x y : Ended) : Type 0 where
    pub same_ending : x.ending ≡ y.ending
    pub tallies : CountsR x.counts y.counts
    pub states : StateR x.state y.state

  pub same_counts : Exact → {x y : Ended} → EndedR x y → x.counts ≡ y.counts
  same_counts x e = let c = e.tallies in (λ i. record { steps = c.same_steps i; jumps = c.same_jumps i; firsts = c.same_firsts x i })

  -- what two steps lead to
  data StepR : Step → Step → Type 0 where
    go_r : {s₁ s₂ : State} → StateR s₁ s₂ → StepR (go s₁) (go s₂)
    halt_r : StepR halt halt
    stop_r : {n : ℕ} → StepR (stop n) (stop n)

  goes : {d₁ d₂ : Data} {t₁ t₂ p₁ p₂ : ℕ} → K.DR d₁ d₂ 0 → R t₁ p₁ t₂ p₂ 0 → StepR (go (at d₁ t₁ p₁)) (go (at d₂ t₂ p₂))
  goes d r = go_r (record { data_ok = d; place_ok = r })

  binds : {B : Type 0} {Q : B → B → Type 0} {r r' : Res B} {f g : B → Step} → ResR Q r r' → ((a b : B) → Q a b → StepR (f a) (g b))
      → StepR (bind r f) (bind r' g)
  unfolding bind
  binds (ok_r {a = a} {b = b} q) k = k a b q
  binds wrong_r k = stop_r

  backs : {x y : Back} {n : ℕ} → BackR R K.DR x y n → n ≡ 0 → StepR (returned x) (returned y)
  unfolding returned
  backs none_b e = halt_r
  backs (some_b {t = t} {p = p} {t' = t'} {q = q} {j = j} {J = J} {d = d} {d' = d'} r k e) h =
      let a : j ≡ 0 = omega arith in
      let b : J ≡ 0 = omega arith in
      goes (subst (λ n. K.DR d d' n) b k) (subst (λ n. R t p t' q n) a r)

  arms : {d₁ d₂ : Data} {t₁ t₂ p₁ p₂ q₁ q₂ : ℕ} (b : Bool) → K.DR d₁ d₂ 0 → R t₁ p₁ t₂ q₁ 0 → R t₁ p₂ t₂ q₂ 0
      → StepR (go (at d₁ t₁ (cond b p₂ p₁))) (go (at d₂ t₂ (cond b q₂ q₁)))
  arms true d r₁ r₂ = goes d r₂
  arms false d r₁ r₂ = goes d r₁

  module _ (P₁ P₂ : Program) (A : Paired P₁ P₂) where
    acts : (s₁ s₂ : State) {F G : Fetched} → K.DR s₁.now s₂.now 0 → Fetches s₁.template s₂.template F G
        → StepR (act K.owner P₁ F s₁) (act K.owner P₂ G s₂)
    unfolding act
    acts s₁ s₂ d (plain_f x r) = binds (K.apply_ok x d) (λ a b y. goes y r)
    acts s₁ s₂ d return_f = backs (K.back_ok d) refl
    acts s₁ s₂ d (call_f {n = n}) = binds (K.call_ok n d) (λ a b y. goes y.1 (A.starts y.0))
    acts s₁ s₂ d (branch_f e r₁ r₂) = rw (← K.false_ok d) (arms (is_false s₁.now.regs) d r₁ r₂)
    acts s₁ s₂ d (save_f x r) = binds (K.keep_ok x d) (λ a b y. goes y r)
    acts s₁ s₂ d (jump_f r) = goes d r
    acts s₁ s₂ d bad_f = stop_r

    one : {k₁ k₂ : Counts} (j f₁ f₂ : ℕ) → CountsR k₁ k₂ → (Exact → f₁ ≡ f₂)
        → CountsR (record {
          steps = suc k₁.steps;
          jumps = j + k₁.jumps;
          firsts = f₁ + k₁.firsts;
        }) (record { steps = suc k₂.steps; jumps = j + k₂.jumps; firsts = f₂ + k₂.firsts })
    one j f₁ f₂ c e = record { same_steps = ap suc c.same_steps; same_jumps = rw c.same_jumps refl; same_firsts = λ x. rw (e x, c.same_firsts x) refl }

    counts_kept : (s₁ s₂ : State) {F G : Fetched} {k₁ k₂ : Counts} → CountsR k₁ k₂ → K.DR s₁.now s₂.now 0 → Fetches s₁.template s₂.template F G
        → CountsR (counted F s₁ k₁) (counted G s₂ k₂)
    unfolding counted jump_count first_count
    counts_kept s₁ s₂ c d (plain_f x r) = one 0 0 0 c (λ x. refl)
    counts_kept s₁ s₂ c d return_f = one 0 0 0 c (λ x. refl)
    counts_kept s₁ s₂ c d call_f = one 0 0 0 c (λ x. refl)
    counts_kept s₁ s₂ c d (branch_f e r₁ r₂) = one 0 _ _ c (λ x. rw (K.false_ok d, e x) refl)
    counts_kept s₁ s₂ c d (save_f x r) = one 0 0 0 c (λ x. refl)
    counts_kept s₁ s₂ c d (jump_f r) = one 1 0 0 c (λ x. refl)
    counts_kept s₁ s₂ c d bad_f = one 0 0 0 c (λ x. refl)

    turns : {k₁ k₂ k₁' k₂' : Counts} {s₁ s₂ : State} {o₁ o₂ : Step} (b : ℕ) → CountsR k₁ k₂ → CountsR k₁' k₂' → StateR s₁ s₂ → StepR o₁ o₂
        → ((k₁ k₂ : Counts) (s₁ s₂ : State) → CountsR k₁ k₂ → StateR s₁ s₂ → EndedR (run K.owner P₁ b k₁ s₁) (run K.owner P₂ b k₂ s₂))
        → EndedR (next (λ k s. run K.owner P₁ b k s) k₁ k₁' s₁ o₁) (next (λ k s. run K.owner P₂ b k s) k₂ k₂' s₂ o₂)
    unfolding next
    turns b c c' s (go_r {s₁ = s₁} {s₂ = s₂} r) ih = ih _ _ s₁ s₂ c' r
    turns b c c' s halt_r ih = record { same_ending = refl; tallies = c'; states = s }
    turns b c c' s stop_r ih = record { same_ending = refl; tallies = c; states = s }

    pub run_alike : (b : ℕ) (k₁ k₂ : Counts) (s₁ s₂ : State) → CountsR k₁ k₂ → StateR s₁ s₂ → EndedR (run K.owner P₁ b k₁ s₁) (run K.owner P₂ b k₂ s₂)
    unfolding run step
    run_alike zero k₁ k₂ s₁ s₂ c s = record { same_ending = refl; tallies = c; states = s }
    run_alike (suc b) k₁ k₂ s₁ s₂ c s =
        let f = A.fetches s.place_ok in
        turns b c (counts_kept s₁ s₂ c s.data_ok f) s (acts s₁ s₂ s.data_ok f) (λ k₁ k₂ s₁ s₂ c r. run_alike b k₁ k₂ s₁ s₂ c r)

    -- ---- Lockstep, with no weight and jumps on both sides, where no jump is ever pending
    module _ (quiet : (t p t' q j : ℕ) → R t p t' q j → j ≡ 0) (hole : K.Hole) where
      matches : {t t' : ℕ} {F G : Fetched} → Fetches t t' F G → Match R K 0 (Unit {0}) t t' F G 0
      matches (plain_f x r) = plain_m x r
      matches return_f = return_m
      matches call_f = call_m
      matches (branch_f {o = o} {o' = o'} e r₁ r₂) = branch_m {o = o} {o' = o'} {j = 0} {j₁ = 0} (omega arith) (omega arith) r₁ r₂
      matches (save_f x r) = save_m x r
      matches (jump_f r) = hop_m tt r
      matches bad_f = bad_m hole

      pub in_lockstep : Agree R K 0 (Unit {0}) P₁ P₂
      in_lockstep = record {
        meets = λ {t} {p} {t'} {q} {j} r.
            let z : j ≡ 0 = quiet t p t' q j r in
            rw z (now_m refl (matches (A.fetches (subst (λ n. R t p t' q n) z r))));
        starts = A.starts;
      }
