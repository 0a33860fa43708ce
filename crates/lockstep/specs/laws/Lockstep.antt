-- Two programs whose places correspond run alike. Assumes nothing.
use Prim.Native.Nat.{ℕ, zero, suc, ◌+◌, ◌*◌, ◌≤◌}
use Rattle.std.proofs.Common.{arith, ◌∙◌}
use Rattle.std.proofs.Math.Nat.{le_of_mul-le-mul_left}
use Rattle.std.proofs.Math.Path.{◌≡◌, refl, sym}
use Rattle.std.specs.Prelude.{Bool, cond}
use Rattle.std.proofs.Math.Bool.{true, false}
use Rattle.rules.specs.State.{Res}
use Rattle.owners.specs.declared.Owner.{Owner}
use Rattle.rules.specs.Owned.{owned_rule, owned_never}
use Rattle.rules.specs.Rules.{Data, applied, called, call_rule, make_cont_rule, Back, return_rule, is_false}
use Rattle.rules.specs.laws.Related.{ResR, ok_r, wrong_r, BackR, none_b, some_b}
use Rattle.rules.specs.laws.Never16.{Never16, other, call_never, make_cont_never}
use Rattle.rules.specs.declared.Plain.{Plain}
use Rattle.machines.specs.Fetched.{Fetched, plain, returns, calls, branches, saves, jumps, bad}
use Rattle.machines.specs.Machine.{Program, State, at, Step, go, halt, stop, bind, returned, act, here, step}
use Rattle.machines.specs.Machine.{Counts, jump_count, first_count, counted, Ending, halted, wrongly, spent, Ended, ended, next, run}

-- R t p t' q j: place p of template t of the first program corresponds to place q of template t' of the second, where j jumps are pending
module _ (R : ℕ → ℕ → ℕ → ℕ → ℕ → Type 0) where
  -- what of the data corresponds, and that the rules keep it
  pub record Kin : Type 1 where
    -- whose run both are
    pub owner : Owner
    -- with so many jumps pending in the frames
    pub DR : Data → Data → ℕ → Type 0
    pub IR : Plain → Plain → Type 0
    pub TR : ℕ → ℕ → Type 0
    -- n t p t' q j: these places may be saved
    pub SR : ℕ → ℕ → ℕ → ℕ → ℕ → ℕ → Type 0
    -- whether the programs may come to where no instruction stands
    pub Hole : Type 0
    pub apply_ok : {i i' : Plain} {d d' : Data} {J : ℕ} → IR i i' → DR d d' J
        → ResR (λ h h'. DR (applied d h) (applied d' h') J) (owned_rule owner i d.mem d.regs) (owned_rule owner i' d'.mem d'.regs)
    pub call_ok : (n : ℕ) {d d' : Data} {J : ℕ} → DR d d' J
        → ResR (λ r r'. TR r.0 r'.0 × DR (called d r.1) (called d' r'.1) J) (call_rule n d.regs) (call_rule n d'.regs)
    pub keep_ok : {n t p t' q j J : ℕ} {d d' : Data} → SR n t p t' q j → DR d d' J
        → ResR (λ a b. DR a b (j + J)) (make_cont_rule n t p d) (make_cont_rule n t' q d')
    pub back_ok : {d d' : Data} {J : ℕ} → DR d d' J → BackR R DR (return_rule d) (return_rule d') J
    pub false_ok : {d d' : Data} {J : ℕ} → DR d d' J → is_false d.regs ≡ is_false d'.regs

-- what ended ends so with more fuel
pub longer : (o : Owner) (P : Program) (b c : ℕ) (k : Counts) (s : State) → b ≤ c → ((run o P b k s).ending ≡ spent → ⊥) → run o P c k s ≡ run o P b k s
unfolding run next
longer o P zero c k s h n = absurd (n refl)
longer o P (suc b) zero k s h n = absurd (omega arith)
longer o P (suc b) (suc c) k s h n = turn (λ k' s' m. longer o P b c k' s' (omega arith) m) (step o P s) n
  where
    turn : ((k' : Counts) (s' : State) → ((run o P b k' s').ending ≡ spent → ⊥) → run o P c k' s' ≡ run o P b k' s') → (x : Step)
        → ((next (λ k' s'. run o P b k' s') k (counted (here P s) s k) s x).ending ≡ spent → ⊥)
        → next (λ k' s'. run o P c k' s') k (counted (here P s) s k) s x ≡ next (λ k' s'. run o P b k' s') k (counted (here P s) s k) s x
    turn ih (go s') n = ih (counted (here P s) s k) s' n
    turn ih halt n = refl
    turn ih (stop m) n = refl

-- w: how many jumps of the second program an open conditional's first arm of the first costs (1 for flat code, 0 for a form with the same
-- steps). Hop: whether the first program may jump too.
module _ (R : ℕ → ℕ → ℕ → ℕ → ℕ → Type 0) (K : Kin R) (w : ℕ) (Hop : Type 0) where
  -- at templates t and t': the two do the same, and go on at places that correspond; j jumps are pending
  pub data Match (t t' : ℕ) : Fetched → Fetched → ℕ → Type 0 where
    plain_m : {i i' : Plain} {p q j : ℕ} → K.IR i i' → R t p t' q j → Match t t' (plain i p) (plain i' q) j
    return_m : Match t t' returns returns 0
    call_m : {n : ℕ} → Match t t' (calls n) (calls n) 0
    branch_m : {o o' p₁ p₂ q₁ q₂ j j₁ : ℕ} → w * o ≤ w → j₁ ≡ w * o + j → R t p₁ t' q₁ j₁ → R t p₂ t' q₂ j → Match t t' (branches o p₁ p₂) (branches o' q₁ q₂) j
    save_m : {n p₁ p₂ q₁ q₂ j : ℕ} → K.SR n t p₁ t' q₁ j → R t p₂ t' q₂ 0 → Match t t' (saves n p₁ p₂) (saves n q₁ q₂) j
    hop_m : {p q j : ℕ} → Hop → R t p t' q j → Match t t' (jumps p) (jumps q) j
    bad_m : {j : ℕ} → K.Hole → Match t t' bad bad j

  module _ (fetch₂ : ℕ → ℕ → Fetched) where
    -- after some jumps the second program does what the first does at once
    pub data Meets (t t' : ℕ) : Fetched → ℕ → ℕ → Type 0 where
      now_m : {F G : Fetched} {q j : ℕ} → fetch₂ t' q ≡ G → Match t t' F G j → Meets t t' F q j
      jump_m : {F : Fetched} {q q' j : ℕ} → fetch₂ t' q ≡ jumps q' → Meets t t' F q' j → Meets t t' F q (suc j)

  pub record Agree (P₁ P₂ : Program) : Type 0 where
    pub meets : {t p t' q j : ℕ} → R t p t' q j → Meets P₂.fetch t t' (P₁.fetch t p) q j
    pub starts : {t t' : ℕ} → K.TR t t' → R t (P₁.start t) t' (P₂.start t') 0

  -- the counts: one step more for each jump, and each first arm taken is a jump made, or one of the j pending here and the J in the frames
  pub record Tally (k₁ k₂ : Counts) (j J : ℕ) : Type 0 where
    pub clock : k₂.steps + k₁.jumps ≡ k₁.steps + k₂.jumps
    pub tally : k₂.jumps + (j + J) ≡ k₁.jumps + w * k₁.firsts
    pub own : (Hop → ⊥) → k₁.jumps ≡ 0

  -- how two runs end alike
  pub record EndR (e : Ending) (k₁ k₂ : Counts) (s₁ s₂ : State) : Type 0 where
    pub pending : ℕ
    pub waiting : ℕ
    pub data_ok : K.DR s₁.now s₂.now waiting
    pub counts : Tally k₁ k₂ pending waiting
    pub quiet : e ≡ halted → (pending ≡ 0) × (waiting ≡ 0)
    pub only_there : e ≡ wrongly 16 → K.Hole

  module _ (P₁ P₂ : Program) (A : Agree P₁ P₂) where
    -- j jumps are pending at the place and J in the frames
    pub record Rel (k₁ k₂ : Counts) (s₁ s₂ : State) (j J : ℕ) : Type 0 where
      pub data_ok : K.DR s₁.now s₂.now J
      pub place_ok : Meets P₂.fetch s₁.template s₂.template (P₁.fetch s₁.template s₁.place) s₂.place j
      pub counts : Tally k₁ k₂ j J

    -- what two steps lead to; k and k' are the counts before and after them
    pub data StepR (k₁ k₂ k₁' k₂' : Counts) (s₁ s₂ : State) : Step → Step → ℕ → Type 0 where
      go_r : {s₁' s₂' : State} {j J n : ℕ} → Rel k₁' k₂' s₁' s₂' j J → j + J ≤ n → StepR k₁ k₂ k₁' k₂' s₁ s₂ (go s₁') (go s₂') n
      halt_r : {n : ℕ} → EndR halted k₁' k₂' s₁ s₂ → StepR k₁ k₂ k₁' k₂' s₁ s₂ halt halt n
      stop_r : {m n : ℕ} → EndR (wrongly m) k₁ k₂ s₁ s₂ → StepR k₁ k₂ k₁' k₂' s₁ s₂ (stop m) (stop m) n

    module _ {k₁ k₂ : Counts} {s₁ s₂ : State} {j J : ℕ} (d : K.DR s₁.now s₂.now J) (c : Tally k₁ k₂ j J) where
      onward : (F G : Fetched) {d₁ d₂ : Data} {t₁ t₂ p₁ p₂ j' J' : ℕ} (h o o' : ℕ) → K.DR d₁ d₂ J' → R t₁ p₁ t₂ p₂ j'
          → jump_count F ≡ h → jump_count G ≡ h → first_count F s₁.now.regs ≡ o → first_count G s₂.now.regs ≡ o'
          → ((Hop → ⊥) → h ≡ 0) → w * o ≤ w → j' + J' ≡ w * o + (j + J)
          → StepR k₁ k₂ (counted F s₁ k₁) (counted G s₂ k₂) s₁ s₂ (go (at d₁ t₁ p₁)) (go (at d₂ t₂ p₂)) (w + (j + J))
      unfolding counted
      onward F G {d₁} {d₂} {t₁} {t₂} {p₁} {p₂} {j'} {J'} h o o' q r f₁ f₂ g₁ g₂ l i e =
          go_r {s₁' = at d₁ t₁ p₁} {s₂' = at d₂ t₂ p₂} {j = j'} {J = J'} {n = w + (j + J)}
          (record {
            data_ok = q;
            place_ok = A.meets r;
            counts = record {
              clock = omega arith;
              tally = rw g₁ (omega arith);
              own = λ n. omega (arith, c.own n, l n);
            };
          })
          (omega arith)

      wrongs : {k₁' k₂' : Counts} {m n : ℕ} → (m ≡ 16 → K.Hole) → StepR k₁ k₂ k₁' k₂' s₁ s₂ (stop m) (stop m) n
      wrongs {m = m} f =
          stop_r {m = m} (record {
            pending = j;
            waiting = J;
            data_ok = d;
            counts = c;
            quiet = λ (e : wrongly m ≡ halted). let z : ◌≡◌ {A = ℕ} 0 1 = cc in absurd (omega arith);
            only_there = λ (e : wrongly m ≡ wrongly 16). let z : m ≡ 16 = cc in f z;
          })

      binds : {B : Type 0} {Q : B → B → Type 0} {r r' : Res B} {f g : B → Step} {k₁' k₂' : Counts} {n : ℕ}
          → ResR Q r r' → Never16 r → ((a b : B) → Q a b → StepR k₁ k₂ k₁' k₂' s₁ s₂ (f a) (g b) n)
          → StepR k₁ k₂ k₁' k₂' s₁ s₂ (bind r f) (bind r' g) n
      unfolding bind
      binds (ok_r {a = a} {b = b} q) h k = k a b q
      binds wrong_r (other h) k = wrongs (λ e. absurd (h e))

    module _ {k₁ k₂ : Counts} {s₁ s₂ : State} {J : ℕ} (d : K.DR s₁.now s₂.now J) (c : Tally k₁ k₂ 0 J) where
      backs : {x y : Back} {m : ℕ} → BackR R K.DR x y m → m ≡ J
          → StepR k₁ k₂ (counted returns s₁ k₁) (counted returns s₂ k₂) s₁ s₂ (returned x) (returned y) (w + (0 + J))
      unfolding returned counted jump_count first_count
      backs none_b e =
          halt_r (record {
            pending = 0;
            waiting = J;
            data_ok = d;
            counts = record {
              clock = omega arith;
              tally = omega arith;
              own = λ n. omega (arith, c.own n);
            };
            quiet = λ h. (refl, sym e);
            only_there = λ (h : halted ≡ wrongly 16). let z : ◌≡◌ {A = ℕ} 0 1 = cc in absurd (omega arith);
          })
      backs (some_b r q e) h = onward d c returns returns 0 0 0 q r refl refl refl refl (λ n. refl) (omega arith) (omega arith)

    module _ {k₁ k₂ : Counts} {s₁ s₂ : State} {j J : ℕ} (d : K.DR s₁.now s₂.now J) (c : Tally k₁ k₂ j J) where
      arms : {p₁ p₂ q₁ q₂ j₁ : ℕ} (b : Bool) (o o' : ℕ) → is_false s₁.now.regs ≡ b → is_false s₂.now.regs ≡ b → w * o ≤ w → j₁ ≡ w * o + j
          → R s₁.template p₁ s₂.template q₁ j₁ → R s₁.template p₂ s₂.template q₂ j
          → StepR k₁ k₂ (counted (branches o p₁ p₂) s₁ k₁) (counted (branches o' q₁ q₂) s₂ k₂) s₁ s₂
          (go (at s₁.now s₁.template (cond b p₂ p₁))) (go (at s₂.now s₂.template (cond b q₂ q₁))) (w + (j + J))
      unfolding jump_count first_count
      arms {p₁} {p₂} {q₁} {q₂} true o o' e e' h i r₁ r₂ =
          onward d c (branches o p₁ p₂) (branches o' q₁ q₂) 0 0 0 d r₂ refl refl (rw e refl) (rw e' refl) (λ n. refl) (omega arith) (omega arith)
      arms {p₁} {p₂} {q₁} {q₂} false o o' e e' h i r₁ r₂ =
          onward d c (branches o p₁ p₂) (branches o' q₁ q₂) 0 o o' d r₁ refl refl (rw e refl) (rw e' refl) (λ n. refl) h (omega arith)

    acts : {k₁ k₂ : Counts} {s₁ s₂ : State} {j J : ℕ} {F G : Fetched} → K.DR s₁.now s₂.now J → Tally k₁ k₂ j J
        → Match s₁.template s₂.template F G j
        → StepR k₁ k₂ (counted F s₁ k₁) (counted G s₂ k₂) s₁ s₂ (act K.owner P₁ F s₁) (act K.owner P₂ G s₂) (w + (j + J))
    unfolding act jump_count first_count
    acts d c (plain_m {i = i} {i' = i'} {p = p} {q = q} x r) =
        binds d c (K.apply_ok x d) (owned_never K.owner i _ _) λ a b y. onward d c (plain i p) (plain i' q) 0 0 0 y r refl refl refl refl (λ n. refl)
        (omega arith) (omega arith)
    acts d c return_m = backs d c (K.back_ok d) refl
    acts d c (call_m {n = n}) =
        binds d c (K.call_ok n d) (call_never n _) λ a b y. onward d c (calls n) (calls n) 0 0 0 y.1 (A.starts y.0) refl refl refl refl (λ n. refl)
        (omega arith)
        (omega arith)
    acts {s₁ = s₁} d c (branch_m {o = o} {o' = o'} h i r₁ r₂) =
        rw (← K.false_ok d) (arms d c (is_false s₁.now.regs) o o' refl (sym (K.false_ok d)) h i r₁ r₂)
    acts d c (save_m {n = n} {p₁ = p₁} {p₂ = p₂} {q₁ = q₁} {q₂ = q₂} r₁ r₂) =
        binds d c (K.keep_ok r₁ d) (make_cont_never n _ p₁ _) λ a b y. onward d c (saves n p₁ p₂) (saves n q₁ q₂) 0 0 0 y r₂ refl refl refl refl (λ n. refl)
        (omega arith) (omega arith)
    acts d c (hop_m {p = p} {q = q} g r) = onward d c (jumps p) (jumps q) 1 0 0 d r refl refl refl refl (λ n. absurd (n g)) (omega arith) (omega arith)
    acts d c (bad_m h) = wrongs d c (λ e. h)

    -- the runs' ends, and what they ended with
    pub data Alike : Ended → Ended → Type 0 where
      over : {k₁ k₂ : Counts} {s₁ s₂ : State} → Alike (ended spent k₁ s₁) (ended spent k₂ s₂)
      both : {e : Ending} {k₁ k₂ : Counts} {s₁ s₂ : State} → EndR e k₁ k₂ s₁ s₂ → Alike (ended e k₁ s₁) (ended e k₂ s₂)

    -- with fuel b₂ for the second, the first ends alike with a fuel that is at most b₂ and at least a (1 + w)th of b₂ less n
    pub record Lock (b₂ n : ℕ) (run₁ : ℕ → Ended) (end₂ : Ended) : Type 0 where
      pub fuel : ℕ
      pub less : fuel ≤ b₂
      pub half : b₂ ≤ (1 + w) * fuel + n
      pub alike : Alike (run₁ fuel) end₂

    turns : {k₁ k₂ k₁' k₂' : Counts} {s₁ s₂ : State} {o₁ o₂ : Step} {m : ℕ} (b : ℕ) → StepR k₁ k₂ k₁' k₂' s₁ s₂ o₁ o₂ m
        → ((k₁ k₂ : Counts) (s₁ s₂ : State) (j J m : ℕ) → Rel k₁ k₂ s₁ s₂ j J → j + J ≤ m
        → Lock b m (λ f. run K.owner P₁ f k₁ s₁) (run K.owner P₂ b k₂ s₂))
        → Lock b m (λ f. next (λ k s. run K.owner P₁ f k s) k₁ k₁' s₁ o₁) (next (λ k s. run K.owner P₂ b k s) k₂ k₂' s₂ o₂)
    unfolding next
    turns b (go_r {j = j} {J = J} {n = n} r h) ih = ih _ _ _ _ j J n r h
    turns b (halt_r r) ih = record { fuel = b; less = omega arith; half = omega arith; alike = both r }
    turns b (stop_r r) ih = record { fuel = b; less = omega arith; half = omega arith; alike = both r }

    locks : {k₁ k₂ : Counts} {s₁ s₂ : State} {j J n b : ℕ} → K.DR s₁.now s₂.now J
        → Meets P₂.fetch s₁.template s₂.template (P₁.fetch s₁.template s₁.place) s₂.place j → Tally k₁ k₂ j J → j + J ≤ n
        → ((k₁ k₂ : Counts) (s₁ s₂ : State) (j J m : ℕ) → Rel k₁ k₂ s₁ s₂ j J → j + J ≤ m
        → Lock b m (λ f. run K.owner P₁ f k₁ s₁) (run K.owner P₂ b k₂ s₂))
        → Lock (suc b) n (λ f. run K.owner P₁ f k₁ s₁) (run K.owner P₂ (suc b) k₂ s₂)
    unfolding run step act counted
    locks {k₁} {k₂} {s₁} {s₂} {j} {J} {n} {b} d (now_m {G = G} e m) c h ih =
        let l : Lock b (w + (j + J)) (λ f. next (λ k s. run K.owner P₁ f k s) k₁ (counted (here P₁ s₁) s₁ k₁) s₁ (step K.owner P₁ s₁))
        (next (λ k s. run K.owner P₂ b k s) k₂ (counted G s₂ k₂) s₂ (act K.owner P₂ G s₂)) =
        turns b (acts d c m) ih in
        record { fuel = suc l.fuel; less = omega arith; half = omega arith; alike = rw e l.alike }
    locks {k₁} {k₂} {s₁} {s₂} {J = J} {n} {b} d (jump_m {q' = q} {j = j} e m) c h ih =
        let k : Counts = counted (jumps q) s₂ k₂ in
        let s : State = at s₂.now s₂.template q in
        let l : Lock b (j + J) (λ f. run K.owner P₁ f k₁ s₁) (run K.owner P₂ b k s) =
        ih k₁ k s₁ s j J (j + J) (record { data_ok = d; place_ok = m; counts = record { clock = omega arith; tally = omega arith; own = c.own } })
        (omega arith) in
        record { fuel = l.fuel; less = omega arith; half = omega arith; alike = rw e l.alike }

    pub lock : (b : ℕ) (k₁ k₂ : Counts) (s₁ s₂ : State) (j J n : ℕ) → Rel k₁ k₂ s₁ s₂ j J → j + J ≤ n
        → Lock b n (λ f. run K.owner P₁ f k₁ s₁) (run K.owner P₂ b k₂ s₂)
    unfolding run
    lock zero k₁ k₂ s₁ s₂ j J n r h = record { fuel = 0; less = omega arith; half = omega arith; alike = over }
    lock (suc b) k₁ k₂ s₁ s₂ j J n r h = locks r.data_ok r.place_ok r.counts h (λ a b' c d j J m x y. lock b a b' c d j J m x y)

    -- ended alike, but not for want of budget
    pub record Alike-ends (x y : Ended) : Type 0 where
      pub same_ending : x.ending ≡ y.ending
      pub related : EndR x.ending x.counts y.counts x.state y.state

    from_left : {x y : Ended} → Alike x y → (x.ending ≡ spent → ⊥) → Alike-ends x y
    from_left over h = absurd (h refl)
    from_left (both r) h = record { same_ending = refl; related = r }

    from_right : {x y : Ended} → Alike x y → (y.ending ≡ spent → ⊥) → Alike-ends x y
    from_right over h = absurd (h refl)
    from_right (both r) h = record { same_ending = refl; related = r }

    module _ {k₁ k₂ : Counts} {s₁ s₂ : State} (r : Rel k₁ k₂ s₁ s₂ 0 0) (b : ℕ) where
      -- the first ends within b: so does the second within (1 + w) · b, alike
      pub forward : ((run K.owner P₁ b k₁ s₁).ending ≡ spent → ⊥) → Alike-ends (run K.owner P₁ b k₁ s₁) (run K.owner P₂ ((1 + w) * b) k₂ s₂)
      forward h =
          let l : Lock ((1 + w) * b) 0 (λ f. run K.owner P₁ f k₁ s₁) (run K.owner P₂ ((1 + w) * b) k₂ s₂) = lock ((1 + w) * b) k₁ k₂ s₁ s₂ 0 0 0 r
          (omega arith) in
          let g : (1 + w) * b ≤ (1 + w) * l.fuel = omega arith in
          let m : run K.owner P₁ l.fuel k₁ s₁ ≡ run K.owner P₁ b k₁ s₁ = longer K.owner P₁ b l.fuel k₁ s₁
          (le_of_mul-le-mul_left g (omega arith)) h in
          from_left (rw m at l.alike) h

      -- the second ends within b: so does the first, alike
      pub backward : ((run K.owner P₂ b k₂ s₂).ending ≡ spent → ⊥) → Alike-ends (run K.owner P₁ b k₁ s₁) (run K.owner P₂ b k₂ s₂)
      backward h =
          let l : Lock b 0 (λ f. run K.owner P₁ f k₁ s₁) (run K.owner P₂ b k₂ s₂) = lock b k₁ k₂ s₁ s₂ 0 0 0 r (omega arith) in
          let e : Alike-ends (run K.owner P₁ l.fuel k₁ s₁) (run K.owner P₂ b k₂ s₂) = from_right l.alike h in
          let m : run K.owner P₁ b k₁ s₁ ≡ run K.owner P₁ l.fuel k₁ s₁ = longer K.owner P₁ l.fuel b k₁ s₁ l.less
          (λ z. h (sym e.same_ending ∙ z)) in
          rw m e
