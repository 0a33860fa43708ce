-- The plain rules, the call and the conditional's test keep registers and memory alike. Assumes nothing.
use Rattle.std.specs.Prelude.{◌≡◌, Bool, true, false, cond, ◌&&◌, List, ℤ, ◌-ℤ◌, get_or, set, take, ltb, leb}
use Rattle.std.proofs.Math.Path.{refl}
use Rattle.std.proofs.Common.{ap, subst, length-set}
use Rattle.std.proofs.Math.Bool.{not, and-eq-true_iff}
use Rattle.std.proofs.Math.Option.{Option, none, some}
use Prim.Native.Nat.{ℕ, zero, suc, ◌+◌, ◌-◌, ◌<◌, ◌≤◌, ◌^◌}
use native.Mathlib.Omega.{arith}
use Rattle.std.specs.Int.Signed.{lt_z}
use Rattle.std.proofs.Math.Dec.{eqb}
use borrow.Author.Tests.{leb-true, eqb-true}
use Rattle.cells.specs.Cells.{tag_of, int_of, closure_env, unspecified_cell, true_cell, false_cell, layer_parent, pair_first, pair_second}
use Rattle.owners.specs.declared.Owner.{Owner}
use Rattle.rules.specs.Owned.{may_do, owned_rule}
use Rattle.rules.specs.State.{Mem, regs, Held, Res, need}
use Rattle.integers.specs.Integers.{signed, within, total_of, is_zero, floor_quotient}
use Rattle.integers.specs.laws.Laws.{bits_fit}
use Rattle.rules.specs.Rules.{walk, found, top, under, emptied, part_rule, integer_rule, two_integers, plain_rule, call_rule, is_false}
use Rattle.rules.specs.Rules.{literal_rule, closure_rule, held_rule, global_rule, set_global_rule, local_rule, set_local_rule, push_rule, make_env_rule}
use Rattle.rules.specs.Rules.{check_args_rule, cons_rule, car_rule, cdr_rule, eqv_rule, add_rule, subtracted, compared, divided, sub_rule, less_rule, floor_div_rule}
use Rattle.rules.specs.laws.Related.{ResR, ok_r, wrong_r, need_same}
use Rattle.rules.specs.laws.Sound.{Layer, EnvOk, empty, layer, StoreCell, a_layer, a_value, StoreOk, value_no_layer, more_used, env_moved}
use Rattle.rules.specs.declared.Regs.{Regs}
use Rattle.rules.specs.declared.Plain.{Plain}
use Rattle.rules.specs.declared.Plain.TheVariants.{Literal, Closure, Global, SetGlobal, Local, SetLocal, Push, Unspecified, MakeEnv, CheckArgs, Cons}
use Rattle.rules.specs.declared.Plain.TheVariants.{Car, Cdr, Eqv, Add, Sub, Less, FloorDiv}
use Rattle.lockstep.specs.laws.Likeness.{Likeness, Each, none_e, more_e, each_at, each_set, each_sets, each_take, each_reverse, set_at, zero_like}
use Rattle.lockstep.specs.laws.Likeness.{each_zeroed, integers_same, integers_equal}
use Rattle.lockstep.specs.laws.Plain.{RegsLike, regs_l, MemLike, HeldLike, Nameless, PlainLike, closure_i, global_i, set_global_i, same_i, Touches, Allowed}

pub need_like : {A : Type 0} {Q : A → A → Type 0} {r r' : Res A} {b b' : Bool} (n : ℕ) → b ≡ b' → (b ≡ true → ResR Q r r') → ResR Q (need b n r) (need b' n r')
need_like {b = b} n e f = rw (← e) (need_same b n f)

-- ---- the walk out through the layers
module _ (L : Likeness) {s s' : List ℕ} (u : ℕ) (stores : Each L.CR s s') (sound : StoreOk s u) where
  layer_same : {i : ℕ} → Layer s u i → get_or s i 0 ≡ get_or s' i 0
  layer_same {i} l = L.only (each_at (zero_like L) stores i) (λ e. omega (arith, l.layer_tag))

  parent_ok : {i : ℕ} → Layer s u i → StoreCell s u i → EnvOk s u (layer_parent (get_or s i 0))
  parent_ok {i} l (a_layer l' p) = env_moved (more_used s i u (omega (arith, l.region))) p
  parent_ok l (a_value v) = absurd (value_no_layer v l.layer_tag)

  pub walk_same : (a b : ℕ) {e : ℕ} → EnvOk s u e → walk s e a b ≡ walk s' e a b
  unfolding walk
  walk_same zero b (empty h) = rw h refl
  walk_same zero b (layer l) = rw (layer_same l) refl
  walk_same (suc a) b (empty h) = rw h refl
  walk_same (suc a) b {e} (layer l) =
      let r : walk s (layer_parent (get_or s (e - 1) 0)) a b ≡ walk s' (layer_parent (get_or s (e - 1) 0)) a b =
      walk_same a b (parent_ok l (sound (e - 1) (omega (arith, l.region)))) in
      rw (r, layer_same l) refl

module _ (L : Likeness) where
  by_right : (o : Owner) (i : Plain) → Allowed L o → may_do o i ≡ true → Touches L i
  unfolding may_do
  by_right o i a h = record { reading = λ g e. a.read_by_right g (rw e at h); setting = λ g e. a.set_by_right g (rw e at h) }

  right_same : (o : Owner) {i i' : Plain} → PlainLike L i i' → may_do o i ≡ may_do o i'
  unfolding may_do
  right_same o (closure_i t) = refl
  right_same o global_i = refl
  right_same o set_global_i = refl
  right_same o (same_i n) = refl

  module _ {m m' : Mem} (k : MemLike L m m') where
    pub with_cells : {z z' s s' : List ℕ} → Each L.CR z z' → Each L.CR s s'
        → MemLike L (record { globals = m.globals; stack = z; store = s }) (record { globals = m'.globals; stack = z'; store = s' })
    with_cells y x = record { globals_size = k.globals_size; globals_like = k.globals_like; stack_like = y; store_like = x }

    global_set_like : (g : ℕ) {a b : ℕ} → L.Sets g → L.CR a b
        → MemLike L (record { globals = set m.globals g a; stack = m.stack; store = m.store }) (record {
          globals = set m'.globals g b;
          stack = m'.stack;
          store = m'.store;
        })
    global_set_like g {a} {b} w x = record {
      globals_size = simp length-set k.globals_size;
      globals_like = λ i. set_at (L.GR i) m.globals m'.globals g i a b k.globals_size (λ e. rw e (L.sets_ok w x)) (k.globals_like i);
      stack_like = k.stack_like;
      store_like = k.store_like;
    }

  pub unspecified_like : L.CR unspecified_cell unspecified_cell
  unspecified_like = L.same (λ e. omega arith)

  truth_like : (b : Bool) → L.CR (cond b true_cell false_cell) (cond b true_cell false_cell)
  truth_like true = L.same (λ e. omega arith)
  truth_like false = L.same (λ e. omega arith)

  abbrev Ends : Res Held → Res Held → Type 0
  Ends x y = ResR (HeldLike L) x y

  found_like : {f g : ℕ → Res Held} {o o' : Option ℕ} → o ≡ o' → ((l : ℕ) → Ends (f l) (g l)) → Ends (found o f) (found o' g)
  found_like {f} {g} {o} e h = rw (← e) (pick o)
    where
      pick : (o : Option ℕ) → Ends (found o f) (found o g)
      pick none = wrong_r
      pick (some l) = h l

  module _ {m m' : Mem} (k : MemLike L m m') {v v' e : ℕ} (sp st : ℕ) (x : L.CR v v') (fit : e < 2 ^ 16) where
    abbrev r : Regs
    r = regs v e sp st

    abbrev r' : Regs
    r' = regs v' e sp st

    cell_at : (i : ℕ) → L.CR (get_or m.stack i 0) (get_or m'.stack i 0)
    cell_at i = each_at (zero_like L) k.stack_like i

    held_like : {c c' : ℕ} → L.CR c c' → Ends (held_rule c m r) (held_rule c' m' r')
    unfolding held_rule
    held_like y = need_like 12 (ap not (L.one_to_one y (L.same (λ e. omega arith)))) (λ h. ok_r (record { regs_like = regs_l y fit; mem_like = k }))

    emptied_like : {c c' : ℕ} → L.CR c c' → Ends (emptied c m r) (emptied c' m' r')
    emptied_like y = ok_r (record { regs_like = regs_l y fit; mem_like = with_cells k (each_zeroed L 0 sp k.stack_like) k.store_like })

    part_like : (location : ℕ → ℕ) → Ends (part_rule location m r) (part_rule location m' r')
    part_like location =
        need_same (leb 1 sp) 10
        (λ h. need_like 14 (ap (λ t. eqb t 8) (L.tags (cell_at (sp - 1))))
        (λ t.
        let is : tag_of (top m r) ≡ 8 = eqb-true (tag_of (top m r)) 8 t in
        let one : top m r ≡ top m' r' = L.only (cell_at (sp - 1)) (λ e. omega arith) in
        emptied_like (subst (λ c. L.CR (get_or m.store (location (top m r)) 0) (get_or m'.store (location c) 0)) one
        (each_at (zero_like L) k.store_like (location (top m r))))))

    integer_like : (z : ℤ) → Ends (integer_rule z m r) (integer_rule z m' r')
    integer_like z = need_same (within z) 15 (λ w. let b = bits_fit z w in emptied_like (L.same (λ e. omega arith)))

    -- integers are no closures, so that two of them are equal where they are alike
    two_like : (f : ℤ → ℤ → Mem → Regs → Res Held) → ((a b : ℤ) → Ends (f a b m r) (f a b m' r')) → Ends (two_integers f m r) (two_integers f m' r')
    two_like f h =
        let x₁ = cell_at (sp - 2) in
        let x₂ = cell_at (sp - 1) in
        let tags : eqb (tag_of (under m r)) 6 && eqb (tag_of (top m r)) 6 ≡ eqb (tag_of (under m' r')) 6 && eqb (tag_of (top m' r')) 6 =
        rw (L.tags x₁, L.tags x₂) refl in
        need_same (eqb sp 2) 10
        (λ c. need_like 14 tags
        (λ t.
        let i = (and-eq-true_iff (eqb (tag_of (under m r)) 6) (eqb (tag_of (top m r)) 6)).0 t in
        let t₁ : tag_of (under m r) ≡ 6 = eqb-true (tag_of (under m r)) 6 i.0 in
        let t₂ : tag_of (top m r) ≡ 6 = eqb-true (tag_of (top m r)) 6 i.1 in
        let e₁ : under m r ≡ under m' r' = L.only x₁ (λ e. omega arith) in
        let e₂ : top m r ≡ top m' r' = L.only x₂ (λ e. omega arith) in
        rw (← e₁, ← e₂) (h (signed (int_of (under m r))) (signed (int_of (top m r))))))

    -- walks: what local and set-local! find is the same
    module _ (walks : (a b : ℕ) → walk m.store e a b ≡ walk m'.store e a b) where
      nameless_like : (i : Plain) → ((c : ℕ) → i ≡ Literal c → L.CR c c) → Nameless L i → Ends (plain_rule i m r) (plain_rule i m' r')
      unfolding plain_rule literal_rule local_rule set_local_rule push_rule make_env_rule check_args_rule cons_rule car_rule cdr_rule eqv_rule add_rule sub_rule less_rule
          floor_div_rule
      nameless_like (Literal c) p h = ok_r (record { regs_like = regs_l (p c refl) fit; mem_like = k })
      nameless_like (Closure t) p h = absurd h
      nameless_like (Global g) p h = absurd h
      nameless_like (SetGlobal g) p h = absurd h
      nameless_like (Local a b) p h = found_like (walks a b) (λ l. held_like (each_at (zero_like L) k.store_like l))
      nameless_like (SetLocal a b) p h =
          found_like (walks a b)
          (λ l. ok_r (record { regs_like = regs_l unspecified_like fit; mem_like = with_cells k k.stack_like (each_set k.store_like x l) }))
      nameless_like Push p h =
          need_same (ltb sp 256) 17 (λ n. ok_r (record { regs_like = regs_l x fit; mem_like = with_cells k (each_set k.stack_like x sp) k.store_like }))
      nameless_like Unspecified p h = ok_r (record { regs_like = regs_l unspecified_like fit; mem_like = k })
      nameless_like (MakeEnv n) p h =
          need_same (eqb sp n) 10
          (λ c. need_same (leb (st + 1 + n) 2048) 18
          (λ l.
          let room : st + 1 + n ≤ 2048 = leb-true _ _ l in
          ok_r (record {
            regs_like = regs_l x (omega arith);
            mem_like =
                with_cells k (each_zeroed L 0 n k.stack_like)
                (each_sets (more_e (L.same (λ e. omega arith)) (each_reverse (each_take n k.stack_like))) k.store_like st);
          })))
      nameless_like (CheckArgs n) p h = need_same (eqb sp n) 10 (λ c. ok_r (record { regs_like = regs_l x fit; mem_like = k }))
      nameless_like Cons p h =
          need_same (leb 2 sp) 10
          (λ c. need_same (leb (st + 2) 2048) 18
          (λ l.
          let room : st + 2 ≤ 2048 = leb-true _ _ l in
          ok_r (record {
            regs_like = regs_l (L.same (λ e. omega arith)) fit;
            mem_like =
                with_cells k (each_zeroed L 0 sp k.stack_like) (each_sets (more_e (cell_at (sp - 2)) (more_e (cell_at (sp - 1)) none_e)) k.store_like st);
          })))
      nameless_like Car p h = part_like pair_first
      nameless_like Cdr p h = part_like pair_second
      nameless_like Eqv p h =
          need_same (leb 2 sp) 10 (λ c. rw (← L.one_to_one (cell_at (sp - 1)) (cell_at (sp - 2))) (emptied_like (truth_like (eqb (top m r) (under m r)))))
      nameless_like Add p h =
          let cs = each_take sp k.stack_like in
          need_like 14 (integers_same L cs) (λ t. rw (← integers_equal L cs t) (integer_like (total_of (take sp m.stack))))
      nameless_like Sub p h = two_like subtracted (λ a b. integer_like (a -ℤ b))
      nameless_like Less p h = two_like compared (λ a b. emptied_like (truth_like (lt_z a b)))
      nameless_like FloorDiv p h = two_like divided (λ a b. need_same (not (is_zero b)) 23 (λ z. integer_like (floor_quotient a b)))

      plain_like : {i i' : Plain} → ((c : ℕ) → i ≡ Literal c → L.CR c c) → Touches L i → PlainLike L i i' → Ends (plain_rule i m r) (plain_rule i' m' r')
      unfolding plain_rule closure_rule global_rule set_global_rule
      plain_like p w (closure_i t) =
          need_same (leb (st + 1) 2048) 18
          (λ l.
          let room : st + 1 ≤ 2048 = leb-true _ _ l in
          ok_r (record {
            regs_like = regs_l (L.closures e st t fit (omega arith)) fit;
            mem_like = with_cells k k.stack_like (each_set k.store_like unspecified_like st);
          }))
      plain_like p w (global_i {g = g}) = held_like (L.reads (w.reading g refl) (k.globals_like g))
      plain_like p w (set_global_i {g = g}) =
          ok_r (record { regs_like = regs_l unspecified_like fit; mem_like = global_set_like k g (w.setting g refl) x })
      plain_like p w (same_i {i = i} n) = nameless_like i p n

  -- ---- THE LAWS
  -- where local and set-local! find the same, and literals are alike
  pub owned_alike : {m m' : Mem} {r r' : Regs} {i i' : Plain} (o : Owner) → Allowed L o → MemLike L m m' → RegsLike L r r'
      → ((a b : ℕ) → walk m.store r.env a b ≡ walk m'.store r.env a b)
      → ((c : ℕ) → i ≡ Literal c → L.CR c c) → PlainLike L i i' → ResR (HeldLike L) (owned_rule o i m r) (owned_rule o i' m' r')
  unfolding owned_rule
  owned_alike {i = i} o a k (regs_l {sp = sp} {st = st} x fit) w p y =
      need_like 25 (right_same o y) (λ h. plain_like k sp st x fit w p (by_right o i a h) y)

  pub call_alike : {r r' : Regs} (n : ℕ) → RegsLike L r r' → ResR (λ a b. L.TR a.0 b.0 × RegsLike L a.1 b.1) (call_rule n r) (call_rule n r')
  unfolding call_rule
  call_alike n (regs_l {v = v} {sp = sp} x fit) =
      need_same (eqb sp n) 10
      (λ c. need_like 11 (ap (λ t. eqb t 7) (L.tags x))
      (λ t.
      let is : tag_of v ≡ 7 = eqb-true (tag_of v) 7 t in
      let fits : closure_env v < 2 ^ 16 = omega arith in
      rw (← L.envs x is) (ok_r (L.templates x is, regs_l x fits))))

  pub false_alike : {r r' : Regs} → RegsLike L r r' → is_false r ≡ is_false r'
  false_alike (regs_l x fit) = L.one_to_one x (L.same (λ e. omega arith))
