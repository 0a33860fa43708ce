-- The rules keep environments sound (Sound.antt). Assumes nothing.
use Rattle.std.specs.Prelude.{◌≡◌, ℕ, zero, suc, ◌+◌, ◌-◌, ◌<◌, ◌≤◌, ◌^◌, length, get_or, set, take, drop, replicate}
use Rattle.std.proofs.Math.Path.{refl}
use Rattle.std.proofs.Common.{◌∙◌, inl, inr, arith, length-take, length-drop, length-set, get_or-set_same, get_or-set_other, get_or-take, get_or-drop}
use mathlib.Core.List.{List, [], ◌∷◌, reverse, reverse_aux}
use Rattle.std.proofs.lemmas.List.{length-reverse}
use Rattle.std.proofs.lemmas.List.Edits.{sets}
use Rattle.std.proofs.Math.Seq.{length-sets}
use Rattle.runs.specs.Runs.{zeroed, part}
use Rattle.cells.specs.Cells.{tag_of, unspecified_cell, undefined_cell, closure_cell, pair_cell, layer_cell, layer_parent, frame_cell, frame_count}
use Rattle.cells.specs.Cells.{frame_template}
use Rattle.cells.specs.Cells.{frame_env, frame_place}
use Rattle.cells.specs.Cells.{cell_of, Fits}
use Rattle.cells.specs.laws.Laws.{closure_back, pair_back, layer_back, frame_back}
use Rattle.cells.specs.declared.Value.{Value}
use Rattle.rules.specs.State.{mem, regs, Held, ok}
use Rattle.rules.specs.Rules.{Data, applied, called, back_to, top, under, last_frame, frame_base, with_frame, without_frame, plain_rule, call_rule}
use Rattle.rules.specs.Rules.{make_cont_rule}
use Rattle.rules.specs.Rules.{return_rule}
use Rattle.rules.specs.laws.Effects.{ConstantCell, unspecified_constant, From, from_literal, from_v, from_global, from_local, from_pair, from_constant}
use Rattle.rules.specs.laws.Effects.{held, leaves_ok, effect}
use Rattle.rules.specs.laws.Lists.{by_lt, sets_below}
use Rattle.rules.specs.laws.Clean.{Sized, Bound, by_call, by_make_cont, by_return}
use Rattle.rules.specs.laws.Sound.{Layer, EnvOk, layer, Spot, ValueIn, StoreCell, a_layer, a_value, FramesOk, no_frame_lem, frame, GlobalsOk, StackOk}
use Rattle.rules.specs.laws.Sound.{StoreOk, Sound}
use Rattle.rules.specs.laws.Sound.{value_no_layer, constant_in, spot_value, Grows, grown, more_used, set_case, replaced, lower, env_moved, value_moved}
use Rattle.rules.specs.laws.Sound.{frames_moved, store_moved, inside}
use Rattle.rules.specs.declared.Regs.{Regs}
use Rattle.rules.specs.declared.Plain.{Plain}
use Rattle.rules.specs.declared.Plain.TheVariants.{Literal, Closure, Global, SetGlobal, Local, SetLocal, Push, Unspecified, MakeEnv, CheckArgs, Cons}
use Rattle.rules.specs.declared.Plain.TheVariants.{Car, Cdr, Eqv, Add, Sub, Less, FloorDiv}

-- ---- what a plain instruction is like: a literal is a constant's cell, and numbers are bytes
abbrev pub PlainOk : Plain → Type 0
PlainOk (Literal c) = ConstantCell c
PlainOk (Closure t) = t < 256
PlainOk (Global g) = g < 256
PlainOk (SetGlobal g) = Unit {0}
PlainOk (Local a b) = Unit {0}
PlainOk (SetLocal a b) = Unit {0}
PlainOk Push = Unit {0}
PlainOk Unspecified = Unit {0}
PlainOk (MakeEnv n) = n < 256
PlainOk (CheckArgs n) = Unit {0}
PlainOk Cons = Unit {0}
PlainOk Car = Unit {0}
PlainOk Cdr = Unit {0}
PlainOk Eqv = Unit {0}
PlainOk Add = Unit {0}
PlainOk Sub = Unit {0}
PlainOk Less = Unit {0}
PlainOk FloorDiv = Unit {0}

-- ---- lists
-- P of each element
abbrev Every : (ℕ → Type 0) → List ℕ → Type 0
Every P l = (k : ℕ) → k < length l → P (get_or l k 0)

every_cons : (P : ℕ → Type 0) (a : ℕ) (l : List ℕ) → P a → Every P l → Every P (a ∷ l)
every_cons P a l h f zero k = h
every_cons P a l h f (suc k) lt = f k (omega arith)

every_reversed : (P : ℕ → Type 0) (l r : List ℕ) → Every P l → Every P r → Every P (reverse_aux l r)
every_reversed P [] r f g = g
every_reversed P (x ∷ l) r f g = every_reversed P l (x ∷ r) (λ k h. f (suc k) (omega arith)) (every_cons P x r (f 0 (omega arith)) g)

every_taken : (P : ℕ → Type 0) (n : ℕ) (l : List ℕ) → ((i : ℕ) → i < n → P (get_or l i 0)) → Every P (take n l)
every_taken P n l f k h = let b : k < n = omega (arith, length-take n l) in rw (get_or-take n l k 0 b) (f k b)

-- what stands where a run of cells was stored
sets_at : (l vs : List ℕ) (u i k : ℕ) → u + length vs ≤ length l → i ≡ u + k → k < length vs → get_or (sets l u vs) i 0 ≡ get_or vs k 0
sets_at l [] u i k h e lt = absurd (omega arith)
sets_at l (a ∷ vs) u i zero h e lt =
    let p : i ≡ u = omega arith in
    rw p (sets_below (set l u a) vs (suc u) u (omega arith) ∙ get_or-set_same l u a 0 (omega arith))
sets_at l (a ∷ vs) u i (suc k) h e lt = sets_at (set l u a) vs (suc u) i k (rw (length-set l u a) (omega arith)) (omega arith) (omega arith)

-- ---- values that are made
module _ {s : List ℕ} {u : ℕ} where
  closure_in : (t e l : ℕ) → t < 2 ^ 8 → e < 2 ^ 16 → l < 2 ^ 16 → EnvOk s u e → ValueIn s u (closure_cell t e l)
  unfolding cell_of Fits
  closure_in t e l ht he hl x =
      let back = closure_back t e l ht he hl in
      record {
        cell = record { value = Value.Procedure (record { template = t; env = e; location = l }); fits = (ht, he, hl); is = refl };
        closure_ok = λ k. rw back.1 x;
        first_ok = λ k. absurd (omega arith);
        second_ok = λ k. absurd (omega arith);
      }

  pair_in : (l l' : ℕ) → l < 2 ^ 16 → l' < 2 ^ 16 → Spot s u l → Spot s u l' → ValueIn s u (pair_cell l l')
  unfolding cell_of Fits
  pair_in l l' h h' x x' =
      let back = pair_back l l' h h' in
      record {
        cell = record { value = Value.Pair l l'; fits = (h, h'); is = refl };
        closure_ok = λ k. absurd (omega arith);
        first_ok = λ k. rw back.0 x;
        second_ok = λ k. rw back.1 x';
      }

-- ---- the plain rules
module _ (d : Data) (z : Sized d) (b : Bound d) (o : Sound d) where
  abbrev s : List ℕ
  s = d.mem.store

  abbrev u : ℕ
  u = d.regs.st

  stays : Grows s u s u
  stays = more_used s u u (omega arith)

  kept : {s' g l : List ℕ} {u' v e sp : ℕ} → Grows s u s' u' → ValueIn s' u' v → EnvOk s' u' e → GlobalsOk s u g → StackOk s u l sp → StoreOk s' u'
      → Sound (applied d (held (regs v e sp u') (mem g l s')))
  kept g x y gs ss t = record {
    v_ok = x;
    env_ok = y;
    globals_ok = λ i k n. value_moved g (gs i k n);
    stack_ok = λ i k. value_moved g (ss i k);
    store_ok = t;
    frames_ok = frames_moved g o.frames_ok (λ i k. refl);
  }

  top_ok : 1 ≤ d.regs.sp → ValueIn s u (top d.mem d.regs)
  top_ok h = o.stack_ok (d.regs.sp - 1) (omega arith)

  -- what stands at a location
  at_spot : {l : ℕ} → Spot s u l → ValueIn s u (get_or s l 0)
  at_spot x = spot_value x (o.store_ok _ x.below)

  from_ok : (i : Plain) (c : ℕ) → PlainOk i → From i d.mem d.regs c → ValueIn s u c
  from_ok i c p (from_literal e) = constant_in (rw e at p)
  from_ok i c p (from_v e) = rw e o.v_ok
  from_ok i c p (from_global g e n h) = rw h (o.globals_ok g (rw e at p) n)
  from_ok i c p (from_local a b' l w h) = rw h (at_spot (inside s u o.store_ok a b' o.env_ok w))
  from_ok i c p (from_pair l k t (inl e) h) = rw (h, e) (at_spot ((top_ok k).first_ok t))
  from_ok i c p (from_pair l k t (inr e) h) = rw (h, e) (at_spot ((top_ok k).second_ok t))
  from_ok i c p (from_constant k) = constant_in k

  -- the store with vs after the cells in use
  module _ (vs : List ℕ) (u' : ℕ) (total : u' ≡ u + length vs) (room : u' ≤ 2048) where
    abbrev s' : List ℕ
    s' = sets s u vs

    grows : Grows s u s' u'
    grows = grown s u s' u' (omega arith) (λ i k. sets_below s vs u i k)

    stored_at : (i k : ℕ) → i ≡ u + k → k < length vs → get_or s' i 0 ≡ get_or vs k 0
    stored_at i k e h = sets_at s vs u i k (rw z.store_length (omega arith)) e h

    -- a value
    value_at : (i k : ℕ) → i ≡ u + k → k < length vs → ValueIn s u (get_or vs k 0) → ValueIn s' u' (get_or s' i 0)
    value_at i k e h x = rw (stored_at i k e h) (value_moved grows x)

    spot_at : (i k : ℕ) → i ≡ u + k → k < length vs → ValueIn s u (get_or vs k 0) → Spot s' u' i
    spot_at i k e h x = record { below = omega arith; no_layer = value_no_layer (value_at i k e h x) }

    store_grown : ((i k : ℕ) → i ≡ u + k → k < length vs → StoreCell s' u' i) → StoreOk s' u'
    store_grown f i h =
        by_lt i u
        (λ k. store_moved grows k (sets_below s vs u i k) (o.store_ok i k))
        (λ k. f i (i - u) (omega arith) (omega arith))

    values_grown : Every (ValueIn s u) vs → StoreOk s' u'
    values_grown f = store_grown (λ i k e h. a_value (value_at i k e h (f k h)))

  -- a layer of n values and what it leads to
  module _ (n : ℕ) (byte : n < 256) (all : d.regs.sp ≡ n) (room : u + 1 + n ≤ 2048) where
    abbrev vs : List ℕ
    vs = layer_cell d.regs.env n ∷ reverse (take n d.mem.stack)

    count : length (reverse (take n d.mem.stack)) ≡ n
    count = simp (length-reverse, length-take, z.stack_length) (omega arith)

    total : u + 1 + n ≡ u + length vs
    total = omega (arith, count)

    values : Every (ValueIn s u) (reverse (take n d.mem.stack))
    values =
        every_reversed (ValueIn s u) (take n d.mem.stack) [] (every_taken (ValueIn s u) n d.mem.stack (λ i k. o.stack_ok i (omega arith)))
        (λ k h. absurd (omega arith))

    abbrev t : List ℕ
    t = sets s u vs

    layer_there : get_or t u 0 ≡ layer_cell d.regs.env n
    layer_there = stored_at vs (u + 1 + n) total room u 0 (omega arith) (omega arith)

    value_cell : (i k : ℕ) → i ≡ u + suc k → k < length (reverse (take n d.mem.stack)) → ValueIn t (u + 1 + n) (get_or t i 0)
    value_cell i k e h = value_at vs (u + 1 + n) total room i (suc k) e (omega arith) (values k h)

    new_layer : Layer t (u + 1 + n) u
    new_layer =
        let back = layer_back d.regs.env n b.env_bound byte in
        record {
          layer_tag = rw layer_there back.2;
          region = rw (layer_there, back.1) (omega arith);
          region_cells = rw (layer_there, back.1) (λ k h. value_no_layer (value_cell (u + 1 + k) k (omega arith) (omega (arith, count))));
        }

    store_layered : StoreOk t (u + 1 + n)
    store_layered = store_grown vs (u + 1 + n) total room cell_at
      where
        parent : EnvOk t u (layer_parent (get_or t u 0))
        parent =
            rw (layer_there, (layer_back d.regs.env n b.env_bound byte).0)
            (env_moved (lower (grows vs (u + 1 + n) total room) u (omega arith)) o.env_ok)

        cell_at : (i k : ℕ) → i ≡ u + k → k < length vs → StoreCell t (u + 1 + n) i
        cell_at i zero e h = let j : i ≡ u = omega arith in rw j (a_layer new_layer parent)
        cell_at i (suc k) e h = a_value (value_cell i k e (omega arith))

    layered_sound : Sound (applied d (held (regs d.regs.v (u + 1) 0 (u + 1 + n)) (mem d.mem.globals (zeroed d.mem.stack 0 n) t)))
    layered_sound =
        let g = grows vs (u + 1 + n) total room in
        let h : u + 1 - 1 ≡ u = omega arith in
        kept g (value_moved g o.v_ok) (layer (rw h new_layer)) o.globals_ok (λ i k. absurd (omega arith)) store_layered

  closed_sound : (t : ℕ) → t < 256 → u + 1 ≤ 2048
      → Sound (applied d (held (regs (closure_cell t d.regs.env u) d.regs.env d.regs.sp (u + 1))
      (mem d.mem.globals d.mem.stack (set s u unspecified_cell))))
  closed_sound t byte room =
      let vs : List ℕ = unspecified_cell ∷ [] in
      let g = grows vs (u + 1) refl room in
      let e = env_moved g o.env_ok in
      kept g (closure_in t d.regs.env u byte b.env_bound (omega arith) e) e o.globals_ok o.stack_ok
      (values_grown vs (u + 1) refl room (every_cons (ValueIn s u) unspecified_cell [] (constant_in unspecified_constant) (λ k h. absurd (omega arith))))

  paired_sound : 2 ≤ d.regs.sp → u + 2 ≤ 2048
      → Sound (applied d (held (regs (pair_cell u (u + 1)) d.regs.env 0 (u + 2))
      (mem d.mem.globals (zeroed d.mem.stack 0 d.regs.sp) (sets s u (under d.mem d.regs ∷ top d.mem d.regs ∷ [])))))
  paired_sound two room =
      let vs : List ℕ = under d.mem d.regs ∷ top d.mem d.regs ∷ [] in
      let g = grows vs (u + 2) refl room in
      let x : ValueIn s u (under d.mem d.regs) = o.stack_ok (d.regs.sp - 2) (omega arith) in
      let y : ValueIn s u (top d.mem d.regs) = top_ok (omega arith) in
      kept g
      (pair_in u (u + 1) (omega arith) (omega arith) (spot_at vs (u + 2) refl room u 0 (omega arith) (omega arith) x)
      (spot_at vs (u + 2) refl room (u + 1) 1 (omega arith) (omega arith) y))
      (env_moved g o.env_ok) o.globals_ok (λ i k. absurd (omega arith))
      (values_grown vs (u + 2) refl room
      (every_cons (ValueIn s u) _ (top d.mem d.regs ∷ []) x (every_cons (ValueIn s u) _ [] y (λ k h. absurd (omega arith)))))

  local_sound : (l : ℕ) → Spot s u l
      → Sound (applied d (held (regs unspecified_cell d.regs.env d.regs.sp u) (mem d.mem.globals d.mem.stack (set s l d.regs.v))))
  local_sound l x =
      kept g (constant_in unspecified_constant) (env_moved g o.env_ok) o.globals_ok o.stack_ok
      (λ i h. by_lt i l (λ k. other i h (λ e. omega arith))
      (λ k. by_lt l i (λ k'. other i h (λ e. omega arith)) (λ k'. let e : i ≡ l = omega arith in rw e same)))
    where
      s' : List ℕ
      s' = set s l d.regs.v

      g : Grows s u s' u
      g = replaced s u l d.regs.v x (value_no_layer o.v_ok)

      same : StoreCell s' u l
      same = a_value (rw (get_or-set_same s l d.regs.v 0 (omega (arith, z.store_length))) (value_moved g o.v_ok))

      other : (i : ℕ) → i < u → (i ≡ l → ⊥) → StoreCell s' u i
      other i h n = store_moved g h (get_or-set_other s l i d.regs.v 0 n) (o.store_ok i h)

  pushed_ok : d.regs.sp < 256 → StackOk s u (set d.mem.stack d.regs.sp d.regs.v) (d.regs.sp + 1)
  pushed_ok h i k =
      by_lt i d.regs.sp
      (λ l. rw (get_or-set_other d.mem.stack d.regs.sp i d.regs.v 0 (λ e. omega arith)) (o.stack_ok i l))
      (λ l.
      let e : i ≡ d.regs.sp = omega arith in
      rw (e, get_or-set_same d.mem.stack d.regs.sp d.regs.v 0 (omega arith)) o.v_ok)

  pub plain_sound : (i : Plain) (h : Held) → PlainOk i → plain_rule i d.mem d.regs ≡ ok h → Sound (applied d h)
  plain_sound i h p e =
      leaves_ok (λ h. Sound (applied d h)) (plain_rule i d.mem d.regs) h e (effect d.mem d.regs (λ h. Sound (applied d h)) i (record {
        valued = λ c w. kept stays (from_ok i c p w) o.env_ok o.globals_ok o.stack_ok o.store_ok;
        primitive = λ c w. kept stays (from_ok i c p w) o.env_ok o.globals_ok (λ j k. absurd (omega arith)) o.store_ok;
        closed = λ t w k. closed_sound t (rw w at p) k;
        global_set = λ g. kept stays (constant_in unspecified_constant) o.env_ok
            (λ j k. set_case (λ c. (c ≡ undefined_cell → ⊥) → ValueIn s u c) d.mem.globals g j d.regs.v (λ n. o.v_ok) (o.globals_ok j k)) o.stack_ok
            o.store_ok;
        local_set = λ x y l w k. local_sound l (inside s u o.store_ok x y o.env_ok k);
        pushed = λ k. kept stays o.v_ok o.env_ok o.globals_ok (pushed_ok k) o.store_ok;
        layered = λ n w k l. layered_sound n (rw w at p) k l;
        paired = λ k l. paired_sound k l;
      }))

-- ---- call
pub call_sound : (n : ℕ) (d : Data) (t : ℕ) (r : Regs) → call_rule n d.regs ≡ ok (t, r) → Sound d → Sound (called d r)
call_sound n d t r e o = by_call n d t r e (λ x. Sound (called d x.1)) (λ k. record {
  v_ok = o.v_ok;
  env_ok = o.v_ok.closure_ok k;
  globals_ok = o.globals_ok;
  stack_ok = o.stack_ok;
  store_ok = o.store_ok;
  frames_ok = o.frames_ok;
})

-- ---- make-cont
module _ (n t p : ℕ) (d : Data) (n_fits : n < 2 ^ 8) (t_fits : t < 2 ^ 8) (p_fits : p < 2 ^ 24) (z : Sized d) (b : Bound d) (o : Sound d) where
  frame_sound : d.regs.sp ≡ n → d.fr + n + 1 ≤ 2048 → FramesOk d.mem.store d.regs.st (with_frame n t p d).frames (d.fr + n + 1)
  frame_sound all room =
      frame {base = d.fr} {c = c} {fr = d.fr + n + 1}
      (frames_moved (more_used _ _ _ (omega arith)) o.frames_ok (λ i h. other i (omega arith) ∙ sets_below d.frames vs d.fr i h))
      (rw last (get_or-set_same cs (d.fr + n) c 0 (omega (arith, z.frames_length, length-sets d.frames d.fr vs))))
      (omega (arith, back.0)) (λ i h. value i (omega (arith, back.0))) (rw back.2 o.env_ok)
    where
      c : ℕ
      c = frame_cell n t d.regs.env p

      vs : List ℕ
      vs = take n d.mem.stack

      cs : List ℕ
      cs = sets d.frames d.fr vs

      back : (frame_count c ≡ n) × (frame_template c ≡ t) × (frame_env c ≡ d.regs.env) × (frame_place c ≡ p) × (tag_of c ≡ 10)
      back = frame_back n t d.regs.env p n_fits t_fits b.env_bound p_fits

      last : d.fr + n + 1 - 1 ≡ d.fr + n
      last = omega arith

      count : length vs ≡ n
      count = length-take n d.mem.stack ∙ omega (arith, z.stack_length)

      other : (i : ℕ) → i < d.fr + n → get_or (set cs (d.fr + n) c) i 0 ≡ get_or cs i 0
      other i h = get_or-set_other cs (d.fr + n) i c 0 (λ e. omega arith)

      value : (i : ℕ) → i < n → ValueIn d.mem.store d.regs.st (get_or (set cs (d.fr + n) c) (d.fr + i) 0)
      value i h =
          rw (
            other (d.fr + i) (omega arith),
            sets_at d.frames vs d.fr (d.fr + i) i (omega (arith, z.frames_length, count)) refl
                (omega (arith, count)),
            get_or-take n d.mem.stack i 0 h,
          )
          (o.stack_ok i (omega arith))

  pub make_cont_sound : (d' : Data) → make_cont_rule n t p d ≡ ok d' → Sound d'
  make_cont_sound d' e = by_make_cont n t p d d' e Sound (λ k l. record {
    v_ok = o.v_ok;
    env_ok = o.env_ok;
    globals_ok = o.globals_ok;
    stack_ok = λ i h. absurd (omega arith);
    store_ok = o.store_ok;
    frames_ok = frame_sound k l;
  })

-- ---- return
-- the last frame, of cell c, and those before it
record LastFrame (s : List ℕ) (u : ℕ) (f : List ℕ) (fr c : ℕ) : Type 0 where
  room : frame_count c < fr
  before : FramesOk s u f (fr - 1 - frame_count c)
  values : (i : ℕ) → i < frame_count c → ValueIn s u (get_or f (fr - 1 - frame_count c + i) 0)
  env : EnvOk s u (frame_env c)

last_frame_lem : {s : List ℕ} {u : ℕ} {f : List ℕ} {fr : ℕ} → FramesOk s u f fr → (fr ≡ 0 → ⊥) → LastFrame s u f fr (get_or f (fr - 1) 0)
last_frame_lem (no_frame_lem h) k = absurd (k h)
last_frame_lem (frame {base = base} {c = c} {fr = fr} fs e h vs env) k =
    let b : fr - 1 - frame_count c ≡ base = omega arith in
    rw e (record { room = omega arith; before = rw b fs; values = rw b vs; env = env })

module _ (d : Data) (z : Sized d) (b : Bound d) (o : Sound d) where
  back_sound : (d.fr ≡ 0 → ⊥) → Sound (without_frame d)
  back_sound k = record {
    v_ok = o.v_ok;
    env_ok = l.env;
    globals_ok = o.globals_ok;
    stack_ok = λ i h. rw (value i h) (l.values i h);
    store_ok = o.store_ok;
    frames_ok =
        frames_moved (more_used _ _ _ (omega arith)) l.before (λ i h. sets_below d.frames (replicate (frame_count (last_frame d) + 1) 0) (frame_base d) i h);
  } where
    n : ℕ
    n = frame_count (last_frame d)

    l : LastFrame d.mem.store d.regs.st d.frames d.fr (last_frame d)
    l = last_frame_lem o.frames_ok k

    vs : List ℕ
    vs = part d.frames (frame_base d) n

    count : length vs ≡ n
    count = length-take n (drop (frame_base d) d.frames) ∙ omega (arith, length-drop (frame_base d) d.frames, z.frames_length)

    value : (i : ℕ) → i < n → get_or (sets (zeroed d.mem.stack 0 d.regs.sp) 0 vs) i 0 ≡ get_or d.frames (frame_base d + i) 0
    value i h =
        sets_at (zeroed d.mem.stack 0 d.regs.sp) vs 0 i i (rw length-sets (omega (arith, count, z.stack_length))) (omega arith) (omega (arith, count))
        ∙ get_or-take n (drop (frame_base d) d.frames) i 0 h ∙ get_or-drop (frame_base d) d.frames i 0

  pub return_sound : (t p : ℕ) (d' : Data) → return_rule d ≡ back_to t p d' → Sound d'
  return_sound t p d' e = by_return d t p d' e (λ t p d. Sound d) back_sound
