-- Environments are sound: each is empty or leads to a layer whose cells are in use, and so are the layers further out; what is in use holds
-- values, layers and frames that lead to such environments. So a place that local and set-local! find is in use. Assumes nothing.
use Rattle.std.specs.Prelude.{◌≡◌, refl, Bool, true, false, cond, List, [], ◌∷◌, get_or, set, ltb, eqb}
use Rattle.std.proofs.Common.{◌∙◌, arith, get_or-set_other}
use Rattle.std.proofs.Math.Option.{Option, none, some}
use Prim.Native.Nat.{ℕ, zero, suc, ◌+◌, ◌-◌, ◌<◌, ◌≤◌}
use borrow.Author.Tests.{ltb-true, eqb-false}
use Rattle.cells.specs.laws.Laws.{clash}
use Rattle.cells.specs.Cells.{tag_of, undefined_cell, closure_env, pair_first, pair_second, layer_parent, layer_count, frame_count, frame_env, ValueCell}
use Rattle.cells.specs.Cells.{cell_of, Fits}
use Rattle.cells.specs.declared.Value.{Value}
use Rattle.cells.specs.declared.Value.TheVariants.{False, True, Null, Unspecified, Integer, Procedure, Pair, NoValue}
use Rattle.rules.specs.Rules.{Data, walk}
use Rattle.rules.specs.laws.Effects.{ConstantCell}

-- ---- what is said of the store s, of which u cells are in use
abbrev pub NoLayer : ℕ → Type 0
NoLayer c = tag_of c ≡ 9 → ⊥

-- at i stands a layer cell, and the cells that it counts are in use and are no layer cells
pub record Layer (s : List ℕ) (u i : ℕ) : Type 0 where
  pub layer_tag : tag_of (get_or s i 0) ≡ 9
  pub region : i + 1 + layer_count (get_or s i 0) ≤ u
  pub region_cells : (k : ℕ) → k < layer_count (get_or s i 0) → NoLayer (get_or s (i + 1 + k) 0)

pub data EnvOk (s : List ℕ) (u e : ℕ) : Type 0 where
  empty : e ≡ 0 → EnvOk s u e
  layer : Layer s u (e - 1) → EnvOk s u e

-- at l a value is held
pub record Spot (s : List ℕ) (u l : ℕ) : Type 0 where
  pub below : l < u
  pub no_layer : NoLayer (get_or s l 0)

-- c is a value's cell: the environment of a closure is ok, and at a pair's locations values are held
pub record ValueIn (s : List ℕ) (u c : ℕ) : Type 0 where
  pub cell : ValueCell c
  pub closure_ok : tag_of c ≡ 7 → EnvOk s u (closure_env c)
  pub first_ok : tag_of c ≡ 8 → Spot s u (pair_first c)
  pub second_ok : tag_of c ≡ 8 → Spot s u (pair_second c)

-- what stands at i, in use: a layer, whose parent environment stands before it, or a value
pub data StoreCell (s : List ℕ) (u i : ℕ) : Type 0 where
  a_layer : Layer s u i → EnvOk s i (layer_parent (get_or s i 0)) → StoreCell s u i
  a_value : ValueIn s u (get_or s i 0) → StoreCell s u i

-- the frames in f below a place: each so many values and then a frame cell c
pub data FramesOk (s : List ℕ) (u : ℕ) (f : List ℕ) : ℕ → Type 0 where
  no_frame_lem : {fr : ℕ} → fr ≡ 0 → FramesOk s u f fr
  frame : {base c fr : ℕ} → FramesOk s u f base → get_or f (fr - 1) 0 ≡ c → fr ≡ base + frame_count c + 1
      → ((i : ℕ) → i < frame_count c → ValueIn s u (get_or f (base + i) 0)) → EnvOk s u (frame_env c) → FramesOk s u f fr

-- ---- THE INVARIANT
abbrev pub GlobalsOk : List ℕ → ℕ → List ℕ → Type 0
GlobalsOk s u g = (i : ℕ) → i < 256 → (get_or g i 0 ≡ undefined_cell → ⊥) → ValueIn s u (get_or g i 0)

abbrev pub StackOk : List ℕ → ℕ → List ℕ → ℕ → Type 0
StackOk s u l sp = (i : ℕ) → i < sp → ValueIn s u (get_or l i 0)

abbrev pub StoreOk : List ℕ → ℕ → Type 0
StoreOk s u = (i : ℕ) → i < u → StoreCell s u i

pub record Sound (d : Data) : Type 0 where
  pub v_ok : ValueIn d.mem.store d.regs.st d.regs.v
  pub env_ok : EnvOk d.mem.store d.regs.st d.regs.env
  pub globals_ok : GlobalsOk d.mem.store d.regs.st d.mem.globals
  pub stack_ok : StackOk d.mem.store d.regs.st d.mem.stack d.regs.sp
  pub store_ok : StoreOk d.mem.store d.regs.st
  pub frames_ok : FramesOk d.mem.store d.regs.st d.frames d.fr

-- ---- values
value_tag : (v : Value) → Fits v → NoLayer (cell_of v)
unfolding cell_of Fits
value_tag False h e = omega arith
value_tag True h e = omega arith
value_tag Null h e = omega arith
value_tag Unspecified h e = omega arith
value_tag (Integer x) h e = omega arith
value_tag (Procedure p) h e = omega arith
value_tag (Pair a b) h e = omega arith
value_tag NoValue h e = h

pub value_no_layer : {s : List ℕ} {u c : ℕ} → ValueIn s u c → NoLayer c
value_no_layer x = rw x.cell.is (value_tag x.cell.value x.cell.fits)

pub constant_in : {s : List ℕ} {u c : ℕ} → ConstantCell c → ValueIn s u c
constant_in k = record { cell = k.cell; closure_ok = λ e. absurd (omega arith); first_ok = λ e. absurd (omega arith); second_ok = λ e. absurd (omega arith) }

-- what a location holds
pub spot_value : {s : List ℕ} {u l : ℕ} → Spot s u l → StoreCell s u l → ValueIn s u (get_or s l 0)
spot_value x (a_layer l e) = absurd (x.no_layer l.layer_tag)
spot_value x (a_value v) = v

-- ---- the store from s, u to s', u': layers stay, and what is no layer becomes none
pub record Grows (s : List ℕ) (u : ℕ) (s' : List ℕ) (u' : ℕ) : Type 0 where
  pub more : u ≤ u'
  pub layers_stay : (i : ℕ) → i < u → tag_of (get_or s i 0) ≡ 9 → get_or s' i 0 ≡ get_or s i 0
  pub others_stay : (i : ℕ) → i < u → NoLayer (get_or s i 0) → NoLayer (get_or s' i 0)

-- the cells in use stay
pub grown : (s : List ℕ) (u : ℕ) (s' : List ℕ) (u' : ℕ) → u ≤ u' → ((i : ℕ) → i < u → get_or s' i 0 ≡ get_or s i 0) → Grows s u s' u'
grown s u s' u' h e = record { more = h; layers_stay = λ i k t. e i k; others_stay = λ i k t. rw (e i k) t }

pub more_used : (s : List ℕ) (u u' : ℕ) → u ≤ u' → Grows s u s u'
more_used s u u' h = grown s u s u' h (λ i k. refl)

-- P of every cell of l stays where one is set that P holds of
pub set_case : (P : ℕ → Type 0) (l : List ℕ) (u i a : ℕ) → P a → P (get_or l i 0) → P (get_or (set l u a) i 0)
set_case P [] u i a h k = k
set_case P (x ∷ l) zero zero a h k = h
set_case P (x ∷ l) zero (suc i) a h k = k
set_case P (x ∷ l) (suc u) zero a h k = k
set_case P (x ∷ l) (suc u) (suc i) a h k = set_case P l u i a h k

-- a value takes another's place
pub replaced : (s : List ℕ) (u l c : ℕ) → Spot s u l → NoLayer c → Grows s u (set s l c) u
replaced s u l c x n = record {
  more = omega arith;
  layers_stay = λ i k t. get_or-set_other s l i c 0 (λ e. x.no_layer (rw e at t));
  others_stay = λ i k t. set_case NoLayer s l i c n t;
}

module _ {s : List ℕ} {u : ℕ} {s' : List ℕ} {u' : ℕ} (g : Grows s u s' u') where
  pub lower : (i : ℕ) → i ≤ u → Grows s i s' i
  lower i h = record { more = omega arith; layers_stay = λ j k. g.layers_stay j (omega arith); others_stay = λ j k. g.others_stay j (omega arith) }

  layer_moved : {i : ℕ} → Layer s u i → Layer s' u' i
  layer_moved {i} l =
      let e : get_or s' i 0 ≡ get_or s i 0 = g.layers_stay i (omega arith) l.layer_tag in
      record {
        layer_tag = rw e l.layer_tag;
        region = rw e (omega arith);
        region_cells = rw e (λ k h. g.others_stay (i + 1 + k) (omega arith) (l.region_cells k h));
      }

  pub env_moved : {e : ℕ} → EnvOk s u e → EnvOk s' u' e
  env_moved (empty h) = empty h
  env_moved (layer l) = layer (layer_moved l)

  pub spot_moved : {l : ℕ} → Spot s u l → Spot s' u' l
  spot_moved {l} x = record { below = omega arith; no_layer = g.others_stay l x.below x.no_layer }

  pub value_moved : {c : ℕ} → ValueIn s u c → ValueIn s' u' c
  value_moved x = record {
    cell = x.cell;
    closure_ok = λ t. env_moved (x.closure_ok t);
    first_ok = λ t. spot_moved (x.first_ok t);
    second_ok = λ t. spot_moved (x.second_ok t);
  }

  -- the frames, with others above them
  pub frames_moved : {f f' : List ℕ} {fr : ℕ} → FramesOk s u f fr → ((i : ℕ) → i < fr → get_or f' i 0 ≡ get_or f i 0) → FramesOk s' u' f' fr
  frames_moved (no_frame_lem h) a = no_frame_lem h
  frames_moved (frame {base = base} {fr = fr} fs e h vs env) a =
      frame (frames_moved fs (λ i k. a i (omega arith))) (a (fr - 1) (omega arith) ∙ e) h
      (λ i k. rw (a (base + i) (omega arith)) (value_moved (vs i k))) (env_moved env)

module _ {s : List ℕ} {u : ℕ} {s' : List ℕ} {u' : ℕ} (g : Grows s u s' u') where
  -- a cell of the store that stays
  pub store_moved : {i : ℕ} → i < u → get_or s' i 0 ≡ get_or s i 0 → StoreCell s u i → StoreCell s' u' i
  store_moved {i} h e (a_layer l p) = a_layer (layer_moved g l) (rw e (env_moved (lower g i (omega arith)) p))
  store_moved {i} h e (a_value v) = a_value (rw e (value_moved g v))

-- ---- THE LAW: at a place that is found a value is held
not_none : {B : Type 0} {l : ℕ} → ◌≡◌ {A = Option ℕ} none (some l) → B
not_none e = clash (cc)

cond_else : (b : Bool) (o : Option ℕ) {l : ℕ} → cond b none o ≡ some l → (b ≡ false) × (o ≡ some l)
cond_else true o e = not_none e
cond_else false o e = (refl, e)

cond_then : (b : Bool) (k : ℕ) {l : ℕ} → cond b (some k) none ≡ some l → (b ≡ true) × (k ≡ l)
cond_then true k e = (refl, cc)
cond_then false k e = not_none e

-- an environment that is not empty leads to a layer
to_layer : {s : List ℕ} {u e : ℕ} → EnvOk s u e → eqb e 0 ≡ false → Layer s u (e - 1)
to_layer {e = e} (empty h) k = absurd (eqb-false e 0 k h)
to_layer (layer l) k = l

parent_ok : {s : List ℕ} {u i : ℕ} → Layer s u i → StoreCell s u i → EnvOk s u (layer_parent (get_or s i 0))
parent_ok {s} {u} {i} l (a_layer l' p) = env_moved (more_used s i u (omega arith)) p
parent_ok l (a_value v) = absurd (value_no_layer v l.layer_tag)

module _ (s : List ℕ) (u : ℕ) (store_ok : StoreOk s u) where
  pub inside : (a b : ℕ) {e l : ℕ} → EnvOk s u e → walk s e a b ≡ some l → Spot s u l
  unfolding walk
  inside zero b {e} o w =
      let x = cond_else (eqb e 0) _ w in
      let y = cond_then (ltb b (layer_count (get_or s (e - 1) 0))) (e + b) x.1 in
      let z : Layer s u (e - 1) = to_layer o x.0 in
      let h : b < layer_count (get_or s (e - 1) 0) = ltb-true _ _ y.0 in
      let n : e - 1 + 1 + b ≡ e + b = omega (arith, eqb-false e 0 x.0) in
      rw (← y.1) (record { below = omega arith; no_layer = rw n at (z.region_cells b h) })
  inside (suc a) b {e} o w =
      let x = cond_else (eqb e 0) _ w in
      let z : Layer s u (e - 1) = to_layer o x.0 in
      inside a b (parent_ok z (store_ok (e - 1) (omega arith))) x.1

pub sound_inside : {d : Data} (a b l : ℕ) → Sound d → walk d.mem.store d.regs.env a b ≡ some l
    → (l < d.regs.st) × (tag_of (get_or d.mem.store l 0) ≡ 9 → ⊥)
sound_inside {d} a b l o w = let x = inside d.mem.store d.regs.st o.store_ok a b o.env_ok w in (x.below, x.no_layer)
