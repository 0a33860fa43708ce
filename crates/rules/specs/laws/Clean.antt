-- What the rules keep: the lists' lengths, the registers' bounds, and that cells that are not in use are zero (document 01, 'Cells').
-- Assumes nothing.
use Rattle.std.specs.Prelude.{◌≡◌, refl, Bool, true, false, cond, List, [], ◌∷◌, reverse, ℕ, ◌+◌, ◌<◌, ◌≤◌, length, get_or, set, take, replicate, leb, eqb}
use Rattle.std.proofs.Common.{◌∙◌, arith, length-set, length-take, get_or-set_other, leb-true, eqb-true}
use Rattle.std.proofs.Math.Option.{some}
use Rattle.std.proofs.lemmas.List.{length-reverse, length-replicate}
use Rattle.std.proofs.lemmas.List.Edits.{sets}
use Rattle.std.proofs.Math.Seq.{length-sets}
use Rattle.std.proofs.lemmas.Bool.{eqb-false}
use Rattle.runs.specs.Runs.{zeroed, part}
use Rattle.cells.specs.Cells.{tag_of, closure_template, closure_env, layer_cell, frame_cell, frame_count, frame_template, frame_place}
use Rattle.rules.specs.State.{Mem, regs, Held, ok}
use Rattle.rules.specs.Fit.{Fit}
use Rattle.rules.specs.laws.Lists.{by_lt, sets_above, zeros_at}
use Rattle.rules.specs.Rules.{Data, applied, called, Back, no_frame, back_to, walk, last_frame, frame_base, with_frame, without_frame, plain_rule, call_rule}
use Rattle.rules.specs.Rules.{make_cont_rule}
use Rattle.rules.specs.Rules.{return_rule}
use Rattle.rules.specs.laws.Effects.{leaves_ok, checked, Effects, effect}
use Rattle.rules.specs.declared.Regs.{Regs}
use Rattle.rules.specs.declared.Plain.{Plain}
use Rattle.rules.specs.declared.Plain.TheVariants.{SetLocal}

-- ---- what is said of a state
pub record Sized (d : Data) : Type 0 where
  pub globals_length : length d.mem.globals ≡ 256
  pub stack_length : length d.mem.stack ≡ 256
  pub store_length : length d.mem.store ≡ 2048
  pub frames_length : length d.frames ≡ 2048

pub record Bound (d : Data) : Type 0 where
  pub sp_bound : d.regs.sp ≤ 256
  pub st_bound : d.regs.st ≤ 2048
  pub fr_bound : d.fr ≤ 2048
  pub env_bound : d.regs.env < 65536

-- l is zero from place u on
abbrev pub ZeroFrom : List ℕ → ℕ → Type 0
ZeroFrom l u = (i : ℕ) → u ≤ i → get_or l i 0 ≡ 0

pub record Clean (d : Data) : Type 0 where
  pub clean_stack : ZeroFrom d.mem.stack d.regs.sp
  pub clean_store : ZeroFrom d.mem.store d.regs.st
  pub clean_frames : ZeroFrom d.frames d.fr

-- a place that set-local! finds is in use
abbrev pub Inside : Plain → Data → Type 0
Inside i d = (a b l : ℕ) → i ≡ SetLocal a b → walk d.mem.store d.regs.env a b ≡ some l → l < d.regs.st

-- ---- P of what a return leaves
abbrev GivesBack : (ℕ → ℕ → Data → Type 0) → Back → Type 0
GivesBack P no_frame = Unit {0}
GivesBack P (back_to t p d) = P t p d

given_back : (P : ℕ → ℕ → Data → Type 0) (x : Back) (t p : ℕ) (d : Data) → x ≡ back_to t p d → GivesBack P x → P t p d
given_back P x t p d e h = rw e at h

framed : (P : ℕ → ℕ → Data → Type 0) (b : Bool) (x : Back) → (b ≡ false → GivesBack P x) → GivesBack P (cond b no_frame x)
framed P true x f = tt
framed P false x f = f refl

-- ---- lists that are zero from a place on
pub stored : (l vs : List ℕ) (u w : ℕ) → ZeroFrom l u → u + length vs ≤ w → ZeroFrom (sets l u vs) w
stored l vs u w h k i p = sets_above l vs u i (omega arith) ∙ h i (omega arith)

pub one_stored : (l : List ℕ) (u w a : ℕ) → ZeroFrom l w → u < w → ZeroFrom (set l u a) w
one_stored l u w a h k i p = get_or-set_other l u i a 0 (λ e. omega arith) ∙ h i p

pub cleared : (l : List ℕ) (u n w : ℕ) → ZeroFrom l w → w ≤ u + n → ZeroFrom (zeroed l u n) u
cleared l u n w h k i p =
    by_lt i (u + n)
    (λ q. zeros_at l u n i p q)
    (λ q. sets_above l (replicate n 0) u i (simp length-replicate q) ∙ h i (omega arith))

module _ (d d' : Data) where
  same_lengths : length d'.mem.globals ≡ length d.mem.globals → length d'.mem.stack ≡ length d.mem.stack
      → length d'.mem.store ≡ length d.mem.store → length d'.frames ≡ length d.frames → Sized d → Sized d'
  same_lengths g s t f z = record {
    globals_length = g ∙ z.globals_length;
    stack_length = s ∙ z.stack_length;
    store_length = t ∙ z.store_length;
    frames_length = f ∙ z.frames_length;
  }

-- ---- the plain rules
-- the registers that a plain rule leaves; its environment is as it was, or a new layer's
pub plain_fit : (i : Plain) (m : Mem) (r : Regs) (h : Held) (u : ℕ) → plain_rule i m r ≡ ok h → 2048 ≤ u → Fit r → r.env ≤ u
    → Fit h.regs × (h.regs.env ≤ u)
plain_fit i m r h u e large f low =
    leaves_ok (λ h. Fit h.regs × (h.regs.env ≤ u)) (plain_rule i m r) h e (effect m r (λ h. Fit h.regs × (h.regs.env ≤ u)) i (record {
      valued = λ c w. omega arith;
      primitive = λ c w. omega arith;
      closed = λ t w k. omega arith;
      global_set = λ g. omega arith;
      local_set = λ a b l w k. omega arith;
      pushed = λ k. omega arith;
      layered = λ n w k l. omega arith;
      paired = λ k l. omega arith;
    }))

module _ (i : Plain) (d : Data) (h : Held) (e : plain_rule i d.mem d.regs ≡ ok h) where
  plainly : (P : Held → Type 0) → Effects i d.mem d.regs P → P h
  plainly P f = leaves_ok P (plain_rule i d.mem d.regs) h e (effect d.mem d.regs P i f)

  pub plain_sized : Sized d → Sized (applied d h)
  plain_sized z = plainly (λ h. Sized (applied d h)) (record {
    valued = λ c w. kept refl refl refl;
    primitive = λ c w. kept refl (simp length-sets) refl;
    closed = λ t w k. kept refl refl (simp length-set);
    global_set = λ g. kept (simp length-set) refl refl;
    local_set = λ a b l w k. kept refl refl (simp length-set);
    pushed = λ k. kept refl (simp length-set) refl;
    layered = λ n w k l. kept refl (simp length-sets) (simp length-sets);
    paired = λ k l. kept refl (simp length-sets) (simp length-sets);
  }) where
    kept : {h : Held} → length h.mem.globals ≡ length d.mem.globals → length h.mem.stack ≡ length d.mem.stack
        → length h.mem.store ≡ length d.mem.store → Sized (applied d h)
    kept {h} g s t = same_lengths d (applied d h) g s t refl z

  pub plain_bound : Bound d → Bound (applied d h)
  plain_bound bound = let f = plain_fit i d.mem d.regs h 65535 e (omega arith) (omega arith) (omega arith) in omega arith

  pub plain_clean : Inside i d → Clean d → Clean (applied d h)
  plain_clean inside c = plainly (λ h. Clean (applied d h)) (record {
    valued = λ x w. cleaned c.clean_stack c.clean_store;
    primitive = λ x w. cleaned (emptied d.regs.sp (omega arith)) c.clean_store;
    closed = λ t w k. cleaned c.clean_stack (stored s (_ ∷ []) d.regs.st (d.regs.st + 1) c.clean_store (omega arith));
    global_set = λ g. cleaned c.clean_stack c.clean_store;
    local_set = λ a b l w k. cleaned c.clean_stack (one_stored s l d.regs.st d.regs.v c.clean_store (inside a b l w k));
    pushed = λ k. cleaned (stored d.mem.stack (d.regs.v ∷ []) d.regs.sp (d.regs.sp + 1) c.clean_stack (omega arith)) c.clean_store;
    layered = λ n w k l. cleaned (emptied n (omega arith))
        (stored s (layer_cell d.regs.env n ∷ reverse (take n d.mem.stack)) d.regs.st (d.regs.st + 1 + n) c.clean_store
        (simp (length-reverse, length-take) (omega arith)));
    paired = λ k l. cleaned (emptied d.regs.sp (omega arith)) (stored s (_ ∷ _ ∷ []) d.regs.st (d.regs.st + 2) c.clean_store (omega arith));
  }) where
    s : List ℕ
    s = d.mem.store

    emptied : (n : ℕ) → d.regs.sp ≤ n → ZeroFrom (zeroed d.mem.stack 0 n) 0
    emptied n k = cleared d.mem.stack 0 n d.regs.sp c.clean_stack (omega arith)

    cleaned : {h : Held} → ZeroFrom h.mem.stack h.regs.sp → ZeroFrom h.mem.store h.regs.st → Clean (applied d h)
    cleaned p q = record { clean_stack = p; clean_store = q; clean_frames = c.clean_frames }

-- ---- call
module _ (n : ℕ) (d : Data) (t : ℕ) (r : Regs) (e : call_rule n d.regs ≡ ok (t, r)) where
  pub by_call : (P : ℕ × Regs → Type 0)
      → (tag_of d.regs.v ≡ 7 → P (closure_template d.regs.v, regs d.regs.v (closure_env d.regs.v) d.regs.sp d.regs.st)) → P (t, r)
  unfolding call_rule
  by_call P f =
      leaves_ok P (call_rule n d.regs) (t, r) e
      (checked P (eqb d.regs.sp n) 10 _ (λ k. checked P (eqb (tag_of d.regs.v) 7) 11 _ (λ k. f (eqb-true _ 7 k))))

  pub call_template : t < 256
  call_template = by_call (λ x. x.0 < 256) (λ k. omega arith)

  pub call_sized : Sized d → Sized (called d r)
  call_sized z = same_lengths d (called d r) refl refl refl refl z

  pub call_bound : Bound d → Bound (called d r)
  call_bound b = by_call (λ x. Bound (called d x.1)) (λ k. omega arith)

  pub call_clean : Clean d → Clean (called d r)
  call_clean c =
      by_call (λ x. Clean (called d x.1)) (λ k. record { clean_stack = c.clean_stack; clean_store = c.clean_store; clean_frames = c.clean_frames })

-- ---- make-cont
module _ (n t p : ℕ) (d d' : Data) (e : make_cont_rule n t p d ≡ ok d') where
  pub by_make_cont : (P : Data → Type 0) → (d.regs.sp ≡ n → d.fr + n + 1 ≤ 2048 → P (with_frame n t p d)) → P d'
  unfolding make_cont_rule
  by_make_cont P f =
      leaves_ok P (make_cont_rule n t p d) d' e
      (checked P (eqb d.regs.sp n) 10 _ (λ k. checked P (leb (d.fr + n + 1) 2048) 18 _ (λ l. f (eqb-true _ n k) (leb-true _ 2048 l))))

  pub make_cont_sized : Sized d → Sized d'
  make_cont_sized z = by_make_cont Sized (λ k l. same_lengths d (with_frame n t p d) refl (simp length-sets) refl (simp (length-set, length-sets)) z)

  pub make_cont_bound : Bound d → Bound d'
  make_cont_bound b = by_make_cont Bound (λ k l. omega arith)

  pub make_cont_clean : Clean d → Clean d'
  make_cont_clean c = by_make_cont Clean (λ k l. record {
    clean_stack = cleared d.mem.stack 0 n d.regs.sp c.clean_stack (omega arith);
    clean_store = c.clean_store;
    clean_frames = one_stored (sets d.frames d.fr (take n d.mem.stack)) (d.fr + n) (d.fr + n + 1) (frame_cell n t d.regs.env p)
        (stored d.frames (take n d.mem.stack) d.fr (d.fr + n + 1) c.clean_frames (simp length-take (omega arith))) (omega arith);
  })

-- ---- return
module _ (d : Data) (t p : ℕ) (d' : Data) (e : return_rule d ≡ back_to t p d') where
  pub by_return : (P : ℕ → ℕ → Data → Type 0) → ((d.fr ≡ 0 → ⊥) → P (frame_template (last_frame d)) (frame_place (last_frame d)) (without_frame d)) → P t p d'
  unfolding return_rule
  by_return P f = given_back P (return_rule d) t p d' e (framed P (eqb d.fr 0) _ (λ k. f (eqb-false d.fr 0 k)))

  pub return_template : t < 256
  return_template = by_return (λ t p d. t < 256) (λ k. omega arith)

  pub return_place : p < 0x1000000
  return_place = by_return (λ t p d. p < 0x1000000) (λ k. omega arith)

  pub return_sized : Sized d → Sized d'
  return_sized z = by_return (λ t p d. Sized d) (λ k. same_lengths d (without_frame d) refl (simp length-sets) refl (simp length-sets) z)

  pub return_bound : Bound d → Bound d'
  return_bound b = by_return (λ t p d. Bound d) (λ k. omega arith)

  pub return_clean : Clean d → Clean d'
  return_clean c = by_return (λ t p d. Clean d) (λ k. record {
    clean_stack = stored (zeroed d.mem.stack 0 d.regs.sp) (part d.frames (frame_base d) (frame_count (last_frame d))) 0 (frame_count (last_frame d))
        (cleared d.mem.stack 0 d.regs.sp d.regs.sp c.clean_stack (omega arith)) (simp length-take (omega arith));
    clean_store = c.clean_store;
    clean_frames = cleared d.frames (frame_base d) (frame_count (last_frame d) + 1) d.fr c.clean_frames (omega arith);
  })
