-- States that are alike but for the numbers of templates and the code places in their frames, where these correspond; make-cont and return keep
-- it. Assumes nothing.
use Rattle.std.specs.Prelude.{◌≡◌, refl, List, ℕ, ◌+◌, ◌-◌, ◌<◌, ◌≤◌, ◌^◌, length, get_or, set, drop, replicate, leb}
use Rattle.std.proofs.Math.Path.{sym}
use Rattle.std.proofs.Common.{◌∙◌, length-set, length-take, length-drop, get_or-set_same, get_or-set_other, get_or-take, get_or-drop}
use Rattle.std.proofs.Math.Bool.{false}
use native.Mathlib.Omega.{arith}
use Rattle.std.proofs.lemmas.List.Edits.{sets}
use Rattle.std.proofs.Math.Seq.{length-sets}
use Rattle.std.proofs.Math.Dec.{eqb}
use borrow.Author.Tests.{leb-true, ne_eqb}
use Rattle.runs.specs.Runs.{part}
use Rattle.cells.specs.Cells.{frame_cell, frame_count, frame_template, frame_env, frame_place}
use Rattle.cells.specs.laws.Laws.{frame_back}
use Rattle.rules.specs.State.{Mem}
use Rattle.rules.specs.laws.Lists.{by_lt, sets_below, zeros_at}
use Rattle.rules.specs.Rules.{Data, make_cont_rule, return_rule}
use Rattle.rules.specs.laws.Related.{ResR, ok_r, need_same, BackR, none_b, some_b}
use Rattle.rules.specs.declared.Regs.{Regs}
use Rattle.lockstep.specs.laws.Likeness.{Likeness, Each, each_sets, each_take, each_replicate, each_of, sets_at, zero_like, each_zeroed}
use Rattle.lockstep.specs.laws.Plain.{RegsLike, regs_l, MemLike}
use Rattle.lockstep.proofs.theorems.PlainLaws.{with_cells}

abbrev pub data_of : Regs → Mem → List ℕ → ℕ → Data
data_of r m f n = record { regs = r; mem = m; frames = f; fr = n }

-- what a frame's cell can hold
pub record FrameFits (n t e p : ℕ) : Type 0 where
  pub n_fits : n < 2 ^ 8
  pub t_fits : t < 2 ^ 8
  pub e_fits : e < 2 ^ 16
  pub p_fits : p < 2 ^ 24

-- R t p t' q j: place p of template t of the first program corresponds to place q of template t' of the second, where j jumps are pending.
-- These places may be saved, by make-cont n in templates t and t'.
pub record Savable (R : ℕ → ℕ → ℕ → ℕ → ℕ → Type 0) (n t p t' q j : ℕ) : Type 0 where
  pub n_fits : n < 2 ^ 8
  pub t_fits : t < 2 ^ 8
  pub p_fits : p < 2 ^ 24
  pub t'_fits : t' < 2 ^ 8
  pub q_fits : q < 2 ^ 24
  pub places : R t p t' q j

module _ (L : Likeness) (R : ℕ → ℕ → ℕ → ℕ → ℕ → Type 0) where
  abbrev C : ℕ → ℕ → Type 0
  C = L.CR

  -- the frames in f and in g below a place, with so many jumps pending in them: each a run of cells that are alike, and a frame cell
  pub data FramesLike (f g : List ℕ) : ℕ → ℕ → Type 0 where
    none_f : FramesLike f g 0 0
    more_f : {base n t t' e p q j J fr m : ℕ} → FramesLike f g base J → ((i : ℕ) → i < n → L.CR (get_or f (base + i) 0) (get_or g (base + i) 0))
        → get_or f (base + n) 0 ≡ frame_cell n t e p → get_or g (base + n) 0 ≡ frame_cell n t' e q → FrameFits n t e p → FrameFits n t' e q
        → R t p t' q j → fr ≡ base + n + 1 → m ≡ j + J → FramesLike f g fr m

  -- what stands above the frames is free
  frames_kept : {f g f' g' : List ℕ} {fr J : ℕ} → FramesLike f g fr J → ((i : ℕ) → i < fr → get_or f' i 0 ≡ get_or f i 0)
      → ((i : ℕ) → i < fr → get_or g' i 0 ≡ get_or g i 0) → FramesLike f' g' fr J
  frames_kept none_f a b = none_f
  frames_kept (more_f {base = base} {n = n} fs same x y k l r h m) a b =
      more_f {base = base} {n = n} (frames_kept fs (λ i p. a i (omega arith)) (λ i p. b i (omega arith)))
      (λ i p. rw (a (base + i) (omega arith), b (base + i) (omega arith)) (same i p))
      (a (base + n) (omega arith) ∙ x) (b (base + n) (omega arith) ∙ y) k l r h m

  -- with what stands above them
  pub record FramesAlike (f g : List ℕ) (fr J : ℕ) : Type 0 where
    pub frames_ok : FramesLike f g fr J
    pub above : (i : ℕ) → fr ≤ i → L.CR (get_or f i 0) (get_or g i 0)
    pub size : length f ≡ 2048
    pub size' : length g ≡ 2048

  pub data Like : Data → Data → ℕ → Type 0 where
    like_d : {r r' : Regs} {m m' : Mem} {f g : List ℕ} {fr J : ℕ} → RegsLike L r r' → MemLike L m m' → FramesAlike f g fr J
        → Like (data_of r m f fr) (data_of r' m' g fr) J

  -- ---- make-cont
  module _ {f g : List ℕ} {fr J : ℕ} (s : FramesAlike f g fr J) {n t p t' q j : ℕ} (x : Savable R n t p t' q j) (room : fr + n + 1 ≤ 2048) (e : ℕ)
      (fit : e < 2 ^ 16)
      {vs ws : List ℕ} (v : Each L.CR vs ws) where
    kept_below : (f vs : List ℕ) (c i : ℕ) → i < fr → get_or (set (sets f fr vs) (fr + n) c) i 0 ≡ get_or f i 0
    kept_below f vs c i h = get_or-set_other (sets f fr vs) (fr + n) i c 0 (λ e. omega arith) ∙ sets_below f vs fr i h

    cell_there : (f vs : List ℕ) (c : ℕ) → length f ≡ 2048 → get_or (set (sets f fr vs) (fr + n) c) (fr + n) 0 ≡ c
    cell_there f vs c h = get_or-set_same (sets f fr vs) (fr + n) c 0 (rw (length-sets f fr vs, h) (omega arith))

    cells_like : (c c' i : ℕ) → fr ≤ i → (i ≡ fr + n → ⊥) → L.CR (get_or (set (sets f fr vs) (fr + n) c) i 0) (get_or (set (sets g fr ws) (fr + n) c') i 0)
    cells_like c c' i h k =
        rw (get_or-set_other (sets f fr vs) (fr + n) i c 0 k, get_or-set_other (sets g fr ws) (fr + n) i c' 0 k)
        (sets_at v f g fr i (s.size ∙ sym s.size') (s.above i h))

    abbrev c₁ : ℕ
    c₁ = frame_cell n t e p

    abbrev c₂ : ℕ
    c₂ = frame_cell n t' e q

    frames_more : FramesAlike (set (sets f fr vs) (fr + n) c₁) (set (sets g fr ws) (fr + n) c₂) (fr + n + 1) (j + J)
    frames_more = record {
      frames_ok =
          more_f {base = fr} {n = n} {t = t} {t' = t'} {e = e} {p = p} {q = q} {j = j} {J = J}
          (frames_kept s.frames_ok (λ i h. kept_below f vs c₁ i h) (λ i h. kept_below g ws c₂ i h))
          (λ i h. cells_like c₁ c₂ (fr + i) (omega arith) (λ e. omega arith))
          (cell_there f vs c₁ s.size) (cell_there g ws c₂ s.size')
          (record { n_fits = x.n_fits; t_fits = x.t_fits; e_fits = fit; p_fits = x.p_fits })
          (record { n_fits = x.n_fits; t_fits = x.t'_fits; e_fits = fit; p_fits = x.q_fits })
          x.places refl refl;
      above = λ i u. cells_like c₁ c₂ i (omega arith) (λ e. omega arith);
      size = simp (length-set, length-sets) s.size;
      size' = simp (length-set, length-sets) s.size';
    }

  pub keep_like : {n t p t' q j J : ℕ} {d d' : Data} → Savable R n t p t' q j → Like d d' J
      → ResR (λ a b. Like a b (j + J)) (make_cont_rule n t p d) (make_cont_rule n t' q d')
  unfolding make_cont_rule
  keep_like {n} x (like_d {fr = fr} (regs_l {e = e} {sp = sp} y fit) k s) =
      need_same (eqb sp n) 10
      (λ h. need_same (leb (fr + n + 1) 2048) 18
      (λ l. ok_r (like_d (regs_l y fit) (with_cells L k (each_zeroed L 0 n k.stack_like) k.store_like)
      (frames_more s x (leb-true _ _ l) e fit (each_take n k.stack_like)))))

  -- ---- return
  -- what a return reads off the last frame's cell
  record Last (f : List ℕ) (fr base n t e p : ℕ) : Type 0 where
    count_is : frame_count (get_or f (fr - 1) 0) ≡ n
    template_is : frame_template (get_or f (fr - 1) 0) ≡ t
    env_is : frame_env (get_or f (fr - 1) 0) ≡ e
    place_is : frame_place (get_or f (fr - 1) 0) ≡ p

  last_is : (f : List ℕ) (fr base n t e p : ℕ) → fr ≡ base + n + 1 → get_or f (base + n) 0 ≡ frame_cell n t e p → FrameFits n t e p → Last f fr base n t e p
  last_is f fr base n t e p h x k =
      let i : fr - 1 ≡ base + n = omega arith in
      let c : get_or f (fr - 1) 0 ≡ frame_cell n t e p = rw i x in
      let b = frame_back n t e p k.n_fits k.t_fits k.e_fits k.p_fits in
      record { count_is = rw c b.0; template_is = rw c b.1; env_is = rw c b.2; place_is = rw c b.3 }

  part_like : (f g : List ℕ) (u n : ℕ) → length f ≡ length g → ((i : ℕ) → i < n → L.CR (get_or f (u + i) 0) (get_or g (u + i) 0))
      → Each L.CR (part f u n) (part g u n)
  part_like f g u n h e =
      each_of (part f u n) (part g u n)
      (length-take n (drop u f) ∙ simp (length-drop, h) (sym (simp (length-take, length-drop))))
      (λ i k. let l : i < n = omega (arith, length-take n (drop u f), k) in rw
      (get_or-take n (drop u f) i 0 l, get_or-take n (drop u g) i 0 l, get_or-drop u f i 0, get_or-drop u g i 0) (e i l))

  -- the frames with the last one taken off
  frames_less : {f g : List ℕ} {base J : ℕ} (n : ℕ) → FramesLike f g base J → length f ≡ 2048 → length g ≡ 2048
      → ((i : ℕ) → base + n + 1 ≤ i → L.CR (get_or f i 0) (get_or g i 0))
      → FramesAlike (sets f base (replicate (n + 1) 0)) (sets g base (replicate (n + 1) 0)) base J
  frames_less {f} {g} {base} n fs s s' a = record {
    frames_ok = frames_kept fs (λ i c. sets_below f (replicate (n + 1) 0) base i c) (λ i c. sets_below g (replicate (n + 1) 0) base i c);
    above = λ i c. by_lt i (base + (n + 1))
        (λ c'. rw (zeros_at f base (n + 1) i c c', zeros_at g base (n + 1) i c c') (zero_like L))
        (λ c'. sets_at {C = L.CR} (each_replicate 0 0 (zero_like L) (n + 1)) f g base i (s ∙ sym s') (a i (omega arith)));
    size = length-sets f base (replicate (n + 1) 0) ∙ s;
    size' = length-sets g base (replicate (n + 1) 0) ∙ s';
  }

  backs : {r r' : Regs} {m m' : Mem} {f g : List ℕ} {fr J : ℕ} → RegsLike L r r' → MemLike L m m' → FramesLike f g fr J → length f ≡ 2048 → length g ≡ 2048
      → ((i : ℕ) → fr ≤ i → L.CR (get_or f i 0) (get_or g i 0)) → BackR R Like (return_rule (data_of r m f fr)) (return_rule (data_of r' m' g fr)) J
  unfolding return_rule
  backs z k none_f s s' a = none_b
  backs {f = f} {g = g} {fr = fr} (regs_l {sp = sp} z fit) h
      (more_f {base = base} {n = n} {t = t} {t' = t'} {e = e} {p = p} {q = q} fs same x y k l r u m) s s' a =
      let o : eqb fr 0 ≡ false = ne_eqb fr 0 (λ o. omega arith) in
      let v = last_is f fr base n t e p u x k in
      let v' = last_is g fr base n t' e q u y l in
      let b : fr - 1 - n ≡ base = omega arith in
      rw (o, v.count_is, v.template_is, v.env_is, v.place_is, v'.count_is, v'.template_is, v'.env_is, v'.place_is, b)
      (some_b r
      (like_d (regs_l z k.e_fits)
      (with_cells L h (each_sets (part_like f g base n (s ∙ sym s') same) (each_zeroed L 0 sp h.stack_like) 0) h.store_like)
      (frames_less n fs s s' (λ i c. a i (omega arith))))
      m)

  pub back_like : {d d' : Data} {J : ℕ} → Like d d' J → BackR R Like (return_rule d) (return_rule d') J
  back_like (like_d z k s) = backs z k s.frames_ok s.size s.size' s.above
