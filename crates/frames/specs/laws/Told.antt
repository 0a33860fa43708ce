-- From what a function answers to how its rule ends. Assumes nothing.
use Rattle.std.specs.Prelude.{◌≡◌, refl, Bool, cond, List, ℕ, eqb, Some, None, Ok}
use Rattle.std.proofs.Common.{ap, ◌∙◌}
use Rattle.std.proofs.Math.Bool.{true, false}
use Rattle.cells.specs.laws.Laws.{clash}
use Rattle.cells.specs.Cells.{frame_cell, frame_template, frame_place}
use Rattle.rules.specs.State.{Mem, Res, ok, wrong}
use Rattle.rules.specs.Rules.{Data, Back, no_frame, back_to, last_frame, without_frame, keep_rule, make_cont_rule, return_rule}
use Rattle.rules.specs.declared.Regs.{Regs}
use Rattle.frames.specs.Ends.{state, Left, left, Kept, kept, back, told_kept, told_back}

pub keep_is : (n t p x : ℕ) (d : Data) → x ≡ frame_cell n t d.regs.env p → keep_rule n x d ≡ make_cont_rule n t p d
unfolding make_cont_rule
keep_is n t p x d e = rw e

-- make_cont's promise, with the cell of a frame at template t and place p
pub kept_is : {l : Left Kept} (n t p x : ℕ) (d : Data) → l ≡ told_kept d (keep_rule n x d) → x ≡ frame_cell n t d.regs.env p
    → l ≡ told_kept d (make_cont_rule n t p d)
kept_is n t p x d h e = h ∙ ap (told_kept d) (keep_is n t p x d e)

module _ (d : Data) (m : Mem) (f : List ℕ) where
  pub kept_on : (r : Regs) (k : ℕ) (x : Res Data) → kept (Ok (r, k)) m f ≡ told_kept d x → x ≡ ok (state r m f k)
  unfolding told_kept
  kept_on r k (ok e) h =
      let p : ◌≡◌ {A = Regs × ℕ} (r, k) (e.regs, e.fr) = cc in
      let a : r ≡ e.regs = ap (λ (x : Regs × ℕ). x.0) p in
      let b : k ≡ e.fr = ap (λ (x : Regs × ℕ). x.1) p in
      let c : m ≡ e.mem = cc in
      let g : f ≡ e.frames = cc in
      rw (a, b, c, g)
  kept_on r k (wrong n) h = clash (cc)

  -- of any number; `kept (Err w)` leaves `wrong (wrong_number w)`
  pub kept_wrong : (n : ℕ) (x : Res Data) → left (wrong n) m f ≡ told_kept d x → (x ≡ wrong n) × (m ≡ d.mem) × (f ≡ d.frames)
  unfolding told_kept
  kept_wrong n (ok e) h = clash (cc)
  kept_wrong n (wrong k) h = let a : n ≡ k = cc in let b : m ≡ d.mem = cc in let c : f ≡ d.frames = cc in (rw a, b, c)

  back_by : (b : Bool) (r : Regs) (k c : ℕ)
      → back (Some (r, k, c)) m f ≡ told_back d (cond b no_frame (back_to (frame_template (last_frame d)) (frame_place (last_frame d)) (without_frame d)))
      → cond b no_frame (back_to (frame_template (last_frame d)) (frame_place (last_frame d)) (without_frame d)) ≡ back_to (frame_template c) (frame_place c)
      (state r m f k)
  unfolding told_back
  back_by true r k c h = clash (cc)
  back_by false r k c h =
      let all : ◌≡◌ {A = Regs × ℕ × ℕ} (r, k, c) ((without_frame d).regs, (without_frame d).fr, last_frame d) = cc in
      let e : c ≡ last_frame d = ap (λ (x : Regs × ℕ × ℕ). x.2) all in
      let p : r ≡ (without_frame d).regs = ap (λ (x : Regs × ℕ × ℕ). x.0) all in
      let q : k ≡ (without_frame d).fr = ap (λ (x : Regs × ℕ × ℕ). x.1) all in
      let u : m ≡ (without_frame d).mem = cc in
      let w : f ≡ (without_frame d).frames = cc in
      rw (e, p, q, u, w)

  pub back_to_lem : (r : Regs) (k c : ℕ) → back (Some (r, k, c)) m f ≡ told_back d (return_rule d)
      → return_rule d ≡ back_to (frame_template c) (frame_place c) (state r m f k)
  unfolding return_rule
  back_to_lem r k c h = back_by (eqb d.fr 0) r k c h

  pub back_halt : (x : Back) → back None m f ≡ told_back d x → (x ≡ no_frame) × (m ≡ d.mem) × (f ≡ d.frames)
  unfolding told_back
  back_halt no_frame h = let b : m ≡ d.mem = cc in let c : f ≡ d.frames = cc in (refl, b, c)
  back_halt (back_to t p e) h = clash (cc)
