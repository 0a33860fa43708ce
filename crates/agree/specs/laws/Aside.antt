-- Frames that are the same but for their code places, code places aside. Assumes nothing.
use Rattle.std.specs.Prelude.{ℕ, ◌+◌, ◌-◌, ◌<◌, ◌≡◌, List, map, get_or}
use Rattle.std.proofs.Common.{arith, ◌∙◌, eq-eqb}
use Rattle.std.proofs.Math.Path.{sym, ap}
use Rattle.std.proofs.lemmas.List.{length-map}
use Rattle.std.proofs.Math.ListN.{get_or-map}
use Rattle.std.proofs.Math.Seq.{ext_get_or}
use Rattle.cells.specs.Cells.{tag_of, frame_cell}
use Rattle.cells.specs.laws.Laws.{frame_back}
use Rattle.rules.specs.Rules.{Data}
use Rattle.rules.specs.laws.Lists.{by_lt}
use Rattle.lockstep.proofs.theorems.Frames.{none_f, more_f, FrameFits}
use Rattle.lockstep.proofs.theorems.Same.{FramesR, Same}
use Rattle.agree.specs.Demand3.{aside}

aside_frame : (n t e p : ℕ) → FrameFits n t e p → aside (frame_cell n t e p) ≡ frame_cell n t e 0
unfolding aside
aside_frame n t e p k =
    let b = frame_back n t e p k.n_fits k.t_fits k.e_fits k.p_fits in
    rw (eq-eqb (tag_of (frame_cell n t e p)) 10 b.4, b.3) (omega arith)

-- places that correspond are in one template
module _ (R : ℕ → ℕ → ℕ → ℕ → ℕ → Type 0) (one : (t p t' q j : ℕ) → R t p t' q j → t ≡ t') where
  frames_aside : {f g : List ℕ} {fr J : ℕ} → FramesR R f g fr J → (i : ℕ) → i < fr → aside (get_or f i 0) ≡ aside (get_or g i 0)
  frames_aside none_f i h = absurd (omega arith)
  frames_aside {f} {g} (more_f {base = base} {n = n} {t = t} {t' = t'} {e = e} {p = p} {q = q} {j = j} fs same x y k l r u m) i h =
      by_lt i base
      (λ a. frames_aside fs i a)
      (λ a. by_lt i (base + n)
      (λ b. let z : i ≡ base + (i - base) = omega arith in ap aside (rw z (same (i - base) (omega arith))))
      (λ b. let z : i ≡ base + n = omega arith in
      rw (z, x, y) (aside_frame n t e p k ∙ ap (λ t. frame_cell n t e 0) (one t p t' q j r) ∙ sym (aside_frame n t' e q l))))

  -- THE LAW
  pub frames_alike : {d d' : Data} {J : ℕ} → Same R d d' J → map aside d.frames ≡ map aside d'.frames
  unfolding aside
  frames_alike {d} {d'} s =
      ext_get_or 0 (map aside d.frames) (map aside d'.frames)
      (length-map d.frames aside ∙ s.size ∙ sym (length-map d'.frames aside ∙ s.size'))
      (λ i h. get_or-map aside d.frames i 0 ∙ at i ∙ sym (get_or-map aside d'.frames i 0))
    where
      at : (i : ℕ) → aside (get_or d.frames i 0) ≡ aside (get_or d'.frames i 0)
      at i = by_lt i d.fr (λ a. frames_aside s.frames_ok i a) (λ a. ap aside (s.above i a))
