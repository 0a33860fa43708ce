-- How make-cont and return end, and what their functions answer.
use Rattle.std.specs.Prelude.{List, ℕ, ◌≤◌, Option, Some, None, Result, Ok, Err}
use Rattle.rules.specs.State.{Mem, Res, ok, wrong, answered}
use Rattle.rules.specs.Fit.{Fit}
use Rattle.rules.specs.Rules.{Data, Back, no_frame, back_to, last_frame}
use Rattle.rules.specs.declared.Regs.{Regs}
use Rattle.rules.specs.declared.Wrong.{Wrong}

abbrev pub state : Regs → Mem → List ℕ → ℕ → Data
state r m f n = record { regs = r; mem = m; frames = f; fr = n }

-- what a function answers, and the cells that it leaves
pub data Left (A : Type 0) : Type 0 where
  left : A → Mem → List ℕ → Left A

-- make-cont's registers and frame cells in use, or a number
abbrev pub Kept : Type 0
Kept = Res (Regs × ℕ)

abbrev pub kept : Result (Regs × ℕ) Wrong → Mem → List ℕ → Left Kept
kept x m f = left (answered x) m f

-- how make-cont ends that begins with the state d
unfoldable pub told_kept : Data → Res Data → Left Kept
told_kept d (ok e) = left (ok (e.regs, e.fr)) e.mem e.frames
told_kept d (wrong n) = left (wrong n) d.mem d.frames

abbrev pub ends_kept : (Data → Res Data) → Data → Left Kept
ends_kept rule d = told_kept d (rule d)

-- return's registers, frame cells in use and the frame's cell; or that it halts
abbrev pub Returned : Type 0
Returned = Option (Regs × ℕ × ℕ)

abbrev pub back : Returned → Mem → List ℕ → Left Returned
back x m f = left x m f

-- how return ends that begins with the state d; the frame's cell holds the template and the place
unfoldable pub told_back : Data → Back → Left Returned
told_back d no_frame = left None d.mem d.frames
told_back d (back_to t p e) = left (Some (e.regs, e.fr, last_frame d)) e.mem e.frames

abbrev pub ends_back : (Data → Back) → Data → Left Returned
ends_back rule d = told_back d (rule d)

-- what a function goes on with fits
abbrev pub KeptFit : Result (Regs × ℕ) Wrong → Type 0
KeptFit (Ok x) = Fit x.0 × (x.1 ≤ 2048)
KeptFit (Err w) = Unit {0}

abbrev pub BackFit : Returned → Type 0
BackFit None = Unit {0}
BackFit (Some x) = Fit x.0 × (x.1 ≤ 2048)
