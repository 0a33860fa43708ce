-- The program's lines in its output. Assumes nothing.
use Prim.Native.Nat.{ℕ, ◌+◌, ◌≤◌, ◌<◌}
use native.Mathlib.Omega.{arith}
use mathlib.Core.Path.{◌≡◌, ap, ◌∙◌}
use mathlib.Core.List.{List}
use borrow.Author.Tests.{le-leb, lt-leb}
use lib.ListN.{length}
use lib.Seq.{sets-eq}
use Rattle.text.specs.Put.{Put}
use Rattle.lines.specs.Lines.{printed, program_output}
use Rattle.std.specs.Prelude.{Ok, Err}
use Rattle.files.specs.Refusal.{refusal}

pub lines_fit : {old new : List ℕ} {r : ℕ} (bs : List ℕ) → Put old 0 new r bs → r ≤ length old → (Ok r ≡ printed bs (length old)) × (new ≡ program_output bs old)
unfolding printed program_output
lines_fit {old} {new} {r} bs p h =
    let k : length bs ≤ length old = omega arith in
    let z : 0 + length bs ≡ length bs = omega arith in
    (simp (le-leb _ _ k) (ap Ok (p.next ∙ z)), simp (le-leb _ _ k) (p.holds ∙ sets-eq bs old 0 (omega arith) ∙ rw z))

pub lines_do_not_fit : {old new : List ℕ} {r : ℕ} (bs out : List ℕ) → Put old 0 new r bs → length out < r → (Err (refusal 9 r) ≡ printed bs (length out)) × (out ≡ program_output bs out)
unfolding printed program_output
lines_do_not_fit {old} {new} {r} bs out p h =
    let k : length out < length bs = omega (arith, p.next) in
    let e : r ≡ length bs = omega (arith, p.next) in
    (simp (lt-leb _ _ k) (ap (λ (k : ℕ). Err (refusal 9 k)) e), simp (lt-leb _ _ k))
