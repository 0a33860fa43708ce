-- A part of a buffer that was written. Assumes nothing.
use Rattle.std.proofs.Common.{ℕ, ◌+◌, ◌-◌, ◌≤◌, ◌≡◌, List, length, take, drop, sym, ap, ◌∙◌, arith, append_assoc}
use Rattle.std.proofs.lemmas.List.Edits.{sets-eq}
use borrow.Rule.Slice.PartMut.{put_mid}
use lib.Seq.{drop-drop}
use Rattle.text.specs.Put.{Put}

-- the part from place at on, up to next, holds bs
pub part_put : (s bs ys : List ℕ) (at next : ℕ) → ys ≡ bs → next ≡ at + length bs → next ≤ length s → Put s at (put_mid at (next - at) s ys) next bs
part_put s bs ys at next same e h =
    let k : at + (next - at) ≡ at + length bs = omega arith in
    let tail : drop (next - at) (drop at s) ≡ drop (at + length bs) s = drop-drop (next - at) at s ∙ ap (λ n. drop n s) k in
    record { next = e; holds = rw (sets-eq bs s at (omega arith), same, tail) (sym (append_assoc (take at s) bs (drop (at + length bs) s))) }
