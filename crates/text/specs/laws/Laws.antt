-- Bytes put one after the other. Assumes nothing.
use Rattle.std.specs.Prelude.{ℕ, ◌≤◌, ◌≡◌, List, [], ◌∷◌, ◌++◌, length, take}
use Rattle.std.proofs.Common.{arith, ap, ◌∙◌, append_assoc, length-append, take_at}
use Rattle.std.proofs.lemmas.List.Edits.{sets-eq}
use Rattle.std.proofs.Math.Seq.{length-sets}
use Rattle.cells.specs.laws.Lists.{sets_append}
use Rattle.text.specs.Put.{Put}
use Rattle.text.specs.Text.{line}

pub put_then : {a b c : List ℕ} {at m n : ℕ} {xs ys : List ℕ} → Put a at b m xs → Put b m c n ys → Put a at c n (xs ++ ys)
put_then p q = record { next = simp length-append (omega arith); holds = rw (q.holds, p.holds, p.next, ← sets_append) }

pub put_length : {a b : List ℕ} {at m : ℕ} {bs : List ℕ} → Put a at b m bs → length b ≡ length a
put_length {a} {b} {at} {m} {bs} p = ap length p.holds ∙ length-sets a at bs

-- a word and its blank in front of a line are a line
pub put_before : {a b c : List ℕ} {at l m : ℕ} (u v : List ℕ) (ws : List (List ℕ))
    → Put a at b l (u ++ (32 ∷ [])) → Put b l c m (line (v ∷ ws)) → Put a at c m (line (u ∷ v ∷ ws))
unfolding line
put_before u v ws p q = simp append_assoc at (put_then p q)

-- three words, each with what follows it, are a line
pub put_line : {a b c d : List ℕ} {at l m n : ℕ} (u v w : List ℕ)
    → Put a at b l (u ++ (32 ∷ [])) → Put b l c m (v ++ (32 ∷ [])) → Put c m d n (w ++ (10 ∷ [])) → Put a at d n (line (u ∷ v ∷ w ∷ []))
unfolding line
put_line u v w p q r = put_before u v (w ∷ []) p (put_before v w [] q r)

-- what was put at the buffer's start
pub put_taken : {old new : List ℕ} {r : ℕ} (bs : List ℕ) → Put old 0 new r bs → r ≤ length old → take r new ≡ bs
put_taken {old} {new} {r} bs p h =
    let n : length bs ≡ r = omega arith in
    rw (p.holds, sets-eq bs old 0 (omega arith)) (take_at bs _ r n)
