-- A clip's line, word by word. Assumes nothing.
use Prim.Native.Nat.{ℕ, suc, ◌+◌, ◌≤◌, ◌<◌}
use native.Mathlib.Omega.{arith}
use mathlib.Core.Path.{◌≡◌, refl, ap}
use mathlib.Core.Bool.{Bool, true, false, cond, ◌&&◌}
use mathlib.Core.List.{List, [], ◌∷◌, ◌++◌, append_assoc}
use borrow.Author.Tests.{eq-eqb, ne_eqb}
use lib.Dec.{eqb}
use lib.IntN.{ℤ}
use lib.ListN.{length, length-append}
use lib.Signed.{lt_z}
use Rattle.cells.specs.Cells.{full, tag_of, int_of}
use Rattle.text.specs.Text.{decimal, integer, line}
use Rattle.text.specs.Put.{Put}
use Rattle.text.specs.laws.Laws.{put_then, put_before}
use Rattle.text.specs.laws.Lengths.{decimal_length, integer_length}
use Rattle.machines.specs.declared.End.{End}
use Rattle.machines.specs.declared.End.TheVariants.{Halted, Wrong, OutOfBudget, Refused}
use Rattle.pull.specs.declared.Found.{Found}
use Rattle.pull.specs.Pull.{verdict, order_word, low_word, high_word, ok_word, none_word, source_words, halted_words, end_words, found_line}

-- ---- the first word that fits
module _ (i o first last : ℤ) where
  pub verdict_order : lt_z o i ≡ true → verdict i o first last ≡ order_word
  unfolding verdict
  verdict_order a = rw a

  pub verdict_low : lt_z o i ≡ false → lt_z i first ≡ true → verdict i o first last ≡ low_word
  unfolding verdict
  verdict_low a b = rw (a, b)

  pub verdict_high : lt_z o i ≡ false → lt_z i first ≡ false → lt_z last o ≡ true → verdict i o first last ≡ high_word
  unfolding verdict
  verdict_high a b c = rw (a, b, c)

  pub verdict_ok : lt_z o i ≡ false → lt_z i first ≡ false → lt_z last o ≡ false → verdict i o first last ≡ ok_word
  unfolding verdict
  verdict_ok a b c = rw (a, b, c)

-- ---- two integers, or none
module _ (clip : List ℤ) (i o : ℕ) where
  pub no_in : (tag_of i ≡ 6 → ⊥) → halted_words clip i o ≡ none_word ∷ []
  unfolding halted_words
  no_in h = rw (ne_eqb (tag_of i) 6 h)

  pub no_out : tag_of i ≡ 6 → (tag_of o ≡ 6 → ⊥) → halted_words clip i o ≡ none_word ∷ []
  unfolding halted_words
  no_out h k = rw (eq-eqb (tag_of i) 6 h, ne_eqb (tag_of o) 6 k)

  pub both : tag_of i ≡ 6 → tag_of o ≡ 6 → halted_words clip i o ≡ source_words clip (int_of i) (int_of o)
  unfolding halted_words
  both h k = rw (eq-eqb (tag_of i) 6 h, eq-eqb (tag_of o) 6 k)

-- ---- how long numbers are
-- also where integers have 48 bits
pub integer_short : (x : ℕ) → length (integer full x) ≤ 16
integer_short x = integer_length 14 full x (omega arith) (omega arith)

pub number_short : (n : ℕ) → n < 256 → length (decimal n) ≤ 3
number_short n h = decimal_length 2 n (omega arith)

-- ---- two words, each with what follows it, are a line
pub put_two : {a b c : List ℕ} {at l m : ℕ} (u v : List ℕ) → Put a at b l (u ++ (32 ∷ [])) → Put b l c m (v ++ (10 ∷ [])) → Put a at c m (line (u ∷ v ∷ []))
unfolding line
put_two u v p q = put_before u v [] p q

-- ---- the clip's number, and the line after it
pub number_after : {a b : List ℕ} {at r : ℕ} (k : ℕ) → k < 256 → Put a at b r (decimal k ++ (32 ∷ [])) → r ≤ at + 4
number_after k h p = omega (arith, number_short k h, simp length-append at p.next)

words_follow : (u : List ℕ) (ws : List (List ℕ)) → (ws ≡ [] → ⊥) → line (u ∷ ws) ≡ u ++ (32 ∷ line ws)
unfolding line
words_follow u [] h = absurd (h refl)
words_follow u (w ∷ ws) h = refl

some_words : (w : List ℕ) (ws : List (List ℕ)) → ◌≡◌ {A = List (List ℕ)} (w ∷ ws) [] → ⊥
some_words w ws e = let z : suc (length ws) ≡ 0 = ap length e in omega arith

halted_some : (clip : List ℤ) (i o : ℕ) → halted_words clip i o ≡ [] → ⊥
unfolding halted_words
halted_some clip i o = by (eqb (tag_of i) 6 && eqb (tag_of o) 6)
  where
    by : (t : Bool) → cond t (source_words clip (int_of i) (int_of o)) (none_word ∷ []) ≡ [] → ⊥
    by true e = some_words _ _ e
    by false e = some_words _ _ e

end_some : (clip : List ℤ) (e : End) (i o : ℕ) → end_words clip e i o ≡ [] → ⊥
unfolding end_words
end_some clip (Halted v) i o = halted_some clip i o
end_some clip (Wrong n) i o = some_words _ _
end_some clip OutOfBudget i o = some_words _ _
end_some clip (Refused n p) i o = some_words _ _

pub put_found : {a b c : List ℕ} {at l m : ℕ} (k : ℕ) (clip : List ℤ) (f : Found) → Put a at b l (decimal k ++ (32 ∷ []))
    → Put b l c m (line (end_words clip f.end f.six f.seven)) → Put a at c m (found_line k clip f)
unfolding found_line
put_found k clip f p q =
    let follow = words_follow (decimal k) (end_words clip f.end f.six f.seven) (end_some clip f.end f.six f.seven) in
    rw follow (simp append_assoc at (put_then p q))
