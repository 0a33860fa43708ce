-- What the lines tell. Assumes nothing.
use Rattle.std.specs.Prelude.{ℕ, ◌≡◌, refl, Bool, true, false, cond, ◌&&◌, List, [], ◌∷◌, eqb, ℤ, length, ◌≤ℤ◌}
use Rattle.std.proofs.Common.{arith, sym, ap, eqb-true}
use Rattle.std.specs.Int.Signed.{lt_z, lt_z_no}
use Rattle.cells.specs.Cells.{full, tag_of, int_of}
use Rattle.text.specs.Text.{decimal, integer}
use Rattle.integers.specs.Integers.{signed}
use Rattle.machines.specs.declared.End.{End}
use Rattle.machines.specs.declared.End.TheVariants.{Halted, Wrong, OutOfBudget, Refused}
use Rattle.pull.specs.Pull.{word, ok_word, order_word, low_word, high_word, none_word, wrong_word, verdict, source_words, halted_words, end_words}

-- ---- an `ok` line has in at most out, and both within the clip's media
pub record Within (i o first last : ℤ) : Type 0 where
  pub ordered : i ≤ℤ o
  pub from : first ≤ℤ i
  pub to : o ≤ℤ last

not_less : (a b : ℤ) → lt_z a b ≡ false → b ≤ℤ a
not_less a b e = lt_z_no {a = a} {b = b} (rw e tt)

-- the other words are longer
ok_verdict : (i o first last : ℤ) → verdict i o first last ≡ ok_word → Within i o first last
unfolding verdict
ok_verdict i o first last = by (lt_z o i) (lt_z i first) (lt_z last o) refl refl refl
  where
    by : (x y z : Bool) → lt_z o i ≡ x → lt_z i first ≡ y → lt_z last o ≡ z
        → cond x order_word (cond y low_word (cond z high_word ok_word)) ≡ ok_word → Within i o first last
    by true y z a b c e = absurd (let n : length order_word ≡ length ok_word = ap length e in omega arith)
    by false true z a b c e = absurd (let n : length low_word ≡ length ok_word = ap length e in omega arith)
    by false false true a b c e = absurd (let n : length high_word ≡ length ok_word = ap length e in omega arith)
    by false false false a b c e = record { ordered = not_less o i a; from = not_less i first b; to = not_less last o c }

-- what a line whose second word is `ok` tells: source in and out are these integers
pub record Ok (clip : List ℤ) (e : End) (i o : ℕ) (ws : List (List ℕ)) : Type 0 where
  pub told : ws ≡ integer full (int_of i) ∷ integer full (int_of o) ∷ []
  pub in_is : tag_of i ≡ 6
  pub out_is : tag_of o ≡ 6
  pub within : Within (signed (int_of i)) (signed (int_of o)) (word clip 6) (word clip 7)

no_ok : (w : List ℕ) (ws vs : List (List ℕ)) → (length w ≡ 2 → ⊥) → w ∷ ws ≡ ok_word ∷ vs → ⊥
no_ok w ws vs h e = let same : w ≡ ok_word = cc in h (ap length same)

pub ok_line : (clip : List ℤ) (e : End) (i o : ℕ) (ws : List (List ℕ)) → end_words clip e i o ≡ ok_word ∷ ws → Ok clip e i o ws
unfolding end_words halted_words source_words
ok_line clip (Halted v) i o ws h = by (eqb (tag_of i) 6) (eqb (tag_of o) 6) refl refl h
  where
    by : (x y : Bool) → eqb (tag_of i) 6 ≡ x → eqb (tag_of o) 6 ≡ y → cond (x && y) (source_words clip (int_of i) (int_of o)) (none_word ∷ []) ≡ ok_word ∷ ws
        → Ok clip (Halted v) i o ws
    by true true a b e =
        let first : verdict (signed (int_of i)) (signed (int_of o)) (word clip 6) (word clip 7) ≡ ok_word = cc in
        let rest : integer full (int_of i) ∷ integer full (int_of o) ∷ [] ≡ ws = cc in
        record { told = sym rest; in_is = eqb-true (tag_of i) 6 a; out_is = eqb-true (tag_of o) 6 b; within = ok_verdict _ _ _ _ first }
    by true false a b e = absurd (no_ok none_word [] ws (λ (n : 4 ≡ 2). omega arith) e)
    by false y a b e = absurd (no_ok none_word [] ws (λ (n : 4 ≡ 2). omega arith) e)
ok_line clip (Wrong n) i o ws e = absurd (no_ok wrong_word (decimal n ∷ []) ws (λ (n : 5 ≡ 2). omega arith) e)
ok_line clip OutOfBudget i o ws e = absurd (no_ok wrong_word (decimal 19 ∷ []) ws (λ (n : 5 ≡ 2). omega arith) e)
ok_line clip (Refused n p) i o ws e = absurd (no_ok wrong_word (decimal n ∷ []) ws (λ (n : 5 ≡ 2). omega arith) e)
