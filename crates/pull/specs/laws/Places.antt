-- A clip's line is the list's line of that number, and depends on that clip, the file and the budget alone. Assumes nothing.
use Prim.Native.Nat.{ℕ, zero, suc, ◌+◌, ◌-◌, ◌/◌, ◌%◌, ◌<◌}
use Rattle.std.proofs.Common.{arith, sym, ◌∙◌}
use Rattle.std.specs.Prelude.{◌≡◌, Bool, cond, ◌&&◌, ltb, ℤ, length, drop, Ok}
use Rattle.std.proofs.Math.Path.{refl, ap}
use Rattle.std.proofs.Math.Bool.{true, false}
use mathlib.Core.List.{List, [], ◌∷◌, ◌++◌, append_assoc}
use borrow.Author.Tests.{ne_eqb, eqb-true, eqb-false}
use Rattle.std.proofs.Math.Dec.{eqb}
use Rattle.std.specs.Int.Signed.{lt_z}
use Rattle.cells.specs.Cells.{full, tag_of, int_of}
use Rattle.text.specs.Text.{digits_within, decimal, integer, line}
use Rattle.integers.specs.Integers.{signed}
use Rattle.machines.specs.declared.End.{End}
use Rattle.machines.specs.declared.End.TheVariants.{Halted, Wrong, OutOfBudget, Refused}
use Rattle.pull.specs.Pull.{clip_count, clip_at, word, ok_word, order_word, low_word, high_word, none_word, wrong_word, verdict, source_words}
use Rattle.pull.specs.Pull.{halted_words, end_words, found_line, clip_run, pull_line, pull_lines, pull_list, pull_checked, listed, pulled_list}

-- ---- the lines of a text, each with its newline
unfoldable pub first_line : List ℕ → List ℕ
first_line [] = []
first_line (c ∷ s) = cond (eqb c 10) (c ∷ []) (c ∷ first_line s)

unfoldable pub after_line : List ℕ → List ℕ
after_line [] = []
after_line (c ∷ s) = cond (eqb c 10) s (after_line s)

unfoldable pub after_lines : ℕ → List ℕ → List ℕ
after_lines zero s = s
after_lines (suc k) s = after_line (after_lines k s)

-- line k, from 0
unfoldable pub line_at : ℕ → List ℕ → List ℕ
line_at k s = first_line (after_lines k s)

-- ---- bytes without a newline
abbrev Plain : List ℕ → Type 0
Plain [] = Unit
Plain (c ∷ s) = (c ≡ 10 → ⊥) × Plain s

plain_both : (s t : List ℕ) → Plain s → Plain t → Plain (s ++ t)
plain_both [] t p q = q
plain_both (c ∷ s) t p q = (p.0, plain_both s t p.1 q)

plain_digit : (n : ℕ) → Plain ((48 + n % 10) ∷ [])
plain_digit n = (λ (e : 48 + n % 10 ≡ 10). omega arith, tt)

plain_digits : (k n : ℕ) → Plain (digits_within k n)
unfolding digits_within
plain_digits zero n = tt
plain_digits (suc k) zero = tt
plain_digits (suc k) (suc n) = plain_both (digits_within k (suc n / 10)) _ (plain_digits k (suc n / 10)) (plain_digit (suc n))

plain_decimal : (n : ℕ) → Plain (decimal n)
unfolding decimal
plain_decimal n = plain_both (digits_within (n / 10) (n / 10)) _ (plain_digits (n / 10) (n / 10)) (plain_digit n)

other : (n : ℕ) → eqb n 10 ≡ false → n ≡ 10 → ⊥
other n e = eqb-false n 10 e

plain_integer : (m x : ℕ) → Plain (integer m x)
unfolding integer
plain_integer m x = by (ltb x (m / 2))
  where
    by : (t : Bool) → Plain (cond t (decimal x) (45 ∷ decimal (m - x)))
    by true = plain_decimal x
    by false = (other 45 refl, plain_decimal (m - x))

-- ---- words
abbrev AllPlain : List (List ℕ) → Type 0
AllPlain [] = Unit
AllPlain (w ∷ ws) = Plain w × AllPlain ws

plain_wrong : Plain wrong_word
plain_wrong = (other 119 refl, (other 114 refl, (other 111 refl, (other 110 refl, (other 103 refl, tt)))))

plain_none : Plain none_word
plain_none = (other 110 refl, (other 111 refl, (other 110 refl, (other 101 refl, tt))))

plain_verdict : (i o first last : ℤ) → Plain (verdict i o first last)
unfolding verdict
plain_verdict i o first last = by (lt_z o i) (lt_z i first) (lt_z last o)
  where
    by : (x y z : Bool) → Plain (cond x order_word (cond y low_word (cond z high_word ok_word)))
    by true y z = (other 111 refl, (other 114 refl, (other 100 refl, (other 101 refl, (other 114 refl, tt)))))
    by false true z = (other 108 refl, (other 111 refl, (other 119 refl, tt)))
    by false false true = (other 104 refl, (other 105 refl, (other 103 refl, (other 104 refl, tt))))
    by false false false = (other 111 refl, (other 107 refl, tt))

plain_halted : (clip : List ℤ) (i o : ℕ) → AllPlain (halted_words clip i o)
unfolding halted_words source_words
plain_halted clip i o = by (eqb (tag_of i) 6 && eqb (tag_of o) 6)
  where
    by : (t : Bool) → AllPlain (cond t (source_words clip (int_of i) (int_of o)) (none_word ∷ []))
    by true = (
      plain_verdict (signed (int_of i)) (signed (int_of o)) (word clip 6) (word clip 7),
      (plain_integer full (int_of i), (plain_integer full (int_of o), tt)),
    )
    by false = (plain_none, tt)

plain_end : (clip : List ℤ) (e : End) (i o : ℕ) → AllPlain (end_words clip e i o)
unfolding end_words
plain_end clip (Halted v) i o = plain_halted clip i o
plain_end clip (Wrong n) i o = (plain_wrong, (plain_decimal n, tt))
plain_end clip OutOfBudget i o = (plain_wrong, (plain_decimal 19, tt))
plain_end clip (Refused n p) i o = (plain_wrong, (plain_decimal n, tt))

-- ---- one line
record IsLine (l : List ℕ) : Type 0 where
  body : List ℕ
  plain : Plain body
  is : l ≡ body ++ (10 ∷ [])

line_is : (ws : List (List ℕ)) → AllPlain ws → IsLine (line ws)
unfolding line
line_is [] p = record { body = []; plain = tt; is = refl }
line_is (w ∷ []) p = record { body = w; plain = p.0; is = refl }
line_is (w ∷ v ∷ ws) p =
    let rest = line_is (v ∷ ws) p.1 in
    record {
      body = w ++ (32 ∷ rest.body);
      plain = plain_both w (32 ∷ rest.body) p.0 (other 32 refl, rest.plain);
      is = ap (λ (l : List ℕ). w ++ (32 ∷ l)) rest.is ∙ sym (append_assoc w (32 ∷ rest.body) (10 ∷ []));
    }

pull_line_lem : (k : ℕ) (clip : List ℤ) (file : List ℕ) (b : ℕ) → IsLine (pull_line k clip file b)
unfolding pull_line found_line
pull_line_lem k clip file b = let f = clip_run clip file b in line_is _ (plain_decimal k, plain_end clip f.end f.six f.seven)

first_of : (s r : List ℕ) → Plain s → first_line ((s ++ (10 ∷ [])) ++ r) ≡ s ++ (10 ∷ [])
unfolding first_line
first_of [] r p = refl
first_of (c ∷ s) r p = rw (ne_eqb c 10 p.0, first_of s r p.1)

after_of : (s r : List ℕ) → Plain s → after_line ((s ++ (10 ∷ [])) ++ r) ≡ r
unfolding after_line
after_of [] r p = refl
after_of (c ∷ s) r p = rw (ne_eqb c 10 p.0, after_of s r p.1)

module _ (cs : List ℤ) (file : List ℕ) (b : ℕ) where
  abbrev this : ℕ → List ℕ
  this k = pull_line k (clip_at cs k) file b

  first_is : (k : ℕ) (r : List ℕ) → first_line (this k ++ r) ≡ this k
  first_is k r =
      let l = pull_line_lem k (clip_at cs k) file b in
      ap (λ (s : List ℕ). first_line (s ++ r)) l.is ∙ first_of l.body r l.plain ∙ sym l.is

  after_is : (k : ℕ) (r : List ℕ) → after_line (this k ++ r) ≡ r
  after_is k r =
      let l = pull_line_lem k (clip_at cs k) file b in
      ap (λ (s : List ℕ). after_line (s ++ r)) l.is ∙ after_of l.body r l.plain

  all_after : (k : ℕ) (r : List ℕ) → after_lines k (pull_lines cs file b k ++ r) ≡ r
  unfolding after_lines pull_lines
  all_after zero r = refl
  all_after (suc k) r =
      ap (λ (s : List ℕ). after_line (after_lines k s)) (append_assoc (pull_lines cs file b k) (this k) r)
      ∙ ap after_line (all_after k (this k ++ r)) ∙ after_is k r

  -- in the lines of n clips, whatever follows them
  line_among : (n k : ℕ) (r : List ℕ) → k < n → line_at k (pull_lines cs file b n ++ r) ≡ this k
  unfolding line_at pull_lines
  line_among zero k r h = absurd (omega arith)
  line_among (suc n) k r h = ap (line_at k) (append_assoc (pull_lines cs file b n) (this n) r) ∙ by (eqb k n) refl (line_among n k (this n ++ r))
    where
      by : (t : Bool) → eqb k n ≡ t → (k < n → line_at k (pull_lines cs file b n ++ (this n ++ r)) ≡ this k)
          → line_at k (pull_lines cs file b n ++ (this n ++ r)) ≡ this k
      by true e before = rw (eqb-true k n e) (ap first_line (all_after n (this n ++ r)) ∙ first_is n r)
      by false e before = let d : k ≡ n → ⊥ = eqb-false k n e in before (omega arith)

  -- of an accepted list
  pub clip_line : (old : List ℕ) (k : ℕ) → pull_checked cs file b (length old) ≡ Ok tt → k < clip_count cs
      → line_at k (pulled_list cs file b old) ≡ pull_line k (clip_at cs k) file b
  unfolding pulled_list listed pull_list
  clip_line old k e h = rw e (line_among (clip_count cs) k (drop (length (pull_list cs file b)) old) h)

-- so two accepted lists that have a clip in the same place have the same line there
pub no_other_clip : (cs ds : List ℤ) (file : List ℕ) (b : ℕ) (old older : List ℕ) (k : ℕ) → pull_checked cs file b (length old) ≡ Ok tt
    → pull_checked ds file b (length older) ≡ Ok tt → k < clip_count cs → k < clip_count ds → clip_at cs k ≡ clip_at ds k
    → line_at k (pulled_list cs file b old) ≡ line_at k (pulled_list ds file b older)
no_other_clip cs ds file b old older k a d h i e =
    clip_line cs file b old k a h ∙ ap (λ (clip : List ℤ). pull_line k clip file b) e ∙ sym (clip_line ds file b older k d i)
