-- A clip's globals and its run, clip by clip. Assumes nothing.
use Prim.Native.Nat.{ℕ, zero, suc, ◌+◌, ◌-◌, ◌*◌, ◌≤◌, ◌<◌}
use native.Mathlib.Numerals.{add-one}
use native.Mathlib.Omega.{arith}
use mathlib.Core.Path.{◌≡◌, refl, sym, ap, ◌∙◌}
use mathlib.Core.Bool.{true}
use mathlib.Core.List.{List, [], ◌∷◌, append-nil}
use borrow.Author.Tests.{eq-eqb}
use lib.IntN.{ℤ, pos}
use lib.ListN.{length, set, get_or, take, drop, replicate, length-replicate, drop_of_length-le}
use lib.Seq.{sets, sets-eq, get_or-take, get_or-drop}
use Rattle.cells.specs.Cells.{full, undefined_cell, int_cell, tag_of, int_of, starting_global}
use Rattle.machines.specs.Runs.{memory, Ran, ran, linear_run}
use Rattle.linear_machine.specs.Again.{AllFit}
use Rattle.linear_machine.specs.laws.Again.{Alike, run_alike}
use Rattle.text.specs.Put.{Put}
use Rattle.text.specs.laws.Laws.{put_then}
use Rattle.pull.specs.Pull.{clip_count, clip_at, word, word_cell, clip_globals, clip_memory, found_of, clip_run, found_line, pull_line, pull_lines, pull_list}

-- ---- the loop that fills all n places with x, at place i: what is left, filled, gives a list of x
module _ (g : List ℕ) (i n x : ℕ) where
  pub fill_on : i < n → sets (set g i x) (i + 1) (replicate (n - (i + 1)) x) ≡ sets g i (replicate (n - i) x)
  fill_on h = let e : n - i ≡ suc (n - (i + 1)) = omega arith in rw (e, add-one i)

  pub fill_done : n ≤ i → sets g i (replicate (n - i) x) ≡ g
  fill_done h = let e : n - i ≡ 0 = omega arith in rw e

pub fill_all : (g : List ℕ) (n x : ℕ) → length g ≡ n → sets g 0 (replicate n x) ≡ replicate n x
fill_all g n x h =
    let l : 0 + length (replicate n x) ≡ n = rw (length-replicate n x) (omega arith) in
    sets-eq (replicate n x) g 0 (omega arith) ∙ rw (l, drop_of_length-le g {i = n} (omega arith)) (append-nil (replicate n x))

-- ---- six stores into the globals
abbrev pub six_words : List ℤ → List ℕ
six_words clip =
    word_cell (word clip 0) ∷ word_cell (word clip 1) ∷ word_cell (word clip 2)
    ∷ word_cell (word clip 3) ∷ word_cell (word clip 4) ∷ word_cell (word clip 5) ∷ []

-- the first n are stored
abbrev pub Stored : List ℤ → ℕ → List ℕ → Type 0
Stored clip n g = g ≡ sets (replicate 256 undefined_cell) 0 (take n (six_words clip))

pub store_next : (clip : List ℤ) (n : ℕ) (g : List ℕ) (x : ℕ) → n < 6 → Stored clip n g → x ≡ word_cell (word clip n) → Stored clip (n + 1) (set g n x)
store_next clip zero g x h s e = rw (s, e)
store_next clip (suc zero) g x h s e = rw (s, e)
store_next clip (suc (suc zero)) g x h s e = rw (s, e)
store_next clip (suc (suc (suc zero))) g x h s e = rw (s, e)
store_next clip (suc (suc (suc (suc zero)))) g x h s e = rw (s, e)
store_next clip (suc (suc (suc (suc (suc zero))))) g x h s e = rw (s, e)
store_next clip (suc (suc (suc (suc (suc (suc n)))))) g x h s e = absurd (omega arith)

pub all_stored : (clip : List ℤ) (g : List ℕ) → Stored clip 6 g → g ≡ clip_globals clip
unfolding clip_globals
all_stored clip g s = s

pub undefined_fit : (n : ℕ) → AllFit (replicate n undefined_cell)
unfolding starting_global
undefined_fit zero = tt
undefined_fit (suc n) = (refl, undefined_fit n)

pub fit_set : (g : List ℕ) (n x : ℕ) → AllFit g → starting_global x ≡ true → AllFit (set g n x)
fit_set [] n x a e = a
fit_set (y ∷ g) zero x a e = (e, a.1)
fit_set (y ∷ g) (suc n) x a e = (a.0, fit_set g n x a.1 e)

-- an integer of the width is fit for a start
pub integer_fits : (x : ℕ) → x < full → starting_global (int_cell x) ≡ true
unfolding starting_global
integer_fits x h =
    let tag : tag_of (int_cell x) ≡ 6 = omega arith in
    let bits : int_of (int_cell x) ≡ x = omega arith in
    rw (eq-eqb (tag_of (int_cell x)) 6 tag, bits) (eq-eqb (int_cell x) (int_cell x) refl)

-- ---- the run
found_alike : (x y : Ran) → Alike x y → found_of x ≡ found_of y
unfolding found_of
found_alike (ran r m) (ran s n) h = rw (h.run, h.globals)

-- what stack, store and frames held is not seen
pub run_found : (clip : List ℤ) (file : List ℕ) (b : ℕ) (g k t f : List ℕ) (x : Ran) → g ≡ clip_globals clip
    → length k ≡ 256 → length t ≡ 2048 → length f ≡ 2048 → x ≡ linear_run file b 0 (memory g k t f) → found_of x ≡ clip_run clip file b
unfolding clip_run clip_memory
run_found clip file b g k t f x hg hk ht hf e =
    let a = run_alike file b 0 g k t f (replicate 256 0) (replicate 2048 0) (replicate 2048 0)
    (hk ∙ sym (length-replicate {A = ℕ} 256 0)) (ht ∙ sym (length-replicate {A = ℕ} 2048 0)) (hf ∙ sym (length-replicate {A = ℕ} 2048 0)) in
    ap found_of e ∙ found_alike _ _ a ∙ rw hg

-- ---- clip k
pub clip_part : (cs : List ℤ) (k : ℕ) → take (8 * k + 8 - 8 * k) (drop (8 * k) cs) ≡ clip_at cs k
unfolding clip_at
clip_part cs k = let e : 8 * k + 8 - 8 * k ≡ 8 = omega arith in rw e

pub clip_word : (cs : List ℤ) (k n : ℕ) → n < 8 → word (clip_at cs k) n ≡ get_or cs (8 * k + n) (pos 0)
unfolding clip_at word
clip_word cs k n h = get_or-take 8 (drop (8 * k) cs) n (pos 0) h ∙ get_or-drop (8 * k) cs n (pos 0)

pub put_clip : {a b : List ℕ} {at r : ℕ} (cs : List ℤ) (file : List ℕ) (budget k : ℕ) {f : _} → f ≡ clip_run (clip_at cs k) file budget
    → Put a at b r (found_line k (clip_at cs k) f) → Put a at b r (pull_line k (clip_at cs k) file budget)
unfolding pull_line
put_clip cs file budget k e p = rw (sym e) p

-- ---- the lines of the first clips
pub no_lines : (list : List ℕ) (cs : List ℤ) (file : List ℕ) (b : ℕ) → Put list 0 list 0 (pull_lines cs file b 0)
unfolding pull_lines
no_lines list cs file b = record { next = omega arith; holds = refl }

pub one_line_more : {x y z : List ℕ} {at r : ℕ} (cs : List ℤ) (file : List ℕ) (b k : ℕ) → Put x 0 y at (pull_lines cs file b k)
    → Put y at z r (pull_line k (clip_at cs k) file b) → Put x 0 z r (pull_lines cs file b (k + 1))
unfolding pull_lines
one_line_more cs file b k p q = rw (add-one k) (put_then p q)

pub all_lines : {x y : List ℕ} {r : ℕ} (cs : List ℤ) (file : List ℕ) (b k : ℕ) → k ≡ clip_count cs → Put x 0 y r (pull_lines cs file b k)
    → Put x 0 y r (pull_list cs file b)
unfolding pull_list
all_lines cs file b k e p = rw e at p
