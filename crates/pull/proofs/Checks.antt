-- What is refused before any run, and the answer. Assumes nothing.
use Prim.Native.Nat.{ℕ, suc, ◌+◌, ◌-◌, ◌*◌, ◌/◌, ◌%◌, ◌≤◌, ◌<◌}
use native.Mathlib.Numerals.{add-one}
use native.Mathlib.Omega.{arith}
use mathlib.Core.Path.{◌≡◌, refl, sym, ap, ◌∙◌}
use mathlib.Core.Bool.{Bool, true, false, cond, ◌&&◌}
use mathlib.Core.List.{List, ◌++◌}
use Rattle.std.specs.Prelude.{Option, Some, None, Result, Ok, Err}
use borrow.Author.Tests.{le-leb, lt-leb, leb-true, eq-eqb, ne_eqb}
use lib.Dec.{leb, eqb}
use lib.IntN.{ℤ, pos}
use lib.ListN.{length, drop, get_or}
use lib.Seq.{sets-eq}
use lib.Signed.{mag, lt_z}
use mir.Syntax.{w32}
use mir.Val.{to_z, of_z}
use mir.Facts.{to_z-of_z}
use Rattle.cells.specs.laws.Laws.{clash}
use Rattle.files.specs.Linear.{linear_read}
use Rattle.linear.specs.Filled.{linear_told}
use Rattle.cells.specs.declared.BitPlace.{BitPlace}
use Rattle.text.specs.Put.{Put}
use Rattle.pull.specs.Pull.{clip_count, clip_at, word, whole_clips, lowest_still, speeds_checked, room_checked, clips_checked}
use Rattle.pull.specs.Pull.{pull_checked, pull_list, answered, listed, pulled, pulled_list, bytes_of}
use Rattle.pull.proofs.Words.{word_fits}
use Rattle.pull.proofs.Clips.{clip_word}
use Rattle.files.specs.declared.Refusal.{Refusal}
use Rattle.files.specs.Refusal.{refusal}

-- ---- 28, clip by clip: k of n are passed
module _ (cs : List ℤ) (n k : ℕ) (h : k < n) (near : mag (get_or cs (8 * k + 3) (pos 0)) < 2147483648) where
  test : {t : Bool} → lt_z (to_z w32 (of_z w32 (get_or cs (8 * k + 3) (pos 0)))) (pos 1) ≡ t → lt_z (word (clip_at cs k) 3) (pos 1) ≡ t
  test e = rw (clip_word cs k 3 (omega arith)) (rw (to_z-of_z (word_fits cs (8 * k + 3) near)) at e)

  left : n - k ≡ suc (n - (k + 1))
  left = omega arith

  pub still : lt_z (to_z w32 (of_z w32 (get_or cs (8 * k + 3) (pos 0)))) (pos 1) ≡ true → lowest_still cs k (n - k) ≡ Some k
  unfolding lowest_still
  still e = rw (left, test e)

  pub moves : lt_z (to_z w32 (of_z w32 (get_or cs (8 * k + 3) (pos 0)))) (pos 1) ≡ false → lowest_still cs k (n - k) ≡ lowest_still cs (k + 1) (n - (k + 1))
  unfolding lowest_still
  moves e = rw (left, test e, add-one k)

pub none_still : (cs : List ℤ) (n k : ℕ) → n ≤ k → lowest_still cs k (n - k) ≡ None
unfolding lowest_still
none_still cs n k h = let e : n - k ≡ 0 = omega arith in rw e

-- ---- 29, 21
module _ (count b room : ℕ) where
  pub no_room_lem : room < 48 * count → Err (refusal 29 0) ≡ room_checked count b room
  unfolding room_checked
  no_room_lem h = rw (lt-leb (48 * count) room h)

  pub large : 48 * count ≤ room → 2000000 < b → Err (refusal 21 0) ≡ room_checked count b room
  unfolding room_checked
  large h k = rw (le-leb (48 * count) room h, lt-leb b 2000000 k)

  pub fits : 48 * count ≤ room → b ≤ 2000000 → Ok tt ≡ room_checked count b room
  unfolding room_checked
  fits h k = rw (le-leb (48 * count) room h, le-leb b 2000000 k)

-- ---- 27, 28, 29, 21
module _ (cs : List ℤ) (b room : ℕ) where
  pub many : 256 < length cs / 8 → Err (refusal 27 0) ≡ clips_checked cs b room
  unfolding clips_checked whole_clips clip_count
  many h = rw (lt-leb (length cs / 8) 256 h)

  pub cut : length cs / 8 ≤ 256 → (length cs % 8 ≡ 0 → ⊥) → Err (refusal 27 0) ≡ clips_checked cs b room
  unfolding clips_checked whole_clips clip_count
  cut h k = rw (le-leb (length cs / 8) 256 h, ne_eqb (length cs % 8) 0 k)

  module _ (h : length cs / 8 ≤ 256) (k : length cs % 8 ≡ 0) where
    whole : clips_checked cs b room ≡ speeds_checked (lowest_still cs 0 (clip_count cs)) (room_checked (clip_count cs) b room)
    unfolding clips_checked whole_clips clip_count
    whole = rw (le-leb (length cs / 8) 256 h, eq-eqb (length cs % 8) 0 k)

    pub no_speed_lem : (o : Option ℕ) (k : ℕ) → o ≡ lowest_still cs 0 (clip_count cs) → o ≡ Some k → Err (refusal 28 k) ≡ clips_checked cs b room
    unfolding speeds_checked
    no_speed_lem o k e d = rw (whole, sym e, d)

    pub speeds : (o : Option ℕ) (y : Result Unit (Refusal ℕ)) → o ≡ lowest_still cs 0 (clip_count cs) → o ≡ None → y ≡ room_checked (length cs / 8) b room
        → y ≡ clips_checked cs b room
    unfolding speeds_checked clip_count
    speeds o y e d r = rw (whole, sym e, d) r

-- ---- what is known where they are accepted
pub record Fit (cs : List ℤ) (b room : ℕ) : Type 0 where
  pub few : length cs / 8 ≤ 256
  pub room_for : 48 * (length cs / 8) ≤ room
  pub small : b ≤ 2000000

pub accepted_fit : (cs : List ℤ) (b room : ℕ) → clips_checked cs b room ≡ Ok tt → Fit cs b room
unfolding clips_checked whole_clips clip_count speeds_checked room_checked
accepted_fit cs b room =
    by (leb (length cs / 8) 256) (eqb (length cs % 8) 0) (lowest_still cs 0 (length cs / 8)) (leb (48 * (length cs / 8)) room) (leb b 2000000) refl refl refl
  where
    by : (w x : Bool) (o : Option ℕ) (y z : Bool) → leb (length cs / 8) 256 ≡ w → leb (48 * (length cs / 8)) room ≡ y → leb b 2000000 ≡ z
        → cond (w && x) (speeds_checked o (cond y (cond z (Ok tt) (Err (refusal 21 0))) (Err (refusal 29 0)))) (Err (refusal 27 0)) ≡ Ok tt → Fit cs b room
    by false x o y z a c d e = clash (cc)
    by true false o y z a c d e = clash (cc)
    by true true (Some k) y z a c d e = clash (cc)
    by true true None false z a c d e = clash (cc)
    by true true None true false a c d e = clash (cc)
    by true true None true true a c d e =
        record { few = leb-true (length cs / 8) 256 a; room_for = leb-true (48 * (length cs / 8)) room c; small = leb-true b 2000000 d }

-- ---- the answer
abbrev pub Answer : List ℤ → List ℕ → ℕ → List ℕ → List ℕ → Result ℕ (Refusal ℕ) → Type 0
Answer cs file b old new r = (r ≡ pulled cs file b (length old)) × ((new ≡ pulled_list cs file b old) × (bytes_of r ≤ 44 * (length cs / 8)))

module _ (cs : List ℤ) (file : List ℕ) (b : ℕ) (old : List ℕ) where
  refused_answer : (r : Refusal ℕ) → pull_checked cs file b (length old) ≡ Err r → Answer cs file b old old (Err r)
  unfolding pulled pulled_list answered listed bytes_of
  refused_answer r e = (rw e, (rw e, omega arith))

  pub clips_refused : (x : Result Unit (Refusal ℕ)) (r : Refusal ℕ) → x ≡ clips_checked cs b (length old) → x ≡ Err r → Answer cs file b old old (Err r)
  unfolding pull_checked
  clips_refused x r e d = refused_answer r (rw (sym e ∙ d))

  -- of what `?` hands on
  pub answer_on : {x : Result ℕ (Refusal ℕ)} {r : Refusal ℕ} → x ≡ Err r → Answer cs file b old old (Err r) → Answer cs file b old old x
  answer_on e a = rw e a

  module _ (h : clips_checked cs b (length old) ≡ Ok tt) where
    pub file_refused : (r : Refusal BitPlace) → linear_told (linear_read file) ≡ Err r → Answer cs file b old old (Err (refusal r.0 r.1.0))
    unfolding pull_checked
    file_refused r e = refused_answer (refusal r.0 r.1.0) (rw (h, e))

    pub all_pulled : (n : ℕ) (new : List ℕ) (r : ℕ) → linear_told (linear_read file) ≡ Ok n → Put old 0 new r (pull_list cs file b) → r ≤ 44 * (length cs / 8)
        → Answer cs file b old new (Ok r)
    unfolding pull_checked pulled pulled_list answered listed bytes_of
    all_pulled n new r e p short =
        let f = accepted_fit cs b (length old) h in
        let fits : length (pull_list cs file b) ≤ length old = omega (arith, p.next, f.room_for) in
        let z : 0 + length (pull_list cs file b) ≡ length (pull_list cs file b) = omega arith in
        let done : pull_checked cs file b (length old) ≡ Ok tt = checked in
        answer done (p.next ∙ z) (p.holds ∙ sets-eq (pull_list cs file b) old 0 (omega arith) ∙ rw z) short
      where
        checked : pull_checked cs file b (length old) ≡ Ok tt
        checked = rw (h, e)

        answer : pull_checked cs file b (length old) ≡ Ok tt → r ≡ length (pull_list cs file b)
            → new ≡ pull_list cs file b ++ drop (length (pull_list cs file b)) old → r ≤ 44 * (length cs / 8) → Answer cs file b old new (Ok r)
        answer d l k s = (rw d (ap Ok l), (rw d k, s))
