-- Regions: the first byte of one, and its parts; and the scan for a jump at its end. Assumes nothing.
use Rattle.std.specs.Prelude.{ℕ, zero, suc, ◌+◌, ◌-◌, ◌≤◌, ◌<◌, ◌≡◌, false, List, [], ◌∷◌, get_or, take, drop, eqb}
use Rattle.std.proofs.Common.{zero-add, add-one, sym, ◌∙◌, take-take}
use native.Mathlib.Omega.{arith}
use Rattle.std.proofs.Math.Path.{refl, ap}
use Rattle.std.proofs.Math.ListN.{length}
use Rattle.std.proofs.Math.Seq.{slice_empty, slice-cons, length-slice, drop-drop, take-nil, get_or-drop, get_or-take}
use Rattle.back.specs.Unflat.{after, scan, ends_in_jump}
use Rattle.back.proofs.theorems.Jumps.{scan_skip, scan_cut}
use Rattle.unflatten.specs.Found.{part}

take_drop : (n p : ℕ) (m : List ℕ) → take n (drop p m) ≡ drop p (take (p + n) m)
take_drop n zero m = rw (zero-add n) refl
take_drop n (suc p) [] = rw (take-nil, take-nil) refl
take_drop n (suc p) (x ∷ m) = let e : suc p + n ≡ suc (p + n) = omega arith in rw e (take_drop n p m)

module _ (s : List ℕ) where
  pub part_empty : (p : ℕ) → part p p s ≡ []
  unfolding part
  part_empty p = slice_empty p s

  pub part_cons : (p e : ℕ) → p < e → e ≤ length s → part p e s ≡ get_or s p 0 ∷ part (p + 1) e s
  unfolding part
  part_cons p e h k = slice-cons p e s 0 h k ∙ rw (add-one p) refl

  pub part_length : (p e : ℕ) → e ≤ length s → length (part p e s) ≡ e - p
  unfolding part
  part_length p e h = length-slice p e s h

  pub part_drop : (n p e : ℕ) → drop n (part p e s) ≡ part (p + n) e s
  unfolding part
  part_drop n p e = drop-drop n p (take e s)

  pub part_take : (n p e : ℕ) → p + n ≤ e → take n (part p e s) ≡ part p (p + n) s
  unfolding part
  part_take n p e h = take_drop n p (take e s) ∙ ap (drop p) (take-take (p + n) e s h)

  pub part_at : (f t i : ℕ) → f + i < t → get_or (part f t s) i 0 ≡ get_or s (f + i) 0
  unfolding part
  part_at f t i h = get_or-drop f (take t s) i 0 ∙ get_or-take t s (f + i) 0 h

  -- ---- the scan: what the loop knows of it with the last code passed, at p
  pub record Scanned (from to last p : ℕ) : Type 0 where
    pub inside : p ≤ to → ends_in_jump (part from to s) ≡ scan last 0 (part p to s)
    pub outside : to < p → ends_in_jump (part from to s) ≡ false

  pub scan_begun : (from to : ℕ) → (to < from → ends_in_jump (part from to s) ≡ false) → Scanned from to 0 from
  unfolding ends_in_jump
  scan_begun from to h = record { inside = λ i. refl; outside = h }

  pub scan_on : (from to last p b n : ℕ) → to ≤ length s → p < to → b ≡ get_or s p 0 → n ≡ after b → Scanned from to last p → Scanned from to b (p + 1 + n)
  unfolding scan
  scan_on from to last p b n h lt e f i =
      let here : ends_in_jump (part from to s) ≡ scan b n (part (p + 1) to s) =
      i.inside (omega arith) ∙ ap (scan last 0) (part_cons p to lt h) ∙ ap (λ (x : ℕ). scan x (after x) (part (p + 1) to s)) (sym e)
      ∙ ap (λ (m : ℕ). scan b m (part (p + 1) to s)) (sym f) in
      let l : length (part (p + 1) to s) ≡ to - (p + 1) = part_length (p + 1) to h in
      record {
        inside = λ j. here ∙ scan_skip b n (part (p + 1) to s) (omega arith) ∙ ap (scan b 0) (part_drop n (p + 1) to);
        outside = λ j. here ∙ scan_cut b n (part (p + 1) to s) (omega arith);
      }

  pub scan_end : (from to last p : ℕ) → to ≤ p → p ≤ to → Scanned from to last p → ends_in_jump (part from to s) ≡ eqb last 5
  unfolding scan
  scan_end from to last p h k i =
      let e : p ≡ to = omega arith in
      i.inside k ∙ ap (λ (x : ℕ). scan last 0 (part x to s)) e ∙ ap (scan last 0) (part_empty to)
