-- What the way back finds flattens to the bytes it was found in, and is good (request 13). Assumes nothing.
use Prim.Native.Nat.{ℕ, zero, suc, ◌+◌, ◌*◌, ◌/◌, ◌%◌, ◌≤◌, ◌<◌}
use Rattle.std.proofs.Common.{arith, ap, sym}
use Rattle.std.specs.Prelude.{◌≡◌, Bool, not, take, drop, leb}
use Rattle.std.proofs.Math.Path.{refl}
use Rattle.std.proofs.Math.Bool.{true, false}
use mathlib.Core.List.{List, [], ◌∷◌, ◌++◌, append_assoc, append-nil}
use Rattle.std.proofs.Math.Option.{Option, none, some}
use borrow.Author.Tests.{leb-true, not-true}
use Rattle.std.proofs.Math.ListN.{length, take-append-drop}
use Rattle.std.proofs.Math.Seq.{length-take-le}
use Rattle.files.specs.Codes.{is_neutral, operands}
use Rattle.files.specs.Code.{Code, done, neutral, return, call, unless_false, make_cont}
use Rattle.files.specs.Flat.{flat, conditional, offset}
use Rattle.files.specs.Valid.{Bytes}
use Rattle.files.specs.laws.BytesLaws.{bytes_take, bytes_drop, bytes_left, bytes_right}
use Rattle.back.specs.Unflat.{ends_in_jump, on, test, neutral_back, open_arms, closed_arms, arms_back, unless_back, cont_back, end_back, first_back, unflat}
use Rattle.back.specs.Unflat.{View, return_v, call_v, unless_v, cont_v, none_v, view}
use Rattle.back.specs.laws.Good.{Good, ended, plain, returned, called, shut, arms, cont}
use Rattle.back.specs.laws.GoodLaws.{closed_is}
use Rattle.back.proofs.theorems.Jumps.{with_jump, jump_length, before_is, offset_is, jumped}

-- w is the flat code of a good list c
pub record Sound (l : ℕ) (k : Bool) (w : List ℕ) (c : Code) : Type 0 where
  pub is : flat c ≡ w
  pub good : Good l k c

-- ---- what led to what was found
no_some : {A R : Type 0} {a : A} → none ≡ some a → R
no_some e = let z : ◌≡◌ {A = ℕ} 0 1 = cc in absurd (omega arith)

pub on_led : {A B R : Type 0} (o : Option A) (f : A → Option B) {b : B} → on o f ≡ some b → ((a : A) → o ≡ some a → f a ≡ some b → R) → R
unfolding on
on_led none f e next = no_some e
on_led (some a) f e next = next a refl e

pub test_led : {A : Type 0} (b : Bool) (o : Option A) {a : A} → test b o ≡ some a → (b ≡ true) × (o ≡ some a)
unfolding test
test_led true o e = (refl, e)
test_led false o e = no_some e

high : (a b : ℕ) → b < 256 → (256 * a + b) / 256 ≡ a
high a b h = omega arith

low : (a b : ℕ) → b < 256 → (256 * a + b) % 256 ≡ b
low a b h = omega arith

-- shorter regions are sound
module _ (go : ℕ → Bool → List ℕ → Option Code) (ok : (l : ℕ) (k : Bool) (w : List ℕ) (c : Code) → Bytes w → go l k w ≡ some c → Sound l k w c) where
  neutral_sound : {l op : ℕ} {k : Bool} {w : List ℕ} {c : Code} → is_neutral op ≡ true → Bytes w → neutral_back go l k op w ≡ some c → Sound l k (op ∷ w) c
  unfolding neutral_back flat
  neutral_sound {l} {op} {k} {w} {c} n b e =
      let n' = operands op in
      let t = test_led (leb n' (length w)) _ e in
      let h : n' ≤ length w = leb-true n' (length w) t.0 in
      on_led (go l k (drop n' w)) _ t.1
      (λ r found end.
      let s = ok l k (drop n' w) r (bytes_drop n' w b) found in
      let z : neutral op (take n' w) r ≡ c = cc in
      rw (← z) (record { is = rw s.is (ap (op ∷◌) (take-append-drop n' w)); good = plain n (sym (length-take-le n' w h)) (bytes_take n' w b) s.good }))

  closed_sound : {l : ℕ} {k : Bool} (v w : List ℕ) {c : Code} → Bytes v → Bytes w → length v ≤ 65535 → closed_arms go l k v w ≡ some c
      → Sound (suc l) k (3 ∷ offset (length v) ++ (v ++ w)) c
  unfolding closed_arms flat conditional
  closed_sound {l} {k} v w {c} a b h e =
      let t = test_led _ _ e in
      let shut-list : k ≡ true = t.0 in
      on_led (go l true v) _ t.1
      (λ x first on₁.
      on_led (go l true w) _ on₁
      (λ y second end.
      let s = ok l true v x a first in
      let u = ok l true w y b second in
      let z : unless_false x y done ≡ c = cc in
      rw (← z, shut-list) (record { is = rw (closed_is s.good, s.is, u.is, append-nil w); good = shut s.good u.good (rw s.is h) })))

  open_sound : {l : ℕ} {k : Bool} (u : List ℕ) (p q : ℕ) (w : List ℕ) {c : Code} → Bytes (with_jump u p q) → Bytes w → length (with_jump u p q) ≤ 65535
      → open_arms go l k (with_jump u p q) w ≡ some c → Sound (suc l) k (3 ∷ offset (length (with_jump u p q)) ++ (with_jump u p q ++ w)) c
  unfolding open_arms flat conditional Bytes
  open_sound {l} {k} u p q w {c} a b h e =
      let m : ℕ = 256 * p + q in
      let o = bytes_right u (5 ∷ p ∷ q ∷ []) a in
      let hi : p < 256 = o.1.0 in
      let lo : q < 256 = o.1.1.0 in
      let t₁ = test_led (leb 1 (length u)) _ (rw (before_is u p q, offset_is u p q) at e) in
      let t₂ = test_led (leb 1 m) _ t₁.1 in
      let t₃ = test_led (leb m (length w)) _ t₂.1 in
      let i : m ≤ length w = leb-true m (length w) t₃.0 in
      on_led (go l false u) _ t₃.1
      (λ x first on₁.
      on_led (go l false (take m w)) _ on₁
      (λ y second on₂.
      on_led (go (suc l) k (drop m w)) _ on₂
      (λ r rest end.
      let s = ok l false u x (bytes_left u (5 ∷ p ∷ q ∷ []) a) first in
      let t = ok l false (take m w) y (bytes_take m w b) second in
      let v = ok (suc l) k (drop m w) r (bytes_drop m w b) rest in
      let z : unless_false x y r ≡ c = cc in
      let n : length (take m w) ≡ m = length-take-le m w i in
      let j = jump_length u p q in
      rw (← z)
      (record {
        is = rw (closed_is s.good, s.is, t.is, v.is, j, n, high p q lo, low p q lo, append_assoc u (5 ∷ p ∷ q ∷ []) w, take-append-drop m w);
        good =
            arms s.good t.good v.good (rw s.is (leb-true 1 (length u) t₁.0)) (rw (t.is, n) (leb-true 1 m t₂.0)) (rw s.is (omega arith))
            (rw (t.is, n) (omega arith));
      }))))

  arms_sound : {l : ℕ} {k : Bool} (v w : List ℕ) {c : Code} → Bytes v → Bytes w → length v ≤ 65535 → (j : Bool) → ends_in_jump v ≡ j
      → arms_back go l k j v w ≡ some c
      → Sound (suc l) k (3 ∷ offset (length v) ++ (v ++ w)) c
  unfolding arms_back
  arms_sound {l} {k} v w {c} a b h false i e = closed_sound v w a b h e
  arms_sound {l} {k} v w {c} a b h true i e =
      let j = jumped v i in
      let z = j.is in
      rw z (open_sound j.front j.hi j.lo w (rw z at a) b (rw z at h) (rw z at e))

  unless_sound : (l : ℕ) {k : Bool} (a b : ℕ) (w : List ℕ) {c : Code} → a < 256 → b < 256 → Bytes w → unless_back go l k (256 * a + b) w ≡ some c
      → Sound l k (3 ∷ a ∷ b ∷ w) c
  unfolding unless_back
  unless_sound zero a b w h i o e = no_some e
  unless_sound (suc l) {k} a b w {c} h i o e =
      let n : ℕ = 256 * a + b in
      let t = test_led (leb n (length w)) _ e in
      let m : length (take n w) ≡ n = length-take-le n w (leb-true n (length w) t.0) in
      let s = arms_sound (take n w) (drop n w) (bytes_take n w o) (bytes_drop n w o) (omega arith) (ends_in_jump (take n w)) refl t.1 in
      rw (m, high a b i, low a b i, take-append-drop n w) at s

  cont_sound : (l : ℕ) {k : Bool} (a b n : ℕ) (w : List ℕ) {c : Code} → a < 256 → b < 256 → n < 256 → Bytes w → cont_back go l k (256 * a + b) n w ≡ some c
      → Sound l k (4 ∷ a ∷ b ∷ n ∷ w) c
  unfolding cont_back flat
  cont_sound zero a b n w h i j o e = no_some e
  cont_sound (suc l) {k} a b n w {c} h i j o e =
      let m : ℕ = 256 * a + b in
      let t = test_led (leb m (length w)) _ e in
      let f : length (take m w) ≡ m = length-take-le m w (leb-true m (length w) t.0) in
      on_led (go l k (drop m w)) _ t.1
      (λ x saved on₁.
      on_led (go (suc l) true (take m w)) _ on₁
      (λ r rest end.
      let s = ok l k (drop m w) x (bytes_drop m w o) saved in
      let u = ok (suc l) true (take m w) r (bytes_take m w o) rest in
      let z : make_cont n x r ≡ c = cc in
      rw (← z)
      (record {
        is = rw (u.is, s.is, f, high a b i, low a b i, take-append-drop m w);
        good = cont s.good u.good j (rw (u.is, f) (omega arith));
      })))

  end_sound : {l op : ℕ} {k : Bool} {w : List ℕ} {c : Code} → Bytes w → (v : View op w) → end_back go l k v ≡ some c → Sound l k (op ∷ w) c
  unfolding end_back Bytes flat
  end_sound {c = c} o return_v e =
      let t = test_led _ _ e in
      let z : return done ≡ c = cc in
      rw (← z, t.0) (record { is = refl; good = returned })
  end_sound {c = c} o (call_v n) e =
      let t = test_led _ _ e in
      let z : call n done ≡ c = cc in
      rw (← z, t.0) (record { is = refl; good = called o.0 })
  end_sound {l} o (unless_v a b w) e = unless_sound l a b w o.0 o.1.0 o.1.1 e
  end_sound {l} o (cont_v a b n w) e = cont_sound l a b n w o.0 o.1.0 o.1.1.0 o.1.1.1 e
  end_sound o none_v e = no_some e

  first_sound : {l : ℕ} {k : Bool} (n : Bool) (op : ℕ) (w : List ℕ) {c : Code} → is_neutral op ≡ n → Bytes w → first_back go l k n op w ≡ some c
      → Sound l k (op ∷ w) c
  unfolding first_back
  first_sound true op w n o e = neutral_sound n o e
  first_sound false op w n o e = end_sound o (view op w) e

pub unflat_sound : (f l : ℕ) (k : Bool) (w : List ℕ) (c : Code) → Bytes w → unflat f l k w ≡ some c → Sound l k w c
unfolding unflat flat Bytes
unflat_sound zero l k w c o e = no_some e
unflat_sound (suc f) l k [] c o e =
    let t = test_led (not k) _ e in
    let z : done ≡ c = cc in
    rw (← z, not-true k t.0) (record { is = refl; good = ended })
unflat_sound (suc f) l k (op ∷ w) c o e = first_sound (unflat f) (unflat_sound f) (is_neutral op) op w refl o.1 e
