-- A linear file is fixed by what is read of it: by the entries and the code of each template. Assumes nothing.
use Prim.Native.Nat.{ℕ, zero, suc, ◌+◌, ◌*◌, ◌/◌, ◌%◌, ◌^◌, ◌≤◌, ◌<◌}
use native.Mathlib.Omega.{arith}
use Rattle.std.specs.Prelude.{◌≡◌, refl, ◌&&◌, drop, leb, eqb}
use Rattle.std.proofs.Math.Path.{sym, ap}
use Rattle.std.proofs.Common.{◌∙◌, take-append-drop, drop-cons, drop-drop, take-add}
use Rattle.std.proofs.Math.Bool.{and-eq-true_iff}
use mathlib.Core.List.{List, [], ◌∷◌, ◌++◌}
use borrow.Author.Tests.{eqb-true, leb-true}
use Rattle.std.proofs.Math.ListN.{length, get_or, take, length-append, length-drop}
use Rattle.std.proofs.Math.Seq.{length-take-le, take-length}
use Rattle.fields.specs.Field.{bit_at}
use Rattle.files.specs.Reading.{got}
use Rattle.files.specs.Entries.{Entry, field, entries_at, to_byte, zero_bits, nothing_more}
use Rattle.files.specs.laws.EntriesLaws.{EntriesOk, entries_read, bytes_length}
use Rattle.files.specs.laws.AllGot.{Each, got_all, field_all, then_led, field_got_lem, got_value}
use Rattle.files.specs.Linear.{Linear, entries_bits, bytes_from, bytes_of, three_bytes, code_at, linear_template_at, linear_templates_at, linear_read}
use Rattle.files.specs.Valid.{Bytes}
use Rattle.readback.specs.laws.Bits.{Holds, byte_field, length_field}
use Rattle.files.specs.laws.BytesLaws.{bytes_at}
use Rattle.readback.specs.laws.Led.{cond_led, valid_led, zeros_led}
use Rattle.readback.specs.laws.Lists.{padded, bytes_slice}
use Rattle.readback.specs.laws.Standing.{entries_stand}

-- ---- the bytes of what is read
unfoldable pub linear_bytes : Linear → List ℕ
linear_bytes l = length l.entries ∷ (bytes_of (entries_bits l.entries) ++ (three_bytes (length l.code) ++ l.code))

unfoldable pub linears_bytes : List Linear → List ℕ
linears_bytes [] = []
linears_bytes (l ∷ ls) = linear_bytes l ++ linears_bytes ls

-- its entries can be written as those of template own of T
abbrev pub EntriesFit : ℕ → ℕ → Linear → Type 0
EntriesFit T own l = EntriesOk own T l.entries × (length l.entries < 256)

-- ---- bytes that stand at a byte
pub record Slice (z : List ℕ) (k : ℕ) (m : List ℕ) : Type 0 where
  pub is : take (length m) (drop k z) ≡ m
  pub fits : k + length m ≤ length z

module _ {z : List ℕ} where
  slice_join : {k : ℕ} (a b : List ℕ) → Slice z k a → Slice z (k + length a) b → Slice z k (a ++ b)
  slice_join {k} a b s t =
      record {
        is = rw (length-append a b, take-add (length a) (length b) (drop k z), s.is, drop-drop (length a) k z, t.is);
        fits = omega (arith, length-append a b, t.fits);
      }

  slice_holds : {k : ℕ} {m : List ℕ} → Slice z k m → Holds z k m
  slice_holds {k} {m} s =
      let h = s.fits in
      let e : drop k z ≡ m ++ drop (k + length m) z = sym (take-append-drop (length m) (drop k z)) ∙ rw (s.is, drop-drop (length m) k z) in
      record { pre = take k z; post = drop (k + length m) z; is = sym (take-append-drop k z) ∙ ap (take k z ++◌) e; at = length-take-le k z (omega arith) }

  slice_one : (k : ℕ) → k < length z → Slice z k (get_or z k 0 ∷ [])
  slice_one k h = record { is = rw (drop-cons z k 0 h); fits = omega arith }

  module _ (small : Bytes z) where
    -- a byte, and a length in three bytes
    byte_told : (k : ℕ) {n q : ℕ} → field z (8 * k) 8 ≡ got n q → Slice z k (n ∷ []) × (q ≡ 8 * (k + 1))
    byte_told k {n} {q} e =
        let h : k < length z = omega (arith, field_got_lem z (8 * k) 8 e) in
        let x : ℕ = get_or z k 0 in
        let s : Slice z k (x ∷ []) = slice_one k h in
        let f : field z (8 * k) 8 ≡ got x (8 * (k + 1)) = byte_field x (bytes_at z small k) (slice_holds s) in
        let v = got_value (sym f ∙ e) in
        (rw v.0 at s, sym v.1)

    length_told : (k : ℕ) {n q : ℕ} → field z (8 * k) 24 ≡ got n q → Slice z k (three_bytes n) × (q ≡ 8 * (k + 3))
    length_told k {n} {q} e =
        let h : k + 3 ≤ length z = omega (arith, field_got_lem z (8 * k) 24 e) in
        let a : ℕ = get_or z k 0 in
        let b : ℕ = get_or z (k + 1) 0 in
        let c : ℕ = get_or z (k + 1 + 1) 0 in
        let a' : a < 256 = bytes_at z small k in
        let b' : b < 256 = bytes_at z small (k + 1) in
        let c' : c < 256 = bytes_at z small (k + 1 + 1) in
        let m : ℕ = 65536 * a + 256 * b + c in
        let s : Slice z k (a ∷ b ∷ c ∷ []) =
        slice_join (a ∷ []) (b ∷ c ∷ []) (slice_one k (omega arith))
        (slice_join (b ∷ []) (c ∷ []) (slice_one (k + 1) (omega arith)) (slice_one (k + 1 + 1) (omega arith))) in
        let e₀ : m / 65536 ≡ a = omega arith in
        let e₁ : m / 256 % 256 ≡ b = omega arith in
        let e₂ : m % 256 ≡ c = omega arith in
        let t : Slice z k (three_bytes m) = rw (e₀, e₁, e₂) s in
        let f : field z (8 * k) 24 ≡ got m (8 * (k + 3)) = length_field m (omega arith) (slice_holds t) in
        let v = got_value (sym f ∙ e) in
        (rw v.0 at t, sym v.1)

    entries_fixed : (own T n k : ℕ) {es fs : List Entry} {r u v m : ℕ} → 8 * k ≤ 8 * length z → entries_at z own T n (8 * k) ≡ got es r
        → zero_bits z (to_byte r) r es ≡ got fs u
        → field z u 24 ≡ got m v → Slice z k (bytes_of (entries_bits es)) × (u ≡ 8 * (k + length (bytes_of (entries_bits es))))
    unfolding bytes_of
    entries_fixed own T n k {es} {fs} {r} {u} {v} {m} h e f g =
        let t = entries_stand z own T n (8 * k) h e in
        let p = zeros_led z (to_byte r) r es f in
        let b : List ℕ = entries_bits es in
        let d : ℕ = (length b + 7) / 8 in
        let j : length (bytes_from d b) ≡ d = bytes_length b in
        let x : u ≡ 8 * (k + d) = omega (arith, t.past, p.past) in
        let y : k + d ≤ length z = omega (arith, field_got_lem z u 24 g) in
        let q : r ≡ 8 * k + length b = t.past in
        let get : (i : ℕ) → i < 8 * d → get_or b i 0 ≡ bit_at z (8 * k + i) =
        padded b (8 * d) t.here (λ i l n. p.zero_at (8 * k + i) (omega arith) (omega arith)) in
        (record { is = rw j (sym (bytes_slice z (bytes_at z small) d k b y get)); fits = omega arith }, omega arith)

    code_fixed : (es : List Entry) (m j : ℕ) {l : Linear} {q : ℕ} → code_at z es m (8 * j) ≡ got l q
        → (l.entries ≡ es) × (length l.code ≡ m) × Slice z j l.code × (q ≡ 8 * (j + m))
    unfolding code_at
    code_fixed es m j {l} {q} e =
        let c = cond_led (leb (8 * j + 8 * m) (8 * length z)) _ 2 (8 * length z) e in
        let h : 8 * j + 8 * m ≤ 8 * length z = leb-true (8 * j + 8 * m) (8 * length z) c.0 in
        let v = got_value c.1 in
        let at : 8 * j / 8 ≡ j = omega arith in
        let k : take m (drop j z) ≡ l.code = rw at at (ap (λ (x : Linear). x.code) v.0) in
        let n : length (take m (drop j z)) ≡ m = length-take-le m (drop j z) (omega (arith, length-drop j z)) in (
          sym (ap (λ (x : Linear). x.entries) v.0),
          sym (ap length k) ∙ n,
          record { is = rw (← k, n); fits = omega (arith, ap length k) },
          omega (arith, v.1),
        )

    template_fixed : (own T k : ℕ) → T ≤ 64 → {l : Linear} {q : ℕ} → linear_template_at z own T (8 * k) ≡ got l q
        → Slice z k (linear_bytes l) × (q ≡ 8 * (k + length (linear_bytes l))) × EntriesFit T own l
    unfolding linear_template_at linear_bytes
    template_fixed own T k few {l} {q} e =
        then_led (field z (8 * k) 8) _ e
        (λ n q₁ first on₁.
        let b₁ = byte_told k first in
        let w₁ : q₁ ≡ 8 * (k + 1) = b₁.1 in
        then_led (entries_at z own T n q₁) _ on₁
        (λ es q₂ second on₂.
        let read = entries_read z own T few n q₁ second in
        let count : length es ≡ n = read.count in
        let small : n < 2 ^ 8 = got_all (λ v. v < 2 ^ 8) (field_all z (8 * k) 8) first in
        then_led (zero_bits z (to_byte q₂) q₂ es) _ on₂
        (λ fs q₃ third on₃.
        let same : es ≡ fs = (zeros_led z (to_byte q₂) q₂ es third).same in
        then_led (field z q₃ 24) _ on₃
        (λ m q₄ fourth on₄.
        let b : List ℕ = bytes_of (entries_bits es) in
        let b₂ = entries_fixed own T n (k + 1) (omega (arith, field_got_lem z (8 * k) 8 first)) (rw w₁ at second) third fourth in
        let w₃ : q₃ ≡ 8 * (k + 1 + length b) = b₂.1 in
        let b₃ = length_told (k + 1 + length b) (rw w₃ at fourth) in
        let w₄ : q₄ ≡ 8 * (k + 1 + length b + 3) = b₃.1 in
        let b₄ = code_fixed fs m (k + 1 + length b + 3) (rw w₄ at on₄) in
        let s₃ : Slice z (k + 1 + length b) (three_bytes m ++ l.code) = slice_join (three_bytes m) l.code b₃.0 b₄.2 in
        let s₂ : Slice z (k + 1) (b ++ (three_bytes m ++ l.code)) = slice_join b (three_bytes m ++ l.code) b₂.0 s₃ in
        let s₁ : Slice z k (n ∷ (b ++ (three_bytes m ++ l.code))) = slice_join (n ∷ []) (b ++ (three_bytes m ++ l.code)) b₁.0 s₂ in
        let size : length l.code ≡ m = b₄.1 in
        let end : q ≡ 8 * (k + 1 + length b + 3 + m) = b₄.3 in
        let ents : l.entries ≡ es = b₄.0 ∙ sym same in
        let long = length-append b (three_bytes m ++ l.code) in
        rw (ents, size, count) (s₁, omega arith, (read.ok, small))))))

    templates_fixed : (T : ℕ) → T ≤ 64 → (n own k : ℕ) {ls : List Linear} {q : ℕ} → k ≤ length z → linear_templates_at z T own n (8 * k) ≡ got ls q
        → (length ls ≡ n) × Slice z k (linears_bytes ls) × (q ≡ 8 * (k + length (linears_bytes ls))) × Each (EntriesFit T) own ls
    unfolding linear_templates_at linears_bytes
    templates_fixed T few zero own k {ls} {q} h e =
        let z₁ : [] ≡ ls = cc in
        let z₂ : 8 * k ≡ q = cc in
        rw (← z₁, ← z₂) (refl, record { is = refl; fits = omega arith }, omega arith, tt)
    templates_fixed T few (suc n) own k {ls} {q} h e =
        then_led (linear_template_at z own T (8 * k)) _ e
        (λ l r first on.
        let a = template_fixed own T k few first in
        let w : r ≡ 8 * (k + length (linear_bytes l)) = a.1 in
        then_led (linear_templates_at z T (own + 1) n r) _ on
        (λ ms r' rest end.
        let b = templates_fixed T few n (own + 1) (k + length (linear_bytes l)) a.0.fits (rw w at rest) in
        let z₁ : (l ∷ ms) ≡ ls = cc in
        let z₂ : r' ≡ q = cc in
        rw (← z₁, ← z₂) (
          ap suc b.0,
          slice_join (linear_bytes l) (linears_bytes ms) a.0 b.1,
          omega (arith, b.2, length-append (linear_bytes l) (linears_bytes ms)),
          (a.2, b.3),
        )))

-- a linear file is its number of templates and their bytes, and the entries are such as can be written
pub record LinearFixed (z : List ℕ) (ls : List Linear) : Type 0 where
  pub at_least_one : 1 ≤ length ls
  pub at_most_64 : length ls ≤ 64
  pub bytes : length ls ∷ linears_bytes ls ≡ z
  pub entries : Each (EntriesFit (length ls)) 0 ls

pub linear_fixed : (z : List ℕ) {ls : List Linear} {q : ℕ} → Bytes z → linear_read z ≡ got ls q → LinearFixed z ls
unfolding linear_read nothing_more
linear_fixed z {ls} {q} small e =
    let c = cond_led (leb (length z) 262144) _ 1 0 e in
    then_led (field z 0 8) _ c.1
    (λ T p first on₁.
    let a = byte_told small 0 first in
    let v = valid_led 0 (leb 1 T && leb T 64) _ on₁ in
    let h = (and-eq-true_iff (leb 1 T) (leb T 64)).0 v.0 in
    let few : T ≤ 64 = leb-true T 64 h.1 in
    then_led (linear_templates_at z T 0 T p) _ v.1
    (λ ms r read on₂.
    let b = templates_fixed small T few T 0 1 a.0.fits (rw a.1 at read) in
    let d = cond_led (eqb r (8 * length z)) (got ms r) 5 r on₂ in
    let same : ms ≡ ls = (got_value d.1).0 in
    let s : Slice z 0 (T ∷ linears_bytes ms) = slice_join (T ∷ []) (linears_bytes ms) a.0 b.1 in
    let n : length (T ∷ linears_bytes ms) ≡ length z = omega (arith, b.2, eqb-true r (8 * length z) d.0) in
    let m : length ms ≡ T = b.0 in
    let some : 1 ≤ T = leb-true 1 T h.0 in
    rw (← same) (record { at_least_one = omega arith; at_most_64 = omega arith; bytes = rw m (sym s.is ∙ rw n (take-length z)); entries = rw m b.3 })))
