-- A linear file is read back: the entries, the start and the code of each template. Assumes nothing.
use Rattle.std.specs.Prelude.{ℕ, ◌+◌, ◌*◌, ◌/◌, ◌^◌, ◌≤◌, ◌<◌, ◌≡◌}
use native.Mathlib.Omega.{arith}
use Rattle.std.proofs.Math.Path.{refl}
use Rattle.std.proofs.Common.{sym, le-leb, eq-eqb}
use mathlib.Core.List.{List, [], ◌∷◌, ◌++◌, append-nil}
use Rattle.std.proofs.Math.ListN.{length, length-append}
use Rattle.files.specs.Reading.{got}
use Rattle.files.specs.Entries.{Entry, then, nothing_more}
use Rattle.files.specs.laws.AllGot.{Each}
use Rattle.files.specs.laws.EntriesLaws.{EntriesOk}
use Rattle.files.specs.Tree.{Template}
use Rattle.files.specs.Flat.{flat}
use Rattle.files.specs.Linear.{Linear, entries_bits, bytes_of, three_bytes, template_bytes, templates_bytes, linear_file, code_at, linear_template_at}
use Rattle.files.specs.Linear.{linear_templates_at}
use Rattle.files.specs.Linear.{linear_read}
use Rattle.readback.specs.laws.Bits.{Holds, holds_left, holds_right, holds_fits, holds_code, here, byte_field, length_field, bytes_stand, padding_zero}
use Rattle.readback.specs.laws.Entries.{entries_back, entries_are}

-- template own of T can be written in a linear file
pub record Writable (T own : ℕ) (t : Template) : Type 0 where
  pub entries_ok : EntriesOk own T t.entries
  pub few : length t.entries < 256
  pub short : length (flat t.code) < 2 ^ 24

-- where the code begins of a template that begins at byte k: after E, the entries and the three bytes of its length
abbrev pub code_start : ℕ → Template → ℕ
code_start k t = k + 1 + length (bytes_of (entries_bits t.entries)) + 3

abbrev pub linear : ℕ → Template → Linear
linear k t = record { entries = t.entries; start = code_start k t; code = flat t.code }

-- what is read of templates of which the first begins at byte k
unfoldable pub linears : ℕ → List Template → List Linear
linears k [] = []
linears k (t ∷ ts) = linear k t ∷ linears (k + length (template_bytes t)) ts

module _ {s : List ℕ} where
  code_back : (es : List Entry) {j : ℕ} (m : List ℕ) → Holds s j m
      → code_at s es (length m) (8 * j) ≡ got (record { entries = es; start = j; code = m }) (8 * (j + length m))
  unfolding code_at
  code_back es {j} m h =
      let f : j + length m ≤ length s = holds_fits h in
      let e : 8 * j / 8 ≡ j = omega arith in
      rw (le-leb (8 * j + 8 * length m) (8 * length s) (omega arith), e, holds_code h) (here refl (omega arith))

  module _ (T own : ℕ) where
    template_back : {k : ℕ} (t : Template) → Writable T own t → Holds s k (template_bytes t)
        → linear_template_at s own T (8 * k) ≡ got (linear k t) (8 * (k + length (template_bytes t)))
    unfolding linear_template_at then template_bytes
    template_back {k} t ok h =
        let es = t.entries in
        let b = bytes_of (entries_bits es) in
        let c = flat t.code in
        let h₁ : Holds s (k + 1) (b ++ (three_bytes (length c) ++ c)) = holds_right (length es ∷ []) (b ++ (three_bytes (length c) ++ c)) h in
        let h₂ : Holds s (k + 1 + length b) (three_bytes (length c) ++ c) = holds_right b (three_bytes (length c) ++ c) h₁ in
        let h₃ : Holds s (k + 1 + length b + 3) c = holds_right (three_bytes (length c)) c h₂ in
        rw (
          byte_field (length es) ok.few (holds_left (length es ∷ []) (b ++ (three_bytes (length c) ++ c)) h),
          entries_back s own T es (8 * (k + 1)) ok.entries_ok (bytes_stand (entries_bits es) (entries_are es) (holds_left b (three_bytes (length c) ++ c) h₁)),
          padding_zero (entries_bits es) (entries_are es) (holds_left b (three_bytes (length c) ++ c) h₁) es,
          length_field (length c) ok.short (holds_left (three_bytes (length c)) c h₂),
          code_back es c h₃,
        )
        (here refl (simp length-append (omega arith)))

  templates_back_lem : (T own : ℕ) {k : ℕ} (ts : List Template) → Each (Writable T) own ts → Holds s k (templates_bytes ts)
      → linear_templates_at s T own (length ts) (8 * k) ≡ got (linears k ts) (8 * (k + length (templates_bytes ts)))
  unfolding linear_templates_at linears templates_bytes then
  templates_back_lem T own [] ok h = here refl (omega arith)
  templates_back_lem T own {k} (t ∷ ts) ok h =
      rw (
        template_back T own t ok.0 (holds_left (template_bytes t) (templates_bytes ts) h),
        templates_back_lem T (own + 1) ts ok.1 (holds_right (template_bytes t) (templates_bytes ts) h),
      )
      (here refl (simp length-append (omega arith)))

-- the linear file of templates that can be written is read back, if it is not too long
pub linear_back : (ts : List Template) → 1 ≤ length ts → length ts ≤ 64 → Each (Writable (length ts)) 0 ts → length (linear_file ts) ≤ 262144
    → linear_read (linear_file ts) ≡ got (linears 1 ts) (8 * length (linear_file ts))
unfolding linear_file linear_read then nothing_more
linear_back ts some few ok fits =
    let s = linear_file ts in
    let all : Holds s 0 (length ts ∷ templates_bytes ts) = record { pre = []; post = []; is = sym (append-nil _); at = refl } in
    rw (
      le-leb (length s) 262144 fits,
      byte_field (length ts) (omega arith) (holds_left (length ts ∷ []) (templates_bytes ts) all),
      le-leb 1 (length ts) some,
      le-leb (length ts) 64 few,
      templates_back_lem (length ts) 0 ts ok (holds_right (length ts ∷ []) (templates_bytes ts) all),
      eq-eqb (8 * (1 + length (templates_bytes ts))) (8 * length s) (omega arith),
    )
    (here refl (omega arith))
