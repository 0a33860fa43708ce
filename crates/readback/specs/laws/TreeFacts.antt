-- What is known of the templates of a tree file that is read: their linear file is short enough to be read. Assumes nothing.
use Prim.Native.Nat.{ℕ, zero, suc, ◌+◌, ◌*◌, ◌^◌, ◌≤◌, ◌<◌}
use Rattle.std.proofs.Common.{arith, ap, leb-true}
use Rattle.std.specs.Prelude.{◌≡◌, refl, ◌&&◌, length, leb}
use Rattle.std.proofs.Math.Bool.{and-eq-true_iff}
use mathlib.Core.List.{List, [], ◌∷◌}
use Rattle.std.proofs.Math.ListN.{length-append}
use Rattle.files.specs.Code.{Code, bits}
use Rattle.files.specs.Reading.{got, list_at}
use Rattle.files.specs.laws.ReadingLaws.{list_bits_lem, list_valid, flat_bits_end}
use Rattle.files.specs.Valid.{Valid}
use Rattle.files.specs.Entries.{Entry, field, entries_at}
use Rattle.files.specs.laws.AllGot.{Each, got_all, field_all, then_led, field_got_lem}
use Rattle.files.specs.laws.EntriesLaws.{EntriesGood, entries_read, bytes_length}
use Rattle.files.specs.Tree.{Template, template_at, templates_at, tree_read}
use Rattle.files.specs.Linear.{entries_bits, template_bytes, templates_bytes, linear_file}
use Rattle.readback.specs.laws.Led.{cond_led, valid_led, padded_led}
use Rattle.readback.specs.laws.Templates.{Writable}

-- ---- one template
-- what is known of template own of T
pub record TemplateFacts (T own : ℕ) (t : Template) : Type 0 where
  pub writable : Writable T own t
  -- in bits, of a file of at most 65,536 bytes
  pub within : t.start + bits t.code ≤ 8 * 65536
  pub valid_code : Valid t.code

-- how many bits a template takes in a tree file
abbrev template_bits : Template → ℕ
template_bits t = 8 + length (entries_bits t.entries) + bits t.code

-- at most two bytes for five bits
template_short : (t : Template) → 5 * length (template_bytes t) ≤ 2 * template_bits t
unfolding template_bytes
template_short t = simp length-append (omega (arith, bytes_length (entries_bits t.entries), flat_bits_end t.code))

-- what is known of the templates ts, of numbers own on, read from p to q of the file s
record TemplatesFacts (s : List ℕ) (T own p : ℕ) (ts : List Template) (q : ℕ) : Type 0 where
  pub each : Each (TemplateFacts T) own ts
  pub short : 5 * length (templates_bytes ts) + 2 * p ≤ 2 * q
  pub inside : q ≤ 8 * length s

module _ (s : List ℕ) (small : length s ≤ 65536) (T : ℕ) (few : T ≤ 64) where
  -- from the facts of the parts of a template: E, its entries, its list
  parts : (own p n p₁ : ℕ) (es : List Entry) (p₂ : ℕ) (c : Code) (p₃ : ℕ) {t : Template} {q : ℕ}
      → (n < 2 ^ 8) × (p₁ ≡ p + 8) × (p₁ ≤ 8 * length s)
      → EntriesGood s own T n p₁ es p₂
      → (p₃ ≡ p₂ + bits c) × (p₃ ≤ 8 * length s)
      → Valid c
      → got (record { entries = es; start = p₂; code = c }) p₃ ≡ got t q
      → TemplateFacts T own t × (q ≡ p + template_bits t) × (q ≤ 8 * length s)
  parts own p n p₁ es p₂ c p₃ {t} {q} f g l v e =
      let e₁ : record { entries = es; start = p₂; code = c } ≡ t = cc in
      let e₂ : p₃ ≡ q = cc in
      rw (← e₁, ← e₂) (
        record {
          writable = record {
            entries_ok = g.ok;
            few = omega arith;
            short = omega (arith, flat_bits_end c);
          };
          within = omega arith;
          valid_code = v;
        },
        omega arith,
        l.1,
      )

  template_facts : (own p : ℕ) {t : Template} {q : ℕ} → template_at s own T p ≡ got t q → TemplateFacts T own t × (q ≡ p + template_bits t) × (q ≤ 8 * length s)
  unfolding template_at
  template_facts own p e =
      then_led (field s p 8) _ e
      (λ n p₁ e₁ on₁.
      then_led (entries_at s own T n p₁) _ on₁
      (λ es p₂ e₂ on₂.
      then_led (list_at s 15 p₂) _ on₂
      (λ c p₃ e₃ on₃. parts own p n p₁ es p₂ c p₃ (got_all (λ v. v < 2 ^ 8) (field_all s p 8) e₁, (field_got_lem s p 8 e₁).1, (field_got_lem s p 8 e₁).2)
      (entries_read s own T few n p₁ e₂) (list_bits_lem s 15 p₂ c p₃ e₃) (list_valid s 15 p₂ c p₃ e₃) on₃)))

  templates_facts : (n own p : ℕ) {ts : List Template} {q : ℕ} → p ≤ 8 * length s → templates_at s T own n p ≡ got ts q
      → (length ts ≡ n) × TemplatesFacts s T own p ts q
  unfolding templates_at templates_bytes
  templates_facts zero own p {ts} {q} h e =
      let e₁ : [] ≡ ts = cc in
      let e₂ : p ≡ q = cc in
      rw (← e₁, ← e₂) (refl, record { each = tt; short = omega arith; inside = h })
  templates_facts (suc n) own p {ts} {q} h e =
      then_led (template_at s own T p) _ e
      (λ t r first on.
      let f = template_facts own p first in
      then_led (templates_at s T (own + 1) n r) _ on
      (λ us r' rest end.
      let g = templates_facts n (own + 1) r f.2 rest in
      let e₁ : (t ∷ us) ≡ ts = cc in
      let e₂ : r' ≡ q = cc in
      rw (← e₁, ← e₂)
      (ap suc g.0, record { each = (f.0, g.1.each); short = simp length-append (omega (arith, template_short t)); inside = g.1.inside })))

-- ---- the file
-- what is known of the templates of a tree file
pub record TreeFacts (ts : List Template) : Type 0 where
  pub at_least_one : 1 ≤ length ts
  pub at_most_64 : length ts ≤ 64
  pub each : Each (TemplateFacts (length ts)) 0 ts
  pub fits : length (linear_file ts) < 262144

-- the facts, and how long the linear file is at most: two bytes for five bits
tree_read_lem : (s : List ℕ) (ts : List Template) (q : ℕ) → tree_read s ≡ got ts q → TreeFacts ts × (5 * length (linear_file ts) ≤ 16 * length s)
unfolding tree_read linear_file
tree_read_lem s ts q e =
    let c = cond_led (leb (length s) 65536) _ 1 0 e in
    let small : length s ≤ 65536 = leb-true (length s) 65536 c.0 in
    then_led (field s 0 8) _ c.1
    (λ T p first on.
    let v = valid_led 0 (leb 1 T && leb T 64) _ on in
    let a = (and-eq-true_iff (leb 1 T) (leb T 64)).0 v.0 in
    let f = field_got_lem s 0 8 first in
    then_led (templates_at s T 0 T p) _ v.1
    (λ us r read padded.
    let e₁ : us ≡ ts = (padded_led s us r padded).same in
    let g = templates_facts s small T (leb-true T 64 a.1) T 0 p f.2 read in
    let n : length us ≡ T = g.0 in
    let facts : TemplatesFacts s T 0 p us r = g.1 in
    rw (← e₁) (
      record {
        at_least_one = omega (arith, leb-true 1 T a.0);
        at_most_64 = omega (arith, leb-true T 64 a.1);
        each = rw n facts.each;
        fits = omega arith;
      },
      omega arith,
    )))

pub tree_facts : (s : List ℕ) (ts : List Template) (q : ℕ) → tree_read s ≡ got ts q → TreeFacts ts
tree_facts s ts q e = (tree_read_lem s ts q e).0

pub tree_short : (s : List ℕ) (ts : List Template) (q : ℕ) → tree_read s ≡ got ts q → 5 * length (linear_file ts) ≤ 16 * length s
tree_short s ts q e = (tree_read_lem s ts q e).1
