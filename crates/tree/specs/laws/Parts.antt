-- What a template and the templates that were read are made of, and where they end. Assumes nothing.
use Rattle.std.specs.Prelude.{ℕ, zero, suc, ◌+◌, ◌*◌, ◌≤◌, ◌<◌, ◌≡◌, refl, Bool, true, false, cond, ◌&&◌, List, ◌∷◌, leb, length}
use Rattle.std.proofs.Common.{sym, ap, ◌∙◌, leb-true}
use Rattle.files.specs.Reading.{got, refused, list_at}
use Rattle.files.specs.Entries.{then, field, valid, entries_at, to_byte, zero_bits}
use Rattle.files.specs.Tree.{Template, template_at, templates_at, padded_end, tree_read}
use Rattle.files.specs.laws.AllGot.{AllGot, got_all, then_all, zero_all, nothing_all, field_all, refused_got, got_value, then_led}
use Rattle.files.specs.laws.ReadingLaws.{list_bits_lem}

-- ---- a template t that ends at q
pub record TemplateParts (s : List ℕ) (own T p : ℕ) (t : Template) (q : ℕ) : Type 0 where
  pub count : ℕ
  pub first : ℕ
  pub counted : field s p 8 ≡ got count first
  pub few : count < 256
  pub entries : entries_at s own T count first ≡ got t.entries t.start
  pub list : list_at s 15 t.start ≡ got t.code q

pub template_parts : (s : List ℕ) (own T p : ℕ) {t : Template} {q : ℕ} → template_at s own T p ≡ got t q → TemplateParts s own T p t q
unfolding template_at
template_parts s own T p {t} {q} e =
    then_led (field s p 8) _ e
    (λ n r counted on₁.
    then_led (entries_at s own T n r) _ on₁
    (λ es u entries on₂.
    then_led (list_at s 15 u) _ on₂
    (λ c z list on₃.
    let i = got_value on₃ in
    record {
      count = n;
      first = r;
      counted = counted;
      few = got_all (λ v. v < 256) (field_all s p 8) counted;
      entries = entries ∙ ap (λ (u : Template). got u.entries u.start) i.0;
      list = ap (λ (u : Template). list_at s 15 u.start) (sym i.0) ∙ list ∙ ap (λ (u : Template). got u.code z) i.0 ∙ ap (got t.code) i.1;
    })))

-- ---- templates ts from number own on, the last of which ends at q
pub record TemplatesParts (s : List ℕ) (T own n p : ℕ) (ts : List Template) (q : ℕ) : Type 0 where
  pub head : Template
  pub tail : List Template
  pub next : ℕ
  pub first : template_at s own T p ≡ got head next
  pub rest : templates_at s T (own + 1) n next ≡ got tail q
  pub are : ts ≡ head ∷ tail

pub templates_parts : (s : List ℕ) (T own n p : ℕ) {ts : List Template} {q : ℕ} → templates_at s T own (suc n) p ≡ got ts q → TemplatesParts s T own n p ts q
unfolding templates_at
templates_parts s T own n p {ts} {q} e =
    then_led (template_at s own T p) _ e
    (λ t r first on.
    then_led (templates_at s T (own + 1) n r) _ on
    (λ us z rest end. let i = got_value end in record { head = t; tail = us; next = r; first = first; rest = rest ∙ ap (got us) i.1; are = sym i.0 }))

pub templates_within : (s : List ℕ) (T own n p : ℕ) {ts : List Template} {q : ℕ} → p ≤ 8 * length s → templates_at s T own n p ≡ got ts q → q ≤ 8 * length s
unfolding templates_at
templates_within s T own zero p h e = rw (← (got_value e).1) h
templates_within s T own (suc n) p h e =
    let a = templates_parts s T own n p e in
    let b = template_parts s own T p a.first in
    templates_within s T (own + 1) n a.next (list_bits_lem s 15 a.head.start a.head.code a.next b.list).1 a.rest

pub templates_count : (s : List ℕ) (T n own p : ℕ) {ts : List Template} {q : ℕ} → templates_at s T own n p ≡ got ts q → length ts ≡ n
unfolding templates_at
templates_count s T zero own p e = ap length (sym (got_value e).0)
templates_count s T (suc n) own p e =
    let a = templates_parts s T own n p e in
    ap length a.are ∙ ap suc (templates_count s T n (own + 1) a.next a.rest)

-- ---- a file of templates ts
pub record FileParts (s : List ℕ) (ts : List Template) (q : ℕ) : Type 0 where
  pub count : ℕ
  pub first : ℕ
  pub past : ℕ
  pub short : length s ≤ 65536
  pub counted : field s 0 8 ≡ got count first
  pub some : 1 ≤ count
  pub few : count ≤ 64
  pub read : templates_at s count 0 count first ≡ got ts past
  pub end : padded_end s ts past ≡ got ts q

end_same : (s : List ℕ) (ts : List Template) (p : ℕ) → AllGot (λ us. us ≡ ts) (padded_end s ts p)
unfolding padded_end
end_same s ts p =
    then_all (λ us. us ≡ ts) (zero_bits s (to_byte p) p ts) _
    (λ us q e. rw (got_all (λ us. us ≡ ts) (zero_all (λ us. us ≡ ts) s (to_byte p) p ts refl) e) (nothing_all (λ us. us ≡ ts) s q ts refl))

pub tree_parts : (s : List ℕ) {ts : List Template} {q : ℕ} → tree_read s ≡ got ts q → FileParts s ts q
unfolding tree_read
tree_parts s {ts} {q} e = size (leb (length s) 65536) refl e
  where
    number : (T p : ℕ) → length s ≤ 65536 → field s 0 8 ≡ got T p → (a b : Bool) → leb 1 T ≡ a → leb T 64 ≡ b
        → valid 0 (a && b) (then (templates_at s T 0 T p) (λ us r. padded_end s us r)) ≡ got ts q → FileParts s ts q
    number T p h f true true i j e =
        then_led (templates_at s T 0 T p) _ e
        (λ us r read on.
        let k : ts ≡ us = got_all (λ vs. vs ≡ us) (end_same s us r) on in
        record {
          count = T;
          first = p;
          past = r;
          short = h;
          counted = f;
          some = leb-true 1 T i;
          few = leb-true T 64 j;
          read = read ∙ ap (λ (us : List Template). got us r) (sym k);
          end = ap (λ (us : List Template). padded_end s us r) k ∙ on;
        })
    number T p h f true false i j e = refused_got e
    number T p h f false b i j e = refused_got e

    size : (b : Bool) → leb (length s) 65536 ≡ b
        → cond b (then (field s 0 8) (λ T p. valid 0 (leb 1 T && leb T 64) (then (templates_at s T 0 T p) (λ us r. padded_end s us r)))) (refused 1 0)
        ≡ got ts q
        → FileParts s ts q
    size true i e = then_led (field s 0 8) _ e (λ T p first on. number T p (leb-true (length s) 65536 i) first (leb 1 T) (leb T 64) refl refl on)
    size false i e = refused_got e
