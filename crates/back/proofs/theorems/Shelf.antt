-- A linear file and the templates that it goes back to (request 13, refusal 32): an accepted tree file that flattens to it has just these,
-- where a template goes back to none there is no such file, and what it goes back to flattens to it. Assumes nothing.
use Rattle.std.specs.Prelude.{ℕ, suc, ◌+◌, ◌≡◌, refl, true, List, [], ◌∷◌, ◌++◌, length}
use Rattle.std.proofs.Common.{arith, sym, ap, ◌∙◌, subst}
use Rattle.std.proofs.Math.Option.{Option, none, some}
use Rattle.files.specs.Code.{Code}
use Rattle.files.specs.Reading.{got}
use Rattle.files.specs.Tree.{Template}
use Rattle.files.specs.Flat.{flat}
use Rattle.files.specs.Linear.{Linear, entries_bits, bytes_of, three_bytes, template_bytes, templates_bytes, linear_file, linear_read}
use Rattle.files.specs.Valid.{Bytes}
use Rattle.files.specs.laws.BytesLaws.{bytes_left, bytes_right}
use Rattle.files.specs.laws.AllGot.{got_value, Each}
use Rattle.files.specs.Accepted.{flat_checked}
use Rattle.readback.specs.laws.Templates.{linears}
use Rattle.readback.specs.laws.ReadBack.{flattened_reads}
use Rattle.back.specs.laws.GoodLaws.{flat_bytes}
use Rattle.back.specs.laws.Fixed.{linear_bytes, linears_bytes, linear_fixed}
use Rattle.back.specs.laws.ListBack.{list_back}
use Rattle.back.proofs.theorems.Lists.{fit_good, list_back_iff}
use Rattle.back.proofs.theorems.Files.{AcceptedTemplate, accepted_templates}

-- each template has the entries of the linear one, and the list that its code goes back to
pub data Backs : List Linear → List Template → Type 0 where
  no_more : Backs [] []
  one_more : {l : Linear} {t : Template} {ls : List Linear} {ts : List Template} → t.entries ≡ l.entries → list_back l.entries l.code ≡ some t.code
      → Backs ls ts → Backs (l ∷ ls) (t ∷ ts)

-- the lowest template whose code is no accepted list's with these entries, counted from n on
unfoldable pub or_else : Option Code → ℕ → Option ℕ → Option ℕ
or_else none n o = some n
or_else (some c) n o = o

unfoldable pub lowest_stuck : ℕ → List Linear → Option ℕ
lowest_stuck n [] = none
lowest_stuck n (l ∷ ls) = or_else (list_back l.entries l.code) n (lowest_stuck (n + 1) ls)

pub backs_free : {ls : List Linear} {ts : List Template} (n : ℕ) → Backs ls ts → lowest_stuck n ls ≡ none
unfolding lowest_stuck or_else
backs_free n no_more = refl
backs_free n (one_more e f b) = rw (f, or_else) (backs_free (n + 1) b)

backs_from : (n k : ℕ) (ts : List Template) → Each AcceptedTemplate n ts → Backs (linears k ts) ts
unfolding linears
backs_from n k [] a = no_more
backs_from n k (t ∷ ts) a =
    let f = a.0.fit in
    one_more refl ((list_back_iff t.entries (flat t.code) (flat_bytes (fit_good 15 true t.code f)) t.code).1 (refl, a.0))
    (backs_from (n + 1) (k + length (template_bytes t)) ts a.1)

-- an accepted tree file that flattens to the linear file z has the templates that z goes back to
pub flattens_back : (s : List ℕ) (ts : List Template) (p : ℕ) (z : List ℕ) (ls : List Linear) (q : ℕ) → flat_checked s ≡ got ts p → linear_file ts ≡ z
    → linear_read z ≡ got ls q → Backs ls ts
flattens_back s ts p z ls q a e b =
    let h : linears 1 ts ≡ ls = (got_value (sym (flattened_reads s ts p a) ∙ (ap linear_read e ∙ b))).0 in
    rw h at (backs_from 0 1 ts (accepted_templates s ts p a))

-- where a template of z is stuck, no accepted tree file flattens to z
pub stuck : (z : List ℕ) (ls : List Linear) (q n : ℕ) → linear_read z ≡ got ls q → lowest_stuck 0 ls ≡ some n
    → (s : List ℕ) (ts : List Template) (p : ℕ) → flat_checked s ≡ got ts p → linear_file ts ≡ z → ⊥
stuck z ls q n b w s ts p a e =
    let f : lowest_stuck 0 ls ≡ none = backs_free 0 (flattens_back s ts p z ls q a e b) in
    let x : ◌≡◌ {A = ℕ} 0 1 = cc in
    omega arith

-- ---- what a linear file goes back to flattens to it
backs_bytes : (n : ℕ) {ls : List Linear} {ts : List Template} → Bytes (linears_bytes ls) → Backs ls ts
    → (templates_bytes ts ≡ linears_bytes ls) × (length ts ≡ length ls) × Each AcceptedTemplate n ts
unfolding linears_bytes linear_bytes templates_bytes template_bytes Bytes
backs_bytes n b no_more = (refl, refl, tt)
backs_bytes n b (one_more {l} {t} {ls} {ts} e f r) =
    let m : List ℕ = bytes_of (entries_bits l.entries) in
    let b₁ : Bytes (linear_bytes l) = bytes_left (linear_bytes l) (linears_bytes ls) b in
    let b₂ : Bytes l.code = bytes_right (three_bytes (length l.code)) l.code (bytes_right m (three_bytes (length l.code) ++ l.code) b₁.1) in
    let h = (list_back_iff l.entries l.code b₂ t.code).0 f in
    let i = backs_bytes (n + 1) (bytes_right (linear_bytes l) (linears_bytes ls) b) r in
    (rw (e, h.0, i.0), ap suc i.1, (rw e h.1, i.2))

pub back_flattens : (z : List ℕ) (ls : List Linear) (q : ℕ) (ts : List Template) → Bytes z → linear_read z ≡ got ls q → Backs ls ts
    → (linear_file ts ≡ z) × Each AcceptedTemplate 0 ts
unfolding linear_file Bytes
back_flattens z ls q ts b e r =
    let f : length ls ∷ linears_bytes ls ≡ z = (linear_fixed z b e).bytes in
    let c : Bytes (length ls ∷ linears_bytes ls) = subst Bytes (sym f) b in
    let i = backs_bytes 0 c.1 r in
    (rw (i.0, i.1) f, i.2)
