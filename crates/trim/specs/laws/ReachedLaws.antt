-- The templates that are reached: one pass in order marks them, and those that a template names are above it. Assumes nothing.
use Prim.Native.Nat.{ℕ, zero, suc, ◌+◌, ◌/◌, ◌%◌, ◌^◌, ◌≤◌, ◌<◌}
use Rattle.std.proofs.Common.{sym, subst, ◌∙◌, length-set, get_or-set_same, shr-shr}
use native.Mathlib.Omega.{arith}
use Rattle.std.proofs.Math.Path.{◌≡◌, refl, ap}
use Rattle.std.specs.Prelude.{Bool, ◌&&◌, ◌||◌, set, replicate}
use Rattle.std.proofs.Math.Bool.{true, false, cond, and-eq-true_iff}
use mathlib.Core.List.{List, [], ◌∷◌}
use Rattle.std.proofs.Math.Dec.{eqb}
use Rattle.std.proofs.Math.ListN.{length, get_or}
use Rattle.std.proofs.lemmas.List.{length-replicate}
use Rattle.std.proofs.Math.Seq.{get_or-set_other}
use borrow.Author.Tests.{eqb-true, eq-eqb, ne_eqb}
use Rattle.files.specs.Code.{Code, done, neutral, return, call, unless_false, make_cont}
use Rattle.files.specs.Entries.{Entry, constant, global, template}
use Rattle.files.specs.laws.EntriesLaws.{EntriesOk}
use Rattle.files.specs.Grammar.{entry_of}
use Rattle.files.specs.Tree.{Template}
use Rattle.files.specs.laws.AllGot.{Each, each_weaker}
use Rattle.files.specs.laws.TableLaws.{zeros_at}
use Rattle.files.specs.Orphans.{is_template, closes}
use Rattle.lists.specs.Facts.{indices_close}
use Rattle.lists.specs.Sets.{unite, has}
use Rattle.lists.specs.laws.SetsLaws.{has_unite, has_one}
use Rattle.lists.specs.laws.SlotLaws.{closes_has}
use Rattle.tree_file.specs.laws.Writable.{TreeWritable}
use Rattle.tree_file.specs.File.{template_bits}
use Rattle.trim.specs.Reached.{marked, reached}
use Rattle.trim.specs.Standing.{FileIn, TemplateIn, span_of, reached_from, marked_if}
use Rattle.trim.specs.declared.Span.{Span}
use Rattle.std.specs.Int.Bits.{bit_or}
use Rattle.trim.specs.laws.StandLaws.{Walk, walk_first, walk_next, walk_all}

-- ---- tests
pub or_cases : {P : Type 0} (a b : Bool) → (a || b) ≡ true → (a ≡ true → P) → (b ≡ true → P) → P
or_cases true b e f g = f refl
or_cases false b e f g = g e

pub or_left : (a b : Bool) → a ≡ true → (a || b) ≡ true
or_left a b e = rw e refl

pub or_right : (a b : Bool) → b ≡ true → (a || b) ≡ true
or_right true b e = refl
or_right false b e = e

pub never : {P : Type 0} → ◌≡◌ {A = Bool} false true → P
never e = let z : ◌≡◌ {A = ℕ} 0 1 = cc in absurd (omega arith)

-- a test that is never true is false
pub not_true : (b : Bool) → (b ≡ true → ⊥) → b ≡ false
not_true true h = absurd (h refl)
not_true false h = refl

-- ---- templates that are named are above their own
module _ (own T : ℕ) where
  found_up : (es : List Entry) (n u : ℕ) → EntriesOk own T es → is_template u (entry_of es n) ≡ true → (own < u) × (u < T)
  unfolding entry_of is_template
  found_up es zero u k e = never e
  found_up [] (suc n) u k e = never e
  found_up (constant t x ∷ es) (suc zero) u k e = never e
  found_up (global g ∷ es) (suc zero) u k e = never e
  found_up (template t ∷ es) (suc zero) u k e = let h : t ≡ u = eqb-true t u e in omega arith
  found_up (x ∷ es) (suc (suc n)) u k e = found_up es (suc n) u k.1 e

  pub closes_up : (es : List Entry) (c : Code) (u : ℕ) → EntriesOk own T es → closes es u c ≡ true → (own < u) × (u < T)
  unfolding closes
  closes_up es done u k e = never e
  closes_up es (neutral op ns r) u k e =
      or_cases (eqb op 7 && is_template u (entry_of es (get_or ns 0 0))) (closes es u r) e
      (λ h. found_up es (get_or ns 0 0) u k ((and-eq-true_iff (eqb op 7) (is_template u (entry_of es (get_or ns 0 0)))).0 h).1) (λ h. closes_up es r u k h)
  closes_up es (return r) u k e = closes_up es r u k e
  closes_up es (call m r) u k e = closes_up es r u k e
  closes_up es (unless_false x y r) u k e =
      or_cases (closes es u x) (closes es u y || closes es u r) e (λ h. closes_up es x u k h)
      (λ h. or_cases (closes es u y) (closes es u r) h (λ h. closes_up es y u k h) (λ h. closes_up es r u k h))
  closes_up es (make_cont m x r) u k e = or_cases (closes es u x) (closes es u r) e (λ h. closes_up es x u k h) (λ h. closes_up es r u k h)

-- ---- marks
abbrev pub Up : ℕ → Template → Type 0
Up t x = (u : ℕ) → closes x.entries u x.code ≡ true → t < u

pub up_each : (T n : ℕ) (ts : List Template) → Each (TreeWritable T) n ts → Each Up n ts
up_each T n ts h = each_weaker (λ n x k u c. (closes_up n T x.entries x.code u k.entries_ok c).0) n ts h

pub marked_same : (t : ℕ) (k l : ℕ → Bool) (ts : List Template) (u : ℕ) → ((v : ℕ) → k v ≡ l v) → marked t k ts u ≡ marked t l ts u
unfolding marked
marked_same t k l [] u h = h u
marked_same t k l (x ∷ ts) u h = marked_same (t + 1) _ _ ts u (λ v. rw (h v, h t) refl)

pub marked_more : (t : ℕ) (k : ℕ → Bool) (ts : List Template) (u : ℕ) → k u ≡ true → marked t k ts u ≡ true
unfolding marked
marked_more t k [] u e = e
marked_more t k (x ∷ ts) u e =
    marked_more (t + 1) (λ v. k v || (k t && closes x.entries v x.code)) ts u (or_left (k u) (k t && closes x.entries u x.code) e)

or_none : (a b c : Bool) → c ≡ false → (a || (b && c)) ≡ a
or_none true b c e = refl
or_none false true c e = e
or_none false false c e = refl

-- up to the next template's number nothing more is marked
pub marked_back : (t : ℕ) (k : ℕ → Bool) (ts : List Template) (u : ℕ) → Each Up t ts → u ≤ t → marked t k ts u ≡ k u
unfolding marked
marked_back t k [] u up h = refl
marked_back t k (x ∷ ts) u up h =
    marked_back (t + 1) (λ v. k v || (k t && closes x.entries v x.code)) ts u up.1 (omega arith)
    ∙ or_none (k u) (k t) (closes x.entries u x.code) (not_true _ (λ e. let l = up.0 u e in omega arith))

-- ---- the loop over templates, with the set of those that are reached
has_bit : (n t : ℕ) → has n t ≡ eqb (n / 2 ^ t % 2) 1
unfolding has
has_bit n zero = let e : n / 2 ^ 0 ≡ n = omega arith in rw e refl
has_bit n (suc t) =
    let z : 1 + t ≡ suc t = omega arith in
    let e : n / 2 / 2 ^ t ≡ n / 2 ^ suc t = rw z at (shr-shr n 1 t) in
    has_bit (n / 2) t ∙ rw e refl

pub bit_out : (n t : ℕ) → (n / 2 ^ t % 2 ≡ 1 → ⊥) → has n t ≡ false
bit_out n t h = has_bit n t ∙ ne_eqb _ 1 h

pub bit_in : (n t : ℕ) → n / 2 ^ t % 2 ≡ 1 → has n t ≡ true
bit_in n t h = has_bit n t ∙ eq-eqb _ 1 h

reached_has : (own : ℕ) (x : Template) (n v : ℕ) → has (reached_from own x n) v ≡ (has n v || (has n own && closes x.entries v x.code))
unfolding reached_from
reached_has own x n v = go (has n own) refl
  where
    go : (b : Bool) → has n own ≡ b
        → has (cond b (unite n (indices_close x.entries x.code)) n) v ≡ (has n v || (b && closes x.entries v x.code))
    go true e = has_unite n (indices_close x.entries x.code) v ∙ ap (λ (b : Bool). has n v || b) (closes_has x.entries v x.code)
    go false e = sym (or_false (has n v))
      where
        or_false : (b : Bool) → (b || false) ≡ b
        or_false true = refl
        or_false false = refl

pub reached_out : (own : ℕ) (x : Template) (n : ℕ) → has n own ≡ false → reached_from own x n ≡ n
unfolding reached_from
reached_out own x n e = rw e refl

pub reached_in : (own : ℕ) (x : Template) (n : ℕ) (l : Span) → has n own ≡ true → l ≡ span_of x → bit_or n l.closes ≡ reached_from own x n
unfolding reached_from span_of unite
reached_in own x n l e f = rw (e, f) refl

pub zeros_length : (n : ℕ) (l : List ℕ) → l ≡ replicate n 0 → length l ≡ n
zeros_length n l e = ap length e ∙ length-replicate n 0

pub marked_out : (b : Bool) (own : ℕ) (l : List ℕ) → b ≡ false → l ≡ marked_if b own l
unfolding marked_if
marked_out b own l e = rw e refl

pub marked_in_lem : (b : Bool) (own : ℕ) (l : List ℕ) → b ≡ true → set l own 1 ≡ marked_if b own l
unfolding marked_if
marked_in_lem b own l e = rw e refl

pub marked_length : (b : Bool) (own : ℕ) (l : List ℕ) → length (marked_if b own l) ≡ length l
unfolding marked_if
marked_length true own l = length-set l own 1
marked_length false own l = refl

-- after the templates below own: what is reached, and the marks
pub record Reaching (s table : List ℕ) (ts : List Template) (own n : ℕ) (marks : List ℕ) : Type 0 where
  pub here : ℕ
  pub rest : List Template
  pub walk : Walk s table (length ts) own here rest
  pub count : own + length rest ≡ length ts
  pub same : (u : ℕ) → marked own (has n) rest u ≡ reached ts u
  pub below : (t : ℕ) → t < own → get_or marks t 0 ≡ cond (reached ts t) 1 0
  pub above : (t : ℕ) → own ≤ t → get_or marks t 0 ≡ 0

one_only : (v : ℕ) → has 1 v ≡ eqb v 0
one_only v = has_one 0 v ∙ flip v
  where
    flip : (v : ℕ) → eqb 0 v ≡ eqb v 0
    flip zero = refl
    flip (suc v) = ne_eqb 0 (suc v) (λ e. omega arith) ∙ sym (ne_eqb (suc v) 0 (λ e. omega arith))

pub reaching_none : {s table : List ℕ} {count : ℕ} (w : FileIn s table count) (marks : List ℕ) → marks ≡ replicate 64 0
    → Reaching s table w.templates 0 1 marks
unfolding reached
reaching_none w marks e =
    record {
      here = 8;
      rest = w.templates;
      walk = walk_all w;
      count = omega arith;
      same = λ u. marked_same 0 (has 1) (λ v. eqb v 0) w.templates u one_only;
      below = λ t h. absurd (omega arith);
      above = λ t h. rw e (zeros_at 64 t);
    }

module _ {s table : List ℕ} {ts : List Template} {own n : ℕ} {marks : List ℕ} (r : Reaching s table ts own n marks) (more : own < length ts)
    (room : length marks ≡ 64) where
  pub record Head : Type 0 where
    pub head : Template
    pub tail : List Template
    pub is : r.rest ≡ head ∷ tail

  first : (rest : List Template) → own + length rest ≡ length ts → r.rest ≡ rest → Head
  first [] c e = absurd (omega arith)
  first (x ∷ xs) c e = record { head = x; tail = xs; is = e }

  the : Head
  the = first r.rest r.count refl

  walked : Walk s table (length ts) own r.here (the.head ∷ the.tail)
  walked = subst (λ (l : List Template). Walk s table (length ts) own r.here l) the.is r.walk

  pub reaching_first : TemplateIn s table own r.here
  reaching_first = walk_first the.head the.tail walked

  first_is : reaching_first.template ≡ the.head
  unfolding reaching_first
  first_is = refl

  same_here : (u : ℕ) → marked own (has n) (the.head ∷ the.tail) u ≡ reached ts u
  same_here u = ap (λ (l : List Template). marked own (has n) l u) (sym the.is) ∙ r.same u

  has_own : has n own ≡ reached ts own
  has_own =
      sym (marked_back own (has n) (the.head ∷ the.tail) own (up_each (length ts) own (the.head ∷ the.tail) walked.each) (omega arith))
      ∙ same_here own

  few : own < 64
  few = let h : length ts ≤ 64 = walked.few in omega arith

  mark_at_lem : (marks' : List ℕ) → marks' ≡ marked_if (has n own) own marks → (t : ℕ) → get_or marks' t 0 ≡ cond (has n own && eqb t own) 1 (get_or marks t 0)
  unfolding marked_if
  mark_at_lem marks' e t = rw e (go (has n own) (eqb t own) refl)
    where
      go : (b k : Bool) → eqb t own ≡ k → get_or (cond b (set marks own 1) marks) t 0 ≡ cond (b && k) 1 (get_or marks t 0)
      go true true k = rw (eqb-true t own k) (get_or-set_same marks own 1 0 (omega (arith, few)))
      go true false k = get_or-set_other marks own t 1 0 (λ z. never (sym k ∙ eq-eqb t own z))
      go false k e = refl

  pub reaching_on : (n' : ℕ) (marks' : List ℕ) → n' ≡ reached_from own reaching_first.template n → marks' ≡ marked_if (has n own) own marks
      → Reaching s table ts (own + 1) n' marks'
  unfolding marked reaching_first the
  reaching_on n' marks' e f =
      record {
        here = r.here + length (template_bits the.head);
        rest = the.tail;
        walk = walk_next the.head the.tail walked;
        count = let k : own + length r.rest ≡ length ts = r.count in let z : length r.rest ≡ suc (length the.tail) = ap length the.is in
            omega arith;
        same = λ u.
            marked_same (own + 1) (has n') (λ v. has n v || (has n own && closes the.head.entries v the.head.code)) the.tail u
            (λ v. rw e (reached_has own the.head n v))
            ∙ same_here u;
        below = λ t h. mark_at_lem marks' f t ∙ low t (eqb t own) refl h;
        above = λ t h. mark_at_lem marks' f t ∙ rw (ne_eqb t own (λ z. omega arith)) (high (has n own) t (omega arith));
      }
    where
      low : (t : ℕ) (k : Bool) → eqb t own ≡ k → t < own + 1 → cond (has n own && k) 1 (get_or marks t 0) ≡ cond (reached ts t) 1 0
      low t true k h = rw (eqb-true t own k, has_own, r.above own (omega arith)) (same (reached ts own))
        where
          same : (b : Bool) → ◌≡◌ {A = ℕ} (cond (b && true) 1 0) (cond b 1 0)
          same true = refl
          same false = refl
      low t false k h = other (has n own)
        where
          lt : t < own
          lt = let z : t ≡ own → ⊥ = λ z. never (sym k ∙ eq-eqb t own z) in by_cases t own h z
            where
              by_cases : (t own : ℕ) → t < own + 1 → (t ≡ own → ⊥) → t < own
              by_cases t own h z = omega arith

          other : (b : Bool) → cond (b && false) 1 (get_or marks t 0) ≡ cond (reached ts t) 1 0
          other true = r.below t lt
          other false = r.below t lt

      high : (b : Bool) (t : ℕ) → own ≤ t → cond (b && false) 1 (get_or marks t 0) ≡ 0
      high true t h = r.above t h
      high false t h = r.above t h
