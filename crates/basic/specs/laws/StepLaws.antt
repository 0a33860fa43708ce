-- What the readers of a list of basic code do at each step. Assumes nothing.
use Prim.Native.Nat.{ℕ, zero, suc, ◌+◌, ◌*◌, ◌-◌, ◌≤◌, ◌<◌}
use Rattle.std.proofs.Common.{zero-add, add_assoc, arith, ◌∙◌, lt-ltb, le-ltb}
use Rattle.std.proofs.Math.Nat.{add-zero}
use Rattle.std.specs.Prelude.{◌≡◌, ◌||◌, List, length, Result, Ok, Err}
use Rattle.std.specs.Result.{IsErr, IsErrAnd}
use Rattle.std.proofs.Math.Path.{refl, sym, ap}
use Rattle.std.proofs.Math.Dec.{eqb}
use mathlib.Core.Logic.{◌⊎◌, inl, inr}
use Rattle.cells.specs.laws.Laws.{clash}
use Rattle.cells.specs.declared.BitPlace.{BitPlace}
use Rattle.files.specs.Reading.{Got, got, refused}
use Rattle.files.specs.Codes.{shape_of}
use Rattle.files.specs.Entries.{Entry, constant, global, then, field, constant_at}
use Rattle.files.specs.laws.AllGot.{AllGot, got_all, then_all, cond_all, valid_all}
use Rattle.lists.specs.declared.Class.{Class}
use Rattle.lists.specs.declared.Class.TheVariants.{Empty, Open, Closed, Neither as NoClass}
use Rattle.lists.specs.declared.Kind.{Kind}
use Rattle.lists.specs.declared.Kind.TheVariants.{Neutral, Ending, SavesOpen, SavesClosed, SavesNeither, Neither}
use Rattle.lists.specs.declared.Classes.{Classes}
use Rattle.basic.specs.declared.Facts.{Facts}
use Rattle.basic.specs.declared.Item.{Item}
use Rattle.basic.specs.declared.Item.TheVariants.{End, More}
use Rattle.basic.specs.Basic.{Basic, ended, plain, carries, closure, branch, save, Token, ended_t, plain_t, carries_t, closure_t, branch_t, save_t}
use Rattle.basic.specs.Basic.{token_bits, bits}
use Rattle.basic.specs.Reading.{holding, literal_at, global_at, shaped_at, code_at, token_at, onward, list_at}
use Rattle.basic.specs.Tabulated.{inside}
use Rattle.basic.specs.Valid.{below}
use Rattle.lists.specs.Pass.{classes_after, conditional_kind, save_kind}
use Rattle.basic.specs.Told.{under, none_read, plain_kind, before, class_of, facts_of, list_told, told_from, Shifts}
use Rattle.basic.specs.declared.Token.{Token as ToldToken}
use Rattle.basic.specs.declared.Token.TheVariants.{End as EndToken, Ending as EndingToken, Plain, Literal, Global, Closure, Branch, Save}
use Rattle.basic.specs.Told.{Told, told_end, told_ending, told_plain, told_literal, told_global, told_closure, told_branch, told_save, told_refused}
use Rattle.basic.specs.Told.{Stepped, at_end, at_more, at_bad}
use Rattle.basic.specs.laws.ReadLaws.{token_facts, list_facts, list_step, token_least}
use Rattle.files.specs.declared.Refusal.{Refusal}
use Rattle.files.specs.Refusal.{refusal}
use Rattle.files.specs.laws.RefusalLaws.{ok_first, ok_second, handed_on}

-- ---- classes
pub four : (P : Class → Type 0) → P Empty → P Open → P Closed → P NoClass → (k : Class) → P k
four P a b c d Empty = a
four P a b c d Open = b
four P a b c d Closed = c
four P a b c d NoClass = d

under_before : (c : Classes) (k : Kind) (n : Class) → under c (before k n) ≡ under (classes_after k c) n
unfolding before under classes_after
under_before c Neutral n = four (λ n. under c (before Neutral n) ≡ under (classes_after Neutral c) n) refl refl refl refl n
under_before c Ending n = four (λ n. under c (before Ending n) ≡ under (classes_after Ending c) n) refl refl refl refl n
under_before c SavesOpen n = four (λ n. under c (before SavesOpen n) ≡ under (classes_after SavesOpen c) n) refl refl refl refl n
under_before c SavesClosed n = four (λ n. under c (before SavesClosed n) ≡ under (classes_after SavesClosed c) n) refl refl refl refl n
under_before c SavesNeither n = four (λ n. under c (before SavesNeither n) ≡ under (classes_after SavesNeither c) n) refl refl refl refl n
under_before c Neither n = four (λ n. under c (before Neither n) ≡ under (classes_after Neither c) n) refl refl refl refl n

under_none : (n : Class) → under none_read n ≡ n
unfolding under
under_none n = four (λ n. under none_read n ≡ n) refl refl refl refl n

-- ---- closures take bits
pub inside_bits : (c : Basic) → 5 * inside c + 5 ≤ bits c
unfolding inside bits
inside_bits ended = omega arith
inside_bits (plain v ns r) = omega (arith, inside_bits r)
inside_bits (carries v e r) = omega (arith, inside_bits r)
inside_bits (closure x r) = omega (arith, inside_bits x, inside_bits r)
inside_bits (branch x y r) = omega (arith, inside_bits x, inside_bits y, inside_bits r)
inside_bits (save n x r) = omega (arith, inside_bits x, inside_bits r)

-- ---- what is told of a list
told_facts : (c : Basic) (x : Facts) → facts_of c ≡ x → (class_of c ≡ x.class) × (inside c ≡ x.inside)
unfolding facts_of
told_facts c x e = (ap (λ (f : Facts). f.class) e, ap (λ (f : Facts). f.inside) e)

-- a list that was told of
pub record ListIs (s : List ℕ) (l p : ℕ) (q : BitPlace) (x : Facts) : Type 0 where
  pub list : Basic
  pub read : list_at s l p ≡ got list q.0
  pub class : class_of list ≡ x.class
  pub count : inside list ≡ x.inside

got_told : (g : Got Basic) (q : BitPlace) (x : Facts) → list_told g ≡ Ok (q, x) → (c : Basic) × (g ≡ got c q.0) × (facts_of c ≡ x)
unfolding list_told
got_told (got c p) q x e = (c, ap (λ (b : BitPlace). got c b.0) (ok_first e), ok_second e)
got_told (refused n p) q x e = clash (cc)

pub list_is : (s : List ℕ) (l p : ℕ) (q : BitPlace) (x : Facts) → Ok (q, x) ≡ list_told (list_at s l p) → ListIs s l p q x
list_is s l p q x e =
    let g = got_told (list_at s l p) q x (sym e) in
    let f = told_facts g.0 x g.2 in
    record { list = g.0; read = g.1; class = f.0; count = f.1 }

refused_told : (g : Got Basic) (r : Refusal BitPlace) → list_told g ≡ Err r → g ≡ refused r.0 r.1.0
unfolding list_told
refused_told (got c p) r e = clash (cc)
refused_told (refused m p) r e =
    let k : ◌≡◌ {A = Refusal BitPlace} (refusal m (record { 0 = p })) r = cc in ap (λ (x : Refusal BitPlace). refused x.0 x.1.0) k

pub list_refused : (s : List ℕ) (l p : ℕ) (r : Refusal BitPlace) → Err r ≡ list_told (list_at s l p) → list_at s l p ≡ refused r.0 r.1.0
list_refused s l p r e = refused_told (list_at s l p) r (sym e)

-- by the answer r that reading it gave
module _ (s : List ℕ) (l p : ℕ) {r : Result (BitPlace × Facts) (Refusal BitPlace)} (asked : r ≡ list_told (list_at s l p)) where
  pub list_was : {q : BitPlace} {x : Facts} → r ≡ Ok (q, x) → ListIs s l p q x
  list_was {q} {x} e = list_is s l p q x (sym e ∙ asked)

  pub list_cut : {x : Refusal BitPlace} → r ≡ Err x → list_at s l p ≡ refused x.0 x.1.0
  list_cut {x} e = list_refused s l p x (sym e ∙ asked)

pub told_begun : (g : Got Basic) → list_told g ≡ told_from none_read 0 g
unfolding list_told told_from facts_of
told_begun (got c q) = rw (under_none (class_of c), zero-add (inside c)) refl
told_begun (refused n p) = refl

more_told : (g : Got Basic) (f : Basic → Basic) (k : Kind) (n : ℕ) → Shifts f k n → (c : Classes) (m : ℕ)
    → told_from c m (then g (λ x r. got (f x) r)) ≡ told_from (classes_after k c) (m + n) g
unfolding told_from then
more_told (got x q) f k n h c m =
    rw (h.class x, h.count x, under_before c k (class_of x), add_assoc m n (inside x)) refl
more_told (refused a p) f k n h c m = refl

pub inside_few : {s : List ℕ} {l p : ℕ} {q : BitPlace} {x : Facts} → length s ≤ 262144 → ListIs s l p q x → x.inside ≤ 2097152
inside_few {s} {l} {p} h w = let f = list_facts s l p w.read in omega (arith, inside_bits w.list, w.count, f.0, f.1)

-- ---- the loop's turns
module _ (s : List ℕ) (l p : ℕ) (c : Classes) (m : ℕ) where
  pub turn_end : (q : BitPlace) → Stepped s l p (Ok (End q)) → told_from c m (list_at s l p) ≡ Ok (q, record { class = c.empty; inside = m })
  unfolding told_from class_of inside under
  turn_end q (at_end q' e) = rw (e, add-zero m) refl

  pub turn_more : (q : BitPlace) (k : Kind) (n : ℕ) → Stepped s l p (Ok (More q k n))
      → told_from c m (list_at s l p) ≡ told_from (classes_after k c) (m + n) (list_at s l q.0)
  turn_more q k n (at_more q' f k' n' e h i j) = rw e (more_told (list_at s l q.0) f k n h c m)

  pub turn_bad : (r : Refusal BitPlace) → Stepped s l p (Err r) → told_from c m (list_at s l p) ≡ Err r
  unfolding told_from
  turn_bad r (at_bad r' e) = rw e refl

pub turn_bits : (s : List ℕ) (l p : ℕ) (q : BitPlace) (k : Kind) (n : ℕ) → Stepped s l p (Ok (More q k n)) → (5 * n + p + 5 ≤ q.0) × (q.0 ≤ 8 * length s)
turn_bits s l p q k n (at_more q' f k' n' e h i j) = (i, j)

-- ---- the instruction at p, by its code
pub bad_step : (s : List ℕ) (l p : ℕ) (r : Refusal BitPlace) → token_at s l p ≡ refused r.0 r.1.0 → Stepped s l p (Err r)
unfolding then
bad_step s l p r e = at_bad r (list_step s l p ∙ rw e refl)

module _ (s : List ℕ) (l p : ℕ) (q : BitPlace) where
  pub end_step : token_at s l p ≡ got ended_t q.0 → Stepped s l p (Ok (End q))
  unfolding then onward
  end_step e = at_end q (list_step s l p ∙ rw e refl)

  token_far : (t : Token) → token_at s l p ≡ got t q.0 → (p + 5 ≤ q.0) × (q.0 ≤ 8 * length s)
  token_far t e = let f = token_facts s l p e in let w = token_least s t in (omega (arith, f.0), f.1)

  plain_shift : (v : ℕ) (ns : List ℕ) (k : Kind) → plain_kind v ≡ k → Shifts (plain v ns) k 0
  unfolding class_of inside
  plain_shift v ns k e = record { class = λ c. ap (λ (k : Kind). before k (class_of c)) e; count = λ c. sym (zero-add (inside c)) }

  carries_shift : (v : ℕ) (e : Entry) → Shifts (carries v e) Neutral 0
  unfolding class_of inside
  carries_shift v e = record { class = λ c. refl; count = λ c. sym (zero-add (inside c)) }

  plain_step : (v : ℕ) (ns : List ℕ) (k : Kind) → plain_kind v ≡ k → token_at s l p ≡ got (plain_t v ns) q.0 → Stepped s l p (Ok (More q k 0))
  unfolding then onward
  plain_step v ns k h e =
      let f = token_far (plain_t v ns) e in
      at_more q (plain v ns) k 0 (list_step s l p ∙ rw e refl) (plain_shift v ns k h) (omega (arith, f.0)) f.1

  pub ending_step : (v : ℕ) (ns : List ℕ) → v < 6 → token_at s l p ≡ got (plain_t v ns) q.0 → Stepped s l p (Ok (More q Ending 0))
  unfolding plain_kind
  ending_step v ns h e = plain_step v ns Ending (rw (lt-ltb v 6 h) refl) e

  pub neutral_step : (v : ℕ) (ns : List ℕ) → 6 ≤ v → token_at s l p ≡ got (plain_t v ns) q.0 → Stepped s l p (Ok (More q Neutral 0))
  unfolding plain_kind
  neutral_step v ns h e = plain_step v ns Neutral (rw (le-ltb v 6 h) refl) e

  pub carries_step : (v : ℕ) (x : Entry) → token_at s l p ≡ got (carries_t v x) q.0 → Stepped s l p (Ok (More q Neutral 0))
  unfolding then onward
  carries_step v x e =
      let f = token_far (carries_t v x) e in
      at_more q (carries v x) Neutral 0 (list_step s l p ∙ rw e refl) (carries_shift v x) (omega (arith, f.0)) f.1

-- ---- with lists
module _ (s : List ℕ) (l p q : ℕ) where
  module _ (e : token_at s (suc l) p ≡ got closure_t q) where
    pub closure_step : (z : BitPlace) (x : Facts) → ListIs s l q z x → Stepped s (suc l) p (Ok (More z Neutral (1 + x.inside)))
    unfolding then onward below class_of inside token_bits
    closure_step z x w =
        let f = token_facts s (suc l) p e in
        let g = list_facts s l q w.read in
        let b = inside_bits w.list in
        at_more z (closure w.list) Neutral (1 + x.inside) (list_step s (suc l) p ∙ rw (e, w.read) refl)
        (record { class = λ c. refl; count = λ c. omega (arith, w.count) }) (omega (arith, w.count, f.0, g.0)) g.1

    pub closure_bad : (r : Refusal BitPlace) → list_at s l q ≡ refused r.0 r.1.0 → Stepped s (suc l) p (Err r)
    unfolding then onward below
    closure_bad r h = at_bad r (list_step s (suc l) p ∙ rw (e, h) refl)

  module _ (n : ℕ) (e : token_at s (suc l) p ≡ got (save_t n) q) where
    pub save_step : (z : BitPlace) (x : Facts) → ListIs s l q z x → Stepped s (suc l) p (Ok (More z (save_kind x.class) x.inside))
    unfolding then onward below class_of inside token_bits
    save_step z x w =
        let f = token_facts s (suc l) p e in
        let g = list_facts s l q w.read in
        let b = inside_bits w.list in
        at_more z (save n w.list) (save_kind x.class) x.inside (list_step s (suc l) p ∙ rw (e, w.read) refl)
        (record { class = λ c. rw w.class refl; count = λ c. omega (arith, w.count) }) (omega (arith, w.count, f.0, g.0)) g.1

    pub save_bad : (r : Refusal BitPlace) → list_at s l q ≡ refused r.0 r.1.0 → Stepped s (suc l) p (Err r)
    unfolding then onward below
    save_bad r h = at_bad r (list_step s (suc l) p ∙ rw (e, h) refl)

  module _ (e : token_at s (suc l) p ≡ got branch_t q) where
    pub branch_bad : (r : Refusal BitPlace) → list_at s l q ≡ refused r.0 r.1.0 → Stepped s (suc l) p (Err r)
    unfolding then onward below
    branch_bad r h = at_bad r (list_step s (suc l) p ∙ rw (e, h) refl)

    module _ (z : BitPlace) (x : Facts) (w : ListIs s l q z x) where
      pub branch_bad_2 : (r : Refusal BitPlace) → list_at s l z.0 ≡ refused r.0 r.1.0 → Stepped s (suc l) p (Err r)
      unfolding then onward below
      branch_bad_2 r h = at_bad r (list_step s (suc l) p ∙ rw (e, w.read, h) refl)

      pub branch_step : (u : BitPlace) (y : Facts) → ListIs s l z.0 u y
          → Stepped s (suc l) p (Ok (More u (conditional_kind x.class y.class) (x.inside + y.inside)))
      unfolding then onward below class_of inside token_bits
      branch_step u y v =
          let f = token_facts s (suc l) p e in
          let g = list_facts s l q w.read in
          let h = list_facts s l z.0 v.read in
          let b = inside_bits w.list in
          let d = inside_bits v.list in
          at_more u (branch w.list v.list) (conditional_kind x.class y.class) (x.inside + y.inside)
          (list_step s (suc l) p ∙ rw (e, w.read, v.read) refl)
          (record { class = λ c. rw (w.class, v.class) refl; count = λ c. omega (arith, w.count, v.count) })
          (omega (arith, w.count, v.count, f.0, g.0, h.0)) h.1

-- ---- a list with no level below it has none of these
unfoldable Flat : Token → Type 0
Flat ended_t = Unit
Flat (plain_t v ns) = Unit
Flat (carries_t v e) = Unit
Flat closure_t = ⊥
Flat branch_t = ⊥
Flat (save_t n) = ⊥

module _ (s : List ℕ) (p : ℕ) where
  literal_flat : (q : ℕ) → AllGot Flat (literal_at s q)
  unfolding literal_at Flat
  literal_flat q =
      then_all Flat (field s q 2) _
      (λ k r e. valid_all Flat q (eqb k 1) _ (λ h. then_all Flat (field s r 3) _ (λ t z f. then_all Flat (constant_at s r t z) _ (λ x u g. tt))))

  shaped_flat : (v q k : ℕ) → AllGot Flat (shaped_at s 0 p v q k)
  unfolding shaped_at holding Flat
  shaped_flat v q zero = tt
  shaped_flat v q (suc zero) = tt
  shaped_flat v q (suc (suc zero)) = then_all Flat (field s q 8) _ (λ a r e. tt)
  shaped_flat v q (suc (suc (suc zero))) = then_all Flat (field s q 8) _ (λ a r e. then_all Flat (field s r 8) _ (λ b z f. tt))
  shaped_flat v q (suc (suc (suc (suc zero)))) = tt
  shaped_flat v q (suc (suc (suc (suc (suc zero))))) = tt
  shaped_flat v q (suc (suc (suc (suc (suc (suc k)))))) = tt

  token_flat : AllGot Flat (token_at s 0 p)
  unfolding token_at code_at global_at holding Flat
  token_flat =
      then_all Flat (field s p 5) _
      (λ v q e. cond_all Flat (eqb v 6) _ _ (λ h. literal_flat q)
      (λ h. cond_all Flat (eqb v 7) _ _ (λ i. tt)
      (λ i. cond_all Flat (eqb v 8 || eqb v 9) _ _ (λ j. then_all Flat (field s q 8) _ (λ g r f. tt)) (λ j. shaped_flat v q (shape_of v)))))

  flat_only : (l : ℕ) (t : Token) (q : ℕ) → (Flat t → ⊥) → token_at s l p ≡ got t q → 1 ≤ l
  flat_only zero t q h e = absurd (h (got_all Flat token_flat e))
  flat_only (suc l) t q h e = omega arith

  pub closure_level : (l q : ℕ) → token_at s l p ≡ got closure_t q → 1 ≤ l
  unfolding Flat
  closure_level l q e = flat_only l closure_t q (λ x. x) e

  pub branch_level : (l q : ℕ) → token_at s l p ≡ got branch_t q → 1 ≤ l
  unfolding Flat
  branch_level l q e = flat_only l branch_t q (λ x. x) e

  pub save_level : (l q n : ℕ) → token_at s l p ≡ got (save_t n) q → 1 ≤ l
  unfolding Flat
  save_level l q n e = flat_only l (save_t n) q (λ x. x) e

-- ---- what is told of a code, by its variant
pub turned : {g : Got Token} {r r' : Result ToldToken (Refusal BitPlace)} → r ≡ r' → Told g r → Told g r'
turned e t = rw (← e) t

pub stepped : {s : List ℕ} {l p : ℕ} {r r' : Result Item (Refusal BitPlace)} → r ≡ r' → Stepped s l p r → Stepped s l p r'
stepped e t = rw (← e) t

-- where it is no refusal
pub turned_to : {g : Got Token} {r : Result ToldToken (Refusal BitPlace)} {x y : ToldToken} → r ≡ Ok x → x ≡ y → Told g r → Told g (Ok y)
turned_to e f t = turned (e ∙ ap Ok f) t

pub stepped_to : {s : List ℕ} {l p : ℕ} {r : Result Item (Refusal BitPlace)} {x y : Item} → r ≡ Ok x → x ≡ y → Stepped s l p r → Stepped s l p (Ok y)
stepped_to e f t = stepped (e ∙ ap Ok f) t

-- what a refusal that `?` hands on is told as
pub turned_on : {g : Got Token} {r : Result ToldToken (Refusal BitPlace)} {x : Refusal BitPlace} → IsErr r × IsErrAnd r (λ y. y ≡ x) → Told g (Err x) → Told g r
turned_on h t = turned (sym (handed_on h)) t

pub stepped_on : {s : List ℕ} {l p : ℕ} {r : Result Item (Refusal BitPlace)} {x : Refusal BitPlace} → IsErr r × IsErrAnd r (λ y. y ≡ x) → Stepped s l p (Err x)
    → Stepped s l p r
stepped_on h t = stepped (sym (handed_on h)) t

module _ (g : Got Token) where
  pub is_end_lem : (q : BitPlace) → Told g (Ok (EndToken q)) → g ≡ got ended_t q.0
  is_end_lem q (told_end q' e) = e

  pub is_closure : (q : BitPlace) → Told g (Ok (Closure q)) → g ≡ got closure_t q.0
  is_closure q (told_closure q' e) = e

  pub is_branch : (q : BitPlace) → Told g (Ok (Branch q)) → g ≡ got branch_t q.0
  is_branch q (told_branch q' e) = e

  pub is_literal : (t x : ℕ) (q : BitPlace) → Told g (Ok (Literal t x q)) → g ≡ got (carries_t 6 (constant t x)) q.0
  is_literal t x q (told_literal q' t' x' e) = e

  pub is_global : (v n : ℕ) (q : BitPlace) → Told g (Ok (Global v n q)) → g ≡ got (carries_t v (global n)) q.0
  is_global v n q (told_global q' v' n' e) = e

  pub is_refused : (r : Refusal BitPlace) → Told g (Err r) → g ≡ refused r.0 r.1.0
  is_refused r (told_refused r' e) = e

  pub is_save_lem : (q : BitPlace) → Told g (Ok (Save q)) → (n : ℕ) × (g ≡ got (save_t n) q.0)
  is_save_lem q (told_save q' n e) = (n, e)

module _ (s : List ℕ) (l p : ℕ) where
  pub told_ending_step : (q : BitPlace) → Told (token_at s l p) (Ok (EndingToken q)) → Stepped s l p (Ok (More q Ending 0))
  told_ending_step q (told_ending q' v ns h e) = ending_step s l p q v ns h e

  pub told_neutral_step : (q : BitPlace) → Told (token_at s l p) (Ok (Plain q)) → Stepped s l p (Ok (More q Neutral 0))
  told_neutral_step q (told_plain q' v ns h e) = neutral_step s l p q v ns h e

  -- what a code that is neutral in its list is told as
  pub neutral_told : {r : Result ToldToken (Refusal BitPlace)} {x : ToldToken} {q : BitPlace} → r ≡ Ok x
      → (x ≡ Plain q) ⊎ (((t : ℕ) × (n : ℕ) × (x ≡ Literal t n q)) ⊎ ((v : ℕ) × (n : ℕ) × (x ≡ Global v n q))) → Told (token_at s l p) r
      → Stepped s l p (Ok (More q Neutral 0))
  neutral_told e (inl f) h = told_neutral_step _ (turned_to e f h)
  neutral_told e (inr (inl (t, n, f))) h = carries_step s l p _ _ _ (is_literal _ _ _ _ (turned_to e f h))
  neutral_told e (inr (inr (v, n, f))) h = carries_step s l p _ _ _ (is_global _ _ _ _ (turned_to e f h))

  -- one level deeper
  pub deeper : (r : Result Item (Refusal BitPlace)) (l' : ℕ) → l' ≡ l - 1 → 1 ≤ l → Stepped s (suc l') p r → Stepped s l p r
  deeper r l' e h w = let k : suc l' ≡ l = omega arith in rw (← k) w

  pub up : (t : Token) (q l' : ℕ) → l' ≡ l - 1 → 1 ≤ l → token_at s l p ≡ got t q → token_at s (suc l') p ≡ got t q
  up t q l' e h k = let i : suc l' ≡ l = omega arith in rw i k
