-- One pass finds the facts: what each instruction adds, from the first to the last, comes to the facts of the list. Assumes nothing.
use Rattle.std.specs.Prelude.{ℕ, ◌+◌, ◌≤◌, ◌≡◌, Bool, cond, ◌&&◌, ◌||◌, List}
use Rattle.std.proofs.Common.{add-zero, ap, ◌∙◌, le-leb, leb-true}
use Rattle.std.proofs.Math.Nat.{zero-add, add_assoc}
use native.Mathlib.Omega.{arith}
use Rattle.std.proofs.Math.Path.{refl, sym}
use Rattle.std.proofs.Math.Bool.{true, false, and-true, and-false, or-false, and_assoc}
use Rattle.std.proofs.Math.ListN.{length, length-append}
use Rattle.files.specs.Code.{Code, done, neutral, return, call, unless_false, make_cont, Instr, neutral_i, return_i, call_i, unless_i, cont_i, put}
use Rattle.files.specs.Reading.{Got, got, refused}
use Rattle.files.specs.Grammar.{is_empty, is_open, is_closed, each_neutral}
use Rattle.files.specs.Flat.{conditional, flat, fits_offset, arms_fit, offsets_fit}
use Rattle.lists.specs.declared.Class.{Class}
use Rattle.lists.specs.declared.Class.TheVariants.{Empty, Open, Closed, Neither as NoClass}
use Rattle.lists.specs.declared.Kind.{Kind}
use Rattle.lists.specs.declared.Kind.TheVariants.{Neutral, Ending, SavesOpen, SavesClosed, Neither}
use Rattle.lists.specs.declared.Classes.{Classes}
use Rattle.lists.specs.declared.Added.{Added}
use Rattle.lists.specs.declared.State.{State}
use Rattle.lists.specs.Sets.{unite}
use Rattle.lists.specs.laws.SetsLaws.{unite_zero, unite_assoc}
use Rattle.lists.specs.Facts.{says_empty, says_open, says_closed, class_by, class_of, slots_fit, unite_neutral, slots_close, facts_of, listed}
use Rattle.lists.specs.Pass.{conditional_kind, conditional_size, conditional_added, save_kind, save_added, added_by, classes_after, is_save, state_after, begun}
use Rattle.lists.specs.Pass.{finish, run, listed_from}

-- ---- a list is empty, or an instruction and a list
by_put : (P : Code → Type 0) → P done → ((i : Instr) (c : Code) → P c → P (put i c)) → (c : Code) → P c
unfolding put
by_put P d f done = d
by_put P d f (neutral op ns c) = f (neutral_i op ns) c (by_put P d f c)
by_put P d f (return c) = f return_i c (by_put P d f c)
by_put P d f (call n c) = f (call_i n) c (by_put P d f c)
by_put P d f (unless_false x y c) = f (unless_i x y) c (by_put P d f c)
by_put P d f (make_cont n x c) = f (cont_i n x) c (by_put P d f c)

-- ---- classes
-- no list is open and closed
data Sorted : Bool → Bool → Bool → Type 0 where
  empty : Sorted true false false
  opened : Sorted false true false
  closed : Sorted false false true
  neither : Sorted false false false

four : (P : Bool → Bool → Bool → Type 0) → P true false false → P false true false → P false false true → P false false false → {e o k : Bool} → Sorted e o k
    → P e o k
four P a b c d empty = a
four P a b c d opened = b
four P a b c d closed = c
four P a b c d neither = d

at_most_open : (b : Bool) → Sorted false b false
at_most_open true = opened
at_most_open false = neither

at_most_closed : (b : Bool) → Sorted false false b
at_most_closed true = closed
at_most_closed false = neither

-- two arms are both open, both closed, or neither
data Arms : Bool → Bool → Type 0 where
  both_open : Arms true false
  both_closed : Arms false true
  unlike : Arms false false

arms : {e o k : Bool} (o' k' : Bool) → Sorted e o k → Arms (o && o') (k && k')
arms o k empty = unlike
arms true k opened = both_open
arms false k opened = unlike
arms o true closed = both_closed
arms o false closed = unlike
arms o k neither = unlike

sorted_neutral : {e o k : Bool} → Sorted e o k → Sorted false (e || o) k
sorted_neutral r = four (λ e o k. Sorted false (e || o) k) opened opened closed neither r

sorted_conditional : {bo bk e o k : Bool} → Arms bo bk → Sorted e o k → Sorted false (bo && (e || o)) ((bo && k) || (e && bk))
sorted_conditional {e = e} {k = k} both_open r = rw (and-false e, or-false k) (sorted_neutral r)
sorted_conditional {e = e} both_closed r = rw (and-true e) (at_most_closed e)
sorted_conditional {e = e} unlike r = rw (and-false e) neither

sorted_save : {e o k : Bool} → Sorted e o k → (b : Bool) → Sorted false ((e || o) && b) (k && b)
sorted_save empty b = at_most_open b
sorted_save opened b = at_most_open b
sorted_save closed b = at_most_closed b
sorted_save neither b = neither

sorted : (c : Code) → Sorted (is_empty c) (is_open c) (is_closed c)
unfolding is_empty is_open is_closed
sorted done = empty
sorted (neutral op ns r) = sorted_neutral (sorted r)
sorted (return r) = at_most_closed (is_empty r)
sorted (call n r) = at_most_closed (is_empty r)
sorted (unless_false x y r) = rw (and_assoc (is_empty r) (is_closed x) (is_closed y))
    (sorted_conditional (arms (is_open y) (is_closed y) (sorted x)) (sorted r))
sorted (make_cont n x r) = sorted_save (sorted x) (is_closed r)

pub empty_class : (c : Code) → is_empty c ≡ says_empty (class_of c)
unfolding class_of says_empty
empty_class c = four (λ e o k. e ≡ says_empty (class_by e o k)) refl refl refl refl (sorted c)

pub open_class : (c : Code) → is_open c ≡ says_open (class_of c)
unfolding class_of says_open
open_class c = four (λ e o k. o ≡ says_open (class_by e o k)) refl refl refl refl (sorted c)

pub closed_class : (c : Code) → is_closed c ≡ says_closed (class_of c)
unfolding class_of says_closed
closed_class c = four (λ e o k. k ≡ says_closed (class_by e o k)) refl refl refl refl (sorted c)

-- the class of a whole list, by the class of what is left of it
under : Classes → Class → Class
under c Empty = c.empty
under c Open = c.opened
under c Closed = c.closed
under c NoClass = NoClass

begun_class : (c : Code) → under begun.classes (class_of c) ≡ class_of c
unfolding under begun class_of
begun_class c = four (λ e o k. under begun.classes (class_by e o k) ≡ class_by e o k) refl refl refl refl (sorted c)

-- after an instruction of a kind, that is the class by the class of what the instruction and what is left come to
module _ (c : Classes) {e o k : Bool} (r : Sorted e o k) where
  neutral_class : under (classes_after Neutral c) (class_by e o k) ≡ under c (class_by false (e || o) k)
  unfolding under classes_after
  neutral_class = four (λ e o k. under (classes_after Neutral c) (class_by e o k) ≡ under c (class_by false (e || o) k)) refl refl refl refl r

  ending_class : under (classes_after Ending c) (class_by e o k) ≡ under c (class_by false false e)
  unfolding under classes_after
  ending_class = four (λ e o k. under (classes_after Ending c) (class_by e o k) ≡ under c (class_by false false e)) refl refl refl refl r

  neither_class : under (classes_after Neither c) (class_by e o k) ≡ NoClass
  unfolding under classes_after
  neither_class = four (λ e o k. under (classes_after Neither c) (class_by e o k) ≡ NoClass) refl refl refl refl r

  conditional_class : {bo bk : Bool} → Arms bo bk
      → under (classes_after (cond bo Neutral (cond bk Ending Neither)) c) (class_by e o k) ≡ under c (class_by false (bo && (e || o)) ((bo && k) || (e && bk)))
  unfolding under
  conditional_class both_open = rw (and-false e, or-false k) neutral_class
  conditional_class both_closed = rw (and-true e) ending_class
  conditional_class unlike = rw (and-false e) neither_class

  saves_open_class : under (classes_after SavesOpen c) (class_by e o k) ≡ under c (class_by false k false)
  unfolding under classes_after
  saves_open_class = four (λ e o k. under (classes_after SavesOpen c) (class_by e o k) ≡ under c (class_by false k false)) refl refl refl refl r

  save_class : {e' o' k' : Bool} → Sorted e' o' k'
      → under (classes_after (save_kind (class_by e' o' k')) c) (class_by e o k) ≡ under c (class_by false ((e' || o') && k) (k' && k))
  unfolding under classes_after save_kind
  save_class empty = saves_open_class
  save_class opened = saves_open_class
  save_class closed = four (λ e o k. under (classes_after SavesClosed c) (class_by e o k) ≡ under c (class_by false false k)) refl refl refl refl r
  save_class neither = neither_class

arms_kind : (x y : Code) → conditional_kind (class_of x) (class_of y) ≡ cond (is_open x && is_open y) Neutral (cond (is_closed x && is_closed y) Ending Neither)
unfolding conditional_kind
arms_kind x y = rw (open_class x, open_class y, closed_class x, closed_class y) refl

arms_class : (x y r : Code) (c : Classes)
    → under (classes_after (conditional_kind (class_of x) (class_of y)) c) (class_of r) ≡ under c (class_of (unless_false x y r))
unfolding class_of is_empty is_open is_closed
arms_class x y r c =
    ap (λ (k : Kind). under (classes_after k c) (class_of r)) (arms_kind x y)
    ∙ conditional_class c (sorted r) (arms (is_open y) (is_closed y) (sorted x))
    ∙ rw (and_assoc (is_empty r) (is_closed x) (is_closed y)) refl

arms_size_lem : (b : Bool) (x y r : List ℕ) → length (conditional b x y r) ≡ cond b 3 6 + length x + length y + length r
unfolding conditional
arms_size_lem true x y r = simp length-append (omega arith)
arms_size_lem false x y r = simp length-append (omega arith)

arms_no_save : (x y : Class) → is_save (conditional_kind x y) ≡ false
unfolding conditional_kind is_save
arms_no_save x y = go (says_open x && says_open y) (says_closed x && says_closed y)
  where
    go : (a b : Bool) → is_save (cond a Neutral (cond b Ending Neither)) ≡ false
    go true b = refl
    go false true = refl
    go false false = refl

save_is_save : (x : Class) → is_save (save_kind x) ≡ true
unfolding save_kind is_save
save_is_save Empty = refl
save_is_save Open = refl
save_is_save Closed = refl
save_is_save NoClass = refl

-- ---- what an instruction adds
module _ (table : List ℕ) (own : ℕ) where
  put_class : (i : Instr) (r : Code) (c : Classes) → under (classes_after (added_by table own i).kind c) (class_of r) ≡ under c (class_of (put i r))
  unfolding added_by conditional_added conditional_kind save_added facts_of class_of put is_empty is_open is_closed
  put_class (neutral_i op ns) r c = neutral_class c (sorted r)
  put_class return_i r c = ending_class c (sorted r)
  put_class (call_i n) r c = ending_class c (sorted r)
  put_class (unless_i x y) r c = arms_class x y r c
  put_class (cont_i n x) r c = save_class c (sorted r) (sorted x)

  pub put_size : (i : Instr) (r : Code) → length (flat (put i r)) ≡ (added_by table own i).size + length (flat r)
  unfolding added_by conditional_added conditional_size save_added facts_of put flat
  put_size (neutral_i op ns) r = simp length-append (omega arith)
  put_size return_i r = omega arith
  put_size (call_i n) r = omega arith
  put_size (unless_i x y) r = arms_size_lem (is_closed x) (flat x) (flat y) (flat r) ∙ rw (closed_class x) refl
  put_size (cont_i n x) r = simp length-append (omega arith)

  put_named : (i : Instr) (r : Code) → slots_fit table own (put i r) ≡ ((added_by table own i).named && slots_fit table own r)
  unfolding added_by conditional_added save_added facts_of put slots_fit each_neutral
  put_named (neutral_i op ns) r = refl
  put_named return_i r = refl
  put_named (call_i n) r = refl
  put_named (unless_i x y) r = refl
  put_named (cont_i n x) r = refl

  put_closes : (i : Instr) (r : Code) → slots_close table own (put i r) ≡ unite (added_by table own i).closes (slots_close table own r)
  unfolding added_by conditional_added save_added facts_of put slots_close unite_neutral unite
  put_closes (neutral_i op ns) r = refl
  put_closes return_i r = refl
  put_closes (call_i n) r = refl
  put_closes (unless_i x y) r = refl
  put_closes (cont_i n x) r = refl

  put_fits : (i : Instr) (r : Code)
      → offsets_fit (put i r) ≡ (cond (is_save (added_by table own i).kind) (fits_offset (length (flat r))) true
      && ((added_by table own i).fits && offsets_fit r))
  unfolding added_by conditional_added save_added facts_of put offsets_fit is_save
  put_fits (neutral_i op ns) r = refl
  put_fits return_i r = refl
  put_fits (call_i n) r = refl
  put_fits (unless_i x y) r =
      rw (
        arms_no_save (class_of x) (class_of y),
        ← closed_class x,
        and_assoc (arms_fit (is_closed x) (length (flat x)) (length (flat y)))
            (offsets_fit x && offsets_fit y) (offsets_fit r),
        and_assoc (offsets_fit x) (offsets_fit y) (offsets_fit r),
      ) refl
  put_fits (cont_i n x) r = rw (save_is_save (class_of x)) refl

-- ---- the whole pass
-- where all that follows fits, so does what follows later
kept : (a b f s o : Bool) → (f ≡ true → s ≡ true) → (a && b && f && o) ≡ (a && f && (s && (b && o)))
kept false b f s o h = refl
kept true true true s o h = rw (h refl) refl
kept true true false s o h = refl
kept true false true s o h = rw (h refl) refl
kept true false false s o h = refl

later : (b : Bool) (m n : ℕ) → n ≤ m → fits_offset m ≡ true → cond b (fits_offset n) true ≡ true
later true m n h e = le-leb n 65535 (omega (arith, leb-true m 65535 e))
later false m n h e = refl

begins : (a b s o : Bool) → (a && b && s && o) ≡ (a && (s && (b && o)))
begins false b s o = refl
begins true true s o = refl
begins true false true o = refl
begins true false false o = refl

-- the offsets that come after st and up to st': once a make-cont was seen, and before
abbrev Fit : Code → State → State → Type 0
Fit c st st' =
    (st.seen ≡ true → (st'.fits && fits_offset st'.tail) ≡ (st.fits && fits_offset (st.tail + length (flat c)) && offsets_fit c))
    × (st.seen ≡ false → st.tail ≡ 0 → (st'.fits && fits_offset st'.tail) ≡ (st.fits && offsets_fit c))

fit_done : (st : State) → Fit done st st
unfolding flat offsets_fit
fit_done st = (λ e. rw (add-zero st.tail, and-true (st.fits && fits_offset st.tail)) refl, λ e z. rw z refl)

-- one instruction more: c' is c after an instruction that adds o
module _ (o : Added) (c c' : Code) (st st' : State) (size : length (flat c') ≡ o.size + length (flat c))
    (fits : offsets_fit c' ≡ (cond (is_save o.kind) (fits_offset (length (flat c))) true && (o.fits && offsets_fit c))) (h : Fit c (state_after st o) st') where
  fit_unseen : st.seen ≡ false → st.tail ≡ 0 → (b : Bool) → is_save o.kind ≡ b → (st'.fits && fits_offset st'.tail) ≡ (st.fits && offsets_fit c')
  unfolding state_after
  fit_unseen e z true s = h.0 (rw (e, s) refl) ∙ rw (e, z, fits, s, zero-add (length (flat c))) (begins st.fits o.fits _ (offsets_fit c))
  fit_unseen e z false s = h.1 (rw (e, s) refl) (rw e z) ∙ rw (fits, s) (and_assoc st.fits o.fits (offsets_fit c))

  fit_more : Fit c' st st'
  unfolding state_after
  fit_more = (
    λ e. h.0 (rw e refl)
        ∙ rw (e, size, fits, add_assoc st.tail o.size (length (flat c)))
        (kept st.fits o.fits _ _ (offsets_fit c) (later (is_save o.kind) (st.tail + (o.size + length (flat c))) (length (flat c)) (omega arith))),
    λ e z. fit_unseen e z (is_save o.kind) refl,
  )

module _ (table : List ℕ) (own : ℕ) where
  pub run_put : (i : Instr) (c : Code) (st : State) → run table own (put i c) st ≡ run table own c (state_after st (added_by table own i))
  unfolding run put
  run_put (neutral_i op ns) c st = refl
  run_put return_i c st = refl
  run_put (call_i n) c st = refl
  run_put (unless_i x y) c st = refl
  run_put (cont_i n x) c st = refl

  -- what holds of every state after a list holds where it holds of none and of one instruction more
  by_run : (P : Code → State → State → Type 0) → ((st : State) → P done st st)
      → ((i : Instr) (c : Code) (st st' : State) → P c (state_after st (added_by table own i)) st' → P (put i c) st st') → (c : Code) (st : State)
      → P c st (run table own c st)
  unfolding run
  by_run P d f = by_put (λ c. (st : State) → P c st (run table own c st)) d (λ i c h st. rw (run_put i c st) (f i c st _ (h _)))

  run_class : (c : Code) (st : State) → (run table own c st).classes.empty ≡ under st.classes (class_of c)
  unfolding state_after class_of is_empty under
  run_class =
      by_run (λ c st st'. st'.classes.empty ≡ under st.classes (class_of c)) (λ st. refl) (λ i c st st' h. h ∙ put_class table own i c st.classes)

  run_size : (c : Code) (st : State) → (run table own c st).size ≡ st.size + length (flat c)
  unfolding state_after flat
  run_size = by_run (λ c st st'. st'.size ≡ st.size + length (flat c)) (λ st. omega arith) (λ i c st st' h. omega (arith, put_size table own i c))

  run_named : (c : Code) (st : State) → (run table own c st).named ≡ (st.named && slots_fit table own c)
  unfolding state_after slots_fit each_neutral
  run_named =
      by_run (λ c st st'. st'.named ≡ (st.named && slots_fit table own c)) (λ st. sym (and-true st.named))
      (λ i c st st' h. h ∙ and_assoc st.named _ _ ∙ rw (put_named table own i c) refl)

  run_closes : (c : Code) (st : State) → (run table own c st).closes ≡ unite st.closes (slots_close table own c)
  unfolding state_after slots_close unite_neutral
  run_closes =
      by_run (λ c st st'. st'.closes ≡ unite st.closes (slots_close table own c)) (λ st. sym (unite_zero st.closes))
      (λ i c st st' h. h ∙ unite_assoc st.closes _ _ ∙ rw (put_closes table own i c) refl)

  run_fits : (c : Code) (st : State) → Fit c st (run table own c st)
  run_fits = by_run Fit fit_done (λ i c st st' h. fit_more (added_by table own i) c (put i c) st st' (put_size table own i c) (put_fits table own i c) h)

  -- the pass finds the facts
  pub pass_facts : (c : Code) → finish (run table own c begun) ≡ facts_of table own c
  unfolding finish facts_of begun unite
  pass_facts c =
      rw (
        run_class c begun,
        run_size c begun,
        run_named c begun,
        run_closes c begun,
        (run_fits c begun).1 refl refl,
        begun_class c,
        zero-add (length (flat c)),
      ) refl

  pub listed_begun : (x : Got Code) → listed table own x ≡ listed_from table own begun x
  unfolding listed listed_from
  listed_begun (got c q) = rw (pass_facts c) refl
  listed_begun (refused n p) = refl
