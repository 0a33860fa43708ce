-- Walking over basic code: what each code says of what is left. Assumes nothing.
use Rattle.std.specs.Prelude.{ℕ, ◌+◌, ◌*◌, ◌^◌, ◌≤◌, ◌<◌, ◌≡◌, Bool, true, false, cond, eqb, Option, Some, None, IsSomeAnd, Result, Ok, Err}
use Rattle.std.proofs.Common.{arith, sym, ◌∙◌}
use Rattle.std.proofs.Math.Path.{refl, ap}
use mathlib.Core.List.{List, [], ◌∷◌}
use mathlib.Core.Logic.{◌⊎◌, inl, inr}
use Rattle.std.specs.Result.{result_ok}
use Rattle.cells.specs.declared.BitPlace.{BitPlace}
use Rattle.cells.specs.laws.Laws.{clash}
use Rattle.files.specs.Reading.{refused}
use Rattle.files.specs.Entries.{Entry, constant, global, then, tag_width}
use Rattle.files.specs.laws.AllGot.{refused_got}
use Rattle.basic.specs.declared.Token.{Token}
use Rattle.basic.specs.declared.Token.TheVariants.{End, Ending, Plain, Literal, Global, Closure as ClosureToken, Branch, Save}
use Rattle.basic.specs.Basic.{Basic}
use Rattle.basic.specs.Reading.{token_at, list_at}
use Rattle.basic.specs.Valid.{CarriesOk, literal_ok, global_ok, set_global_ok, TokenOk}
use Rattle.basic.specs.laws.StepLaws.{list_refused, turned_to}
use Rattle.basic.specs.Told.{list_told}
use Rattle.basic.specs.declared.Facts.{Facts}
use Rattle.basic.specs.Told.{Told, told_end, told_ending, told_plain, told_literal, told_global, told_closure, told_branch, told_save, told_refused}
use Rattle.basic.specs.Forest.{Lists, no_lists, next_list, closures_all}
use Rattle.basic.specs.laws.ReadLaws.{token_facts, list_step}
use Rattle.basic.specs.laws.ForestLaws.{pass_ended, pass_plain, pass_carries, pass_closure, pass_branch, pass_save}
use Rattle.basic.specs.laws.ForestLaws.{lists_end, none_left}
use Rattle.tabulate.specs.declared.Step.{Step}
use Rattle.tabulate.specs.declared.Step.TheVariants.{Copy, Entry as EntryStep, Closure}
use Rattle.tabulate.specs.Slots.{slot_of}
use Rattle.tabulate.specs.Walk.{StepIs, is_copy, is_entry, is_closure, Walk, NextIs, no_next, next_is, Walked}
use Rattle.files.specs.declared.Refusal.{Refusal}

-- ---- the code at p, by what was told of it
module _ (s : List ℕ) where
  pub copy_end : (p e : ℕ) (cs : List Basic) (q : BitPlace) → p < e → Lists s e p cs → Told (token_at s 15 p) (Ok (End q)) → StepIs s e p cs (Copy q)
  copy_end p e [] q h no_lists t = absurd (omega arith)
  copy_end p e (c ∷ cs) q h (next_list z r w) (told_end q' i) = is_copy q (pass_ended s e p q.0 z c cs r w i)

  pub copy_ending : (p e : ℕ) (cs : List Basic) (q : BitPlace) → p < e → Lists s e p cs → Told (token_at s 15 p) (Ok (Ending q)) → StepIs s e p cs (Copy q)
  copy_ending p e [] q h no_lists t = absurd (omega arith)
  copy_ending p e (c ∷ cs) q h (next_list z r w) (told_ending q' v ns k i) = is_copy q (pass_plain s e p q.0 z c cs r w v ns i)

  pub copy_plain : (p e : ℕ) (cs : List Basic) (q : BitPlace) → p < e → Lists s e p cs → Told (token_at s 15 p) (Ok (Plain q)) → StepIs s e p cs (Copy q)
  copy_plain p e [] q h no_lists t = absurd (omega arith)
  copy_plain p e (c ∷ cs) q h (next_list z r w) (told_plain q' v ns k i) = is_copy q (pass_plain s e p q.0 z c cs r w v ns i)

  pub copy_branch : (p e : ℕ) (cs : List Basic) (q : BitPlace) → p < e → Lists s e p cs → Told (token_at s 15 p) (Ok (Branch q)) → StepIs s e p cs (Copy q)
  copy_branch p e [] q h no_lists t = absurd (omega arith)
  copy_branch p e (c ∷ cs) q h (next_list z r w) (told_branch q' i) = is_copy q (pass_branch s e p q.0 z c cs r w i)

  pub copy_save : (p e : ℕ) (cs : List Basic) (q : BitPlace) → p < e → Lists s e p cs → Told (token_at s 15 p) (Ok (Save q)) → StepIs s e p cs (Copy q)
  copy_save p e [] q h no_lists t = absurd (omega arith)
  copy_save p e (c ∷ cs) q h (next_list z r w) (told_save q' n i) = is_copy q (pass_save s e p q.0 z c cs r w n i)

  pub step_closure : (p e : ℕ) (cs : List Basic) (q : BitPlace) → p < e → Lists s e p cs → Told (token_at s 15 p) (Ok (ClosureToken q))
      → StepIs s e p cs (Closure q)
  step_closure p e [] q h no_lists t = absurd (omega arith)
  step_closure p e (c ∷ cs) q h (next_list z r w) (told_closure q' i) = is_closure q (pass_closure s e p q.0 z c cs r w i)

  pub step_literal : (p e : ℕ) (cs : List Basic) (t x : ℕ) (q : BitPlace) → p < e → Lists s e p cs → Told (token_at s 15 p) (Ok (Literal t x q))
      → StepIs s e p cs (EntryStep 6 (t * 0x1000000000000 + x) q)
  unfolding slot_of
  step_literal p e [] t x q h no_lists told = absurd (omega arith)
  step_literal p e (c ∷ cs) t x q h (next_list z r w) (told_literal q' t' x' i) =
      is_entry q 6 (constant t x) (t * 0x1000000000000 + x) refl (pass_carries s e p q.0 z c cs r w 6 (constant t x) i)

  pub step_global : (p e : ℕ) (cs : List Basic) (v g : ℕ) (q : BitPlace) → p < e → Lists s e p cs → Told (token_at s 15 p) (Ok (Global v g q))
      → StepIs s e p cs (EntryStep v (0x6000000000000 + g) q)
  unfolding slot_of
  step_global p e [] v g q h no_lists told = absurd (omega arith)
  step_global p e (c ∷ cs) v g q h (next_list z r w) (told_global q' v' g' i) =
      is_entry q v (global g) (0x6000000000000 + g) refl (pass_carries s e p q.0 z c cs r w v (global g) i)

  pub no_refusal : {A : Type 0} (p e : ℕ) (cs : List Basic) (x : Refusal BitPlace) → p < e → Lists s e p cs → Told (token_at s 15 p) (Err x) → A
  unfolding then
  no_refusal p e [] x h no_lists told = absurd (omega arith)
  no_refusal p e (c ∷ cs) x h (next_list z r w) (told_refused x' i) =
      let k : list_at s 15 p ≡ refused x.0 x.1.0 = list_step s 15 p ∙ rw i refl in refused_got (sym k ∙ r)

  -- what may stand at a code that is written as it is
  pub copy_told : {r : Result Token (Refusal BitPlace)} {x : Token} (p e : ℕ) (cs : List Basic) {q : BitPlace} → p < e → Lists s e p cs → r ≡ Ok x
      → (x ≡ End q) ⊎ ((x ≡ Ending q) ⊎ ((x ≡ Plain q) ⊎ ((x ≡ Branch q) ⊎ (x ≡ Save q)))) → Told (token_at s 15 p) r → StepIs s e p cs (Copy q)
  copy_told p e cs h w f (inl k) t = copy_end p e cs _ h w (turned_to f k t)
  copy_told p e cs h w f (inr (inl k)) t = copy_ending p e cs _ h w (turned_to f k t)
  copy_told p e cs h w f (inr (inr (inl k))) t = copy_plain p e cs _ h w (turned_to f k t)
  copy_told p e cs h w f (inr (inr (inr (inl k)))) t = copy_branch p e cs _ h w (turned_to f k t)
  copy_told p e cs h w f (inr (inr (inr (inr k)))) t = copy_save p e cs _ h w (turned_to f k t)

-- ---- what `ok` leaves of an answer
module _ {A E : Type 0} {r : Result A E} {o : Option A} (left : o ≡ result_ok r) where
  pub ok_some : {x : A} → o ≡ Some x → r ≡ Ok x
  ok_some {x} e = go r (sym left ∙ e)
    where
      go : (r : Result A E) → result_ok r ≡ Some x → r ≡ Ok x
      go (Ok y) e = let k : y ≡ x = cc in ap Ok k
      go (Err y) e = clash (cc)

  pub ok_none : o ≡ None → (y : E) × (r ≡ Err y)
  ok_none e = go r (sym left ∙ e)
    where
      go : (r : Result A E) → result_ok r ≡ None → (y : E) × (r ≡ Err y)
      go (Ok y) e = clash (cc)
      go (Err y) e = (y, refl)

-- ---- a slot is small
pub width_48 : (t x : ℕ) → x < 2 ^ tag_width t → x < 0x1000000000000
unfolding tag_width
width_48 t x h = go (eqb t 4) (eqb t 5) h
  where
    go : (a b : Bool) → x < 2 ^ cond a 32 (cond b 48 0) → x < 0x1000000000000
    go true b k = omega arith
    go false true k = k
    go false false k = omega arith

carried_literal : (v : ℕ) (x : Entry) (t n : ℕ) → x ≡ constant t n → CarriesOk v x → (t < 6) × (n < 2 ^ tag_width t)
carried_literal v x t n e (literal_ok {t = a} {x = b} h k) = let i : a ≡ t = cc in let j : b ≡ n = cc in (rw (← i) h, rw (← i, ← j) k)
carried_literal v x t n e (global_ok h) = clash (cc)
carried_literal v x t n e (set_global_ok h) = clash (cc)

pub literal_small : (s : List ℕ) (p t x : ℕ) (q : BitPlace) → Told (token_at s 15 p) (Ok (Literal t x q)) → (t < 6) × (x < 0x1000000000000)
unfolding TokenOk
literal_small s p t x q (told_literal q' t' x' i) =
    let ok = carried_literal 6 (constant t x) t x refl (token_facts s 15 p i).2 in (ok.0, width_48 t x ok.1)

-- ---- the next closure
pub walked_none : {s : List ℕ} {p e : ℕ} (w : Walk s p e) → Walked s e p w.lists
walked_none w = record { left = w.lists; stand = w.stand; same = λ n. refl }

module _ {s : List ℕ} {e p : ℕ} {cs : List Basic} (k : Walked s e p cs) where
  pub walked_copy : (q : BitPlace) → StepIs s e p k.left (Copy q) → Walked s e q.0 cs
  walked_copy q (is_copy q' x) = record { left = x.left; stand = x.lists; same = λ n. k.same n ∙ x.closures n }

  pub walked_entry : (v slot : ℕ) (q : BitPlace) → StepIs s e p k.left (EntryStep v slot q) → Walked s e q.0 cs
  walked_entry v slot q (is_entry q' v' y slot' i x) = record { left = x.left; stand = x.lists; same = λ n. k.same n ∙ x.closures n }

  pub walked_closure : (n : ℕ) (q : BitPlace) → StepIs s e p k.left (Closure q) → NextIs s e n cs (Some q)
  walked_closure n q (is_closure q' x) = next_is q x.list x.left (k.same n ∙ x.closures n) (next_list x.past x.read x.lists)

  pub walked_end : (n : ℕ) → e ≤ p → NextIs s e n cs None
  unfolding closures_all
  walked_end n h = no_next (k.same n ∙ ap (closures_all n) (none_left s e k.left p h k.stand))

pub step_as : {s : List ℕ} {e p : ℕ} {cs : List Basic} {o : Option Step} {x r : Step} → o ≡ Some x → x ≡ r
    → IsSomeAnd o (λ y. StepIs s e p cs y) → StepIs s e p cs r
step_as f e k = rw e at (rw f at k)

module _ {s : List ℕ} {e p : ℕ} {cs : List Basic} where
  pub copy_far : (q : BitPlace) → StepIs s e p cs (Copy q) → (p + 5 ≤ q.0) × (q.0 ≤ e)
  copy_far q (is_copy q' x) = (x.far, lists_end s e q.0 x.left x.lists)

  pub entry_far : (v slot : ℕ) (q : BitPlace) → StepIs s e p cs (EntryStep v slot q) → (p + 5 ≤ q.0) × (q.0 ≤ e)
  entry_far v slot q (is_entry q' v' y slot' i x) = (x.far, lists_end s e q.0 x.left x.lists)

-- the list of a closure was read before
pub closure_read : {A : Type 0} {s : List ℕ} {e p : ℕ} {cs : List Basic} (q : BitPlace) (x : Refusal BitPlace)
    {r : Result (BitPlace × Facts) (Refusal BitPlace)} → StepIs s e p cs (Closure q)
    → r ≡ Err x → r ≡ list_told (list_at s 15 q.0) → A
closure_read {s = s} q x (is_closure q' k) e f = refused_got (sym (list_refused s 15 q.0 x (sym e ∙ f)) ∙ k.read)
