-- A list that is read with some levels left is read alike with more. Assumes nothing.
use Prim.Native.Nat.{ℕ, zero, suc, ◌+◌}
use Rattle.std.proofs.Common.{arith, sym, ◌∙◌}
use Rattle.std.specs.Prelude.{◌≡◌, Bool, true, false, cond, ◌||◌, List}
use Rattle.std.proofs.Math.Path.{refl, ap}
use Rattle.std.proofs.Math.Dec.{eqb}
use Rattle.files.specs.Codes.{shape_of}
use Rattle.files.specs.Reading.{Got, got}
use Rattle.files.specs.Entries.{Entry, then, field}
use Rattle.files.specs.laws.AllGot.{refused_got, got_value, then_led}
use Rattle.basic.specs.Basic.{Basic, ended, plain, carries, closure, branch, save, Token, ended_t, plain_t, carries_t, closure_t, branch_t, save_t}
use Rattle.basic.specs.Reading.{holding, shaped_at, code_at, token_at, onward, list_at}
use Rattle.basic.specs.Valid.{below}
use Rattle.basic.specs.laws.ReadLaws.{list_step}

-- ---- a code
abbrev Extends : Got Token → Got Token → Type 0
Extends g h = (t : Token) (q : ℕ) → g ≡ got t q → h ≡ got t q

holding_more : (l k p : ℕ) (g : Got Token) → Extends (holding l p g) (holding (suc k) p g)
unfolding holding
holding_more zero k p g t q e = refused_got e
holding_more (suc l) k p g t q e = e

module _ (s : List ℕ) (l k p : ℕ) where
  shaped_more : (v q n : ℕ) → Extends (shaped_at s l p v q n) (shaped_at s (suc k) p v q n)
  unfolding shaped_at
  shaped_more v q zero t z e = e
  shaped_more v q (suc zero) t z e = e
  shaped_more v q (suc (suc zero)) t z e = e
  shaped_more v q (suc (suc (suc zero))) t z e = e
  shaped_more v q (suc (suc (suc (suc zero)))) t z e = holding_more l k p _ t z e
  shaped_more v q (suc (suc (suc (suc (suc zero))))) t z e = holding_more l k p _ t z e
  shaped_more v q (suc (suc (suc (suc (suc (suc n)))))) t z e = e

  cond_more : (b : Bool) (g h g' h' : Got Token) → Extends g g' → Extends h h' → Extends (cond b g h) (cond b g' h')
  cond_more true g h g' h' i j = i
  cond_more false g h g' h' i j = j

  code_more : (v q : ℕ) → Extends (code_at s l p v q) (code_at s (suc k) p v q)
  unfolding code_at
  code_more v q =
      cond_more (eqb v 6) _ _ _ _ (λ t z e. e)
      (cond_more (eqb v 7) _ _ _ _ (λ t z e. holding_more l k p (got closure_t q) t z e)
      (cond_more (eqb v 8 || eqb v 9) _ _ _ _ (λ t z e. e) (shaped_more v q (shape_of v))))

  pub token_more : Extends (token_at s l p) (token_at s (suc k) p)
  unfolding token_at then
  token_more t q e = then_led (field s p 5) _ e (λ v z i on. rw i (code_more v z t q on))

-- ---- a list that is read from p to q, by its first code
pub data Parts (s : List ℕ) (l p q : ℕ) : Basic → Type 0 where
  ended_parts : token_at s l p ≡ got ended_t q → Parts s l p q ended
  plain_parts : {v : ℕ} {ns : List ℕ} {r : Basic} (z : ℕ) → token_at s l p ≡ got (plain_t v ns) z → list_at s l z ≡ got r q → Parts s l p q (plain v ns r)
  carries_parts : {v : ℕ} {e : Entry} {r : Basic} (z : ℕ) → token_at s l p ≡ got (carries_t v e) z → list_at s l z ≡ got r q → Parts s l p q (carries v e r)
  closure_parts : {x r : Basic} (z u : ℕ) → token_at s l p ≡ got closure_t z → below s l z ≡ got x u → list_at s l u ≡ got r q → Parts s l p q (closure x r)
  branch_parts : {x y r : Basic} (z u w : ℕ) → token_at s l p ≡ got branch_t z → below s l z ≡ got x u → below s l u ≡ got y w → list_at s l w ≡ got r q
      → Parts s l p q (branch x y r)
  save_parts : {n : ℕ} {x r : Basic} (z u : ℕ) → token_at s l p ≡ got (save_t n) z → below s l z ≡ got x u → list_at s l u ≡ got r q
      → Parts s l p q (save n x r)

module _ (s : List ℕ) (l p : ℕ) where
  parts_by : {c : Basic} {q : ℕ} (t : Token) (z : ℕ) → token_at s l p ≡ got t z → onward (below s l) (list_at s l) t z ≡ got c q → Parts s l p q c
  unfolding onward
  parts_by {c} {q} ended_t z e on = let v = got_value on in rw (← v.0) (ended_parts (e ∙ ap (got ended_t) v.1))
  parts_by {c} {q} (plain_t v ns) z e on =
      then_led (list_at s l z) _ on (λ r u i j. let v = got_value j in rw (← v.0) (plain_parts z e (i ∙ ap (got r) v.1)))
  parts_by {c} {q} (carries_t v x) z e on =
      then_led (list_at s l z) _ on (λ r u i j. let v = got_value j in rw (← v.0) (carries_parts z e (i ∙ ap (got r) v.1)))
  parts_by {c} {q} closure_t z e on =
      then_led (below s l z) _ on
      (λ x u i on₁. then_led (list_at s l u) _ on₁ (λ r w j k. let v = got_value k in rw (← v.0) (closure_parts z u e i (j ∙ ap (got r) v.1))))
  parts_by {c} {q} branch_t z e on =
      then_led (below s l z) _ on
      (λ x u i on₁. then_led (below s l u) _ on₁
      (λ y w j on₂. then_led (list_at s l w) _ on₂
      (λ r a k m. let v = got_value m in rw (← v.0) (branch_parts z u w e i j (k ∙ ap (got r) v.1)))))
  parts_by {c} {q} (save_t n) z e on =
      then_led (below s l z) _ on
      (λ x u i on₁. then_led (list_at s l u) _ on₁ (λ r w j k. let v = got_value k in rw (← v.0) (save_parts z u e i (j ∙ ap (got r) v.1))))

  pub list_parts : {c : Basic} {q : ℕ} → list_at s l p ≡ got c q → Parts s l p q c
  list_parts e = then_led (token_at s l p) _ (sym (list_step s l p) ∙ e) (λ t z i on. parts_by t z i on)

  pub parts_list : {c : Basic} {q : ℕ} → Parts s l p q c → list_at s l p ≡ got c q
  unfolding then onward
  parts_list (ended_parts e) = list_step s l p ∙ rw e refl
  parts_list (plain_parts z e f) = list_step s l p ∙ rw (e, f) refl
  parts_list (carries_parts z e f) = list_step s l p ∙ rw (e, f) refl
  parts_list (closure_parts z u e f g) = list_step s l p ∙ rw (e, f, g) refl
  parts_list (branch_parts z u w e f g h) = list_step s l p ∙ rw (e, f, g, h) refl
  parts_list (save_parts z u e f g) = list_step s l p ∙ rw (e, f, g) refl

-- one level more
module _ (s : List ℕ) where
  abbrev More : Basic → Type 0
  More c = (l p q : ℕ) → list_at s l p ≡ got c q → list_at s (suc l) p ≡ got c q

  below_by : (c : Basic) → More c → (l p q : ℕ) → below s l p ≡ got c q → below s (suc l) p ≡ got c q
  unfolding below
  below_by c m zero p q e = refused_got e
  below_by c m (suc l) p q e = m l p q e

  unfoldable Subs : Basic → Type 0
  Subs ended = Unit
  Subs (plain v ns r) = More r
  Subs (carries v e r) = More r
  Subs (closure x r) = More x × More r
  Subs (branch x y r) = More x × More y × More r
  Subs (save n x r) = More x × More r

  more_parts : (c : Basic) → Subs c → (l p q : ℕ) → Parts s l p q c → Parts s (suc l) p q c
  unfolding Subs
  more_parts ended m l p q (ended_parts e) = ended_parts (token_more s l l p _ _ e)
  more_parts (plain v ns r) m l p q (plain_parts z e f) = plain_parts z (token_more s l l p _ _ e) (m l z q f)
  more_parts (carries v x r) m l p q (carries_parts z e f) = carries_parts z (token_more s l l p _ _ e) (m l z q f)
  more_parts (closure x r) m l p q (closure_parts z u e f g) =
      closure_parts z u (token_more s l l p _ _ e) (below_by x m.0 l z u f) (m.1 l u q g)
  more_parts (branch x y r) m l p q (branch_parts z u w e f g h) =
      branch_parts z u w (token_more s l l p _ _ e) (below_by x m.0 l z u f) (below_by y m.1 l u w g) (m.2 l w q h)
  more_parts (save n x r) m l p q (save_parts z u e f g) =
      save_parts z u (token_more s l l p _ _ e) (below_by x m.0 l z u f) (m.1 l u q g)

  by_parts : (c : Basic) → Subs c → More c
  by_parts c m l p q e = parts_list s (suc l) p (more_parts c m l p q (list_parts s l p e))

  list_more : (c : Basic) → More c
  unfolding Subs
  list_more ended = by_parts ended tt
  list_more (plain v ns r) = by_parts (plain v ns r) (list_more r)
  list_more (carries v x r) = by_parts (carries v x r) (list_more r)
  list_more (closure x r) = by_parts (closure x r) (list_more x, list_more r)
  list_more (branch x y r) = by_parts (branch x y r) (list_more x, list_more y, list_more r)
  list_more (save n x r) = by_parts (save n x r) (list_more x, list_more r)

  pub list_deeper : (k l p q : ℕ) (c : Basic) → list_at s l p ≡ got c q → list_at s (k + l) p ≡ got c q
  list_deeper zero l p q c e = let i : 0 + l ≡ l = omega arith in rw i e
  list_deeper (suc k) l p q c e = let i : suc k + l ≡ suc (k + l) = omega arith in rw i (list_more c (k + l) p q (list_deeper k l p q c e))

  -- a list below level 15
  pub below_15 : (p q : ℕ) (c : Basic) → below s 15 p ≡ got c q → list_at s 15 p ≡ got c q
  unfolding below
  below_15 p q c e = list_more c 14 p q e
