-- What stands at a place of a list that is known to be read. Assumes nothing.
use Prim.Native.Nat.{ℕ, zero, suc, ◌+◌, ◌*◌, ◌-◌, ◌≤◌}
use native.Mathlib.Omega.{arith}
use Rattle.std.proofs.Math.Path.{◌≡◌, refl, ap}
use Rattle.std.proofs.Common.{sym, ◌∙◌}
use Rattle.std.specs.Prelude.{List}
use Rattle.std.proofs.Math.ListN.{length}
use Rattle.cells.specs.laws.Laws.{clash}
use Rattle.fields.specs.Field.{field_at, field_read}
use Rattle.fields.specs.laws.Laws.{read_cases}
use Rattle.files.specs.Codes.{shape_of}
use Rattle.files.specs.Code.{Code, done, Instr, unless_i, cont_i, simple, put}
use Rattle.files.specs.Reading.{Got, got, refused, Head, stop, item, bad, with_field, with_list, with_deep, shaped, head_at, before, after, deep_of, list_at}
use Rattle.files.specs.laws.ReadingLaws.{list_step}
use Rattle.files.specs.laws.Heads.{deep_down}
use Rattle.lists.specs.Pass.{operands_at}

-- ---- what was read on the way to what is there
abbrev There : Head → Type 0
There (stop q) = Unit
There (item i q) = Unit
There (bad n x) = ⊥

field_there : (s : List ℕ) (p w : ℕ) (k : ℕ → ℕ → Head) (h : Head) → There h → with_field p k (field_read s p w) ≡ h
    → (p + w ≤ 8 * length s) × (k (field_at s p w) (p + w) ≡ h)
unfolding with_field
field_there s p w k h t =
    read_cases s p w (λ f. with_field p k f ≡ h → (p + w ≤ 8 * length s) × (k (field_at s p w) (p + w) ≡ h)) (λ e. absurd (rw (← e) at t)) (λ i e. (i, e))

record ListThere (k : Code → ℕ → Head) (x : Got Code) (h : Head) : Type 0 where
  pub code : Code
  pub past : ℕ
  pub read : x ≡ got code past
  pub on : k code past ≡ h

list_there : (k : Code → ℕ → Head) (x : Got Code) (h : Head) → There h → with_list k x ≡ h → ListThere k x h
unfolding with_list
list_there k (got c q) h t e = record { code = c; past = q; read = refl; on = e }
list_there k (refused n p) h t e = absurd (rw (← e) at t)

deep_there : (s : List ℕ) (l p : ℕ) (k : (ℕ → Got Code) → Head) (h : Head) → There h → with_deep p k (deep_of s l) ≡ h
    → (l ≡ 0 → ⊥) × (k (list_at s (l - 1)) ≡ h)
unfolding with_deep deep_of
deep_there s zero p k h t e = absurd (rw (← e) at t)
deep_there s (suc l) p k h t e = let d : suc l ≡ 0 → ⊥ = λ z. omega arith in (d, ap (with_deep p k) (sym (deep_down s (suc l) d)) ∙ e)

-- ---- the head at p of a list with l levels left below it
module _ (s : List ℕ) (l p : ℕ) where
  abbrev pub shape_here : ℕ
  shape_here = shape_of (field_at s p 5)

  abbrev by_shape : ℕ → Head
  by_shape k = shaped s (deep_of s l) p (field_at s p 5) (p + 5) k

  by_shape_lem : (h : Head) → There h → head_at s (deep_of s l) p ≡ h → (p + 5 ≤ 8 * length s) × (by_shape shape_here ≡ h)
  unfolding head_at
  by_shape_lem h t e = field_there s p 5 _ h t e

  module _ {i : Instr} {q : ℕ} (read : head_at s (deep_of s l) p ≡ item i q) where
    pub head_within : p + 5 ≤ 8 * length s
    head_within = (by_shape_lem (item i q) tt read).0

    this : (k : ℕ) → shape_here ≡ k → by_shape k ≡ item i q
    this k e = ap by_shape (sym e) ∙ (by_shape_lem (item i q) tt read).1

    -- 4: two lists
    pub record Arms : Type 0 where
      pub first : Code
      pub mid : ℕ
      pub second : Code
      pub lower : l ≡ 0 → ⊥
      pub read_first : list_at s (l - 1) (p + 5) ≡ got first mid
      pub read_second : list_at s (l - 1) mid ≡ got second q
      pub is : i ≡ unless_i first second

    pub arms : shape_here ≡ 4 → Arms
    unfolding shaped
    arms e =
        let d = deep_there s l p _ (item i q) tt (this 4 e) in
        let x = list_there _ (list_at s (l - 1) (p + 5)) (item i q) tt d.1 in
        let y = list_there _ (list_at s (l - 1) x.past) (item i q) tt x.on in
        let z : ◌≡◌ {A = Head} (item (unless_i x.code y.code) y.past) (item i q) = y.on in
        let a : y.past ≡ q = cc in
        record { first = x.code; mid = x.past; second = y.code; lower = d.0; read_first = x.read; read_second = y.read ∙ ap (got y.code) a; is = cc }

    -- 5: an operand byte and a list
    pub record Saved : Type 0 where
      pub saved : Code
      pub lower : l ≡ 0 → ⊥
      pub within : p + 13 ≤ 8 * length s
      pub read_saved : list_at s (l - 1) (p + 13) ≡ got saved q
      pub is : i ≡ cont_i (field_at s (p + 5) 8) saved

    pub saved : shape_here ≡ 5 → Saved
    unfolding shaped
    saved e =
        let d = deep_there s l p _ (item i q) tt (this 5 e) in
        let f = field_there s (p + 5) 8 _ (item i q) tt d.1 in
        let g : p + 5 + 8 ≡ p + 13 = omega arith in
        let x = list_there _ (list_at s (l - 1) (p + 5 + 8)) (item i q) tt f.1 in
        let z : ◌≡◌ {A = Head} (item (cont_i (field_at s (p + 5) 8) x.code) x.past) (item i q) = x.on in
        let a : x.past ≡ q = cc in
        record {
          saved = x.code;
          lower = d.0;
          within = omega (arith, f.0);
          read_saved = ap (list_at s (l - 1)) (sym g) ∙ x.read ∙ ap (got x.code) a;
          is = cc;
        }

    -- 1 to 3: operand bytes
    abbrev pub Simple : ℕ → Type 0
    Simple k =
        (1 ≤ k) × (k ≤ 3) × (p + 5 + 8 * (k - 1) ≤ 8 * length s) × (i ≡ simple (field_at s p 5) (operands_at s (p + 5) (k - 1))) × (q ≡ p + 5 + 8 * (k - 1))

    same : {a : Instr} {x : ℕ} → ◌≡◌ {A = Head} (item a x) (item i q) → (i ≡ a) × (q ≡ x)
    same e = (cc, cc)

    pub without_lists : (shape_here ≡ 4 → ⊥) → (shape_here ≡ 5 → ⊥) → Simple shape_here
    unfolding shaped operands_at
    without_lists = go shape_here (this shape_here refl)
      where
        go : (k : ℕ) → by_shape k ≡ item i q → (k ≡ 4 → ⊥) → (k ≡ 5 → ⊥) → Simple k
        go zero e a b = clash (cc)
        go (suc zero) e a b = let z = same e in (omega arith, omega arith, omega (arith, head_within), z.0, omega arith)
        go (suc (suc zero)) e a b =
            let f = field_there s (p + 5) 8 _ (item i q) tt e in
            let z = same f.1 in
            (omega arith, omega arith, omega (arith, f.0), z.0, omega arith)
        go (suc (suc (suc zero))) e a b =
            let f = field_there s (p + 5) 8 _ (item i q) tt e in
            let g = field_there s (p + 5 + 8) 8 _ (item i q) tt f.1 in
            let z = same g.1 in
            (omega arith, omega arith, omega (arith, g.0), z.0, omega arith)
        go (suc (suc (suc (suc zero)))) e a b = absurd (a refl)
        go (suc (suc (suc (suc (suc zero))))) e a b = absurd (b refl)
        go (suc (suc (suc (suc (suc (suc k)))))) e a b = clash (cc)

  -- 0: the end
  end_shape : (q k : ℕ) → by_shape k ≡ stop q → k ≡ 0
  unfolding shaped
  end_shape q zero e = refl
  end_shape q (suc zero) e = cc
  end_shape q (suc (suc zero)) e = let z : ◌≡◌ {A = Head} (item _ _) (stop q) = (field_there s (p + 5) 8 _ (stop q) tt e).1 in cc
  end_shape q (suc (suc (suc zero))) e =
      let f = field_there s (p + 5) 8 _ (stop q) tt e in
      let z : ◌≡◌ {A = Head} (item _ _) (stop q) = (field_there s (p + 5 + 8) 8 _ (stop q) tt f.1).1 in
      cc
  end_shape q (suc (suc (suc (suc zero)))) e =
      let d = deep_there s l p _ (stop q) tt e in
      let x = list_there _ (list_at s (l - 1) (p + 5)) (stop q) tt d.1 in
      let z : ◌≡◌ {A = Head} (item _ _) (stop q) = (list_there _ (list_at s (l - 1) x.past) (stop q) tt x.on).on in
      cc
  end_shape q (suc (suc (suc (suc (suc zero))))) e =
      let d = deep_there s l p _ (stop q) tt e in
      let f = field_there s (p + 5) 8 _ (stop q) tt d.1 in
      let z : ◌≡◌ {A = Head} (item _ _) (stop q) = (list_there _ (list_at s (l - 1) (p + 5 + 8)) (stop q) tt f.1).on in
      cc
  end_shape q (suc (suc (suc (suc (suc (suc k)))))) e = cc

-- ---- the list at p
module _ (s : List ℕ) (l p : ℕ) {c : Code} {past : ℕ} (read : list_at s l p ≡ got c past) where
  -- its first instruction, and what follows that
  pub record Turn : Type 0 where
    pub instr : Instr
    pub next : ℕ
    pub rest : Code
    pub head : head_at s (deep_of s l) p ≡ item instr next
    pub on : list_at s l next ≡ got rest past
    pub is : c ≡ put instr rest

  from_head : after (list_at s l) (head_at s (deep_of s l) p) ≡ got c past
  from_head = sym (list_step s l p) ∙ read

  pub list_within : p + 5 ≤ 8 * length s
  unfolding after
  list_within = go (head_at s (deep_of s l) p) refl from_head
    where
      go : (h : Head) → head_at s (deep_of s l) p ≡ h → after (list_at s l) h ≡ got c past → p + 5 ≤ 8 * length s
      go (stop q) e f = (by_shape_lem s l p (stop q) tt e).0
      go (item i q) e f = (by_shape_lem s l p (item i q) tt e).0
      go (bad n x) e f = clash (cc)

  pub list_end : shape_here s l p ≡ 0 → (c ≡ done) × (past ≡ p + 5)
  unfolding after shaped
  list_end h = go (head_at s (deep_of s l) p) refl from_head
    where
      go : (h : Head) → head_at s (deep_of s l) p ≡ h → after (list_at s l) h ≡ got c past → (c ≡ done) × (past ≡ p + 5)
      go (stop q) e f = let z : ◌≡◌ {A = Head} (stop (p + 5)) (stop q) = ap (by_shape s l p) (sym h) ∙ (by_shape_lem s l p (stop q) tt e).1 in (cc, cc)
      go (item i q) e f = let z : ◌≡◌ {A = Head} (stop (p + 5)) (item i q) = ap (by_shape s l p) (sym h) ∙ (by_shape_lem s l p (item i q) tt e).1 in (cc, cc)
      go (bad n x) e f = (cc, cc)

  pub list_turn : (shape_here s l p ≡ 0 → ⊥) → Turn
  unfolding after before
  list_turn h = go (head_at s (deep_of s l) p) refl from_head
    where
      more : (i : Instr) (q : ℕ) → head_at s (deep_of s l) p ≡ item i q → (x : Got Code) → list_at s l q ≡ x → before i x ≡ got c past → Turn
      more i q e (got r z) g f = let k : z ≡ past = cc in record { instr = i; next = q; rest = r; head = e; on = g ∙ ap (got r) k; is = cc }
      more i q e (refused n z) g f = clash (cc)

      go : (h : Head) → head_at s (deep_of s l) p ≡ h → after (list_at s l) h ≡ got c past → Turn
      go (stop q) e f = absurd (h (end_shape s l p q (shape_here s l p) (by_shape_lem s l p (stop q) tt e).1))
      go (item i q) e f = more i q e (list_at s l q) refl f
      go (bad n x) e f = clash (cc)
