-- The bits of what is read stand where it was read. Assumes nothing.
use Prim.Native.Nat.{ℕ, zero, suc, ◌+◌, ◌*◌, ◌≤◌, ◌<◌}
use native.Mathlib.Omega.{arith}
use Rattle.std.specs.Prelude.{◌≡◌, Bool, true, false, cond, get_or, drop, eqb}
use Rattle.std.proofs.Math.Path.{refl, ap}
use Rattle.std.proofs.Common.{sym, ◌∙◌, eqb-true}
use mathlib.Core.List.{List, [], ◌∷◌, ◌++◌, append-nil}
use Rattle.std.proofs.lemmas.Bool.{eqb-false}
use Rattle.std.proofs.Math.ListN.{length, length-append}
use Rattle.fields.specs.Field.{field_at, field_read}
use Rattle.fields.specs.laws.Laws.{read_cases}
use Rattle.files.specs.Codes.{shapes, shape_of}
use Rattle.files.specs.Code.{Code, Instr, neutral_i, return_i, call_i, simple, bits}
use Rattle.files.specs.Reading.{Got, got, refused, Head, stop, item, bad, Deep, bottom, below, with_field, with_list, with_deep, shaped, head_at, before}
use Rattle.files.specs.Reading.{after, items, deep_of, list_at}
use Rattle.files.specs.laws.ReadingLaws.{bits_i, bits_put}
use Rattle.files.specs.Entries.{Entry, field, entries_at}
use Rattle.files.specs.laws.AllGot.{Each, got_value, then_led, field_got_lem}
use Rattle.files.specs.Linear.{bits_of, entries_bits}
use Rattle.files.specs.Tree.{Template, template_at, templates_at}
use Rattle.readback.specs.Bits.{Stands}
use Rattle.readback.specs.laws.Bits.{length_bits}
use Rattle.readback.specs.laws.Lists.{stands_append}
use Rattle.readback.specs.laws.Standing.{stands_field, field_then, none_stands, EntriesStand, entries_stand}
use Rattle.tree_file.specs.File.{operands_bits, list_bits, instr_bits, template_bits, templates_bits, starts_at, placed, levels, levels_i}
use Rattle.tree_file.specs.laws.Lengths.{operands_length, list_length, instr_length, list_put, levels_put}

-- ---- codes: 0 alone ends a list, 3 alone has two lists, 4 alone an operand and a list
absent : ℕ → List ℕ → Bool
absent k [] = true
absent k (x ∷ l) = cond (eqb x k) false (absent k l)

absent_led : (t r : Bool) → cond t false r ≡ true → (t ≡ false) × (r ≡ true)
absent_led true r e = let z : ◌≡◌ {A = Bool} false true = e in absurd (let y : ◌≡◌ {A = ℕ} 0 1 = cc in omega arith)
absent_led false r e = (refl, e)

absent_at : (k : ℕ) (l : List ℕ) → absent k l ≡ true → k < 6 → (i : ℕ) → get_or l i 6 ≡ k → ⊥
unfolding absent
absent_at k [] a h i e = omega arith
absent_at k (x ∷ l) a h zero e = eqb-false x k (absent_led (eqb x k) (absent k l) a).0 e
absent_at k (x ∷ l) a h (suc i) e = absent_at k l (absent_led (eqb x k) (absent k l) a).1 h i e

pub code_end : (v : ℕ) → shape_of v ≡ 0 → v ≡ 0
unfolding shape_of absent
code_end zero e = refl
code_end (suc v) e = absurd (absent_at 0 (drop 1 shapes) refl (omega arith) v e)

code_conditional : (v : ℕ) → shape_of v ≡ 4 → v ≡ 3
unfolding shape_of absent
code_conditional zero e = absurd (omega arith)
code_conditional (suc zero) e = absurd (omega arith)
code_conditional (suc (suc zero)) e = absurd (omega arith)
code_conditional (suc (suc (suc zero))) e = refl
code_conditional (suc (suc (suc (suc v)))) e = absurd (absent_at 4 (drop 4 shapes) refl (omega arith) v e)

code_cont : (v : ℕ) → shape_of v ≡ 5 → v ≡ 4
unfolding shape_of absent
code_cont zero e = absurd (omega arith)
code_cont (suc zero) e = absurd (omega arith)
code_cont (suc (suc zero)) e = absurd (omega arith)
code_cont (suc (suc (suc zero))) e = absurd (omega arith)
code_cont (suc (suc (suc (suc zero)))) e = refl
code_cont (suc (suc (suc (suc (suc v))))) e = absurd (absent_at 5 (drop 5 shapes) refl (omega arith) v e)

-- an instruction without lists is its code and its operands
simple_bits : (v : ℕ) (ns : List ℕ) → shape_of v ≡ 1 + length ns → instr_bits (simple v ns) ≡ bits_of 5 v ++ operands_bits ns
unfolding simple instr_bits operands_bits shape_of
simple_bits v ns h = go (eqb v 1) (eqb v 2) refl refl ns h
  where
    go : (x y : Bool) → eqb v 1 ≡ x → eqb v 2 ≡ y → (ns : List ℕ) → shape_of v ≡ 1 + length ns
        → instr_bits (cond x return_i (cond y (call_i (get_or ns 0 0)) (neutral_i v ns))) ≡ bits_of 5 v ++ operands_bits ns
    go true y e f [] h = rw (eqb-true v 1 e, append-nil) refl
    go true y e f (a ∷ ns) h = let z : shape_of 1 ≡ 1 + length (a ∷ ns) = ap shape_of (sym (eqb-true v 1 e)) ∙ h in absurd (omega arith)
    go false true e f [] h = let z : shape_of 2 ≡ 1 = ap shape_of (sym (eqb-true v 2 f)) ∙ h in absurd (omega arith)
    go false true e f (a ∷ []) h = rw (eqb-true v 2 f, append-nil (bits_of 8 a)) refl
    go false true e f (a ∷ b ∷ ns) h = let z : shape_of 2 ≡ 1 + length (a ∷ b ∷ ns) = ap shape_of (sym (eqb-true v 2 f)) ∙ h in absurd (omega arith)
    go false false e f ns h = refl

simple_level : (v : ℕ) (ns : List ℕ) → levels_i (simple v ns) ≡ 0
unfolding simple levels_i
simple_level v ns = go (eqb v 1) (eqb v 2)
  where
    go : (x y : Bool) → levels_i (cond x return_i (cond y (call_i (get_or ns 0 0)) (neutral_i v ns))) ≡ 0
    go true y = refl
    go false true = refl
    go false false = refl

module _ (s : List ℕ) where
  -- ---- lists
  -- what is known of a list that is read at p with l levels, its own with them
  abbrev Listed : ℕ → ℕ → Got Code → Type 0
  Listed l p (got c q) = (q ≡ p + bits c) × Stands s p (list_bits c) × (levels c < l)
  Listed l p (refused n x) = Unit

  abbrev Headed : ℕ → ℕ → Head → Type 0
  Headed l p (stop q) = (q ≡ p + 5) × Stands s p (bits_of 5 0)
  Headed l p (item i q) = (q ≡ p + bits_i i) × Stands s p (instr_bits i) × (levels_i i < l)
  Headed l p (bad n x) = Unit

  abbrev Deeper : ℕ → Deep → Type 0
  Deeper l bottom = Unit
  Deeper l (below f) = (p : ℕ) → Listed l p (f p)

  pub list_then : {p q : ℕ} (c : Code) (b : List ℕ) → q ≡ p + bits c → Stands s p (list_bits c) → Stands s q b → Stands s p (list_bits c ++ b)
  list_then {p} {q} c b e h k = stands_append (list_bits c) b h (rw (list_length c, ← e) k)

  list_next : (l p₀ p : ℕ) (k : Code → ℕ → Head) (x : Got Code) → Listed l p x
      → ((c : Code) (q : ℕ) → q ≡ p + bits c → Stands s p (list_bits c) → levels c < l → Headed (suc l) p₀ (k c q)) → Headed (suc l) p₀ (with_list k x)
  unfolding with_list
  list_next l p₀ p k (got c q) i f = f c q i.0 i.1 i.2
  list_next l p₀ p k (refused m x) i f = tt

  deep_next : (l p : ℕ) (k : (ℕ → Got Code) → Head) (d : Deep) → Deeper l d → ((f : ℕ → Got Code) → ((x : ℕ) → Listed l x (f x)) → Headed (suc l) p (k f))
      → Headed (suc l) p (with_deep p k d)
  unfolding with_deep
  deep_next l p k bottom i h = tt
  deep_next l p k (below f) i h = h f i

  field_next : (l p₀ p w : ℕ) (k : ℕ → ℕ → Head) → (p + w ≤ 8 * length s → Headed l p₀ (k (field_at s p w) (p + w)))
      → Headed l p₀ (with_field p k (field_read s p w))
  unfolding with_field
  field_next l p₀ p w k f = read_cases s p w (λ x. Headed l p₀ (with_field p k x)) tt f

  simple_stands : (l p v q : ℕ) (ns : List ℕ) → shape_of v ≡ 1 + length ns → q ≡ p + 5 + 8 * length ns → Stands s p (bits_of 5 v ++ operands_bits ns)
      → Headed (suc l) p (item (simple v ns) q)
  simple_stands l p v q ns e f h =
      let b : instr_bits (simple v ns) ≡ bits_of 5 v ++ operands_bits ns = simple_bits v ns e in
      let l : length (instr_bits (simple v ns)) ≡ 5 + 8 * length ns = ap length b ∙ simp (length-append, length_bits, operands_length ns) in
      (omega (arith, instr_length (simple v ns)), rw b h, rw (simple_level v ns) (omega arith))

  module _ (l : ℕ) (deep : Deep) (good : Deeper l deep) where
    shaped_stands : (p v k : ℕ) → shape_of v ≡ k → v ≡ field_at s p 5 → p + 5 ≤ 8 * length s → Headed (suc l) p (shaped s deep p v (p + 5) k)
    unfolding shaped bits_i instr_bits operands_bits levels_i
    shaped_stands p v zero e f h = (refl, stands_field s p 5 0 h (sym (code_end v e) ∙ f))
    shaped_stands p v (suc zero) e f h = simple_stands l p v (p + 5) [] e (omega arith) (field_then s p 5 v [] f (none_stands s (p + 5) h))
    shaped_stands p v (suc (suc zero)) e f h =
        field_next (suc l) p (p + 5) 8 _
        (λ h₁. simple_stands l p v (p + 5 + 8) (_ ∷ []) e (omega arith)
        (field_then s p 5 v _ f (field_then s (p + 5) 8 _ [] refl (none_stands s (p + 5 + 8) h₁))))
    shaped_stands p v (suc (suc (suc zero))) e f h =
        field_next (suc l) p (p + 5) 8 _
        (λ h₁.
        field_next (suc l) p (p + 5 + 8) 8 _
        (λ h₂.
        simple_stands l p v (p + 5 + 8 + 8) (_ ∷ _ ∷ []) e (omega arith)
        (field_then s p 5 v _ f (field_then s (p + 5) 8 _ _ refl (field_then s (p + 5 + 8) 8 _ [] refl (none_stands s (p + 5 + 8 + 8) h₂))))))
    shaped_stands p v (suc (suc (suc (suc zero)))) e f h =
        deep_next l p _ deep good
        (λ r g.
        list_next l p (p + 5) _ (r (p + 5)) (g (p + 5))
        (λ x q₁ e₁ h₁ k₁.
        list_next l p q₁ _ (r q₁) (g q₁)
        (λ y q₂ e₂ h₂ k₂. (omega arith, field_then s p 5 3 _ (sym (code_conditional v e) ∙ f) (list_then x (list_bits y) e₁ h₁ h₂), omega arith))))
    shaped_stands p v (suc (suc (suc (suc (suc zero))))) e f h =
        deep_next l p _ deep good
        (λ r g.
        field_next (suc l) p (p + 5) 8 _
        (λ h₁.
        list_next l p (p + 5 + 8) _ (r (p + 5 + 8)) (g (p + 5 + 8))
        (λ x q₂ e₂ h₂ k₂. (omega arith, field_then s p 5 4 _ (sym (code_cont v e) ∙ f) (field_then s (p + 5) 8 _ _ refl h₂), omega arith))))
    shaped_stands p v (suc (suc (suc (suc (suc (suc k)))))) e f h = tt

    head_stands : (p : ℕ) → Headed (suc l) p (head_at s deep p)
    unfolding head_at
    head_stands p = field_next (suc l) p p 5 _ (λ h. shaped_stands p (field_at s p 5) (shape_of (field_at s p 5)) refl refl h)

    before_stands : (p q : ℕ) (i : Instr) (x : Got Code) → q ≡ p + bits_i i → Stands s p (instr_bits i) → levels_i i < suc l → Listed (suc l) q x
        → Listed (suc l) p (before i x)
    unfolding before
    before_stands p q i (got c r) e h m k = (
      omega (arith, bits_put i c, k.0),
      rw (list_put i c) (stands_append (instr_bits i) (list_bits c) h (rw (instr_length i, ← e) k.1)),
      omega
          (arith, levels_put i c, k.2),
    )
    before_stands p q i (refused n x) e h m k = tt

    after_stands : (p : ℕ) (r : ℕ → Got Code) (h : Head) → ((q : ℕ) → Listed (suc l) q (r q)) → Headed (suc l) p h → Listed (suc l) p (after r h)
    unfolding after bits list_bits levels
    after_stands p r (stop q) f i = (i.0, i.1, omega arith)
    after_stands p r (item k q) f i = before_stands p q k (r q) i.0 i.1 i.2 (f q)
    after_stands p r (bad m x) f i = tt

    items_stand : (n p : ℕ) → Listed (suc l) p (items s deep n p)
    unfolding items
    items_stand zero p = tt
    items_stand (suc n) p = after_stands p (items s deep n) (head_at s deep p) (items_stand n) (head_stands p)

  deep_stands : (l : ℕ) → Deeper l (deep_of s l)
  unfolding deep_of
  deep_stands zero = tt
  deep_stands (suc l) = items_stand l (deep_of s l) (deep_stands l) (suc (8 * length s))

  -- the bits of a list that is read at p stand there
  pub list_stands : (l p : ℕ) {c : Code} {q : ℕ} → list_at s l p ≡ got c q → (q ≡ p + bits c) × Stands s p (list_bits c) × (levels c < suc l)
  unfolding list_at
  list_stands l p e = rw e at (items_stand l (deep_of s l) (deep_stands l) (suc (8 * length s)) p)

  -- ---- templates
  -- what is known of the template t that is read from p to q
  pub record TemplateStands (p : ℕ) (t : Template) (q : ℕ) : Type 0 where
    pub past : q ≡ p + length (template_bits t)
    pub here : Stands s p (template_bits t)
    pub starts : starts_at p t ≡ t
    pub deep : levels t.code < 16

  template_parts : (p n p₁ : ℕ) (es : List Entry) (p₂ : ℕ) (c : Code) (p₃ : ℕ)
      → (n ≡ field_at s p 8) × (p₁ ≡ p + 8) × (p₁ ≤ 8 * length s) → EntriesStand s n p₁ es p₂ → (p₃ ≡ p₂ + bits c) × Stands s p₂ (list_bits c) × (levels c < 16)
      → TemplateStands p (record { entries = es; start = p₂; code = c }) p₃
  unfolding template_bits
  template_parts p n p₁ es p₂ c p₃ f g l =
      let e : p₂ ≡ p + 8 + length (entries_bits es) = omega (arith, f.1, g.past) in
      let h : Stands s p₁ (entries_bits es) = g.here in
      record {
        past = simp (length-append, length_bits, list_length c) (omega (arith, l.0));
        here = field_then s p 8 (length es) _ (g.count ∙ f.0) (stands_append (entries_bits es) (list_bits c) (rw f.1 at h) (rw (← e) l.1));
        starts = rw e refl;
        deep = l.2;
      }

  pub template_stands : (own T p : ℕ) {t : Template} {q : ℕ} → template_at s own T p ≡ got t q → TemplateStands p t q
  unfolding template_at
  template_stands own T p {t} {q} e =
      then_led (field s p 8) _ e
      (λ n p₁ e₁ on₁.
      then_led (entries_at s own T n p₁) _ on₁
      (λ es p₂ e₂ on₂.
      then_led (list_at s 15 p₂) _ on₂
      (λ c p₃ e₃ on₃.
      let v = got_value on₃ in
      let f = field_got_lem s p 8 e₁ in
      rw (← v.0, ← v.1) (template_parts p n p₁ es p₂ c p₃ f (entries_stand s own T n p₁ f.2 e₂) (list_stands 15 p₂ e₃)))))

  -- what is known of the n templates ts that are read from p to q
  pub record TemplatesStand (own n p : ℕ) (ts : List Template) (q : ℕ) : Type 0 where
    pub count : length ts ≡ n
    pub past : q ≡ p + length (templates_bits ts)
    pub here : Stands s p (templates_bits ts)
    pub starts : placed p ts ≡ ts
    pub deep : Each (λ n t. levels t.code < 16) own ts

  pub templates_stand : (T own n p : ℕ) {ts : List Template} {q : ℕ} → p ≤ 8 * length s → templates_at s T own n p ≡ got ts q → TemplatesStand own n p ts q
  unfolding templates_at templates_bits placed
  templates_stand T own zero p {ts} {q} h e =
      let v = got_value e in rw (← v.0, ← v.1) (record { count = refl; past = omega arith; here = none_stands s p h; starts = refl; deep = tt })
  templates_stand T own (suc n) p {ts} {q} h e =
      then_led (template_at s own T p) _ e
      (λ x r first on.
      then_led (templates_at s T (own + 1) n r) _ on
      (λ xs u rest end.
      let v = got_value end in
      let a = template_stands own T p first in
      let f : p + length (template_bits x) ≤ 8 * length s = a.here.fits in
      let b = templates_stand T (own + 1) n r (omega (arith, a.past)) rest in
      rw (← v.0, ← v.1)
      (record {
        count = ap suc b.count;
        past = simp length-append (omega (arith, a.past, b.past));
        here = stands_append (template_bits x) (templates_bits xs) a.here (rw a.past at b.here);
        starts = rw (a.starts, ← a.past, b.starts) refl;
        deep = (a.deep, b.deep);
      })))
