-- What stands at a place of a list that is read, by its code's shape and what reading kept of the lists inside. Assumes nothing.
use Rattle.std.specs.Prelude.{ℕ, ◌+◌, ◌*◌, ◌-◌, ◌≤◌, ◌≡◌, Bool, true, false, cond, List, length, get_or, eqb}
use native.Mathlib.Omega.{arith}
use Rattle.std.proofs.Math.Path.{refl, ap, subst}
use Rattle.std.proofs.Common.{sym, ◌∙◌}
use Rattle.cells.specs.declared.BitPlace.{BitPlace}
use Rattle.fields.specs.Field.{field_at}
use Rattle.fields.specs.laws.Laws.{whole}
use Rattle.files.specs.Code.{Instr, neutral_i, return_i, call_i, put, simple, bits}
use Rattle.files.specs.Reading.{item, shaped, head_at, deep_of}
use Rattle.files.specs.laws.Heads.{code_read}
use Rattle.files.specs.laws.ReadingLaws.{bits_i, Past, head_past, deep_past}
use Rattle.lists.specs.declared.Keep.TheVariants.{Pasts}
use Rattle.lists.specs.Marks.{mark_of, HasIn}
use Rattle.lists.specs.laws.MarksLaws.{has_arms, has_saved}
use Rattle.lists.specs.laws.Known.{shape_here, arms, saved, Simple, without_lists, Turn, list_within, list_turn}
use Rattle.links.specs.Links.{link_at}
use Rattle.links.specs.Parts.{place, instr_parts, parts_of, ToLink}
use Rattle.links.specs.declared.Parts.{Parts}
use Rattle.links.specs.declared.Parts.TheVariants.{End, Simple as SimplePart, Arms as ArmsPart, Saved as SavedPart}

simple_item : (p v : ℕ) (ns : List ℕ) (q : ℕ) → SimplePart (place q) ≡ parts_of p (item (simple v ns) q)
unfolding parts_of instr_parts simple
simple_item p v ns q = by (eqb v 1) (eqb v 2)
  where
    by : (x y : Bool) → SimplePart (place q) ≡ instr_parts p (cond x return_i (cond y (call_i (get_or ns 0 0)) (neutral_i v ns))) q
    by true y = refl
    by false true = refl
    by false false = refl

module _ {s L : List ℕ} {l p : ℕ} (w : ToLink s L l p) where
  pub here_within : p + 5 ≤ 8 * length s
  here_within = list_within s l p w.read

  -- what stands here, by its shape
  abbrev pub PartsHere : Parts → Type 0
  PartsHere x = x ≡ parts_of p (head_at s (deep_of s l) p)

  pub end_here : shape_here s l p ≡ 0 → PartsHere End
  unfolding parts_of shaped
  end_here e = rw (code_read s (deep_of s l) p (field_at s p 5) (place (p + 5)) 0 (sym (whole s p 5 here_within)) e) refl

  -- an instruction stands here
  module _ {k : ℕ} (shape : shape_here s l p ≡ k) (some : 1 ≤ k) where
    turn : Turn s l p w.read
    turn = list_turn s l p w.read (λ (z : shape_here s l p ≡ 0). omega arith)

    next_is : turn.next ≡ p + bits_i turn.instr
    next_is = let h : Past (8 * length s) p (item turn.instr turn.next) = rw turn.head at (head_past s (deep_of s l) (deep_past s l) p) in h.0

    plain : (k ≡ 4 → ⊥) → (k ≡ 5 → ⊥) → Simple s l p turn.head (shape_here s l p)
    plain a b = without_lists s l p turn.head (λ i. a (sym shape ∙ i)) (λ i. b (sym shape ∙ i))

    pub simple_here : {q : BitPlace} → k ≤ 3 → q.0 ≡ p + (5 + 8 * (k - 1)) → PartsHere (SimplePart q)
    simple_here {q} few z =
        let h = plain (λ (i : k ≡ 4). omega arith) (λ (i : k ≡ 5). omega arith) in
        let n : q.0 ≡ turn.next = omega (arith, h.4, shape) in
        rw (turn.head, h.3) (ap (λ (x : ℕ). SimplePart (place x)) n ∙ simple_item p _ _ turn.next)

    pub bad_here : 6 ≤ k → ⊥
    bad_here h = let z = plain (λ (i : k ≡ 4). omega arith) (λ (i : k ≡ 5). omega arith) in omega (arith, z.1, shape)

  pub arms_here : {m q : BitPlace} → shape_here s l p ≡ 4 → m.0 ≡ link_at L (p + 5) → q.0 ≡ link_at L m.0 → PartsHere (ArmsPart m q)
  unfolding parts_of instr_parts mark_of bits_i
  arms_here {m} {q} e f g =
      let o : 1 ≤ 4 = omega arith in
      let t = turn e o in
      let a = arms s l p t.head e in
      let here : HasIn Pasts L p (put t.instr t.rest) = rw t.is at w.has in
      let h = has_arms Pasts L p a.first a.second t.rest (subst (λ (i : Instr). HasIn Pasts L p (put i t.rest)) a.is here) in
      let i : m.0 ≡ p + 5 + bits a.first = f ∙ h.0.0 in
      let j : q.0 ≡ p + 5 + bits a.first + bits a.second = g ∙ ap (link_at L) i ∙ h.1.0 in
      let n : t.next ≡ p + (5 + bits a.first + bits a.second) =
      subst (λ (i : Instr). t.next ≡ p + bits_i i) a.is (next_is e o) in
      let k : q.0 ≡ t.next = omega (arith, j, n) in
      (λ z. ArmsPart (place (i z)) (place (k z))) ∙ ap (λ (x : Instr). parts_of p (item x t.next)) (sym a.is) ∙ ap (parts_of p) (sym t.head)

  pub saved_here : {q : BitPlace} → shape_here s l p ≡ 5 → q.0 ≡ link_at L (p + 13) → PartsHere (SavedPart q)
  unfolding parts_of instr_parts mark_of bits_i
  saved_here {q} e f =
      let o : 1 ≤ 5 = omega arith in
      let t = turn e o in
      let a = saved s l p t.head e in
      let here : HasIn Pasts L p (put t.instr t.rest) = rw t.is at w.has in
      let h = has_saved Pasts L p _ a.saved t.rest (subst (λ (i : Instr). HasIn Pasts L p (put i t.rest)) a.is here) in
      let i : q.0 ≡ p + 13 + bits a.saved = f ∙ h.0 in
      let n : t.next ≡ p + (13 + bits a.saved) = subst (λ (i : Instr). t.next ≡ p + bits_i i) a.is (next_is e o) in
      let k : q.0 ≡ t.next = omega (arith, i, n) in
      ap (λ (x : ℕ). SavedPart (place x)) k ∙ ap (λ (x : Instr). parts_of p (item x t.next)) (sym a.is) ∙ ap (parts_of p) (sym t.head)
