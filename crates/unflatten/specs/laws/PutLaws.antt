-- Lists put piece by piece: an instruction, two lists, and what the answers mean. Assumes nothing.
use Prim.Native.Nat.{ℕ, zero, suc, ◌+◌, ◌*◌, ◌-◌, ◌/◌, ◌%◌, ◌≤◌, ◌<◌}
use native.Mathlib.Omega.{arith}
use Rattle.std.specs.Prelude.{◌≡◌, Bool, cond, not, ◌&&◌, get_or, leb, eqb}
use Rattle.std.proofs.Math.Path.{refl, sym, ap}
use Rattle.std.proofs.Common.{◌∙◌, subst, length-append}
use Rattle.std.proofs.Math.Bool.{true, false}
use mathlib.Core.List.{List, [], ◌∷◌, ◌++◌, append-nil}
use Rattle.std.proofs.Math.Option.{Option, none, some}
use Rattle.std.proofs.lemmas.Option.{some_pair_parts}
use Rattle.std.specs.Prelude.{Option as OrNone, None, Some}
use borrow.Author.Tests.{le-leb, lt-leb, eqb-true}
use Rattle.std.proofs.Math.ListN.{length}
use Rattle.cells.specs.declared.BitPlace.{BitPlace}
use Rattle.cells.specs.laws.Laws.{clash}
use Rattle.fields.specs.Field.{bit_at}
use Rattle.files.specs.Codes.{operands, shape_of}
use Rattle.files.specs.Code.{Code, done, Instr, neutral_i, return_i, call_i, unless_i, cont_i, put, simple, bits}
use Rattle.files.specs.laws.ReadingLaws.{bits_i, bits_put}
use Rattle.files.specs.Linear.{bits_of}
use Rattle.readback.specs.laws.Bits.{AreBits, length_bits}
use Rattle.readback.specs.Lists.{bits_from}
use Rattle.readback.specs.laws.Lists.{none_are, bits_are, append_are, from_append}
use Rattle.bit_writer.specs.Put.{put_bits}
use Rattle.bit_writer.proofs.theorems.Laws.{put_next, put_length}
use Rattle.tree_file.specs.File.{operands_bits, list_bits, instr_bits}
use Rattle.tree_file.specs.laws.Lengths.{operands_length, list_length, list_are, instr_length}
use Rattle.tree_file.specs.laws.Lengths.{list_put as list_bits_put}
use Rattle.back.specs.Unflat.{on, test}
use Rattle.unflatten.specs.declared.Arms.{Arms}
use Rattle.unflatten.specs.declared.Region.{Region}
use Rattle.unflatten.specs.declared.Head.{Head}
use Rattle.unflatten.specs.declared.Head.TheVariants.{Plain, Split, Save}
use Rattle.unflatten.specs.Found.{part, found}
use Rattle.unflatten.specs.Heads.{plain_passes, plain_item, head_item, head_rest, head_found, left_found, HeadIs}
use Rattle.unflatten.specs.laws.Regions.{part_empty, part_cons, part_length}
use Rattle.unflatten.specs.laws.Kept.{found_nothing, found_end}
use Rattle.unflatten.specs.ToPut.{Puts, none_put, list_put, TwoPut, no_first, no_second, two_put, Stepped, no_item, item_put, Steps, arms_size, Going}

operands_are : (ns : List ℕ) → AreBits (operands_bits ns)
unfolding operands_bits
operands_are [] = none_are
operands_are (n ∷ ns) = append_are (bits_are 8 n) (operands_are ns)

instr_are : (i : Instr) → AreBits (instr_bits i)
unfolding instr_bits
instr_are (neutral_i op ns) = append_are (bits_are 5 op) (operands_are ns)
instr_are return_i = bits_are 5 _
instr_are (call_i n) = append_are (bits_are 5 _) (bits_are 8 n)
instr_are (unless_i x y) = append_are (bits_are 5 _) (append_are (list_are x) (list_are y))
instr_are (cont_i n x) = append_are (bits_are 5 _) (append_are (bits_are 8 n) (list_are x))

-- an instruction without lists is its code and its operands
ns_one : (ns : List ℕ) → 1 ≡ length ns → operands_bits ns ≡ bits_of 8 (get_or ns 0 0)
unfolding operands_bits
ns_one [] e = absurd (omega arith)
ns_one (n ∷ []) e = append-nil (bits_of 8 n)
ns_one (n ∷ m ∷ ns) e = absurd (omega arith)

ns_none : (ns : List ℕ) → 0 ≡ length ns → ns ≡ []
ns_none [] e = refl
ns_none (n ∷ ns) e = absurd (omega arith)

simple_bits : (op : ℕ) (ns : List ℕ) → operands op ≡ length ns → instr_bits (simple op ns) ≡ bits_of 5 op ++ operands_bits ns
unfolding instr_bits simple operands_bits
simple_bits op ns e = go (eqb op 1) (eqb op 2) refl refl
  where
    go : (a b : Bool) → eqb op 1 ≡ a → eqb op 2 ≡ b
        → instr_bits (cond a return_i (cond b (call_i (get_or ns 0 0)) (neutral_i op ns))) ≡ bits_of 5 op ++ operands_bits ns
    go true b f g =
        let z : op ≡ 1 = eqb-true op 1 f in
        let y : operands 1 ≡ 0 = unfold operands shape_of in refl in
        let x : ns ≡ [] = ns_none ns (sym y ∙ ap operands (sym z) ∙ e) in
        rw (z, x) (sym (append-nil (bits_of 5 1)))
    go false true f g =
        let z : op ≡ 2 = eqb-true op 2 g in
        let y : operands 2 ≡ 1 = unfold operands shape_of in refl in
        rw (z, ns_one ns (sym y ∙ ap operands (sym z) ∙ e)) refl
    go false false f g = refl

byte_from : (s : List ℕ) (p w : ℕ) → w ≤ 8 → bits_from s (8 * p + (8 - w)) w ≡ bits_of w (get_or s p 0)
unfolding bits_from bits_of bit_at
byte_from s p zero h = refl
byte_from s p (suc w) h =
    let e₁ : (8 * p + (8 - suc w)) / 8 ≡ p = omega arith in
    let e₂ : 7 - (8 * p + (8 - suc w)) % 8 ≡ w = omega arith in
    let e₃ : 8 * p + (8 - suc w) + 1 ≡ 8 * p + (8 - w) = omega arith in
    rw (e₁, e₂, e₃, byte_from s p w (omega arith)) refl

byte_bits : (s : List ℕ) (p : ℕ) → bits_from s (8 * p) 8 ≡ bits_of 8 (get_or s p 0)
byte_bits s p = let e : 8 * p + (8 - 8) ≡ 8 * p = omega arith in rw e at (byte_from s p 8 (omega arith))

-- the bits of operand bytes, as they stand in the file
operands_from : (s : List ℕ) (p n : ℕ) → p + n ≤ length s → bits_from s (8 * p) (8 * n) ≡ operands_bits (part p (p + n) s)
unfolding operands_bits bits_from
operands_from s p zero h = let e : p + 0 ≡ p = omega arith in rw (e, part_empty s p) refl
operands_from s p (suc n) h =
    let e₁ : 8 * suc n ≡ 8 + 8 * n = omega arith in
    let e₂ : 8 * p + 8 ≡ 8 * (p + 1) = omega arith in
    let e₃ : p + suc n ≡ p + 1 + n = omega arith in
    ap (bits_from s (8 * p)) e₁ ∙ from_append s (8 * p) 8 (8 * n)
    ∙ rw (e₂, operands_from s (p + 1) n (omega arith), e₃, part_cons s p (p + 1 + n) (omega arith) (omega arith))
    (ap (λ (u : List ℕ). u ++ operands_bits (part (p + 1) (p + 1 + n) s)) (byte_bits s p))

-- ---- what the answers mean
pub puts_none : {n a : ℕ} {o o' : List ℕ} {x : Option Code} {r : OrNone BitPlace} → Puts n o a x r o' → r ≡ None → x ≡ none
puts_none none_put e = refl
puts_none (list_put b f g) e = clash (cc)

pub record PutSome (n a : ℕ) (o o' : List ℕ) (x : Option Code) (q : BitPlace) : Type 0 where
  pub code : Code
  pub is : x ≡ some code
  pub small : bits code ≤ 8 * n + 5
  pub past : q.0 ≡ a + bits code
  pub out : o' ≡ put_bits o a (list_bits code)

pub puts_some : {n a : ℕ} {o o' : List ℕ} {x : Option Code} {r : OrNone BitPlace} {q : BitPlace} → Puts n o a x r o' → r ≡ Some q → PutSome n a o o' x q
puts_some none_put e = clash (cc)
puts_some {q = q} (list_put {c = c} {a' = a'} b f g) e =
    let z : ◌≡◌ {A = BitPlace} (record { 0 = a' }) q = cc in
    record { code = c; is = refl; small = b; past = sym (ap (λ (x : BitPlace). x.0) z) ∙ f; out = g }

-- ---- two lists
pub two_first : {n a : ℕ} {o o' : List ℕ} {x y : Option Code} → x ≡ none → TwoPut n o a x y None o'
two_first e = rw e no_first

pub two_from : (m n : ℕ) {a : ℕ} {o o₁ o₂ : List ℕ} {x y : Option Code} {q : BitPlace} {r : OrNone BitPlace} → a + 8 * m + 5 ≤ 8 * length o
    → PutSome m a o o₁ x q → Puts n o₁ q.0 y r o₂ → TwoPut (m + n) o a x y r o₂
two_from m n h p none_put = no_second
two_from m n {a} {o} {o₁} {o₂} h p (list_put {c = c} {a' = a₂} b f g) =
    rw p.is
    (two_put {x = p.code} {y = c} {a' = a₂} (omega (arith, p.small)) (omega (arith, p.past))
    (put_next o o₁ o₂ a _ (list_bits p.code) (list_bits c) (list_are p.code) (omega (arith, list_length p.code, p.small)) p.out
    (p.past ∙ omega (arith, list_length p.code)) g))

-- ---- the first instruction
-- an instruction put before what the rest is
module _ (n m a : ℕ) (o o₁ : List ℕ) (i : Instr) (a₁ : ℕ) (at : a₁ ≡ a + bits_i i) (is : o₁ ≡ put_bits o a (instr_bits i)) (small : bits_i i + 8 * m ≤ 8 * n)
    (room : a + 8 * n + 5 ≤ 8 * length o) where
  puts_on : {x : Option Code} {r : OrNone BitPlace} {o₂ : List ℕ} → Puts m o₁ a₁ x r o₂ → Puts n o a (on x (λ c. some (put i c))) r o₂
  unfolding on
  puts_on none_put = none_put
  puts_on (list_put {c = c} {a' = a₂} {o' = o₂} b f g) =
      let l : length (instr_bits i) ≡ bits_i i = instr_length i in
      list_put {c = put i c} {a' = a₂} (omega (arith, bits_put i c)) (omega (arith, bits_put i c))
      (put_next o o₁ o₂ a a₁ (instr_bits i) (list_bits c) (instr_are i) (omega arith) is (omega arith) g ∙ ap (put_bits o a) (sym (list_bits_put i c)))

pub stepped_none : {n end a : ℕ} {o o' : List ℕ} {whole : Option Code} {rest : Region → Option Code} {r : OrNone (Region × BitPlace)}
    → Stepped n end o a whole rest r o' → r ≡ None
    → whole ≡ none
stepped_none (no_item h) e = h
stepped_none (item_put i h f g u v w t) e = clash (cc)

pub record StepOn (n end a : ℕ) (o o' : List ℕ) (whole : Option Code) (rest : Region → Option Code) (x : Region) (q : BitPlace) : Type 0 where
  pub goes_on : (r : OrNone BitPlace) (o'' : List ℕ) → Puts (x.to - x.from) o' q.0 (rest x) r o'' → Puts n o a whole r o''
  pub ordered : x.from ≤ x.to
  pub inside : x.to ≤ end
  pub shorter : x.to - x.from < n
  pub room : q.0 + 8 * (x.to - x.from) + 5 ≤ 8 * length o

pub stepped_on : {n end a : ℕ} {o o' : List ℕ} {whole : Option Code} {rest : Region → Option Code} {r : OrNone (Region × BitPlace)} {x : Region} {q : BitPlace}
    → a + 8 * n + 5 ≤ 8 * length o → Stepped n end o a whole rest r o' → r ≡ Some (x, q) → StepOn n end a o o' whole rest x q
stepped_on h (no_item i) e = clash (cc)
stepped_on {n} {end} {a} {o} {o'} {whole} {rest} {r} {x} {q} h (item_put i {x = x₁} {a' = a'} eq f g u v w t) e =
    let z = some_pair_parts x₁ x (record { 0 = a' }) q e in
    let z₁ = z.0 in
    let at : a' ≡ q.0 = ap (λ (x : BitPlace). x.0) z.1 in
    rw (← z₁) (
    record {
      goes_on = λ r o'' k. rw eq (puts_on n (x₁.to - x₁.from) a o o' i q.0 (sym at ∙ f) g w h k);
      ordered = u;
      inside = v;
      shorter = t;
      room = omega arith;
    }
    )

-- ---- arms
pub two_none : {n a : ℕ} {o o' : List ℕ} {x y : Option Code} {r : OrNone BitPlace} → TwoPut n o a x y r o' → r ≡ None
    → on x (λ x. on y (λ y. some (unless_i x y))) ≡ none
unfolding on
two_none no_first e = refl
two_none {x = none} no_second e = refl
two_none {x = some x} no_second e = refl
two_none (two_put b f g) e = clash (cc)

pub record TwoSome (n a : ℕ) (o o' : List ℕ) (x y : Option Code) (q : BitPlace) : Type 0 where
  pub first : Code
  pub second : Code
  pub is : on x (λ x. on y (λ y. some (unless_i x y))) ≡ some (unless_i first second)
  pub small : bits first + bits second ≤ 8 * n + 10
  pub past : q.0 ≡ a + (bits first + bits second)
  pub out : o' ≡ put_bits o a (list_bits first ++ list_bits second)

pub two_some : {n a : ℕ} {o o' : List ℕ} {x y : Option Code} {r : OrNone BitPlace} {q : BitPlace} → TwoPut n o a x y r o' → r ≡ Some q → TwoSome n a o o' x y q
unfolding on
two_some no_first e = clash (cc)
two_some no_second e = clash (cc)
two_some {q = q} (two_put {x = x} {y = y} {a' = a'} b f g) e =
    let z : ◌≡◌ {A = BitPlace} (record { 0 = a' }) q = cc in
    record { first = x; second = y; is = refl; small = b; past = sym (ap (λ (x : BitPlace). x.0) z) ∙ f; out = g }

module _ (ok : ℕ → ℕ → Bool) (s : List ℕ) (l : ℕ) (k : Bool) (p e a : ℕ) (o o₁ : List ℕ) (room : a + 8 * (e - p) + 5 ≤ 8 * length o) where
  module _ (x : Arms) (head : HeadIs s l k p e (Some (Split x))) (q : BitPlace) (code : o₁ ≡ put_bits o a (bits_of 5 3)) (at : q.0 ≡ a + 5) where
    abbrev X : Option Code
    X = found ok (l - 1) x.closed (part (p + 3) x.mid s)

    abbrev Y : Option Code
    Y = found ok (l - 1) x.closed (part x.turn x.end s)

    pub arms_none : {r : OrNone BitPlace} {o₂ : List ℕ} → TwoPut (arms_size p x) o₁ q.0 X Y r o₂ → r ≡ None → Steps ok s l k p e o a None o₂
    unfolding head_found head_item on
    arms_none t z = no_item (head.finds ok ∙ rw (two_none t z) refl)

    pub arms_more : {r : OrNone BitPlace} {o₂ : List ℕ} {q₂ : BitPlace} (c : Bool) → c ≡ (not x.closed && k) → TwoPut (arms_size p x) o₁ q.0 X Y r o₂
        → r ≡ Some q₂
        → Steps ok s l k p e o a (Some (record { from = x.end; to = e; closed = c }, q₂)) o₂
    unfolding head_found head_item head_rest on instr_bits bits_i
    arms_more {o₂ = o₂} {q₂ = q₂} c closed t z =
        let w = two_some t z in
        let h = head.within in
        item_put (unless_i w.first w.second) {x = record { from = x.end; to = e; closed = c }} {a' = q₂.0} (head.finds ok ∙ rw (w.is, closed) refl)
        (omega (arith, w.past))
        (put_next o o₁ o₂ a q.0 (bits_of 5 3) (list_bits w.first ++ list_bits w.second) (bits_are 5 3) (omega (arith, length_bits 5 3)) code
        (at ∙ omega (arith, length_bits 5 3)) w.out)
        (omega arith) (omega arith) (omega (arith, w.small)) (omega arith)

  -- ---- a make-cont
  module _ (cut : ℕ) (head : HeadIs s l k p e (Some (Save cut))) (o₂ : List ℕ) (q q₂ : BitPlace) (code : o₁ ≡ put_bits o a (bits_of 5 4)) (at : q.0 ≡ a + 5)
      (count : o₂ ≡ put_bits o₁ q.0 (bits_of 8 (get_or s (p + 3) 0))) (at₂ : q₂.0 ≡ q.0 + 8) where
    pub saved_none : {r : OrNone BitPlace} {o₃ : List ℕ} → Puts (e - cut) o₂ q₂.0 (found ok (l - 1) k (part cut e s)) r o₃ → r ≡ None
        → Steps ok s l k p e o a None o₃
    unfolding head_found head_item on
    saved_none t z = no_item (head.finds ok ∙ rw (puts_none t z) refl)

    pub saved_more : {r : OrNone BitPlace} {o₃ : List ℕ} {q₃ : BitPlace} → Puts (e - cut) o₂ q₂.0 (found ok (l - 1) k (part cut e s)) r o₃ → r ≡ Some q₃
        → Steps ok s l k p e o a (Some (record { from = p + 4; to = cut; closed = true }, q₃)) o₃
    unfolding head_found head_item head_rest on instr_bits bits_i
    saved_more {o₃ = o₃} {q₃ = q₃} t z =
        let w = puts_some t z in
        let h = head.within in
        let n : List ℕ = bits_of 8 (get_or s (p + 3) 0) in
        let l₁ : length o₁ ≡ length o = ap length code ∙ put_length _ _ _ in
        let there : (y : Code) → found ok (l - 1) k (part cut e s) ≡ some y
        → head_found ok s l k p e (Some (Save cut)) ≡ on (found ok l true (part (p + 4) cut s))
        (λ c. some (put (cont_i (get_or s (p + 3) 0) y) c)) =
        λ y g. rw g refl in
        let tail : o₃ ≡ put_bits o₁ q.0 (n ++ list_bits w.code) =
        put_next o₁ o₂ o₃ q.0 q₂.0 n (list_bits w.code) (bits_are 8 _) (omega (arith, length_bits 8 (get_or s (p + 3) 0))) count
        (at₂ ∙ omega (arith, length_bits 8 (get_or s (p + 3) 0))) w.out in
        item_put (cont_i (get_or s (p + 3) 0) w.code) {x = record { from = p + 4; to = cut; closed = true }} {a' = q₃.0}
        (head.finds ok ∙ there w.code w.is) (omega (arith, w.past))
        (put_next o o₁ o₃ a q.0 (bits_of 5 4) (n ++ list_bits w.code) (bits_are 5 4) (omega (arith, length_bits 5 4)) code
        (at ∙ omega (arith, length_bits 5 4)) tail)
        (omega arith) (omega arith) (omega (arith, w.small)) (omega arith)

  -- ---- an instruction without lists
  module _ (n : ℕ) (head : HeadIs s l k p e (Some (Plain n))) where
    abbrev ns : List ℕ
    ns = part (p + 1) (p + 1 + n) s

    pub plain_none : {o₂ : List ℕ} → plain_passes ok (get_or s p 0) ns ≡ false → Steps ok s l k p e o a None o₂
    unfolding head_found head_item plain_item on test
    plain_none f = no_item (head.finds ok ∙ rw f refl)

    pub plain_more : {o₂ : List ℕ} {q q₂ : BitPlace} (c : Bool) → e ≤ length s → plain_passes ok (get_or s p 0) ns ≡ true → c ≡ (leb 6 (get_or s p 0) && k)
        → o₁ ≡ put_bits o a (bits_of 5 (get_or s p 0)) → q.0 ≡ a + 5 → o₂ ≡ put_bits o₁ q.0 (bits_from s (8 * (p + 1)) (8 * n)) → q₂.0 ≡ q.0 + 8 * n
        → Steps ok s l k p e o a (Some (record { from = p + 1 + n; to = e; closed = c }, q₂)) o₂
    unfolding head_found head_item head_rest plain_item on test
    plain_more {o₂} {q} {q₂} c le f closed code at ops at₂ =
        let h = head.within in
        let long : length ns ≡ n = part_length s (p + 1) (p + 1 + n) (omega arith) ∙ omega arith in
        let b = simple_bits (get_or s p 0) ns (h.2 ∙ sym long) in
        let size : bits_i (simple (get_or s p 0) ns) ≡ 5 + 8 * n = sym (instr_length (simple (get_or s p 0) ns)) ∙ ap length b
        ∙ simp (length-append, length_bits, operands_length) (omega arith) in
        item_put (simple (get_or s p 0) ns) {x = record { from = p + 1 + n; to = e; closed = c }} {a' = q₂.0} (head.finds ok ∙ rw (f, closed) refl)
        (omega arith)
        (put_next o o₁ o₂ a q.0 (bits_of 5 (get_or s p 0)) (bits_from s (8 * (p + 1)) (8 * n)) (bits_are 5 _) (omega (arith, length_bits 5 (get_or s p 0))) code
        (at ∙ omega (arith, length_bits 5 (get_or s p 0))) ops
        ∙ ap (put_bits o a) (ap (λ (u : List ℕ). bits_of 5 (get_or s p 0) ++ u) (operands_from s (p + 1) n (omega arith)) ∙ sym b))
        (omega arith) (omega arith) (omega arith) (omega arith)

-- ---- the first operand
module _ (ok : ℕ → ℕ → Bool) (s : List ℕ) (p n : ℕ) where
  pub passes_low : get_or s p 0 ≤ 5 → true ≡ plain_passes ok (get_or s p 0) (part (p + 1) (p + 1 + n) s)
  passes_low h = rw (le-leb (get_or s p 0) 5 h) refl

  pub passes_none : 5 < get_or s p 0 → n ≡ 0 → ok (get_or s p 0) 0 ≡ plain_passes ok (get_or s p 0) (part (p + 1) (p + 1 + n) s)
  passes_none h z = let e : p + 1 + n ≡ p + 1 = omega arith in rw (lt-leb (get_or s p 0) 5 h, e, part_empty s (p + 1)) refl

  pub passes_first : 5 < get_or s p 0 → (n ≡ 0 → ⊥) → p + 1 + n ≤ length s
      → ok (get_or s p 0) (get_or s (p + 1) 0) ≡ plain_passes ok (get_or s p 0) (part (p + 1) (p + 1 + n) s)
  passes_first h z k = rw (lt-leb (get_or s p 0) 5 h, part_cons s (p + 1) (p + 1 + n) (some_of n z) k) refl
    where
      some_of : (n : ℕ) → (n ≡ 0 → ⊥) → p + 1 < p + 1 + n
      some_of zero z = absurd (z refl)
      some_of (suc n) z = omega arith

-- ---- the loop over a list
pub head_as : {s : List ℕ} {l : ℕ} {k : Bool} {p e : ℕ} {h h' : OrNone Head} → HeadIs s l k p e h → h ≡ h' → HeadIs s l k p e h'
head_as {s} {l} {k} {p} {e} i z = subst (λ (h : OrNone Head). HeadIs s l k p e h) z i

pub head_none : (ok : ℕ → ℕ → Bool) (s : List ℕ) (l : ℕ) (k : Bool) (p e : ℕ) {h : OrNone Head} (o : List ℕ) (a : ℕ) {o' : List ℕ} → HeadIs s l k p e h
    → h ≡ None
    → Steps ok s l k p e o a None o'
unfolding head_found head_item on
head_none ok s l k p e o a i z = no_item ((head_as i z).finds ok)

module _ (ok : ℕ → ℕ → Bool) (s : List ℕ) (l : ℕ) (p₀ e₀ : ℕ) (k₀ : Bool) (a₀ : ℕ) (o₀ : List ℕ) where
  pub going_begun : p₀ ≤ e₀ → e₀ ≤ length s → a₀ + 8 * (e₀ - p₀) + 5 ≤ 8 * length o₀ → Going ok s l p₀ e₀ k₀ a₀ o₀ p₀ e₀ k₀ a₀ o₀
  going_begun h i j = record { ordered = h; inside = i; long = refl; room = j; rest = λ r o' x. x }

  module _ (p e : ℕ) (k : Bool) (a : ℕ) (o : List ℕ) (g : Going ok s l p₀ e₀ k₀ a₀ o₀ p e k a o) where
    abbrev Done : OrNone BitPlace → List ℕ → Type 0
    Done r o' = Puts (e₀ - p₀) o₀ a₀ (found ok l k₀ (part p₀ e₀ s)) r o'

    nothing_left : p ≡ e → part p e s ≡ []
    nothing_left z = ap (λ (x : ℕ). part x e s) z ∙ part_empty s e

    pub going_no_end : {o' : List ℕ} → p ≡ e → k ≡ true → Done None o'
    going_no_end {o'} z f = g.rest None o' (rw (nothing_left z, f, found_nothing ok l) none_put)

    pub going_end : {o' : List ℕ} {q : BitPlace} → p ≡ e → k ≡ false → q.0 ≡ a + 5 → o' ≡ put_bits o a (bits_of 5 0) → Done (Some q) o'
    unfolding list_bits bits
    going_end {o'} {q} z f at put = g.rest (Some q) o' (rw (nothing_left z, f, found_end ok l) (list_put {c = done} {a' = q.0} (omega arith) at put))

    pub going_none : {o' : List ℕ} → found ok l k (part p e s) ≡ none → Done None o'
    going_none {o'} z = g.rest None o' (rw z none_put)

    pub going_on : {o' : List ℕ} {x : Region} {q : BitPlace} → length o' ≡ length o
        → StepOn (e - p) e a o o' (found ok l k (part p e s)) (left_found ok s l) x q
        → Going ok s l p₀ e₀ k₀ a₀ o₀ x.from x.to x.closed q.0 o'
    going_on {o'} z i =
        record {
          ordered = i.ordered;
          inside = omega (arith, i.inside, g.inside);
          long = z ∙ g.long;
          room = omega (arith, i.room);
          rest = λ r o'' x. g.rest r o'' (i.goes_on r o'' x);
        }
