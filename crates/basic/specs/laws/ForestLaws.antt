-- Walking over lists that stand one after the other, code by code. Assumes nothing.
use Prim.Native.Nat.{ℕ, zero, suc, ◌+◌, ◌*◌, ◌-◌, ◌≤◌, ◌<◌}
use Rattle.std.proofs.Math.Nat.{add_assoc, add-zero}
use native.Mathlib.Omega.{arith}
use Rattle.std.specs.Prelude.{◌≡◌, Bool, cond, ◌||◌, length, get_or, drop}
use Rattle.std.proofs.Math.Path.{refl, sym}
use Rattle.std.proofs.Common.{ap, ◌∙◌, ne_eqb, length-append}
use Rattle.std.proofs.Math.Bool.{true, false}
use mathlib.Core.List.{List, [], ◌∷◌, ◌++◌, append_assoc, append-nil}
use Rattle.std.proofs.lemmas.Bool.{eqb-false}
use Rattle.std.proofs.Math.Dec.{eqb}
use Rattle.fields.specs.Field.{field_at}
use Rattle.cells.specs.laws.Laws.{clash}
use Rattle.files.specs.Codes.{shapes, shape_of}
use Rattle.files.specs.Code.{Code, neutral_i, return_i, call_i, simple, put, bits}
use Rattle.files.specs.Reading.{Got, got, refused}
use Rattle.files.specs.Entries.{Entry, template, then, field, valid, constant_at}
use Rattle.files.specs.Linear.{bits_of}
use Rattle.files.specs.Tree.{Template}
use Rattle.files.specs.laws.EntriesLaws.{then_field}
use Rattle.files.specs.laws.AllGot.{got_value, then_led}
use Rattle.readback.specs.Bits.{Stands}
use Rattle.readback.specs.Lists.{bits_from}
use Rattle.readback.specs.laws.Bits.{length_bits}
use Rattle.readback.specs.laws.Lists.{stands_from}
use Rattle.readback.specs.laws.Standing.{stands_field, field_then, none_stands}
use Rattle.tree_file.specs.File.{operands_bits, list_bits, instr_bits}
use Rattle.tree_file.specs.laws.Lengths.{operands_length, list_put, list_length}
use Rattle.tree_file.proofs.theorems.Standing.{code_end}
use Rattle.basic.specs.Basic.{Basic, Token, ended_t, plain_t, carries_t, closure_t, branch_t, save_t}
use Rattle.basic.specs.Basic.{token_bits}
use Rattle.basic.specs.Reading.{holding, literal_at, global_at, shaped_at, code_at, token_at, onward, list_at}
use Rattle.basic.specs.Tabulated.{inside, uses, index_of, indexed, template_of, closures}
use Rattle.basic.specs.Valid.{PlainOk, return_ok, call_ok, neutral_ok, TokenOk, below}
use Rattle.basic.specs.Forest.{Lists, no_lists, next_list, inside_all, closures_all, uses_all, code_all, own_bits, own_all}
use Rattle.basic.specs.laws.ReadLaws.{token_facts, token_least, list_facts, list_least, list_step}
use Rattle.basic.specs.laws.LevelLaws.{below_15}

-- ---- codes: 3 alone has two lists, 4 alone an operand and a list
other_shape : ℕ → List ℕ → Bool
other_shape k [] = true
other_shape k (x ∷ l) = cond (eqb x k) false (other_shape k l)

other_led : (t r : Bool) → cond t false r ≡ true → (t ≡ false) × (r ≡ true)
other_led true r e = clash (cc)
other_led false r e = (refl, e)

other_at : (k : ℕ) (l : List ℕ) → other_shape k l ≡ true → k < 6 → (i : ℕ) → get_or l i 6 ≡ k → ⊥
unfolding other_shape
other_at k [] a h i e = omega arith
other_at k (x ∷ l) a h zero e = eqb-false x k (other_led (eqb x k) (other_shape k l) a).0 e
other_at k (x ∷ l) a h (suc i) e = other_at k l (other_led (eqb x k) (other_shape k l) a).1 h i e

code_conditional : (v : ℕ) → shape_of v ≡ 4 → v ≡ 3
unfolding shape_of other_shape
code_conditional zero e = absurd (omega arith)
code_conditional (suc zero) e = absurd (omega arith)
code_conditional (suc (suc zero)) e = absurd (omega arith)
code_conditional (suc (suc (suc zero))) e = refl
code_conditional (suc (suc (suc (suc v)))) e = absurd (other_at 4 (drop 4 shapes) refl (omega arith) v e)

code_cont : (v : ℕ) → shape_of v ≡ 5 → v ≡ 4
unfolding shape_of other_shape
code_cont zero e = absurd (omega arith)
code_cont (suc zero) e = absurd (omega arith)
code_cont (suc (suc zero)) e = absurd (omega arith)
code_cont (suc (suc (suc zero))) e = absurd (omega arith)
code_cont (suc (suc (suc (suc zero)))) e = refl
code_cont (suc (suc (suc (suc (suc v))))) e = absurd (other_at 5 (drop 5 shapes) refl (omega arith) v e)

-- ---- the bits of a code stand where it was read
unfoldable pub bits_as : Token → List ℕ
bits_as ended_t = bits_of 5 0
bits_as (plain_t v ns) = bits_of 5 v ++ operands_bits ns
bits_as (carries_t v e) = []
bits_as closure_t = []
bits_as branch_t = bits_of 5 3
bits_as (save_t n) = bits_of 5 4 ++ bits_of 8 n

module _ (s : List ℕ) where
  unfoldable Standing : ℕ → Got Token → Type 0
  Standing p (got t q) = Stands s p (bits_as t)
  Standing p (refused n x) = Unit

  held_stands : (l p x : ℕ) (g : Got Token) → Standing p g → Standing p (holding l x g)
  unfolding holding Standing
  held_stands zero p x g h = tt
  held_stands (suc l) p x g h = h

  shaped_stands : (l p v k : ℕ) → shape_of v ≡ k → v ≡ field_at s p 5 → p + 5 ≤ 8 * length s → Standing p (shaped_at s l p v (p + 5) k)
  unfolding shaped_at Standing bits_as operands_bits
  shaped_stands l p v zero e f h = stands_field s p 5 0 h (sym (code_end v e) ∙ f)
  shaped_stands l p v (suc zero) e f h = field_then s p 5 v [] f (none_stands s (p + 5) h)
  shaped_stands l p v (suc (suc zero)) e f h =
      then_field (Standing p) s (p + 5) 8 _ tt
      (λ h₁. field_then s p 5 v _ f (field_then s (p + 5) 8 _ [] refl (none_stands s (p + 5 + 8) h₁)))
  shaped_stands l p v (suc (suc (suc zero))) e f h =
      then_field (Standing p) s (p + 5) 8 _ tt
      (λ h₁. then_field (Standing p) s (p + 5 + 8) 8 _ tt
      (λ h₂. field_then s p 5 v _ f (field_then s (p + 5) 8 _ _ refl (field_then s (p + 5 + 8) 8 _ [] refl (none_stands s (p + 5 + 8 + 8) h₂)))))
  shaped_stands l p v (suc (suc (suc (suc zero)))) e f h = held_stands l p p _ (stands_field s p 5 3 h (sym (code_conditional v e) ∙ f))
  shaped_stands l p v (suc (suc (suc (suc (suc zero))))) e f h =
      held_stands l p p _
      (then_field (Standing p) s (p + 5) 8 _ tt (λ h₁. field_then s p 5 4 _ (sym (code_cont v e) ∙ f) (stands_field s (p + 5) 8 _ h₁ refl)))
  shaped_stands l p v (suc (suc (suc (suc (suc (suc k)))))) e f h = tt

  -- what carries an entry or a list is written anew
  then_stands : {A : Type 0} (p : ℕ) (g : Got A) (f : A → ℕ → Got Token) → ((a : A) (q : ℕ) → Standing p (f a q)) → Standing p (then g f)
  unfolding then Standing
  then_stands p (got a q) f k = k a q
  then_stands p (refused n x) f k = tt

  valid_stands : (p q : ℕ) (b : Bool) (g : Got Token) → Standing p g → Standing p (valid q b g)
  unfolding Standing
  valid_stands p q true g h = h
  valid_stands p q false g h = tt

  cond_stands : (p : ℕ) (b : Bool) (g h : Got Token) → Standing p g → Standing p h → Standing p (cond b g h)
  cond_stands p true g h i j = i
  cond_stands p false g h i j = j

  literal_stands : (p q : ℕ) → p ≤ 8 * length s → Standing p (literal_at s q)
  unfolding literal_at Standing bits_as
  literal_stands p q h =
      then_stands p (field s q 2) _
      (λ k r. valid_stands p q (eqb k 1) _ (then_stands p (field s r 3) _ (λ t z. then_stands p (constant_at s r t z) _ (λ e u. none_stands s p h))))

  token_stands : (l p : ℕ) → Standing p (token_at s l p)
  unfolding token_at code_at global_at Standing bits_as
  token_stands l p =
      then_field (Standing p) s p 5 _ tt
      (λ h. cond_stands p (eqb (field_at s p 5) 6) _ _ (literal_stands p (p + 5) (omega arith))
      (cond_stands p (eqb (field_at s p 5) 7) _ _ (held_stands l p p _ (none_stands s p (omega arith)))
      (cond_stands p (eqb (field_at s p 5) 8 || eqb (field_at s p 5) 9) _ _ (then_stands p (field s (p + 5) 8) _ (λ g r. none_stands s p (omega arith)))
      (shaped_stands l p (field_at s p 5) (shape_of (field_at s p 5)) refl refl h))))

  -- the bits of a code that was read, as they are copied
  pub token_copied : (l p : ℕ) (t : Token) (q : ℕ) → token_at s l p ≡ got t q → length (bits_as t) ≡ q - p → bits_from s p (q - p) ≡ bits_as t
  unfolding Standing
  token_copied l p t q e h = let k : Stands s p (bits_as t) = rw e at (token_stands l p) in rw (← h) (stands_from (bits_as t) k)

-- ---- lists that stand one after the other
module _ (s : List ℕ) (e : ℕ) where
  pub lists_end : (p : ℕ) (cs : List Basic) → Lists s e p cs → p ≤ e
  lists_end p [] no_lists = omega arith
  lists_end p (c ∷ cs) (next_list q h w) = let f = list_facts s 15 p h in omega (arith, f.0, lists_end q cs w)

  pub none_left : (cs : List Basic) (p : ℕ) → e ≤ p → Lists s e p cs → cs ≡ []
  none_left [] p h w = refl
  none_left (c ∷ cs) p h (next_list q i w) =
      let f = list_facts s 15 p i in absurd (omega (arith, f.0, lists_end q cs w, list_least s c))

-- ---- one code of them
-- a code from p to z that is written as it is, before the lists `left`
pub record Passing (s : List ℕ) (e p z : ℕ) (cs : List Basic) : Type 0 where
  pub left : List Basic
  pub lists : Lists s e z left
  pub closures : (n : ℕ) → closures_all n cs ≡ closures_all n left
  pub uses : (n : ℕ) → uses_all n cs ≡ uses_all n left
  pub code : (es : List Entry) (n : ℕ) → code_all es n cs ≡ bits_from s p (z - p) ++ code_all es n left
  pub size : own_all cs ≡ (z - p) + own_all left
  pub count : inside_all cs ≡ inside_all left
  pub far : p + 5 ≤ z

-- a code v that carries the entry x
pub record Carrying (s : List ℕ) (e p z : ℕ) (v : ℕ) (x : Entry) (cs : List Basic) : Type 0 where
  pub left : List Basic
  pub lists : Lists s e z left
  pub closures : (n : ℕ) → closures_all n cs ≡ closures_all n left
  pub uses : (n : ℕ) → uses_all n cs ≡ x ∷ uses_all n left
  pub code : (es : List Entry) (n : ℕ) → code_all es n cs ≡ (bits_of 5 v ++ bits_of 8 (index_of x es)) ++ code_all es n left
  pub size : own_all cs ≡ 13 + own_all left
  pub count : inside_all cs ≡ inside_all left
  pub far : p + 5 ≤ z
  pub good : TokenOk (carries_t v x)

-- a closure whose list x ends at u
pub record Closing (s : List ℕ) (e p z : ℕ) (cs : List Basic) : Type 0 where
  pub list : Basic
  pub past : ℕ
  pub read : list_at s 15 z ≡ got list past
  pub left : List Basic
  pub lists : Lists s e past left
  pub closures : (n : ℕ) → closures_all n cs ≡ template_of (suc n) list ∷ closures_all (suc n) (list ∷ left)
  pub uses : (n : ℕ) → uses_all n cs ≡ template n ∷ uses_all (suc n + inside list) left
  pub code : (es : List Entry) (n : ℕ)
      → code_all es n cs ≡ (bits_of 5 7 ++ bits_of 8 (index_of (template n) es)) ++ code_all es (suc n + inside list) left
  pub size : own_all cs ≡ 13 + own_all left
  pub count : inside_all cs ≡ suc (inside list + inside_all left)
  pub far : p + 5 ≤ z

three : {A : Type 0} (a b c d : List A) → (a ++ (b ++ c)) ++ d ≡ a ++ (b ++ (c ++ d))
three a b c d = append_assoc a (b ++ c) d ∙ ap (λ (l : List _). a ++ l) (append_assoc b c d)

-- an instruction without lists, as it is put
pub simple_return : simple 1 [] ≡ return_i
unfolding simple
simple_return = refl

pub simple_call : (n : ℕ) → simple 2 (n ∷ []) ≡ call_i n
unfolding simple
simple_call n = refl

pub simple_neutral : (v : ℕ) (ns : List ℕ) → 10 ≤ v → simple v ns ≡ neutral_i v ns
unfolding simple
simple_neutral v ns h = rw (ne_eqb v 1 (λ e. omega arith), ne_eqb v 2 (λ e. omega arith)) refl

plain_instr : (v : ℕ) (ns : List ℕ) → PlainOk v ns → instr_bits (simple v ns) ≡ bits_of 5 v ++ operands_bits ns
unfolding instr_bits operands_bits
plain_instr v ns return_ok = rw (simple_return, append-nil (bits_of 5 1)) refl
plain_instr v ns (call_ok {n} h) = rw (simple_call n, append-nil (bits_of 8 n)) refl
plain_instr v ns (neutral_ok h i j k) = rw (simple_neutral v ns h) refl

plain_bits : (v : ℕ) (ns : List ℕ) → PlainOk v ns → (c : Code) → list_bits (put (simple v ns) c) ≡ (bits_of 5 v ++ operands_bits ns) ++ list_bits c
plain_bits v ns ok c = list_put (simple v ns) c ∙ ap (λ (l : List ℕ). l ++ list_bits c) (plain_instr v ns ok)

pub plain_long : (v : ℕ) (ns : List ℕ) → PlainOk v ns → (c : Code) → bits (put (simple v ns) c) ≡ 5 + 8 * length ns + bits c
plain_long v ns ok c =
    sym (list_length (put (simple v ns) c)) ∙ ap length (plain_bits v ns ok c)
    ∙ simp (length-append, length_bits, operands_length ns, list_length c)

-- the list c stands from p to q, and then cs; its first code ends at z
module _ (s : List ℕ) (e p z q : ℕ) (c : Basic) (cs : List Basic) (read : list_at s 15 p ≡ got c q) (then-cs : Lists s e q cs) where
  onward_is : (t : Token) → token_at s 15 p ≡ got t z → onward (below s 15) (list_at s 15) t z ≡ got c q
  unfolding then
  onward_is t i = sym (list_step s 15 p ∙ rw i refl) ∙ read

  moved : (u : ℕ) → u ≡ q → Lists s e u cs
  moved u k = rw k then-cs

  token_far : (t : Token) → token_at s 15 p ≡ got t z → (z ≡ p + token_bits t) × (p + 5 ≤ z)
  token_far t i = let f = token_facts s 15 p i in (f.0, omega (arith, f.0, token_least s t))

  copied : (t : Token) → token_at s 15 p ≡ got t z → length (bits_as t) ≡ token_bits t → bits_from s p (z - p) ≡ bits_as t
  copied t i h = token_copied s 15 p t z i (omega (arith, h, (token_far t i).0))

  pub pass_ended : token_at s 15 p ≡ got ended_t z → Passing s e p z (c ∷ cs)
  unfolding onward closures_all uses_all code_all own_all inside_all closures uses indexed inside own_bits list_bits bits_as token_bits
  pass_ended i =
      let k = got_value (onward_is ended_t i) in
      let b = copied ended_t i (length_bits 5 0) in
      let far = token_far ended_t i in
      rw (← k.0)
      (record {
        left = cs;
        lists = moved z k.1;
        closures = λ n. rw (add-zero n) refl;
        uses = λ n. rw (add-zero n) refl;
        code = λ es n. rw (b, add-zero n) refl;
        size = omega (arith, far.0);
        count = omega arith;
        far = far.1;
      })

  pub pass_plain : (v : ℕ) (ns : List ℕ) → token_at s 15 p ≡ got (plain_t v ns) z → Passing s e p z (c ∷ cs)
  unfolding onward closures_all uses_all code_all own_all inside_all closures uses indexed inside own_bits bits_as token_bits TokenOk
  pass_plain v ns i =
      let b = copied (plain_t v ns) i (simp (length-append, length_bits, operands_length ns)) in
      let far = token_far (plain_t v ns) i in
      let ok = (token_facts s 15 p i).2 in
      then_led (list_at s 15 z) _ (onward_is (plain_t v ns) i)
      (λ r u j g. let k = got_value g in rw (← k.0)
      (record {
        left = r ∷ cs;
        lists = next_list u j (moved u k.1);
        closures = λ n. refl;
        uses = λ n. refl;
        code = λ es n. rw (b, plain_bits v ns ok (indexed es n r)) (append_assoc (bits_of 5 v ++ operands_bits ns) (list_bits (indexed es n r)) _);
        size = omega (arith, far.0);
        count = refl;
        far = far.1;
      }))

  pub pass_carries : (v : ℕ) (x : Entry) → token_at s 15 p ≡ got (carries_t v x) z → Carrying s e p z v x (c ∷ cs)
  unfolding onward closures_all uses_all code_all own_all inside_all closures uses indexed inside own_bits list_bits operands_bits
  pass_carries v x i =
      let far = token_far (carries_t v x) i in
      let ok = (token_facts s 15 p i).2 in
      then_led (list_at s 15 z) _ (onward_is (carries_t v x) i)
      (λ r u j g. let k = got_value g in rw (← k.0)
      (record {
        left = r ∷ cs;
        lists = next_list u j (moved u k.1);
        closures = λ n. refl;
        uses = λ n. refl;
        code = λ es n.
            rw (append-nil (bits_of 8 (index_of x es))) (append_assoc (bits_of 5 v ++ bits_of 8 (index_of x es)) (list_bits (indexed es n r)) _);
        size = omega arith;
        count = refl;
        far = far.1;
        good = ok;
      }))

  pub pass_closure : token_at s 15 p ≡ got closure_t z → Closing s e p z (c ∷ cs)
  unfolding onward closures_all uses_all code_all own_all inside_all closures uses indexed inside own_bits list_bits operands_bits
  pass_closure i =
      let far = token_far closure_t i in
      then_led (below s 15 z) _ (onward_is closure_t i)
      (λ x y d on. then_led (list_at s 15 y) _ on
      (λ r u j g. let k = got_value g in rw (← k.0)
      (record {
        list = x;
        past = y;
        read = below_15 s z y x d;
        left = r ∷ cs;
        lists = next_list u j (moved u k.1);
        closures = λ n. (let m : n + suc (inside x + inside r) ≡ suc n + inside x + inside r = omega arith in
            rw m (ap (λ (l : List Template). template_of (suc n) x ∷ l) (append_assoc (closures (suc n) x) (closures (suc n + inside x) r) _)));
        uses = λ n. (let m : n + suc (inside x + inside r) ≡ suc n + inside x + inside r = omega arith in rw m refl);
        code = λ es n. (let m : n + suc (inside x + inside r) ≡ suc n + inside x + inside r = omega arith in
            rw (m, append-nil (bits_of 8 (index_of (template n) es)))
            (append_assoc (bits_of 5 7 ++ bits_of 8 (index_of (template n) es)) (list_bits (indexed es (suc n + inside x) r)) _));
        size = omega arith;
        count = omega arith;
        far = far.1;
      })))

  pub pass_branch : token_at s 15 p ≡ got branch_t z → Passing s e p z (c ∷ cs)
  unfolding onward closures_all uses_all code_all own_all inside_all closures uses indexed inside own_bits list_bits bits_as token_bits
  pass_branch i =
      let b = copied branch_t i (length_bits 5 3) in
      let far = token_far branch_t i in
      then_led (below s 15 z) _ (onward_is branch_t i)
      (λ x y d on. then_led (below s 15 y) _ on
      (λ x₂ y₂ d₂ on₂. then_led (list_at s 15 y₂) _ on₂
      (λ r u j g. let k = got_value g in rw (← k.0)
      (record {
        left = x ∷ x₂ ∷ r ∷ cs;
        lists = next_list y (below_15 s z y x d) (next_list y₂ (below_15 s y y₂ x₂ d₂) (next_list u j (moved u k.1)));
        closures = λ n. (let m : n + (inside x + (inside x₂ + inside r)) ≡ n + inside x + inside x₂ + inside r = omega arith in
            rw m
            (three (closures n x) (closures (n + inside x) x₂) (closures (n + inside x + inside x₂) r)
            (closures_all (n + inside x + inside x₂ + inside r) cs)));
        uses = λ n. (let m : n + (inside x + (inside x₂ + inside r)) ≡ n + inside x + inside x₂ + inside r = omega arith in
            rw m (three (uses n x) (uses (n + inside x) x₂) (uses (n + inside x + inside x₂) r) (uses_all (n + inside x + inside x₂ + inside r) cs)));
        code = λ es n. (let m : n + (inside x + (inside x₂ + inside r)) ≡ n + inside x + inside x₂ + inside r = omega arith in
            rw (m, b) (simp append_assoc));
        size = omega (arith, far.0);
        count = omega arith;
        far = far.1;
      }))))

  pub pass_save : (m : ℕ) → token_at s 15 p ≡ got (save_t m) z → Passing s e p z (c ∷ cs)
  unfolding onward closures_all uses_all code_all own_all inside_all closures uses indexed inside own_bits list_bits bits_as token_bits
  pass_save m i =
      let b = copied (save_t m) i (simp (length-append, length_bits)) in
      let far = token_far (save_t m) i in
      then_led (below s 15 z) _ (onward_is (save_t m) i)
      (λ x y d on. then_led (list_at s 15 y) _ on
      (λ r u j g. let k = got_value g in rw (← k.0)
      (record {
        left = x ∷ r ∷ cs;
        lists = next_list y (below_15 s z y x d) (next_list u j (moved u k.1));
        closures = λ n. rw (← add_assoc n (inside x) (inside r)) (append_assoc (closures n x) (closures (n + inside x) r) _);
        uses = λ n. rw (← add_assoc n (inside x) (inside r)) (append_assoc (uses n x) (uses (n + inside x) r) _);
        code = λ es n. rw (← add_assoc n (inside x) (inside r), b) (simp append_assoc);
        size = omega (arith, far.0);
        count = omega arith;
        far = far.1;
      })))
