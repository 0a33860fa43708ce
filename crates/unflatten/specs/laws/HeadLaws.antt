-- The first instruction of a region, where it stands in the file. Assumes nothing.
use Prim.Native.Nat.{ℕ, zero, suc, ◌+◌, ◌-◌, ◌≤◌, ◌<◌}
use native.Mathlib.Omega.{arith}
use Rattle.std.specs.Prelude.{◌≡◌, Bool, cond, not, ◌&&◌, ◌||◌, List, [], ◌∷◌, get_or}
use Rattle.std.proofs.Math.Path.{refl, sym, ap}
use Rattle.std.proofs.Common.{◌∙◌, subst}
use Rattle.std.proofs.Math.Bool.{true, false, and-eq-true_iff}
use Rattle.std.proofs.Math.Option.{none}
use Rattle.std.specs.Prelude.{Option as OrNone, None, Some}
use borrow.Author.Tests.{le-leb, lt-leb, leb-true, leb-false, ltb-true, ltb-false, lt-ltb, le-ltb, eqb-true, eqb-false, eq-eqb, ne_eqb}
use Rattle.std.proofs.Math.ListN.{length, take, drop, length-take, get_or-eq_default}
use Rattle.std.proofs.Math.Dec.{leb, ltb, eqb}
use Rattle.lists.specs.laws.Each.{below, below_at}
use Rattle.files.specs.Codes.{shapes, shape_of, is_neutral, operands}
use Rattle.files.specs.Code.{simple}
use Rattle.back.specs.Unflat.{after, ends_in_jump, last_offset, before_jump, on, test}
use Rattle.unflatten.specs.declared.Head.{Head}
use Rattle.unflatten.specs.declared.Head.TheVariants.{Plain, Split, Save}
use Rattle.unflatten.specs.Found.{part, found, offset_at}
use Rattle.unflatten.specs.Heads.{plain_item, head_item, head_rest, head_found, HeadIs, open_head}
use Rattle.unflatten.specs.laws.Regions.{part_empty, part_cons, part_length, part_drop, part_take, part_at}
use Rattle.unflatten.specs.laws.Kept.{found_end, found_neutral, found_cut, found_no_code, found_zero, found_ending, found_not_ending}
use Rattle.unflatten.specs.laws.Kept.{found_unless_short, found_unless_last, found_far, found_loose, found_closed, found_empty_first, found_empty_second}
use Rattle.unflatten.specs.laws.Kept.{found_far_second, found_open, found_cont_short, found_cont_last, found_cont_far, found_cont}

-- ---- shapes: only code 0 has shape 0, and from 32 on there is no code
all_some : List ℕ → Bool
all_some [] = true
all_some (x ∷ l) = leb 1 x && all_some l

some_at : (l : List ℕ) (d n : ℕ) → 1 ≤ d → all_some l ≡ true → 1 ≤ get_or l n d
unfolding all_some
some_at [] d n h e = h
some_at (x ∷ l) d zero h e = leb-true 1 x ((and-eq-true_iff (leb 1 x) (all_some l)).0 e).0
some_at (x ∷ l) d (suc n) h e = some_at l d n h ((and-eq-true_iff (leb 1 x) (all_some l)).0 e).1

all_up_to : ℕ → List ℕ → Bool
all_up_to b [] = true
all_up_to b (x ∷ l) = leb x b && all_up_to b l

pub shape_some : (op : ℕ) → 1 ≤ op → 1 ≤ shape_of op
unfolding shape_of all_some
shape_some zero h = absurd (omega arith)
shape_some (suc n) h = some_at (drop 1 shapes) 6 n (omega arith) refl

pub shape_out : (op : ℕ) → 31 < op → 6 ≡ shape_of op
unfolding shape_of
shape_out op h = let f : 32 ≤ op = omega arith in sym (get_or-eq_default shapes 6 f)

pub shape_code : (op n : ℕ) → shape_of op ≡ n → n ≤ 3 → op < 32
shape_code op n e h = go (leb 32 op) refl
  where
    go : (b : Bool) → leb 32 op ≡ b → op < 32
    go true f = let z : 6 ≡ shape_of op = shape_out op (omega (arith, leb-true 32 op f)) in absurd (omega arith)
    go false f = omega (arith, leb-false 32 op f)

pub after_other : (op : ℕ) → (op ≡ 3 → ⊥) → (op ≡ 4 → ⊥) → (op ≡ 5 → ⊥) → after op ≡ shape_of op - 1
unfolding after operands
after_other op a b c = rw (ne_eqb op 3 a, ne_eqb op 4 b, ne_eqb op 5 c) refl

-- only code 3 has two lists, only code 4 a list
only : ℕ → ℕ → ℕ → Bool
only k v op = not (eqb (shape_of op) k) || eqb op v

by_only : (k v op : ℕ) → k ≤ 5 → below (only k v) 32 ≡ true → shape_of op ≡ k → op ≡ v
unfolding only
by_only k v op few e is = go (leb 32 op) refl
  where
    go : (b : Bool) → leb 32 op ≡ b → op ≡ v
    go true f = let z : 6 ≡ shape_of op = shape_out op (omega (arith, leb-true 32 op f)) in absurd (omega arith)
    go false f =
        let z : (not (eqb (shape_of op) k) || eqb op v) ≡ true = below_at (only k v) 32 e op (omega (arith, leb-false 32 op f)) in
        eqb-true op v (rw (eq-eqb (shape_of op) k is) at z)

pub branch_code : (op : ℕ) → shape_of op ≡ 4 → op ≡ 3
unfolding only below shape_of
branch_code op e = by_only 4 3 op (omega arith) refl e

pub save_code : (op : ℕ) → shape_of op ≡ 5 → op ≡ 4
unfolding only below shape_of
save_code op e = by_only 5 4 op (omega arith) refl e

pub after_without : (op : ℕ) → (op ≡ 5 → ⊥) → (shape_of op ≡ 4 → ⊥) → (shape_of op ≡ 5 → ⊥) → after op ≡ shape_of op - 1
unfolding shape_of
after_without op h a b = after_other op (λ z. a (ap shape_of z)) (λ z. b (ap shape_of z)) h

few_at : (l : List ℕ) (d n b : ℕ) → d ≤ b → all_up_to b l ≡ true → get_or l n d ≤ b
unfolding all_up_to
few_at [] d n b h e = h
few_at (x ∷ l) d zero b h e = leb-true x b ((and-eq-true_iff (leb x b) (all_up_to b l)).0 e).0
few_at (x ∷ l) d (suc n) b h e = few_at l d n b h ((and-eq-true_iff (leb x b) (all_up_to b l)).0 e).1

pub shape_few : (op : ℕ) → shape_of op ≤ 6
unfolding shape_of all_up_to
shape_few op = few_at shapes 6 op 6 (omega arith) refl

pub after_few : (op : ℕ) → after op ≤ 5
unfolding after operands
after_few op = go (eqb op 3) (eqb op 4) (eqb op 5)
  where
    go : (a b c : Bool) → cond a 2 (cond b 3 (cond c 2 (shape_of op - 1))) ≤ 5
    go true b c = omega arith
    go false true c = omega arith
    go false false true = omega arith
    go false false false = omega (arith, shape_few op)

pub after_low : (n op : ℕ) → n ≡ after op → n ≤ 5
after_low n op e = omega (arith, after_few op)

pub shape_low : (n op : ℕ) → n ≡ shape_of op → 1 ≤ op → 1 ≤ n
shape_low n op e h = omega (arith, shape_some op h)

ending_operands : (n : ℕ) → n ≤ 1 → operands (suc n) ≡ n
unfolding operands shape_of
ending_operands zero h = refl
ending_operands (suc zero) h = refl
ending_operands (suc (suc n)) h = absurd (omega arith)

-- ---- where nothing is found
module _ (s : List ℕ) (l : ℕ) (k : Bool) (p e : ℕ) (lt : p < e) (le : e ≤ length s) where
  no_head : ((ok : ℕ → ℕ → Bool) → found ok l k (get_or s p 0 ∷ part (p + 1) e s) ≡ none) → HeadIs s l k p e None
  unfolding head_found head_item on
  no_head h = record { finds = λ ok. ap (found ok l k) (part_cons s p e lt le) ∙ h ok; within = tt }

  rest_long : length (part (p + 1) e s) ≡ e - (p + 1)
  rest_long = part_length s (p + 1) e le

  pub head_zero : get_or s p 0 ≡ 0 → HeadIs s l k p e None
  head_zero c = no_head (λ ok. rw c (found_zero ok l k (part (p + 1) e s)))

  pub head_last_3 : get_or s p 0 ≡ 3 → l ≡ 0 → HeadIs s l k p e None
  head_last_3 c z = no_head (λ ok. rw (c, z) (found_unless_last ok k (part (p + 1) e s)))

  pub head_last_4 : get_or s p 0 ≡ 4 → l ≡ 0 → HeadIs s l k p e None
  head_last_4 c z = no_head (λ ok. rw (c, z) (found_cont_last ok k (part (p + 1) e s)))

  -- ---- neutral codes
  module _ (op : ℕ) (code : op ≡ get_or s p 0) (five : 5 ≤ op) where
    pub head_no_code : 3 < shape_of op → HeadIs s l k p e None
    unfolding is_neutral
    head_no_code h = no_head (λ ok. rw (← code) (found_no_code ok l k op (part (p + 1) e s) (go (leb 6 op)) five))
      where
        go : (b : Bool) → (b && leb (shape_of op) 3) ≡ false
        go true = lt-leb (shape_of op) 3 h
        go false = refl

    module _ (n : ℕ) (shape : shape_of op ≤ 3) (size : n ≡ shape_of op - 1) where
      six : 6 ≤ op
      six = go (eqb op 5) refl
        where
          go : (b : Bool) → eqb op 5 ≡ b → 6 ≤ op
          go true f = let z : shape_of op ≡ shape_of 5 = ap shape_of (eqb-true op 5 f) in let y : shape_of 5
              ≡ 6 = unfold shape_of in refl in absurd (omega arith)
          go false f = let z = eqb-false op 5 f in omega arith

      is_neutral_lem : is_neutral op ≡ true
      unfolding is_neutral
      is_neutral_lem = rw (le-leb 6 op six, le-leb (shape_of op) 3 shape) refl

      takes : operands op ≡ n
      unfolding operands
      takes = sym size

      pub head_cut : e - p < 1 + n → HeadIs s l k p e None
      head_cut h = no_head (λ ok. rw (← code) (found_cut ok l k op n (part (p + 1) e s) is_neutral_lem takes (omega (arith, rest_long))))

      pub head_neutral : 1 + n ≤ e - p → HeadIs s l k p e (Some (Plain n))
      unfolding head_found head_item head_rest plain_item simple
      head_neutral h =
          let f : n ≤ length (part (p + 1) e s) = omega (arith, rest_long) in
          let first : take n (part (p + 1) e s) ≡ part (p + 1) (p + 1 + n) s = part_take s n (p + 1) e (omega arith) in
          let rest : drop n (part (p + 1) e s) ≡ part (p + 1 + n) e s = part_drop s n (p + 1) e in
          record {
            finds = λ ok. ap (found ok l k) (part_cons s p e lt le)
                ∙ rw (
                  ← code,
                  ← first,
                  ← rest,
                  lt-leb op 5 (omega (arith, six)),
                  le-leb 6 op six,
                  ne_eqb op 1 (λ z. omega (arith, six)),
                  ne_eqb op 2
                      (λ z. omega (arith, six)),
                )
                (found_neutral ok l k op n (part (p + 1) e s) is_neutral_lem takes f);
            within = (omega arith, omega arith, ap operands (sym code) ∙ takes, omega (arith, shape_code op (shape_of op) refl shape));
          }

  -- ---- return and call
  module _ (n : ℕ) (few : n ≤ 1) (code : get_or s p 0 ≡ n + 1) where
    is_code : get_or s p 0 ≡ suc n
    is_code = omega arith

    pub head_not_ending : (e - p ≡ 1 + n → ⊥) → HeadIs s l k p e None
    head_not_ending h = no_head (λ ok. rw is_code (found_not_ending ok l k n (part (p + 1) e s) few (λ z. h (omega (arith, rest_long)))))

    module _ (end : e - p ≡ 1 + n) where
      long : length (part (p + 1) e s) ≡ n
      long = omega (arith, rest_long)

      pub head_loose : k ≡ false → HeadIs s l k p e None
      unfolding test
      head_loose f = no_head (λ ok. rw (is_code, f) (found_ending ok l false n (part (p + 1) e s) few long))

      pub head_ending : k ≡ true → HeadIs s l k p e (Some (Plain n))
      unfolding head_found head_item head_rest plain_item on test
      head_ending f =
          let x : p + 1 + n ≡ e = omega arith in
          let op : operands (suc n) ≡ n = ending_operands n few in
          record {
            finds = λ ok. ap (found ok l k) (part_cons s p e lt le)
                ∙ rw (is_code, f, x, part_empty s e, le-leb (suc n) 5 (omega arith), lt-leb 6 (suc n) (omega arith), found_end ok l)
                (found_ending ok l true n (part (p + 1) e s) few long);
            within = (omega arith, omega arith, ap operands is_code ∙ op, omega arith);
          }

  -- ---- three bytes at once
  pub three_bytes_lem : p + 3 ≤ e → part p e s ≡ get_or s p 0 ∷ get_or s (p + 1) 0 ∷ get_or s (p + 1 + 1) 0 ∷ part (p + 3) e s
  three_bytes_lem h =
      let x : p + 1 + 1 + 1 ≡ p + 3 = omega arith in
      part_cons s p e lt le ∙ ap (λ (w : List ℕ). get_or s p 0 ∷ w)
      (part_cons s (p + 1) e (omega arith) le
      ∙ ap (λ (w : List ℕ). get_or s (p + 1) 0 ∷ w) (part_cons s (p + 1 + 1) e (omega arith) le ∙ rw x refl))

  pub cond_short : get_or s p 0 ≡ 3 → e - p < 3 → HeadIs s l k p e None
  cond_short c h = no_head (λ ok. rw c (found_unless_short ok l k (part (p + 1) e s) (omega (arith, rest_long))))

  pub cont_short : get_or s p 0 ≡ 4 → e - p < 4 → HeadIs s l k p e None
  cont_short c h = no_head (λ ok. rw c (found_cont_short ok l k (part (p + 1) e s) (omega (arith, rest_long))))

-- ---- a conditional, one level above the last
module _ (s : List ℕ) (d : ℕ) (k : Bool) (p e n : ℕ) (le : e ≤ length s) (three : p + 3 ≤ e) (code : get_or s p 0 ≡ 3) (size : n ≡ offset_at s (p + 1)) where
  abbrev rest : List ℕ
  rest = part (p + 3) e s

  abbrev turn : ℕ
  turn = p + 3 + n

  whole : part p e s ≡ 3 ∷ get_or s (p + 1) 0 ∷ get_or s (p + 1 + 1) 0 ∷ rest
  whole = three_bytes_lem s (suc d) k p e (omega arith) le three ∙ rw code refl

  nothing_here : ((ok : ℕ → ℕ → Bool) → found ok (suc d) k (3 ∷ get_or s (p + 1) 0 ∷ get_or s (p + 1 + 1) 0 ∷ rest) ≡ none) → HeadIs s (suc d) k p e None
  unfolding head_found head_item on
  nothing_here h = record { finds = λ ok. ap (found ok (suc d) k) whole ∙ h ok; within = tt }

  pub cond_far : e - (p + 3) < n → HeadIs s (suc d) k p e None
  cond_far h = nothing_here (λ ok. found_far ok d k _ _ n rest (sym size) (omega (arith, part_length s (p + 3) e le)))

  module _ (fits : n ≤ e - (p + 3)) where
    enough : n ≤ length rest
    enough = omega (arith, part_length s (p + 3) e le)

    first : take n rest ≡ part (p + 3) turn s
    first = part_take s n (p + 3) e (omega arith)

    second : drop n rest ≡ part turn e s
    second = part_drop s n (p + 3) e

    one_less : suc d - 1 ≡ d
    one_less = omega arith

    pub cond_loose : k ≡ false → ends_in_jump (part (p + 3) turn s) ≡ false → HeadIs s (suc d) k p e None
    cond_loose f j = nothing_here (λ ok. found_loose ok d k _ _ n rest (sym size) enough f (ap ends_in_jump first ∙ j))

    pub cond_closed : k ≡ true → ends_in_jump (part (p + 3) turn s) ≡ false
        → HeadIs s (suc d) k p e (Some (Split (record { closed = true; mid = turn; turn = turn; end = e })))
    unfolding head_found head_item head_rest
    cond_closed f j =
        record {
          finds = λ ok. ap (found ok (suc d) k) whole
              ∙ rw (part_empty s e, one_less, ← first, ← second) (found_closed ok d k _ _ n rest (sym size) enough f (ap ends_in_jump first ∙ j));
          within = (omega arith, omega arith, omega arith, omega arith, omega arith);
        }

    module _ (j : ends_in_jump (part (p + 3) turn s) ≡ true) where
      jumps : ends_in_jump (take n rest) ≡ true
      jumps = ap ends_in_jump first ∙ j

      first_long : length (take n rest) ≡ n
      first_long = ap length first ∙ part_length s (p + 3) turn (omega arith) ∙ omega arith

      before_long : length (before_jump (take n rest)) ≡ n - 3
      unfolding before_jump
      before_long = simp length-take (omega (arith, enough))

      module _ (four : 7 ≤ turn - p) where
        last : last_offset (take n rest) ≡ offset_at s (turn - 2)
        unfolding last_offset
        last =
            let a : p + 3 + (n - 2) ≡ turn - 2 = omega arith in
            let b : p + 3 + (n - 1) ≡ turn - 2 + 1 = omega arith in
            rw (first_long, first, part_at s (p + 3) turn (n - 2) (omega arith), part_at s (p + 3) turn (n - 1) (omega arith), a, b) refl

        before : before_jump (take n rest) ≡ part (p + 3) (turn - 3) s
        unfolding before_jump
        before =
            let a : p + 3 + (n - 3) ≡ turn - 3 = omega arith in
            rw (first_long, first) (part_take s (n - 3) (p + 3) turn (omega arith) ∙ rw a refl)

        some_before : 1 ≤ length (before_jump (take n rest))
        some_before = omega (arith, before_long)

        abbrev m : ℕ
        m = offset_at s (turn - 2)

        pub open_none : m < 1 → HeadIs s (suc d) k p e None
        open_none h = nothing_here (λ ok. found_empty_second ok d k _ _ n rest (sym size) enough m last jumps some_before h)

        pub open_far : 1 ≤ m → e - turn < m → HeadIs s (suc d) k p e None
        open_far g h =
            nothing_here (λ ok. found_far_second ok d k _ _ n rest (sym size) enough m last jumps some_before g
            (rw second (omega (arith, part_length s turn e le))))

        pub open_arms : 1 ≤ m → m ≤ e - turn → HeadIs s (suc d) k p e (Some (Split (record { closed = false; mid = turn - 3; turn = turn; end = turn + m })))
        unfolding head_found head_item head_rest
        open_arms g h =
            let a : take m (drop n rest) ≡ part turn (turn + m) s = ap (take m) second ∙ part_take s m turn e (omega arith) in
            let b : drop m (drop n rest) ≡ part (turn + m) e s = ap (drop m) second ∙ part_drop s m turn e in
            record {
              finds = λ ok. ap (found ok (suc d) k) whole
                  ∙ rw (one_less, ← before, ← a, ← b)
                  (found_open ok d k _ _ n rest (sym size) enough m last jumps some_before g (rw second (omega (arith, part_length s turn e le))));
              within = (omega arith, omega arith, omega arith, omega arith, omega arith);
            }

      pub open_short : turn - p < 7 → HeadIs s (suc d) k p e None
      open_short h =
          nothing_here (λ ok. found_empty_first ok d k _ _ n rest (sym size) enough (last_offset (take n rest)) refl jumps (omega (arith, before_long)))

      pub open_head_lem : HeadIs s (suc d) k p e (open_head s p turn e)
      unfolding open_head
      open_head_lem = go (ltb (turn - p) 7) (eqb (offset_at s (turn - 2)) 0) (ltb (e - turn) (offset_at s (turn - 2))) refl refl refl
        where
          go : (a b c : Bool) → ltb (turn - p) 7 ≡ a → eqb (offset_at s (turn - 2)) 0 ≡ b → ltb (e - turn) (offset_at s (turn - 2)) ≡ c
              → HeadIs s (suc d) k p e
              (cond a None (cond b None (cond c None (Some (Split (record {
                closed = false;
                mid = turn - 3;
                turn = turn;
                end = turn + offset_at s (turn - 2);
              }))))))
          go true b c f g h = open_short (ltb-true (turn - p) 7 f)
          go false true c f g h = open_none (ltb-false (turn - p) 7 f) (omega (arith, eqb-true (offset_at s (turn - 2)) 0 g))
          go false false true f g h =
              let z = eqb-false (offset_at s (turn - 2)) 0 g in
              open_far (ltb-false (turn - p) 7 f) (omega arith) (ltb-true (e - turn) (offset_at s (turn - 2)) h)
          go false false false f g h =
              let z = eqb-false (offset_at s (turn - 2)) 0 g in
              open_arms (ltb-false (turn - p) 7 f) (omega arith) (ltb-false (e - turn) (offset_at s (turn - 2)) h)

      pub open_told : {h : OrNone Head} → h ≡ open_head s p turn e → HeadIs s (suc d) k p e h
      open_told {h} z = subst (λ (h : OrNone Head). HeadIs s (suc d) k p e h) (sym z) open_head_lem

-- ---- a make-cont, one level above the last
module _ (s : List ℕ) (d : ℕ) (k : Bool) (p e n : ℕ) (le : e ≤ length s) (four : p + 4 ≤ e) (code : get_or s p 0 ≡ 4) (size : n ≡ offset_at s (p + 1)) where
  all_four : part p e s ≡ 4 ∷ get_or s (p + 1) 0 ∷ get_or s (p + 1 + 1) 0 ∷ get_or s (p + 3) 0 ∷ part (p + 4) e s
  all_four =
      let x : p + 3 + 1 ≡ p + 4 = omega arith in
      three_bytes_lem s (suc d) k p e (omega arith) le (omega arith)
      ∙ rw (code, part_cons s (p + 3) e (omega arith) le, x) refl

  pub cont_far : e - (p + 4) < n → HeadIs s (suc d) k p e None
  unfolding head_found head_item on
  cont_far h =
      record {
        finds =
            λ ok. ap (found ok (suc d) k) all_four ∙ found_cont_far ok d k _ _ _ n (part (p + 4) e s) (sym size) (omega (arith, part_length s (p + 4) e le));
        within = tt;
      }

  pub cont_head : n ≤ e - (p + 4) → HeadIs s (suc d) k p e (Some (Save (p + 4 + n)))
  unfolding head_found head_item head_rest
  cont_head h =
      let one_less : suc d - 1 ≡ d = omega arith in
      let first : take n (part (p + 4) e s) ≡ part (p + 4) (p + 4 + n) s = part_take s n (p + 4) e (omega arith) in
      let second : drop n (part (p + 4) e s) ≡ part (p + 4 + n) e s = part_drop s n (p + 4) e in
      record {
        finds = λ ok. ap (found ok (suc d) k) all_four
            ∙ rw (one_less, ← first, ← second) (found_cont ok d k _ _ _ n (part (p + 4) e s) (sym size) (omega (arith, part_length s (p + 4) e le)));
        within = (omega arith, omega arith, omega arith);
      }

-- by a number of levels that is not 0
pub levelled : (s : List ℕ) (l : ℕ) (k : Bool) (p e : ℕ) (h : OrNone Head) → (l ≡ 0 → ⊥) → HeadIs s (suc (l - 1)) k p e h → HeadIs s l k p e h
levelled s zero k p e h f i = absurd (f refl)
levelled s (suc l) k p e h f i = let z : suc (suc l - 1) ≡ suc l = omega arith in subst (λ (m : ℕ). HeadIs s m k p e h) z i

-- ---- the tests of open arms, one after the other
module _ (s : List ℕ) (p turn e : ℕ) where
  pub open_0 : turn - p < 7 → None ≡ open_head s p turn e
  unfolding open_head
  open_0 h = rw (lt-ltb (turn - p) 7 h) refl

  module _ (h : 7 ≤ turn - p) (n : ℕ) (size : n ≡ offset_at s (turn - 2)) where
    pub open_1 : n ≡ 0 → None ≡ open_head s p turn e
    unfolding open_head
    open_1 z = rw (le-ltb (turn - p) 7 h, ← size, z) refl

    module _ (z : n ≡ 0 → ⊥) where
      pub open_2 : e - turn < n → None ≡ open_head s p turn e
      unfolding open_head
      open_2 g = rw (le-ltb (turn - p) 7 h, ← size, ne_eqb n 0 z, lt-ltb (e - turn) n g) refl

      pub open_3 : n ≤ e - turn → Some (Split (record { closed = false; mid = turn - 3; turn = turn; end = turn + n })) ≡ open_head s p turn e
      unfolding open_head
      open_3 g = rw (le-ltb (turn - p) 7 h, ← size, ne_eqb n 0 z, le-ltb (e - turn) n g) refl
