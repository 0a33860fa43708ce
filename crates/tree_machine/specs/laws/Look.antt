-- What the links find at a real place of a list is what stands there. Assumes nothing.
use Prim.Native.Nat.{ℕ, zero, suc, ◌+◌, ◌*◌, ◌≤◌, ◌<◌}
use native.Mathlib.Omega.{arith}
use Rattle.std.specs.Prelude.{◌≡◌, Bool, true, false, cond, not, length, get_or}
use Rattle.std.proofs.Math.Path.{refl, sym}
use Rattle.std.proofs.Common.{ap, ◌∙◌, inl, inr}
use mathlib.Core.List.{List, [], ◌∷◌}
use Rattle.std.proofs.Math.Option.{Option, none, some}
use borrow.Author.Tests.{ne_eqb}
use Rattle.fields.specs.laws.Laws.{value_of, field_small}
use Rattle.files.specs.Codes.{shape_of}
use Rattle.files.specs.Code.{Code, done, neutral, return, call, unless_false, make_cont, bits}
use Rattle.files.specs.Entries.{Entry}
use Rattle.files.specs.Grammar.{is_closed}
use Rattle.links.specs.Links.{link_at}
use Rattle.links.specs.laws.LinksLaws.{Linked}
use Rattle.links.specs.laws.Stands.{Reads, Operands, Takes, ListStands}
use Rattle.machines.specs.Fetched.{Fetched, plain, returns, calls, branches, saves, jumps, bad, plainly, resolve, first, look}
use Rattle.machines.specs.laws.FetchedLaws.{look_first, look_neutral, look_first_arm, look_second_arm, look_after_arms, look_saved, look_after_saved}
use Rattle.machines.specs.Slots.{slot_at, slot_resolve}
use Rattle.rules.specs.declared.Plain.{Plain}
use Rattle.tree_code.specs.Fetch.{is_end, settled, with_read, shaped_as, instruction_at}
use Rattle.tree_machine.specs.laws.Real.{fits, false_true, Arms, open_arms, closed_arms, arms, Saved, open_saved, closed_saved, saved, after_neutral}
use Rattle.tree_machine.specs.laws.Real.{Real, first_real, real_within, arms_fit_lem, saved_fits, none_real}

-- what the code can see of an instruction: not whether a conditional is open
unfoldable pub seen : Fetched → Fetched
seen (plain i p) = plain i p
seen returns = returns
seen (calls n) = calls n
seen (branches o p q) = branches 0 p q
seen (saves n p q) = saves n p q
seen (jumps p) = jumps p
seen bad = bad

-- P of the places where an instruction goes on
unfoldable pub Leads : (ℕ → Type 0) → Fetched → Type 0
Leads P (plain i p) = P p
Leads P returns = Unit
Leads P (calls n) = Unit
Leads P (branches o p q) = P p × P q
Leads P (saves n p q) = (n < 256) × P p × P q
Leads P (jumps p) = P p
Leads P bad = Unit

seen_plainly : (o : Option Plain) (p : ℕ) → seen (plainly o p) ≡ plainly o p
unfolding seen plainly
seen_plainly none p = refl
seen_plainly (some i) p = refl

leads_plainly : (P : ℕ → Type 0) (o : Option Plain) (p : ℕ) → P p → Leads P (plainly o p)
unfolding Leads plainly
leads_plainly P none p h = tt
leads_plainly P (some i) p h = h

-- the end of a list, and its link
ends_at : (s L : List ℕ) (c : Code) (l a e f : ℕ) → ListStands s l a c → Linked L a e f c → e + 5 ≡ a + bits c → Reads s e 5 0 × (link_at L e ≡ f)
unfolding ListStands Linked bits
ends_at s L done l a e f st li h = let z : e ≡ a = omega arith in rw z (st, li)
ends_at s L (neutral op ns r) l a e f st li h = ends_at s L r l _ e f st.3 li (omega arith)
ends_at s L (return r) l a e f st li h = ends_at s L r l _ e f st.1 li (omega arith)
ends_at s L (call n r) l a e f st li h = ends_at s L r l _ e f st.2 li (omega arith)
ends_at s L (unless_false x y r) zero a e f st li h = absurd st
ends_at s L (unless_false x y r) (suc l) a e f st li h = ends_at s L r (suc l) _ e f st.3 li.3 (omega arith)
ends_at s L (make_cont n x r) zero a e f st li h = absurd st
ends_at s L (make_cont n x r) (suc l) a e f st li h = ends_at s L r (suc l) _ e f st.3 li.2 (omega arith)

byte_small : (s : List ℕ) (p n : ℕ) → Reads s p 8 n → n < 256
byte_small s p n c = omega (arith, (value_of s p 8 n _ c).0, field_small s p 8)

operand_small : (s : List ℕ) (p : ℕ) (ns : List ℕ) → Operands s p ns → get_or ns 0 0 < 256
unfolding Operands
operand_small s p [] o = omega arith
operand_small s p (n ∷ ns) o = byte_small s p n o.0

module _ (s L table : List ℕ) (t : ℕ) (es : List Entry) (P : ℕ → Type 0) where
  -- from p, after n links at most, an instruction is found that is F, and its places are P's
  pub record Found (n p : ℕ) (F : Fetched) : Type 0 where
    pub place : ℕ
    pub reached : (m : ℕ) → n ≤ m → settled s L m p ≡ place
    pub stands : instruction_at s L table t place ≡ seen F
    pub leads : Leads P F

  pub later : {n m p : ℕ} {F : Fetched} → n ≤ m → Found n p F → Found m p F
  later h x = record { place = x.place; reached = λ k j. x.reached k (omega arith); stands = x.stands; leads = x.leads }

  -- at an instruction
  found_here : {n p : ℕ} {F : Fetched} (v : ℕ) → Reads s p 5 v → (v ≡ 0 → ⊥) → instruction_at s L table t p ≡ seen F → Leads P F → Found n p F
  unfolding settled is_end
  found_here {n} {p} {F} v c z e h = record { place = p; reached = λ m j. stays m; stands = e; leads = h }
    where
      stays : (m : ℕ) → settled s L m p ≡ p
      stays zero = refl
      stays (suc m) = rw (c, ne_eqb v 0 z)

  -- at a list's end
  found_on : {n p f : ℕ} {F : Fetched} → Reads s p 5 0 → link_at L p ≡ f → Found n f F → Found (suc n) p F
  unfolding settled is_end
  found_on {n} {p} {f} {F} c e x = record { place = x.place; reached = on; stands = x.stands; leads = x.leads }
    where
      on : (m : ℕ) → suc n ≤ m → settled s L m p ≡ x.place
      on zero h = absurd (omega arith)
      on (suc m) h = rw (c, e) (x.reached m (omega arith))

  -- ---- an instruction, by its fields
  neutral_at : (p op : ℕ) (ns : List ℕ) → Reads s p 5 op → Takes op ns → Operands s (p + 5) ns → (o : Option Plain)
      → slot_resolve (slot_at table t) op (get_or ns 0 0) (get_or ns 1 0) ≡ o → instruction_at s L table t p ≡ plainly o (p + (5 + 8 * length ns))
  unfolding instruction_at with_read shaped_as Operands
  neutral_at p op [] c k o r e = rw (c, k.1, ne_eqb op 1 (λ z. omega arith), e)
  neutral_at p op (a ∷ []) c k o r e =
      let z : p + 5 + 8 ≡ p + (5 + 8 * 1) = omega arith in rw (c, k.1, o.0, ne_eqb op 2 (λ z. omega arith), e) (ap (plainly r) z)
  neutral_at p op (a ∷ b ∷ []) c k o r e =
      let z : p + 5 + 8 + 8 ≡ p + (5 + 8 * 2) = omega arith in rw (c, k.1, o.0, o.1.0, e) (ap (plainly r) z)
  neutral_at p op (a ∷ b ∷ d ∷ ns) c k o r e = absurd (omega arith)

  -- ---- lists, whose entries are in the table
  module _ (slots : (op : ℕ) (ns : List ℕ) → get_or ns 0 0 < 256 → slot_resolve (slot_at table t) op (get_or ns 0 0) (get_or ns 1 0) ≡ resolve es op ns) where
    -- what begins a list, or what comes after one that is empty
    head_found_lem : (c : Code) (k : Bool) (l a e f n : ℕ) (F : Fetched) → ListStands s l a c → Linked L a e f c → fits k c ≡ true
        → (k ≡ true → Found n f F) → ((p : ℕ) → Real k a c p → P p) → Found (suc n) a (first es a c F)
    unfolding first ListStands Linked Real seen Leads instruction_at with_read shaped_as shape_of
    head_found_lem done k l a e f n F st li h on in_List = found_on st li (on (first_real k a done h).0)
    head_found_lem (neutral op ns r) k l a e f n F st li h on in_List =
        found_here op st.0 (λ z. omega arith)
        (neutral_at a op ns st.0 st.1 st.2 (resolve es op ns) (slots op ns (operand_small s (a + 5) ns st.2))
        ∙ sym (seen_plainly (resolve es op ns) _))
        (leads_plainly P (resolve es op ns) _ (in_List _ (inr (first_real k _ r (after_neutral k op ns r h)))))
    head_found_lem (return r) k l a e f n F st li h on in_List = found_here 1 st.0 (λ z. omega arith) (rw st.0) tt
    head_found_lem (call m r) k l a e f n F st li h on in_List = found_here 2 st.0 (λ z. omega arith) (rw (st.0, st.1)) tt
    head_found_lem (unless_false x y r) k zero a e f n F st li h on in_List = absurd st
    head_found_lem (unless_false x y r) k (suc l) a e f n F st li h on in_List =
        let i = arms_fit_lem k x y r (arms k x y r h) in
        found_here 3 st.0 (λ z. omega arith) (rw (st.0, li.0))
        (in_List _ (inr (inl (first_real _ _ x i.0))), in_List _ (inr (inr (inl (first_real _ _ y i.1)))))
    head_found_lem (make_cont m x r) k zero a e f n F st li h on in_List = absurd st
    head_found_lem (make_cont m x r) k (suc l) a e f n F st li h on in_List =
        let i = saved_fits k x r (saved k m x r h) in
        let z : a + 5 + 8 ≡ a + 13 = omega arith in
        found_here 4 st.0 (λ z. omega arith) (rw (st.0, st.1, li.0, z))
        (byte_small s (a + 5) m st.1, in_List _ (inr (inl (first_real _ _ x i.0))), in_List _ (inr (inr (first_real _ _ r i.1))))

    -- the list c begins at a and ends at e; F comes after it, and is found at f where the list runs out; n lists hold it, and l more may be
    -- below it
    pub record Sits (k : Bool) (l a e f n : ℕ) (F : Fetched) (c : Code) : Type 0 where
      pub there : ListStands s l a c
      pub links : Linked L a e f c
      pub fit : fits k c ≡ true
      pub ends : k ≡ true → e + 5 ≡ a + bits c
      pub levels : n + l ≡ 15
      pub follows : k ≡ true → Found n f F
      pub inside : (p : ℕ) → Real k a c p → P p

    module _ {k : Bool} {l a e f n : ℕ} {F : Fetched} where
      at_first : {c : Code} (p : ℕ) → Sits k l a e f n F c → p ≡ a → Found 16 p (look es a c F p)
      at_first {c} p x q =
          let h : suc n ≤ 16 = omega (arith, x.levels) in
          rw (look_first es a p c F q, q) (later h (head_found_lem c k l a e f n F x.there x.links x.fit x.follows x.inside))

      neutral_rest : {op : ℕ} {ns : List ℕ} {r : Code} → Sits k l a e f n F (neutral op ns r) → Sits k l (a + (5 + 8 * length ns)) e f n F r
      unfolding ListStands Linked Real bits
      neutral_rest {op} {ns} {r} x = record {
        there = x.there.3;
        links = x.links;
        fit = after_neutral k op ns r x.fit;
        ends = λ o. omega (arith, x.ends o);
        levels = x.levels;
        follows = x.follows;
        inside = λ p q. x.inside p (inr q);
      }

    -- what follows an arm: its conditional's rest
    module _ {k : Bool} {l a e f n : ℕ} {F : Fetched} {x y r : Code} (sits : Sits k (suc l) a e f n F (unless_false x y r)) where
      abbrev rest : ℕ
      rest = a + 5 + bits x + bits y

      conditional_rest : is_closed x ≡ false → fits k r ≡ true → Sits k (suc l) rest e f n F r
      unfolding ListStands Linked Real bits
      conditional_rest o h = record {
        there = sits.there.3;
        links = sits.links.3;
        fit = h;
        ends = λ o. omega (arith, sits.ends o);
        levels = sits.levels;
        follows = sits.follows;
        inside = λ p q. sits.inside p (inr (inr (inr (rw o q))));
      }

      after_arm : not (is_closed x) ≡ true → Found (suc n) rest (first es rest r F)
      after_arm o = by (arms k x y r sits.fit)
        where
          by : Arms k x y r → Found (suc n) rest (first es rest r F)
          by (open_arms i g j h) = let z = conditional_rest i h in head_found_lem r k (suc l) rest e f n F z.there z.links h z.follows z.inside
          by (closed_arms i g j h) = false_true (rw i at o)

      first_arm : Sits (not (is_closed x)) l (a + 5) (a + bits x) rest (suc n) (first es rest r F) x
      unfolding ListStands Linked Real
      first_arm = record {
        there = sits.there.1;
        links = sits.links.1;
        fit = (arms_fit_lem k x y r (arms k x y r sits.fit)).0;
        ends = λ o. omega arith;
        levels = omega (arith, sits.levels);
        follows = after_arm;
        inside = λ p q. sits.inside p (inr (inl q));
      }

      second_arm : Sits (not (is_closed x)) l (a + 5 + bits x) (a + bits x + bits y) rest (suc n) (first es rest r F) y
      unfolding ListStands Linked Real
      second_arm = record {
        there = sits.there.2;
        links = sits.links.2;
        fit = (arms_fit_lem k x y r (arms k x y r sits.fit)).1;
        ends = λ o. omega arith;
        levels = omega (arith, sits.levels);
        follows = after_arm;
        inside = λ p q. sits.inside p (inr (inr (inl q)));
      }

      in_rest : (p : ℕ) → (Sits k (suc l) rest e f n F r → Real k rest r p → Found 16 p (look es rest r F p)) → Real (cond (is_closed x) false k) rest r p
          → Found 16 p (look es rest r F p)
      in_rest p found q = by (arms k x y r sits.fit)
        where
          by : Arms k x y r → Found 16 p (look es rest r F p)
          by (open_arms i g j h) = found (conditional_rest i h) (rw i at q)
          by (closed_arms i g j h) = absurd (none_real rest r p h (rw i at q))

    module _ {k : Bool} {l a e f n : ℕ} {F : Fetched} {m : ℕ} {x r : Code} (sits : Sits k (suc l) a e f n F (make_cont m x r)) where
      -- what follows a saved list: what follows the list that holds its make-cont
      after_saved : not (is_closed x) ≡ true → Found (suc n) e F
      after_saved o = by (saved k m x r sits.fit)
        where
          by : Saved k x r → Found (suc n) e F
          by (open_saved i j g h) =
              let z = ends_at s L (make_cont m x r) (suc l) a e f sits.there sits.links (sits.ends j) in found_on z.0 z.1 (sits.follows j)
          by (closed_saved i h) = false_true (rw i at o)

      saved_list : Sits (not (is_closed x)) l (a + 13) (a + 8 + bits x) e (suc n) F x
      unfolding ListStands Linked Real
      saved_list = record {
        there = sits.there.2;
        links = sits.links.1;
        fit = (saved_fits k x r (saved k m x r sits.fit)).0;
        ends = λ o. omega arith;
        levels = omega (arith, sits.levels);
        follows = after_saved;
        inside = λ p q. sits.inside p (inr (inl q));
      }

      -- the rest is closed
      cont_rest : Sits false (suc l) (a + 13 + bits x) e f n bad r
      unfolding ListStands Linked Real bits
      cont_rest = record {
        there = sits.there.3;
        links = sits.links.2;
        fit = (saved_fits k x r (saved k m x r sits.fit)).1;
        ends = λ o. false_true o;
        levels = sits.levels;
        follows = λ o. false_true o;
        inside = λ p q. sits.inside p (inr (inr q));
      }

    -- what is found at each real place of the list c is what stands there
    abbrev pub Finds : Code → Type 0
    Finds c = (k : Bool) (l a e f n : ℕ) (F : Fetched) → Sits k l a e f n F c → (p : ℕ) → Real k a c p → Found 16 p (look es a c F p)

    finds_neutral : (op : ℕ) (ns : List ℕ) (r : Code) → Finds r → Finds (neutral op ns r)
    unfolding Real
    finds_neutral op ns r found k l a e f n F x p (inl q) = at_first p x q
    finds_neutral op ns r found k l a e f n F x p (inr q) =
        let w = real_within k _ r p q in rw (look_neutral es a p op ns r F (omega arith)) (found k l _ e f n F (neutral_rest x) p q)

    finds_conditional : (x y r : Code) → Finds x → Finds y → Finds r → Finds (unless_false x y r)
    unfolding Real ListStands
    finds_conditional x y r in-x in-y in-r k zero a e f n F z p q = absurd z.there
    finds_conditional x y r in-x in-y in-r k (suc l) a e f n F z p (inl q) = at_first p z q
    finds_conditional x y r in-x in-y in-r k (suc l) a e f n F z p (inr (inl q)) =
        let w = real_within _ _ x p q in
        rw (look_first_arm es a p x y r F (omega arith) (omega arith)) (in-x _ _ _ _ _ _ _ (first_arm z) p q)
    finds_conditional x y r in-x in-y in-r k (suc l) a e f n F z p (inr (inr (inl q))) =
        let w = real_within _ _ y p q in
        rw (look_second_arm es a p x y r F (omega arith) (omega arith) (omega arith)) (in-y _ _ _ _ _ _ _ (second_arm z) p q)
    finds_conditional x y r in-x in-y in-r k (suc l) a e f n F z p (inr (inr (inr q))) =
        let w = real_within _ _ r p q in
        rw (look_after_arms es a p x y r F (omega arith) (omega arith)) (in_rest z p (λ o. in-r k (suc l) _ e f n F o p) q)

    finds_make_cont : (m : ℕ) (x r : Code) → Finds x → Finds r → Finds (make_cont m x r)
    unfolding Real ListStands
    finds_make_cont m x r in-x in-r k zero a e f n F z p q = absurd z.there
    finds_make_cont m x r in-x in-r k (suc l) a e f n F z p (inl q) = at_first p z q
    finds_make_cont m x r in-x in-r k (suc l) a e f n F z p (inr (inl q)) =
        let w = real_within _ _ x p q in
        rw (look_saved es a p m x r F (omega arith) (omega arith)) (in-x _ _ _ _ _ _ _ (saved_list z) p q)
    finds_make_cont m x r in-x in-r k (suc l) a e f n F z p (inr (inr q)) =
        let w = real_within _ _ r p q in
        rw (look_after_saved es a p m x r F (omega arith) (omega arith)) (in-r _ _ _ _ _ _ _ (cont_rest z) p q)

    -- a list of which only the first place is real
    finds_first : (c : Code) → ((k : Bool) (a p : ℕ) → Real k a c p → p ≡ a) → Finds c
    finds_first c only k l a e f n F x p q = at_first p x (only k a p q)

    -- THE LAW
    pub look_found : (c : Code) → Finds c
    unfolding Real
    look_found done = finds_first done (λ k a p q. q.1)
    look_found (neutral op ns r) = finds_neutral op ns r (look_found r)
    look_found (return r) = finds_first (return r) (λ k a p q. q)
    look_found (call m r) = finds_first (call m r) (λ k a p q. q)
    look_found (unless_false x y r) = finds_conditional x y r (look_found x) (look_found y) (look_found r)
    look_found (make_cont m x r) = finds_make_cont m x r (look_found x) (look_found r)
