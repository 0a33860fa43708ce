-- One turn of the loop that links a list: what is left to link from the next instruction on. Assumes nothing.
use Prim.Native.Nat.{ℕ, zero, suc, ◌+◌, ◌*◌, ◌-◌, ◌/◌, ◌≤◌, ◌<◌}
use Rattle.std.proofs.Common.{sub-one, ◌∙◌, get_or-set_other}
use native.Mathlib.Omega.{arith}
use Rattle.std.proofs.Math.Path.{◌≡◌, refl, sym, ap}
use Rattle.std.specs.Prelude.{Bool, cond, get_or, eqb}
use Rattle.std.proofs.Math.Bool.{true, false}
use mathlib.Core.List.{List, [], ◌∷◌}
use Rattle.std.proofs.Math.ListN.{length}
use Rattle.files.specs.Codes.{shape_of}
use Rattle.files.specs.Code.{Code, Instr, neutral_i, return_i, call_i, unless_i, cont_i, put, simple, bits}
use Rattle.files.specs.Reading.{Got, got, refused, Head, stop, item, bad, with_list, with_deep, shaped, head_at, before, after, deep_of, list_at}
use Rattle.files.specs.laws.ReadingLaws.{some_bits, least_bits, bits_i, Past, head_past, deep_past, list_step, list_bits_lem}
use Rattle.files.specs.laws.AllGot.{refused_got}
use Rattle.lists.specs.declared.Keep.TheVariants.{Pasts}
use Rattle.lists.specs.Marks.{HasIn}
use Rattle.lists.specs.laws.MarksLaws.{Outside, still_in, has_rest, has_arms, has_saved}
use Rattle.links.specs.Links.{link, linked}
use Rattle.links.specs.laws.LinksLaws.{link_other, linked_other}
use Rattle.links.specs.laws.Stands.{field_stands}
use Rattle.links.specs.Parts.{instr_parts, parts_of, ToLink, ArmsToLink, SavedToLink, linked_got, linked_arms, linked_saved}
use Rattle.links.specs.declared.Parts.{Parts}
use Rattle.links.specs.declared.Parts.TheVariants.{End, Simple, Arms, Saved, Bad}

-- ---- the links of one instruction
unfoldable linked_item : List ℕ → ℕ → ℕ → Instr → List ℕ
linked_item L p e (neutral_i op ns) = L
linked_item L p e return_i = L
linked_item L p e (call_i n) = L
linked_item L p e (unless_i x y) =
    linked (linked (link L p (p + 5 + bits x)) (p + 5) (p + bits x) (p + 5 + bits x + bits y) x) (p + 5 + bits x) (p + bits x + bits y)
    (p + 5 + bits x + bits y) y
linked_item L p e (cont_i n x) = linked (link L p (p + 13 + bits x)) (p + 13) (p + 8 + bits x) e x

linked_put : (L : List ℕ) (p e f : ℕ) (i : Instr) (c : Code) → linked L p e f (put i c) ≡ linked (linked_item L p e i) (p + bits_i i) e f c
unfolding linked linked_item put bits_i
linked_put L p e f (neutral_i op ns) c = refl
linked_put L p e f return_i c = refl
linked_put L p e f (call_i n) c = refl
linked_put L p e f (unless_i x y) c = let z : p + (5 + bits x + bits y) ≡ p + 5 + bits x + bits y = omega arith in rw z refl
linked_put L p e f (cont_i n x) c = let z : p + (13 + bits x) ≡ p + 13 + bits x = omega arith in rw z refl

-- the links of places outside it stay
item_other : (L : List ℕ) (p e : ℕ) (i : Instr) (j : ℕ) → Outside p (p + bits_i i) j → get_or (linked_item L p e i) j 0 ≡ get_or L j 0
unfolding linked_item bits_i
item_other L p e (neutral_i op ns) j h = refl
item_other L p e return_i j h = refl
item_other L p e (call_i n) j h = refl
item_other L p e (unless_i x y) j h =
    linked_other _ _ _ _ y j (λ a b. h (omega arith) (omega arith)) ∙ linked_other _ _ _ _ x j (λ a b. h (omega arith) (omega arith))
    ∙ link_other L p (p + (5 + bits x + bits y)) _ (omega arith) j h
item_other L p e (cont_i n x) j h =
    linked_other _ _ _ _ x j (λ a b. h (omega arith) (omega arith)) ∙ link_other L p (p + (13 + bits x)) _ (omega arith) j h

-- ---- the lists of an instruction are read one level deeper
unfoldable Lists : List ℕ → ℕ → ℕ → Head → Type 0
Lists s l p (stop q) = Unit
Lists s l p (item (neutral_i op ns) q) = Unit
Lists s l p (item return_i q) = Unit
Lists s l p (item (call_i n) q) = Unit
Lists s l p (item (unless_i x y) q) = (l ≡ 0 → ⊥) × (list_at s (l - 1) (p + 5) ≡ got x (p + 5 + bits x)) × (list_at s (l - 1) (p + 5 + bits x) ≡ got y q)
Lists s l p (item (cont_i n x) q) = (l ≡ 0 → ⊥) × (list_at s (l - 1) (p + 13) ≡ got x q)
Lists s l p (bad n x) = Unit

list_case : (P : Head → Type 0) (k : Code → ℕ → Head) (x : Got Code) → ((n z : ℕ) → P (bad n z)) → ((c : Code) (q : ℕ) → x ≡ got c q → P (k c q))
    → P (with_list k x)
unfolding with_list
list_case P k (got c q) ends f = f c q refl
list_case P k (refused n z) ends f = ends n z

module _ (s : List ℕ) (l p : ℕ) where
  no_lists : (v : ℕ) (ns : List ℕ) (q : ℕ) → Lists s l p (item (simple v ns) q)
  unfolding Lists simple
  no_lists v ns q = by (eqb v 1) (eqb v 2)
    where
      by : (x y : Bool) → Lists s l p (item (cond x return_i (cond y (call_i (get_or ns 0 0)) (neutral_i v ns))) q)
      by true y = tt
      by false true = tt
      by false false = tt

conditional_lists : (s : List ℕ) (l p : ℕ) → Lists s l p (shaped s (deep_of s l) p 3 (p + 5) 4)
unfolding Lists shaped with_deep deep_of list_at
conditional_lists s zero p = tt
conditional_lists s (suc l) p =
    list_case (Lists s (suc l) p) _ (list_at s l (p + 5)) (λ n z. tt)
    (λ x q e.
    let q-is : q ≡ p + 5 + bits x = (list_bits_lem s l (p + 5) x q e).0 in
    list_case (Lists s (suc l) p) _ (list_at s l q) (λ n z. tt)
    (λ y r e'. (λ z. omega arith, rw sub-one (e ∙ ap (got x) q-is), rw sub-one (rw q-is at e'))))

make_cont_lists : (s : List ℕ) (l p : ℕ) → Lists s l p (shaped s (deep_of s l) p 4 (p + 5) 5)
unfolding Lists shaped with_deep deep_of list_at
make_cont_lists s zero p = tt
make_cont_lists s (suc l) p =
    field_stands s (Lists s (suc l) p) (p + 5) 8 _ tt
    (λ n c.
    let z : p + 5 + 8 ≡ p + 13 = omega arith in
    rw z (list_case (Lists s (suc l) p) _ (list_at s l (p + 13)) (λ n z. tt) (λ x q e. (λ z. omega arith, rw sub-one e))))

module _ (s : List ℕ) (l p : ℕ) where
  shaped_lists : (v k : ℕ) → Lists s l p (shaped s (deep_of s l) p v (p + 5) k)
  unfolding Lists shaped
  shaped_lists v zero = tt
  shaped_lists v (suc zero) = no_lists s l p v [] (p + 5)
  shaped_lists v (suc (suc zero)) = field_stands s (Lists s l p) (p + 5) 8 _ tt (λ a c. no_lists s l p v (a ∷ []) _)
  shaped_lists v (suc (suc (suc zero))) =
      field_stands s (Lists s l p) (p + 5) 8 _ tt (λ a c. field_stands s (Lists s l p) (p + 5 + 8) 8 _ tt (λ b c. no_lists s l p v (a ∷ b ∷ []) _))
  shaped_lists v (suc (suc (suc (suc zero)))) = conditional_lists s l p
  shaped_lists v (suc (suc (suc (suc (suc zero))))) = make_cont_lists s l p
  shaped_lists v (suc (suc (suc (suc (suc (suc k)))))) = tt

  head_lists : Lists s l p (head_at s (deep_of s l) p)
  unfolding Lists head_at
  head_lists = field_stands s (Lists s l p) p 5 _ tt (λ v c. shaped_lists v (shape_of v))

  -- ---- one turn
  -- at an instruction a list goes on with the list after it
  record Turn (i : Instr) (q : ℕ) : Type 0 where
    step : list_at s l p ≡ before i (list_at s l q)
    past : q ≡ p + bits_i i
    within : q ≤ 8 * length s
    lists : Lists s l p (item i q)

  turn : (i : Instr) (q : ℕ) → head_at s (deep_of s l) p ≡ item i q → Turn i q
  unfolding after
  turn i q e =
      let h : Past (8 * length s) p (item i q) = rw e at (head_past s (deep_of s l) (deep_past s l) p) in
      record { step = rw e at (list_step s l p); past = h.0; within = h.1; lists = rw e at head_lists }

  -- what is left to link, and that it is read
  pub record Left (L L' : List ℕ) (e f q : ℕ) : Type 0 where
    pub links : linked_got L p e f (list_at s l p) ≡ linked_got L' q e f (list_at s l q)
    pub rest : ToLink s L' l q
    pub on : p < q
    pub within : q ≤ 8 * length s

  -- a conditional: what there is to know of its arms
  pub record ArmsLeft (L : List ℕ) (e f m q : ℕ) : Type 0 where
    pub levels_left : l ≡ 0 → ⊥
    pub arms : ArmsToLink s L (l - 1) p m q
    pub left : Left L (linked_arms L p m q (list_at s (l - 1) (p + 5)) (list_at s (l - 1) m)) e f q

  -- a make-cont: the same of its saved list
  pub record SavedLeft (L : List ℕ) (e f q : ℕ) : Type 0 where
    pub levels_left : l ≡ 0 → ⊥
    pub saved : SavedToLink s L (l - 1) p q
    pub left : Left L (linked_saved L p e q (list_at s (l - 1) (p + 13))) e f q

  -- by what stands at p
  abbrev pub Outcome : List ℕ → ℕ → ℕ → Parts → Type 0
  Outcome L e f End = linked_got L p e f (list_at s l p) ≡ link L p f
  Outcome L e f (Simple q) = Left L L e f q.0
  Outcome L e f (Arms m q) = ArmsLeft L e f m.0 q.0
  Outcome L e f (Saved q) = SavedLeft L e f q.0
  Outcome L e f Bad = ⊥

  module _ {L : List ℕ} (w : ToLink s L l p) (e f : ℕ) where
    item_left : (i : Instr) (q : ℕ) → Turn i q → Left L (linked_item L p e i) e f q
    unfolding linked_got before
    item_left i q t = by (list_at s l q) refl
      where
        by : (x : Got Code) → list_at s l q ≡ x → Left L (linked_item L p e i) e f q
        by (got c z) h =
            let is : ◌≡◌ {A = Got Code} (got (put i c) z) (got w.code w.past) = sym (rw h at t.step) ∙ w.read in
            let put_is : w.code ≡ put i c = cc in
            let has : HasIn Pasts L q c = rw t.past (has_rest Pasts L p i c (rw put_is at w.has)) in
            record {
              links = rw (t.step, h) (linked_put L p e f i c ∙ ap (λ (n : ℕ). linked (linked_item L p e i) n e f c) (sym t.past));
              rest =
                  record {
                    code = c;
                    past = z;
                    read = h;
                    has = still_in Pasts L (linked_item L p e i) q c (λ j a b. item_other L p e i j (λ a' b'. omega (arith, t.past))) has;
                  };
              on = omega (arith, some_bits i, t.past);
              within = t.within;
            }
        by (refused n z) h = refused_got (sym (rw h at t.step) ∙ w.read)

    -- the code that was read is the instruction and a rest
    has_item : (i : Instr) (q : ℕ) → Turn i q → (r : Code) × HasIn Pasts L p (put i r)
    unfolding before
    has_item i q t = by (list_at s l q) refl
      where
        by : (x : Got Code) → list_at s l q ≡ x → (r : Code) × HasIn Pasts L p (put i r)
        by (got c z) h =
            let is : ◌≡◌ {A = Got Code} (got (put i c) z) (got w.code w.past) = sym (rw h at t.step) ∙ w.read in
            let put_is : w.code ≡ put i c = cc in
            (c, rw put_is at w.has)
        by (refused n z) h = refused_got (sym (rw h at t.step) ∙ w.read)

    arms_left : (x y : Code) (q : ℕ) → Turn (unless_i x y) q → ArmsLeft L e f (p + 5 + bits x) q
    unfolding Lists linked_item linked_arms linked_got bits_i
    arms_left x y q t =
        let k = t.lists in
        let h = has_item (unless_i x y) q t in
        let g = has_arms Pasts L p x y h.0 h.1 in
        let z : q ≡ p + 5 + bits x + bits y = omega (arith, t.past) in
        let z₁ : p + 5 + bits x - 5 ≡ p + bits x = omega arith in
        let z₂ : q - 5 ≡ p + bits x + bits y = omega arith in
        record {
          levels_left = k.0;
          arms =
              record {
                first = record { code = x; past = p + 5 + bits x; read = k.1; has = g.0.1 };
                second = record { code = y; past = q; read = k.2; has = g.1.1 };
                mid = refl;
                end = refl;
              };
          left = rw (k.1, k.2, z₁, z₂) (rw (← z) at (item_left (unless_i x y) q t));
        }

    saved_left : (n : ℕ) (x : Code) (q : ℕ) → Turn (cont_i n x) q → SavedLeft L e f q
    unfolding Lists linked_item linked_saved linked_got bits_i
    saved_left n x q t =
        let k = t.lists in
        let h = has_item (cont_i n x) q t in
        let z : q ≡ p + 13 + bits x = omega (arith, t.past) in
        let z₁ : q - 5 ≡ p + 8 + bits x = omega arith in
        record {
          levels_left = k.0;
          saved = record { saved = record { code = x; past = q; read = k.1; has = (has_saved Pasts L p n x h.0 h.1).1 }; end = refl };
          left = rw (k.1, z₁) (rw (← z) at (item_left (cont_i n x) q t));
        }

    item_outcome : (i : Instr) (q : ℕ) → Turn i q → Outcome L e f (instr_parts p i q)
    unfolding instr_parts linked_item
    item_outcome (neutral_i op ns) q t = item_left _ q t
    item_outcome return_i q t = item_left _ q t
    item_outcome (call_i n) q t = item_left _ q t
    item_outcome (unless_i x y) q t = arms_left x y q t
    item_outcome (cont_i n x) q t = saved_left n x q t

    -- THE LAW
    pub outcome : (x : Parts) → parts_of p (head_at s (deep_of s l) p) ≡ x → Outcome L e f x
    unfolding parts_of after linked_got linked
    outcome x h = rw h at (by (head_at s (deep_of s l) p) refl)
      where
        by : (y : Head) → head_at s (deep_of s l) p ≡ y → Outcome L e f (parts_of p y)
        by (stop q) i = rw (list_step s l p, i) refl
        by (item k q) i = item_outcome k q (turn k q i)
        by (bad n z) i = refused_got (sym (rw i at (list_step s l p)) ∙ w.read)

-- ---- the lists of an instruction are still to be linked when links before them are made
-- a list after the place p
to_link_after : (s L : List ℕ) (l p m q : ℕ) → ToLink s L l q → p ≤ q → ToLink s (link L p m) l q
to_link_after s L l p m q w h =
    record {
      code = w.code;
      past = w.past;
      read = w.read;
      has = still_in Pasts L (link L p m) q w.code (λ i a b. get_or-set_other L (p / 5) i m 0 (λ e. omega arith)) w.has;
    }

-- a list after the list c at p
to_link_beside : (s L : List ℕ) (l p e f : ℕ) (c : Code) (q : ℕ) → ToLink s L l q → p + bits c ≤ q → ToLink s (linked L p e f c) l q
to_link_beside s L l p e f c q w h =
    record {
      code = w.code;
      past = w.past;
      read = w.read;
      has = still_in Pasts L (linked L p e f c) q w.code (λ i a b. linked_other L p e f c i (λ a' b'. omega arith)) w.has;
    }

module _ {s L : List ℕ} {l p m q : ℕ} (w : ArmsToLink s L l p m q) where
  pub arms_room : (p + 10 ≤ m) × (m + 5 ≤ q) × (q ≤ 8 * length s)
  arms_room =
      let x = w.first in
      let y = w.second in
      let i = list_bits_lem s l (p + 5) x.code x.past x.read in
      let j = list_bits_lem s l m y.code y.past y.read in
      omega (arith, w.mid, w.end, least_bits x.code, least_bits y.code)

  module _ {L₁ : List ℕ} {a : ℕ} (at : a ≡ p + 5) (set : L₁ ≡ link L p m) where
    pub first_to_link : ToLink s L₁ l a
    first_to_link = rw (at, set) (to_link_after s L l p m (p + 5) w.first (omega arith))

    pub second_to_link : {L₂ : List ℕ} (b : ℕ) → L₂ ≡ linked_got L₁ a b q (list_at s l a) → ToLink s L₂ l m
    unfolding linked_got
    second_to_link {L₂} b e =
        let x = w.first in
        let i = list_bits_lem s l (p + 5) x.code x.past x.read in
        let r : L₂ ≡ linked (link L p m) (p + 5) b q x.code = e ∙ rw (set, at, x.read) refl in
        rw r (to_link_beside s (link L p m) l (p + 5) b q x.code m (to_link_after s L l p m m w.second (omega (arith, arms_room)))
        (omega (arith, w.mid)))

module _ {s L : List ℕ} {l p q : ℕ} (w : SavedToLink s L l p q) where
  pub saved_room : (p + 18 ≤ q) × (q ≤ 8 * length s)
  saved_room =
      let x = w.saved in
      let i = list_bits_lem s l (p + 13) x.code x.past x.read in
      omega (arith, w.end, least_bits x.code)

  pub saved_to_link : {L₁ : List ℕ} {a : ℕ} → a ≡ p + 13 → L₁ ≡ link L p q → ToLink s L₁ l a
  saved_to_link at set = rw (at, set) (to_link_after s L l p q (p + 13) w.saved (omega arith))

-- ---- what the stores of an instruction's links come to, where its lists begin at a and end at b and d
pub arms_linked : (s : List ℕ) (l : ℕ) (L L₁ L₂ L₃ : List ℕ) (p m q : ℕ) {a b d : ℕ} → a ≡ p + 5 → b ≡ m - 5 → d ≡ q - 5
    → L₁ ≡ link L p m → L₂ ≡ linked_got L₁ a b q (list_at s l a) → L₃ ≡ linked_got L₂ m d q (list_at s l m)
    → L₃ ≡ linked_arms L p m q (list_at s l (p + 5)) (list_at s l m)
unfolding linked_arms
arms_linked s l L L₁ L₂ L₃ p m q z₁ z₂ z₃ e₁ e₂ e₃ = rw (e₃, e₂, e₁, z₁, z₂, z₃) refl

pub saved_linked : (s : List ℕ) (l : ℕ) (L L₁ L₂ : List ℕ) (p e q : ℕ) {a b : ℕ} → a ≡ p + 13 → b ≡ q - 5
    → L₁ ≡ link L p q → L₂ ≡ linked_got L₁ a b e (list_at s l a) → L₂ ≡ linked_saved L p e q (list_at s l (p + 13))
unfolding linked_saved
saved_linked s l L L₁ L₂ p e q z₁ z₂ e₁ e₂ = rw (e₂, e₁, z₁, z₂) refl

pub linked_on : {goal A L : List ℕ} (q e f : ℕ) (x : Got Code) → goal ≡ linked_got A q e f x → L ≡ A → goal ≡ linked_got L q e f x
linked_on q e f x h k = rw k h
