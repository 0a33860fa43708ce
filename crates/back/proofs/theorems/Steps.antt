-- The way back by steps: what stands first in a region, and the region of what follows it in the list. A loop over instructions meets this
-- form, with a call one level deeper for each list below. Assumes nothing.
use Prim.Native.Nat.{ℕ, zero, suc, ◌+◌, ◌*◌, ◌≤◌, ◌<◌}
use Rattle.std.proofs.Common.{arith, ◌∙◌, length-take, length-drop}
use Rattle.std.specs.Prelude.{◌≡◌, Bool, not, List, [], ◌∷◌, length, take, drop, leb}
use Rattle.std.proofs.Math.Path.{refl}
use Rattle.std.proofs.Math.Bool.{true, false}
use Rattle.std.proofs.Math.Option.{Option, none, some}
use Rattle.files.specs.Codes.{is_neutral, operands}
use Rattle.files.specs.Code.{Code, done, Instr, neutral_i, return_i, call_i, unless_i, cont_i, put}
use Rattle.back.specs.Unflat.{ends_in_jump, last_offset, before_jump, on, test, neutral_back, open_arms, closed_arms, arms_back, unless_back, cont_back}
use Rattle.back.specs.Unflat.{end_back, first_back, unflat}
use Rattle.back.specs.Unflat.{View, return_v, call_v, unless_v, cont_v, none_v, view}
use Rattle.back.specs.laws.ListBack.{back}

-- ---- how many bytes are allowed does not matter, if they are enough
before_short : (v : List ℕ) → length (before_jump v) ≤ length v
unfolding before_jump
before_short v = simp length-take (omega arith)

take_short : (n : ℕ) (w : List ℕ) → length (take n w) ≤ length w
take_short n w = simp length-take (omega arith)

drop_short : (n : ℕ) (w : List ℕ) → length (drop n w) ≤ length w
drop_short n w = simp length-drop (omega arith)

module _ (go go' : ℕ → Bool → List ℕ → Option Code) (n : ℕ) (same : (l : ℕ) (k : Bool) (w : List ℕ) → length w ≤ n → go l k w ≡ go' l k w) where
  neutral_same : (l : ℕ) (k : Bool) (op : ℕ) (w : List ℕ) → length w ≤ n → neutral_back go l k op w ≡ neutral_back go' l k op w
  unfolding neutral_back
  neutral_same l k op w h = rw (same l k (drop (operands op) w) (omega (arith, drop_short (operands op) w)))

  arms_same : (l : ℕ) (k j : Bool) (v w : List ℕ) → length v ≤ n → length w ≤ n → arms_back go l k j v w ≡ arms_back go' l k j v w
  unfolding arms_back open_arms closed_arms
  arms_same l k true v w h i =
      rw (
        same l false (before_jump v) (omega (arith, before_short v)),
        same l false (take (last_offset v) w) (omega (arith, take_short (last_offset v) w)),
        same (suc l) k (drop (last_offset v) w) (omega (arith, drop_short (last_offset v) w)),
      )
  arms_same l k false v w h i = rw (same l true v h, same l true w i)

  unless_same : (l : ℕ) (k : Bool) (m : ℕ) (w : List ℕ) → length w ≤ n → unless_back go l k m w ≡ unless_back go' l k m w
  unfolding unless_back
  unless_same zero k m w h = refl
  unless_same (suc l) k m w h =
      rw (arms_same l k (ends_in_jump (take m w)) (take m w) (drop m w) (omega (arith, take_short m w)) (omega (arith, drop_short m w)))

  cont_same : (l : ℕ) (k : Bool) (m a : ℕ) (w : List ℕ) → length w ≤ n → cont_back go l k m a w ≡ cont_back go' l k m a w
  unfolding cont_back
  cont_same zero k m a w h = refl
  cont_same (suc l) k m a w h = rw (same l k (drop m w) (omega (arith, drop_short m w)), same (suc l) true (take m w) (omega (arith, take_short m w)))

  end_same : {op : ℕ} {w : List ℕ} (l : ℕ) (k : Bool) (v : View op w) → length w ≤ n → end_back go l k v ≡ end_back go' l k v
  unfolding end_back
  end_same l k return_v h = refl
  end_same l k (call_v m) h = refl
  end_same l k (unless_v a b w) h = unless_same l k (256 * a + b) w (omega arith)
  end_same l k (cont_v a b m w) h = cont_same l k (256 * a + b) m w (omega arith)
  end_same l k none_v h = refl

  first_same : (l : ℕ) (k j : Bool) (op : ℕ) (w : List ℕ) → length w ≤ n → first_back go l k j op w ≡ first_back go' l k j op w
  unfolding first_back
  first_same l k true op w h = neutral_same l k op w h
  first_same l k false op w h = end_same l k (view op w) h

pub enough : (f g l : ℕ) (k : Bool) (w : List ℕ) → length w < f → length w < g → unflat f l k w ≡ unflat g l k w
unfolding unflat
enough zero g l k w h i = absurd (omega arith)
enough (suc f) zero l k w h i = absurd (omega arith)
enough (suc f) (suc g) l k [] h i = refl
enough (suc f) (suc g) l k (op ∷ w) h i =
    first_same (unflat f) (unflat g) (length w) (λ l k u j. enough f g l k u (omega arith) (omega arith)) l k (is_neutral op) op w (omega arith)

-- from here on nothing speaks of how many bytes are allowed
pub back_nothing : (l : ℕ) (k : Bool) → back l k [] ≡ test (not k) (some done)
unfolding back unflat
back_nothing l k = refl

pub back_first : (l : ℕ) (k : Bool) (op : ℕ) (w : List ℕ) → back l k (op ∷ w) ≡ first_back back l k (is_neutral op) op w
unfolding back unflat
back_first l k op w =
    first_same (unflat (suc (length w))) (λ l k u. unflat (suc (length u)) l k u) (length w)
    (λ l k u j. enough (suc (length w)) (suc (length u)) l k u (omega arith) (omega arith)) l k (is_neutral op) op w (omega arith)

-- ---- what stands first in a region
-- the list's end; an instruction, with the category and the region of what follows it in the list; or neither
pub data First : Type 0 where
  stop : First
  item : Instr → Bool → List ℕ → First
  bad : First

unfoldable pub when : Bool → First → First
when true h = h
when false h = bad

unfoldable pub below : Option Code → (Code → First) → First
below none f = bad
below (some c) f = f c

-- l + 1 levels are left; v: the first arm, with its jump if it ends in one; w: what follows it
unfoldable pub arms_first : ℕ → Bool → Bool → List ℕ → List ℕ → First
arms_first l k true v w =
    when (leb 1 (length (before_jump v)))
    (when (leb 1 (last_offset v))
    (when (leb (last_offset v) (length w))
    (below (back l false (before_jump v)) (λ x. below (back l false (take (last_offset v) w)) (λ y. item (unless_i x y) k (drop (last_offset v) w))))))
arms_first l k false v w = when k (below (back l true v) (λ x. below (back l true w) (λ y. item (unless_i x y) false [])))

unfoldable pub unless_first : ℕ → Bool → ℕ → List ℕ → First
unless_first zero k n w = bad
unless_first (suc l) k n w = when (leb n (length w)) (arms_first l k (ends_in_jump (take n w)) (take n w) (drop n w))

unfoldable pub cont_first : ℕ → Bool → ℕ → ℕ → List ℕ → First
cont_first zero k n a w = bad
cont_first (suc l) k n a w = when (leb n (length w)) (below (back l k (drop n w)) (λ x. item (cont_i a x) true (take n w)))

unfoldable pub end_first : {op : ℕ} {w : List ℕ} → ℕ → Bool → View op w → First
end_first l k return_v = when k (item return_i false [])
end_first l k (call_v n) = when k (item (call_i n) false [])
end_first l k (unless_v a b w) = unless_first l k (256 * a + b) w
end_first l k (cont_v a b n w) = cont_first l k (256 * a + b) n w
end_first l k none_v = bad

unfoldable pub pick_first : ℕ → Bool → Bool → ℕ → List ℕ → First
pick_first l k true op w = when (leb (operands op) (length w)) (item (neutral_i op (take (operands op) w)) k (drop (operands op) w))
pick_first l k false op w = end_first l k (view op w)

unfoldable pub first_of : ℕ → Bool → List ℕ → First
first_of l k [] = when (not k) stop
first_of l k (op ∷ w) = pick_first l k (is_neutral op) op w

-- an instruction before what the rest is
unfoldable pub go_on : (Bool → List ℕ → Option Code) → First → Option Code
go_on r stop = some done
go_on r (item i k w) = on (r k w) (λ c. some (put i c))
go_on r bad = none

module _ (r : Bool → List ℕ → Option Code) where
  when_on : (b : Bool) (h : First) → go_on r (when b h) ≡ test b (go_on r h)
  unfolding go_on when test
  when_on true h = refl
  when_on false h = refl

  below_on : (o : Option Code) (f : Code → First) → go_on r (below o f) ≡ on o (λ c. go_on r (f c))
  unfolding go_on below on
  below_on none f = refl
  below_on (some c) f = refl

-- after what ends a list comes nothing
ends_here : (l : ℕ) → back l false [] ≡ some done
unfolding back unflat test
ends_here l = refl

arms_step : (l : ℕ) (k j : Bool) (v w : List ℕ) → arms_back back l k j v w ≡ go_on (back (suc l)) (arms_first l k j v w)
unfolding arms_back open_arms closed_arms arms_first go_on put on
arms_step l k true v w = simp (when_on, below_on)
arms_step l k false v w = simp (when_on, below_on, ends_here)

unless_step : (l : ℕ) (k : Bool) (n : ℕ) (w : List ℕ) → unless_back back l k n w ≡ go_on (back l) (unless_first l k n w)
unfolding unless_back unless_first go_on
unless_step zero k n w = refl
unless_step (suc l) k n w = rw (when_on, arms_step l k (ends_in_jump (take n w)) (take n w) (drop n w))

cont_step : (l : ℕ) (k : Bool) (n a : ℕ) (w : List ℕ) → cont_back back l k n a w ≡ go_on (back l) (cont_first l k n a w)
unfolding cont_back cont_first go_on put
cont_step zero k n a w = refl
cont_step (suc l) k n a w = simp (when_on, below_on)

end_step : {op : ℕ} {w : List ℕ} (l : ℕ) (k : Bool) (v : View op w) → end_back back l k v ≡ go_on (back l) (end_first l k v)
unfolding end_back end_first go_on put on
end_step l k return_v = rw (when_on, ends_here)
end_step l k (call_v n) = rw (when_on, ends_here)
end_step l k (unless_v a b w) = unless_step l k (256 * a + b) w
end_step l k (cont_v a b n w) = cont_step l k (256 * a + b) n w
end_step l k none_v = refl

pick_step : (l : ℕ) (k j : Bool) (op : ℕ) (w : List ℕ) → first_back back l k j op w ≡ go_on (back l) (pick_first l k j op w)
unfolding first_back neutral_back pick_first go_on put
pick_step l k true op w = rw when_on
pick_step l k false op w = end_step l k (view op w)

-- a list is its first instruction and then what its rest is
pub back_step : (l : ℕ) (k : Bool) (w : List ℕ) → back l k w ≡ go_on (back l) (first_of l k w)
unfolding first_of go_on
back_step l k [] = rw (when_on, back_nothing)
back_step l k (op ∷ w) = back_first l k op w ∙ pick_step l k (is_neutral op) op w

-- ---- what follows lies in fewer bytes: the loop's measure
abbrev Within : ℕ → First → Type 0
Within n stop = Unit
Within n (item i k u) = length u < n
Within n bad = Unit

module _ (n : ℕ) where
  when_within : (b : Bool) (h : First) → Within n h → Within n (when b h)
  unfolding when
  when_within true h i = i
  when_within false h i = tt

  below_within : (o : Option Code) (f : Code → First) → ((c : Code) → Within n (f c)) → Within n (below o f)
  unfolding below
  below_within none f i = tt
  below_within (some c) f i = i c

  arms_within : (l : ℕ) (k j : Bool) (v w : List ℕ) → length w < n → Within n (arms_first l k j v w)
  unfolding arms_first
  arms_within l k true v w h =
      when_within _ _ (when_within _ _ (when_within _ _ (below_within _ _ (λ x. below_within _ _ (λ y. omega (arith, drop_short (last_offset v) w))))))
  arms_within l k false v w h = when_within _ _ (below_within _ _ (λ x. below_within _ _ (λ y. omega arith)))

  unless_within : (l : ℕ) (k : Bool) (m : ℕ) (w : List ℕ) → length w < n → Within n (unless_first l k m w)
  unfolding unless_first
  unless_within zero k m w h = tt
  unless_within (suc l) k m w h = when_within _ _ (arms_within l k (ends_in_jump (take m w)) (take m w) (drop m w) (omega (arith, drop_short m w)))

  cont_within : (l : ℕ) (k : Bool) (m a : ℕ) (w : List ℕ) → length w < n → Within n (cont_first l k m a w)
  unfolding cont_first
  cont_within zero k m a w h = tt
  cont_within (suc l) k m a w h = when_within _ _ (below_within _ _ (λ x. omega (arith, take_short m w)))

  end_within : {op : ℕ} {w : List ℕ} (l : ℕ) (k : Bool) (v : View op w) → length w < n → Within n (end_first l k v)
  unfolding end_first
  end_within l k return_v h = when_within _ _ h
  end_within l k (call_v a) h = when_within _ _ (omega arith)
  end_within l k (unless_v a b w) h = unless_within l k (256 * a + b) w (omega arith)
  end_within l k (cont_v a b c w) h = cont_within l k (256 * a + b) c w (omega arith)
  end_within l k none_v h = tt

  pick_within : (l : ℕ) (k j : Bool) (op : ℕ) (w : List ℕ) → length w < n → Within n (pick_first l k j op w)
  unfolding pick_first
  pick_within l k true op w h = when_within _ _ (omega (arith, drop_short (operands op) w))
  pick_within l k false op w h = end_within l k (view op w) h

first_within : (l : ℕ) (k : Bool) (w : List ℕ) → Within (length w) (first_of l k w)
unfolding first_of
first_within l k [] = when_within 0 (not k) stop tt
first_within l k (op ∷ w) = pick_within (suc (length w)) l k (is_neutral op) op w (omega arith)

pub rest_shorter : (l : ℕ) (k : Bool) (w : List ℕ) (i : Instr) (k' : Bool) (u : List ℕ) → first_of l k w ≡ item i k' u → length u < length w
rest_shorter l k w i k' u e = rw e at (first_within l k w)
