-- THE LAW of rounds: what stays after them all is what one pass upward reaches, and nothing more goes. Assumes nothing.
use Rattle.std.specs.Prelude.{ℕ, zero, suc, ◌+◌, ◌≤◌, ◌<◌, ◌≡◌, refl, Bool, true, false, ◌&&◌, ◌||◌, List, [], ◌∷◌, eqb, length}
use Rattle.std.proofs.Common.{arith, sym, ap, ap₂, ◌∙◌}
use Rattle.files.specs.Tree.{Template}
use Rattle.files.specs.Orphans.{closes}
use Rattle.files.specs.laws.AllGot.{Each, each_weaker}
use Rattle.tree_file.specs.laws.Writable.{TreeWritable}
use Rattle.trim.specs.Trim.{named_from, there, stays}
use Rattle.trim.specs.Reached.{marked, reached}
use Rattle.trim.specs.Standing.{Leads}
use Rattle.trim.specs.laws.ReachedLaws.{or_left, or_right, Up, up_each, closes_up, marked_back}

or_assoc : (a b c : Bool) → ((a || b) || c) ≡ (a || (b || c))
or_assoc true b c = refl
or_assoc false b c = refl

or_false : (b : Bool) → (b || false) ≡ b
or_false true = refl
or_false false = refl

-- what is marked is what was, and what those that are marked name
marked_fix : (t : ℕ) (k : ℕ → Bool) (ts : List Template) (u : ℕ) → Each Up t ts → marked t k ts u ≡ (k u || named_from (marked t k ts) t ts u)
unfolding marked named_from
marked_fix t k [] u up = sym (or_false (k u))
marked_fix t k (x ∷ ts) u up =
    let k' : ℕ → Bool = λ v. k v || (k t && closes x.entries v x.code) in
    let own : marked (t + 1) k' ts t ≡ k t = marked_back t k (x ∷ ts) t up (omega arith) in
    marked_fix (t + 1) k' ts u up.1
    ∙ or_assoc (k u) (k t && closes x.entries u x.code) (named_from (marked (t + 1) k' ts) (t + 1) ts u)
    ∙ ap (λ (b : Bool). k u || ((b && closes x.entries u x.code) || named_from (marked (t + 1) k' ts) (t + 1) ts u)) (sym own)

reached_fix : (ts : List Template) (u : ℕ) → Each Up 0 ts → reached ts u ≡ (eqb u 0 || named_from (reached ts) 0 ts u)
unfolding reached
reached_fix ts u up = marked_fix 0 (λ v. eqb v 0) ts u up

-- only what is below a template names it
named_same : (k l : ℕ → Bool) (t : ℕ) (ts : List Template) (u : ℕ) → Each Up t ts → ((v : ℕ) → v < u → k v ≡ l v) → named_from k t ts u ≡ named_from l t ts u
unfolding named_from
named_same k l t [] u up h = refl
named_same k l t (x ∷ ts) u up h = ap₂ ◌||◌ (go (closes x.entries u x.code) refl) (named_same k l (t + 1) ts u up.1 h)
  where
    none : (b : Bool) → (b && false) ≡ false
    none true = refl
    none false = refl

    go : (b : Bool) → closes x.entries u x.code ≡ b → (k t && b) ≡ (l t && b)
    go true e = rw (h t (up.0 u e)) refl
    go false e = none (k t) ∙ sym (none (l t))

-- after n rounds, of the templates below n
pub rounds_reached : (ts : List Template) (n u : ℕ) → Each Up 0 ts → u < n → there n ts u ≡ reached ts u
unfolding there
rounds_reached ts zero u up h = absurd (omega arith)
rounds_reached ts (suc n) u up h =
    ap (λ (b : Bool). eqb u 0 || b) (named_same (there n ts) (reached ts) 0 ts u up (λ v l. rounds_reached ts n v up (omega arith)))
    ∙ sym (reached_fix ts u up)

-- THE LAW
module _ (ts : List Template) (up : Each Up 0 ts) (u : ℕ) (h : u < length ts) where
  pub stays_reached : stays ts u ≡ reached ts u
  unfolding stays
  stays_reached = rounds_reached ts (length ts) u up h

  -- further rounds take nothing more out
  pub rounds_end : (n : ℕ) → length ts ≤ n → there n ts u ≡ stays ts u
  rounds_end n k = rounds_reached ts n u up (omega arith) ∙ sym stays_reached

-- ---- with a template that stays, those that its closures name stay
named_in : (k : ℕ → Bool) (t : ℕ) (ts : List Template)
    → Each (λ n x. k n ≡ true → (u : ℕ) → closes x.entries u x.code ≡ true → named_from k t ts u ≡ true) t ts
unfolding named_from
named_in k t [] = tt
named_in k t (x ∷ ts) = (
  (λ e u c. or_left (k t && closes x.entries u x.code) (named_from k (t + 1) ts u) (rw (e, c) refl)),
  each_weaker (λ n y h e u c. or_right (k t && closes x.entries u x.code) (named_from k (t + 1) ts u) (h e u c)) (t + 1) ts (named_in k (t + 1) ts),
)

pub both_each : {A : Type 0} (P Q : ℕ → A → Type 0) (n : ℕ) (ts : List A) → Each P n ts → Each Q n ts → Each (λ n t. P n t × Q n t) n ts
both_each P Q n [] p q = tt
both_each P Q n (t ∷ ts) p q = ((p.0, q.0), both_each P Q (n + 1) ts p.1 q.1)

pub reached_leads : (ts : List Template) → Each Up 0 ts → Each (Leads (reached ts)) 0 ts
reached_leads ts up =
    each_weaker (λ n x h e u c. reached_fix ts u up ∙ or_right (eqb u 0) (named_from (reached ts) 0 ts u) (h e u c)) 0 ts (named_in (reached ts) 0 ts)

pub stays_leads : (ts : List Template) → Each (TreeWritable (length ts)) 0 ts → Each (Leads (stays ts)) 0 ts
stays_leads ts ok =
    let up = up_each (length ts) 0 ts ok in
    each_weaker
    (λ n x h e u c.
    let l = closes_up n (length ts) x.entries x.code u h.1.entries_ok c in
    stays_reached ts up u l.1 ∙ h.0 (sym (stays_reached ts up n (omega arith)) ∙ e) u c) 0 ts
    (both_each (Leads (reached ts)) (TreeWritable (length ts)) 0 ts (reached_leads ts up) ok)
