-- What the first instruction of a region tells of its list: the instruction, if there is one, and the region of what follows it.
use Rattle.std.specs.Prelude.{ℕ, ◌+◌, ◌-◌, ◌≤◌, ◌<◌, ◌≡◌, Bool, true, false, cond, not, ◌&&◌, ◌||◌, List, get_or, leb, ltb, eqb}
use Rattle.std.proofs.Math.Option.{Option, none, some}
use Rattle.std.specs.Prelude.{Option as OrNone, None, Some}
use Rattle.files.specs.Codes.{operands}
use Rattle.files.specs.Code.{Code, Instr, unless_i, cont_i, simple, put}
use Rattle.back.specs.Unflat.{on, test}
use Rattle.unflatten.specs.declared.Region.{Region}
use Rattle.unflatten.specs.declared.Head.{Head}
use Rattle.unflatten.specs.declared.Head.TheVariants.{Plain, Split, Save}
use Rattle.unflatten.specs.Found.{part, found, offset_at}

-- a neutral code is tested with its first operand
abbrev pub plain_passes : (ℕ → ℕ → Bool) → ℕ → List ℕ → Bool
plain_passes ok op ns = leb op 5 || ok op (get_or ns 0 0)

-- an instruction without lists, if it passes
unfoldable pub plain_item : (ℕ → ℕ → Bool) → ℕ → List ℕ → Option Instr
plain_item ok op ns = test (plain_passes ok op ns) (some (simple op ns))

-- the lists of arms and of a make-cont have one level less below them
unfoldable pub head_item : (ℕ → ℕ → Bool) → List ℕ → ℕ → Bool → ℕ → ℕ → OrNone Head → Option Instr
head_item ok s l k p e None = none
head_item ok s l k p e (Some (Plain n)) = plain_item ok (get_or s p 0) (part (p + 1) (p + 1 + n) s)
head_item ok s l k p e (Some (Split a)) =
    on (found ok (l - 1) a.closed (part (p + 3) a.mid s))
    (λ x. on (found ok (l - 1) a.closed (part a.turn a.end s)) (λ y. some (unless_i x y)))
head_item ok s l k p e (Some (Save cut)) = on (found ok (l - 1) k (part cut e s)) (λ x. some (cont_i (get_or s (p + 3) 0) x))

-- after return, call and a closed conditional comes nothing
unfoldable pub head_rest : List ℕ → Bool → ℕ → ℕ → OrNone Head → Region
head_rest s k p e None = record { from = e; to = e; closed = k }
head_rest s k p e (Some (Plain n)) = record { from = p + 1 + n; to = e; closed = leb 6 (get_or s p 0) && k }
head_rest s k p e (Some (Split a)) = record { from = a.end; to = e; closed = not a.closed && k }
head_rest s k p e (Some (Save cut)) = record { from = p + 4; to = cut; closed = true }

abbrev pub left_found : (ℕ → ℕ → Bool) → List ℕ → ℕ → Region → Option Code
left_found ok s l x = found ok l x.closed (part x.from x.to s)

-- the instruction before what the rest is
unfoldable pub head_found : (ℕ → ℕ → Bool) → List ℕ → ℕ → Bool → ℕ → ℕ → OrNone Head → Option Code
unfolding head_rest
head_found ok s l k p e h = on (head_item ok s l k p e h) (λ i. on (left_found ok s l (head_rest s k p e h)) (λ c. some (put i c)))

-- where its parts lie
abbrev pub HeadIn : List ℕ → ℕ → ℕ → ℕ → OrNone Head → Type 0
HeadIn s l p e None = Unit
HeadIn s l p e (Some (Plain n)) = (p + 1 + n ≤ e) × (n ≤ 2) × (operands (get_or s p 0) ≡ n) × (get_or s p 0 < 32)
HeadIn s l p e (Some (Split a)) = (p + 3 ≤ a.mid) × (a.mid ≤ a.turn) × (a.turn ≤ a.end) × (a.end ≤ e) × (1 ≤ l)
HeadIn s l p e (Some (Save cut)) = (p + 4 ≤ cut) × (cut ≤ e) × (1 ≤ l)

-- h is what the region from p to e begins with
pub record HeadIs (s : List ℕ) (l : ℕ) (k : Bool) (p e : ℕ) (h : OrNone Head) : Type 0 where
  pub finds : (ok : ℕ → ℕ → Bool) → found ok l k (part p e s) ≡ head_found ok s l k p e h
  pub within : HeadIn s l p e h

-- the open arms of the conditional at p whose first region ends with the jump before turn
unfoldable pub open_head : List ℕ → ℕ → ℕ → ℕ → OrNone Head
open_head s p turn e =
    cond (ltb (turn - p) 7) None (cond (eqb (offset_at s (turn - 2)) 0) None (cond (ltb (e - turn) (offset_at s (turn - 2))) None
    (Some (Split (record { closed = false; mid = turn - 3; turn = turn; end = turn + offset_at s (turn - 2) })))))
