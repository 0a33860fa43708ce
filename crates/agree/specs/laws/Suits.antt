-- Open and closed lists, in the form that the places' correspondence uses. Assumes nothing.
use Rattle.std.specs.Prelude.{◌<◌, ◌≡◌, refl, Bool, true, false, ◌&&◌, ◌||◌, ◌⊎◌, T, length}
use Rattle.std.proofs.Common.{inl, inr, ⊎_elim}
use Rattle.files.specs.Codes.{is_neutral, operands}
use Rattle.files.specs.Code.{Code, done, neutral, return, call, unless_false, make_cont}
use Rattle.files.specs.Grammar.{is_empty, is_open, is_closed}
use Rattle.files.specs.laws.GrammarLaws.{empty_done}
use Rattle.files.specs.Valid.{Valid}

pub is_true : (b : Bool) → T b → b ≡ true
is_true true t = refl
is_true false t = absurd t

pub is_false_lem : (b : Bool) → (T b → ⊥) → b ≡ false
is_false_lem true t = absurd (t tt)
is_false_lem false t = refl

&&-l : (a b : Bool) → T (a && b) → T a
&&-l true b t = tt
&&-l false b t = absurd t

&&-r : (a b : Bool) → T (a && b) → T b
&&-r true b t = t
&&-r false b t = absurd t

||-or : (a b : Bool) → T (a || b) → T a ⊎ T b
||-or true b t = inl tt
||-or false b t = inr t

-- nothing follows
unfoldable pub Only : Code → Type 0
Only done = Unit
Only (neutral op ns r) = ⊥
Only (return r) = ⊥
Only (call n r) = ⊥
Only (unless_false x y r) = ⊥
Only (make_cont n x r) = ⊥

-- k: whether the list is closed
unfoldable pub Shut : Bool → Type 0
Shut true = Unit
Shut false = ⊥

unfoldable pub Open : Bool → Type 0
Open true = ⊥
Open false = Unit

unfoldable pub either : Bool → Type 0 → Type 0 → Type 0
either true A B = A
either false A B = B

-- a closed list, or an open or empty one
unfoldable pub Ok : Bool → Code → Type 0
Ok k done = Open k
Ok k (neutral op ns r) = (is_neutral op ≡ true) × (operands op ≡ length ns) × Ok k r
Ok k (return r) = Shut k × Only r
Ok k (call n r) = Shut k × Only r
Ok k (unless_false x y r) = Ok (is_closed x) x × Ok (is_closed x) y × either (is_closed x) (Shut k × Only r) (Ok k r)
Ok k (make_cont n x r) = (n < 256) × Ok k x × Ok true r

empty_shut : (r : Code) → T (is_empty r) → T (is_closed r) → ⊥
unfolding is_empty is_closed
empty_shut done e t = t
empty_shut (neutral op ns r) e t = e
empty_shut (return r) e t = e
empty_shut (call n r) e t = e
empty_shut (unless_false x y r) e t = e
empty_shut (make_cont n x r) e t = e

-- no list is open and closed
exclusive : (c : Code) → T (is_open c) → T (is_closed c) → ⊥
unfolding is_open is_closed
exclusive done o t = o
exclusive (neutral op ns r) o t = ⊎_elim (λ e. empty_shut r e t) (λ u. exclusive r u t) (||-or (is_empty r) (is_open r) o)
exclusive (return r) o t = o
exclusive (call n r) o t = o
exclusive (unless_false x y r) o t =
    ⊎_elim
    (λ u. let c : T (is_closed r) = &&-r (is_open x && is_open y) (is_closed r) u in
    ⊎_elim (λ e. empty_shut r e c) (λ v. exclusive r v c) (||-or (is_empty r) (is_open r) (&&-r (is_open x && is_open y) (is_empty r || is_open r) o)))
    (λ u. exclusive x (&&-l (is_open x) (is_open y) (&&-l (is_open x && is_open y) (is_empty r || is_open r) o))
    (&&-r (is_empty r) (is_closed x) (&&-l (is_empty r && is_closed x) (is_closed y) u)))
    (||-or (is_open x && is_open y && is_closed r) (is_empty r && is_closed x && is_closed y) t)
exclusive (make_cont n x r) o t =
    ⊎_elim (λ e. empty_shut x e (&&-l (is_closed x) (is_closed r) t)) (λ u. exclusive x u (&&-l (is_closed x) (is_closed r) t))
    (||-or (is_empty x) (is_open x) (&&-l (is_empty x || is_open x) (is_closed r) o))

open_arms : (x : Code) → T (is_open x) → is_closed x ≡ false
open_arms x o = is_false_lem (is_closed x) (λ t. exclusive x o t)

only : (r : Code) → T (is_empty r) → Only r
unfolding Only
only r t = rw (empty_done r (is_true (is_empty r) t)) tt

ok_empty : (r : Code) → T (is_empty r) → Ok false r
unfolding Ok Open
ok_empty r t = rw (empty_done r (is_true (is_empty r) t)) tt

mutual
  unfolding is_open is_closed Valid Ok Shut either

  open_ok : (c : Code) → Valid c → T (is_open c) → Ok false c
  open_ok done g t = absurd t
  open_ok (neutral op ns r) g t = (g.0, g.1, ⊎_elim (λ u. ok_empty r u) (λ u. open_ok r g.3 u) (||-or (is_empty r) (is_open r) t))
  open_ok (return r) g t = absurd t
  open_ok (call n r) g t = absurd t
  open_ok (unless_false x y r) g t =
      let a : T (is_open x && is_open y) = &&-l (is_open x && is_open y) (is_empty r || is_open r) t in
      let o : T (is_open x) = &&-l (is_open x) (is_open y) a in
      rw (open_arms x o) (
        open_ok x g.0 o,
        open_ok y g.1 (&&-r (is_open x) (is_open y) a),
        ⊎_elim (λ u. ok_empty r u) (λ u. open_ok r g.2 u) (||-or (is_empty r) (is_open r) (&&-r (is_open x && is_open y) (is_empty r || is_open r) t)),
      )
  open_ok (make_cont n x r) g t = (
    g.0,
    ⊎_elim (λ u. ok_empty x u) (λ u. open_ok x g.1 u) (||-or (is_empty x) (is_open x) (&&-l (is_empty x || is_open x) (is_closed r) t)),
    closed_ok r g.2 (&&-r (is_empty x || is_open x) (is_closed r) t),
  )

  pub closed_ok : (c : Code) → Valid c → T (is_closed c) → Ok true c
  closed_ok done g t = absurd t
  closed_ok (neutral op ns r) g t = (g.0, g.1, closed_ok r g.3 t)
  closed_ok (return r) g t = (tt, only r t)
  closed_ok (call n r) g t = (tt, only r t)
  closed_ok (unless_false x y r) g t =
      ⊎_elim
      (λ u.
      let a : T (is_open x && is_open y) = &&-l (is_open x && is_open y) (is_closed r) u in
      let o : T (is_open x) = &&-l (is_open x) (is_open y) a in
      rw (open_arms x o) (open_ok x g.0 o, open_ok y g.1 (&&-r (is_open x) (is_open y) a), closed_ok r g.2 (&&-r (is_open x && is_open y) (is_closed r) u)))
      (λ u.
      let a : T (is_empty r && is_closed x) = &&-l (is_empty r && is_closed x) (is_closed y) u in
      let c : T (is_closed x) = &&-r (is_empty r) (is_closed x) a in
      rw (is_true (is_closed x) c)
      (closed_ok x g.0 c, closed_ok y g.1 (&&-r (is_empty r && is_closed x) (is_closed y) u), (tt, only r (&&-l (is_empty r) (is_closed x) a))))
      (||-or (is_open x && is_open y && is_closed r) (is_empty r && is_closed x && is_closed y) t)
  closed_ok (make_cont n x r) g t = (g.0, closed_ok x g.1 (&&-l (is_closed x) (is_closed r) t), closed_ok r g.2 (&&-r (is_closed x) (is_closed r) t))
