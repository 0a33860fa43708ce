-- flatten-code as the report has it (000, section 5), with the category of the list as an argument; on lists that are closed or open as
-- it says, it is `flat`, which carries no category. Assumes nothing.
use Rattle.std.specs.Prelude.{ℕ, ◌+◌, ◌≡◌, refl, Bool, true, false, cond, ◌&&◌, List, [], ◌∷◌, ◌++◌, length}
use Rattle.std.proofs.Common.{ap, append-nil}
use Rattle.std.proofs.Math.Bool.{and-false}
use Rattle.files.specs.Code.{Code, done, neutral, return, call, unless_false, make_cont}
use Rattle.files.specs.Grammar.{is_empty, is_open, is_closed}
use Rattle.files.specs.Flat.{offset, conditional, flat}
use Rattle.back.specs.laws.Formed.{Formed, nothing, before, returning, calling, closed_arms, open_arms, saving, closed_is, closed_formed, open_formed}

-- flatten-if-not-false, flatten-unless-false, flatten-make-cont, of lists that are flat already
unfoldable pub if_not_false : List ℕ → List ℕ → List ℕ
if_not_false con alt = 3 ∷ offset (length con) ++ (con ++ alt)

unfoldable pub unless_false_bytes : List ℕ → List ℕ → List ℕ → List ℕ
unless_false_bytes con alt after = 3 ∷ offset (3 + length con) ++ (con ++ (5 ∷ offset (length alt) ++ (alt ++ after)))

unfoldable pub make_cont_bytes : ℕ → List ℕ → List ℕ → List ℕ
make_cont_bytes n saved after = 4 ∷ offset (length after) ++ (n ∷ (after ++ saved))

-- the category: closed (true), or open (false)
unfoldable pub flatten_code : Bool → Code → List ℕ
flatten_code k done = []
flatten_code k (neutral op ns r) = op ∷ (ns ++ flatten_code k r)
flatten_code k (return r) = 1 ∷ flatten_code k r
flatten_code k (call n r) = 2 ∷ n ∷ flatten_code k r
flatten_code k (unless_false x y r) =
    cond (k && is_empty r) (if_not_false (flatten_code true x) (flatten_code true y))
    (unless_false_bytes (flatten_code false x) (flatten_code false y) (flatten_code k r))
flatten_code k (make_cont n x r) = make_cont_bytes n (flatten_code k x) (flatten_code true r)

closed_some : {k : Bool} {c : Code} → Formed k c → (k && is_empty c) ≡ false
unfolding is_empty
closed_some nothing = refl
closed_some (before {k = k} g) = and-false k
closed_some returning = refl
closed_some calling = refl
closed_some (closed_arms g h) = refl
closed_some (open_arms {k = k} g h e f i) = and-false k
closed_some (saving {k = k} g h) = and-false k

pub flatten_formed : {k : Bool} {c : Code} → Formed k c → flatten_code k c ≡ flat c
unfolding flatten_code flat conditional if_not_false unless_false_bytes make_cont_bytes is_empty
flatten_formed nothing = refl
flatten_formed (before {op = op} {ns = ns} g) = ap (λ r. op ∷ (ns ++ r)) (flatten_formed g)
flatten_formed returning = refl
flatten_formed calling = refl
flatten_formed (closed_arms {y = y} g h) = rw (closed_is g, flatten_formed g, flatten_formed h, append-nil (flat y))
flatten_formed (open_arms g h e f i) = rw (closed_is g, closed_some i, flatten_formed g, flatten_formed h, flatten_formed i)
flatten_formed (saving g h) = rw (flatten_formed g, flatten_formed h)

pub flatten_closed : (c : Code) → is_closed c ≡ true → flatten_code true c ≡ flat c
flatten_closed c e = flatten_formed (closed_formed c e)

pub flatten_open : (c : Code) → is_open c ≡ true → flatten_code false c ≡ flat c
flatten_open c e = flatten_formed (open_formed c e)
