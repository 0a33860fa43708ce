-- A list is empty in one way. Assumes nothing.
use Rattle.std.specs.Prelude.{ℕ, ◌≡◌, refl, true, false}
use Rattle.std.proofs.Common.{arith}
use Rattle.files.specs.Code.{Code, done, neutral, return, call, unless_false, make_cont}
use Rattle.files.specs.Grammar.{is_empty}

pub never : {A : Type 0} → false ≡ true → A
never e = let z : ◌≡◌ {A = ℕ} 0 1 = cc in absurd (omega arith)

pub empty_done : (c : Code) → is_empty c ≡ true → c ≡ done
unfolding is_empty
empty_done done e = refl
empty_done (neutral op ns r) e = never e
empty_done (return r) e = never e
empty_done (call n r) e = never e
empty_done (unless_false x y r) e = never e
empty_done (make_cont n x r) e = never e
